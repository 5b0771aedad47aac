use Rattle.std.proofs.Common.{◌∙◌, sym, ap, subst}
use Rattle.socks_machine.specs.declared.script.ScriptLine.{ScriptLine}
use Rattle.replay_run.specs.Behind.{GoesBehind}
use Rattle.replay_run.proofs.Happening.{gives}
use Rattle.replay_run.proofs.Forms.{due-as, sees-first, turns-first}
use Rattle.replay_run.proofs.TurnLines.{see-some}
use Rattle.replay_run.proofs.state.Replay.line.Goals as goal

pub client-requires : goal.client-requires
client-requires c = record { due = due-as c.args.line.now _ c.args.self.now (c.in-Client.is ∙ ap (ScriptLine.Client c.in-Client.number) (sym c.as_slice.ensures)) c.requires.due }

pub target-requires : goal.target-requires
target-requires c = record { due = due-as c.args.line.now _ c.args.self.now (c.in-Target.is ∙ ap (ScriptLine.Target c.in-Target.number) (sym c.as_slice-in-Target.ensures)) c.requires.due }

pub client_end-requires : goal.client_end-requires
client_end-requires c = record { due = due-as c.args.line.now _ c.args.self.now (c.in-ClientEnd.is) c.requires.due }

pub target_end-requires : goal.target_end-requires
target_end-requires c = record { due = due-as c.args.line.now _ c.args.self.now (c.in-TargetEnd.is) c.requires.due }

pub room-requires : goal.room-requires
room-requires c = record { due = due-as c.args.line.now _ c.args.self.now (c.in-Room.is) c.requires.due }

pub fault-requires : goal.fault-requires
fault-requires c = record { due = due-as c.args.line.now _ c.args.self.now (c.in-Fault.is) c.requires.due }

pub lookup-requires : goal.lookup-requires
lookup-requires c = record { due = due-as c.args.line.now _ c.args.self.now (c.in-Lookup.is) c.requires.due }

pub dial-requires : goal.dial-requires
dial-requires c = record { due = due-as c.args.line.now _ c.args.self.now (c.in-Dial.is) c.requires.due }

pub turn-requires : goal.turn-requires
turn-requires c = record { due = due-as c.args.line.now _ c.args.self.now (turns-first c.args.line.now _ _ c.requires.due.form c.in-Turn.is) c.requires.due }

pub see-requires : goal.see-requires
see-requires c = see-some c.args.self.now (due-as c.args.line.now _ c.args.self.now (sees-first c.args.line.now _ c.requires.due.form c.in-See.is) c.requires.due)

pub returns-in-UsersAre : goal.returns-in-UsersAre
returns-in-UsersAre c = subst (λ (l : ScriptLine). GoesBehind c.args.users.now l c.args.self.now c.args.self.now) (sym c.in-UsersAre.is) (gives c.args.users.now _ c.args.self.now)
