use Rattle.socks_machine.specs.declared.script.ScriptLine.{ScriptLine}
use Rattle.replay_run.proofs.TurnLines.{due-below, turn-goes, turn-seen, turn-within}
use Rattle.replay_run.proofs.state.Replay.turn.Goals as goal

pub turn_at-requires-clause-seen : goal.turn_at-requires-clause-seen
turn_at-requires-clause-seen c = turn-seen c.args.number c.args.self.now c.requires.due

pub turn_at-requires-clause-below : goal.turn_at-requires-clause-below
turn_at-requires-clause-below c = due-below (ScriptLine.Turn 1 c.args.number) c.args.self.now c.requires.due

pub turn_at-requires-clause-within : goal.turn_at-requires-clause-within
turn_at-requires-clause-within c = turn-within c.args.number c.args.self.now c.requires.due

pub returns : goal.returns
returns c = turn-goes c.args.users.now c.args.number c.args.self.now c.turn_at.new.self c.in_ok-turn_at.field-0 c.in_ok-turn_at.ensures.turned
