use Rattle.std.proofs.lemmas.Result.{IfOk-weaker}
use Rattle.replay_run.specs.Changes.{with_arrival}
use Rattle.replay_script.specs.Conditions.{may_send}
use Rattle.socks_machine.specs.declared.script.ScriptLine.{ScriptLine}
use Rattle.socks_machine.specs.Step.{basis_of}
use Rattle.replay_run.specs.declared.slot.Slot.{Slot}
use Rattle.replay_run.proofs.Changing.{changed, client-changes, may-arrive, place-of, place-there, put-back, same-users, still-there}
use Rattle.replay_run.proofs.state.Replay.client.Goals as goal

pub replace-slot-requires : goal.replace-slot-requires
replace-slot-requires c = let d = c.requires.due in
    place-there (basis_of d.behind.w) c.args.number (may_send d.state.users c.args.bytes.now) d.state.sides d.behind.s.outsides c.args.self.now.slots
    (place-of (ScriptLine.Client c.args.number c.args.bytes.now) c.args.self.now c.args.number (may_send d.state.users c.args.bytes.now) d d.allowed)

pub arrive-arrived-requires : goal.arrive-arrived-requires
arrive-arrived-requires c = let d = c.requires.due in
    may-arrive (basis_of d.behind.w) d.state.users c.args.number c.args.bytes.now d.state.sides d.behind.s.outsides c.args.self.now.slots
    (place-of (ScriptLine.Client c.args.number c.args.bytes.now) c.args.self.now c.args.number (may_send d.state.users c.args.bytes.now) d d.allowed)
    c.replace-slot.result c.replace-slot.ensures.value

pub set-requires : goal.set-requires
set-requires c = let d = c.requires.due in
    still-there c.args.self.now.slots c.replace-slot.new.self _ Slot.Away
    (place-there (basis_of d.behind.w) c.args.number (may_send d.state.users c.args.bytes.now) d.state.sides d.behind.s.outsides c.args.self.now.slots
    (place-of (ScriptLine.Client c.args.number c.args.bytes.now) c.args.self.now c.args.number (may_send d.state.users c.args.bytes.now) d d.allowed))
    c.replace-slot.ensures.after

pub returns : goal.returns
returns c = IfOk-weaker c.arrive-arrived.result _ _ (λ done arrived users script lines state form allowed has behind.
    changed users script lines state c.args.self.now c.set.new.self (ScriptLine.Client c.args.number c.args.bytes.now) c.args.number (may_send state.users c.args.bytes.now) _ _
    (with_arrival c.args.bytes.now) behind
    (client-changes (basis_of behind.w) state.users c.args.number c.args.bytes.now
    (same-users users state c.args.number (may_send state.users c.args.bytes.now) behind.w behind.matches.users' behind.mirrors.users' allowed)) allowed
    (put-back c.args.self.now.slots c.replace-slot.new.self c.set.new.self _ c.replace-slot.result Slot.Away c.arrive-arrived.new.self (with_arrival c.args.bytes.now)
    c.replace-slot.ensures.value c.replace-slot.ensures.after arrived c.set.ensures)) c.arrive-arrived.ensures
