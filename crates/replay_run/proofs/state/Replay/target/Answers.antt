use Rattle.std.proofs.Common.{Bool, not}
use Rattle.std.proofs.lemmas.Result.{IfOk-weaker}
use Rattle.replay_run.specs.Changes.{with_target_arrival}
use Rattle.socks_machine.specs.declared.script.ScriptLine.{ScriptLine}
use Rattle.replay_script.specs.declared.state.AssociationState.{AssociationState}
use Rattle.socks_machine.specs.Step.{basis_of}
use Rattle.replay_run.specs.declared.slot.Slot.{Slot}
use Rattle.replay_run.proofs.Changing.{changed, target-changes, may-arrive-at-target, place-of, place-there, put-back, still-there}
use Rattle.replay_run.proofs.state.Replay.target.Goals as goal

abbrev may_arrive_from_target : AssociationState → Bool
may_arrive_from_target side = not side.end_t

pub replace-slot-requires : goal.replace-slot-requires
replace-slot-requires c = let d = c.requires.due in
    place-there (basis_of d.behind.w) c.args.number may_arrive_from_target d.state.sides d.behind.s.outsides c.args.self.now.slots
    (place-of (ScriptLine.Target c.args.number c.args.bytes.now) c.args.self.now c.args.number may_arrive_from_target d d.allowed)

pub arrive_from_target-arrived-requires : goal.arrive_from_target-arrived-requires
arrive_from_target-arrived-requires c = let d = c.requires.due in
    may-arrive-at-target (basis_of d.behind.w) c.args.number d.state.sides d.behind.s.outsides c.args.self.now.slots
    (place-of (ScriptLine.Target c.args.number c.args.bytes.now) c.args.self.now c.args.number may_arrive_from_target d d.allowed)
    c.replace-slot.result c.replace-slot.ensures.value

pub set-requires : goal.set-requires
set-requires c = let d = c.requires.due in
    still-there c.args.self.now.slots c.replace-slot.new.self _ Slot.Away
    (place-there (basis_of d.behind.w) c.args.number may_arrive_from_target d.state.sides d.behind.s.outsides c.args.self.now.slots
    (place-of (ScriptLine.Target c.args.number c.args.bytes.now) c.args.self.now c.args.number may_arrive_from_target d d.allowed)) c.replace-slot.ensures.after

pub returns : goal.returns
returns c = IfOk-weaker c.arrive_from_target-arrived.result _ _ (λ done arrived users script lines state form allowed has behind.
    changed users script lines state c.args.self.now c.set.new.self (ScriptLine.Target c.args.number c.args.bytes.now) c.args.number may_arrive_from_target _ _
    (with_target_arrival c.args.bytes.now) behind (target-changes (basis_of behind.w) c.args.number c.args.bytes.now) allowed
    (put-back c.args.self.now.slots c.replace-slot.new.self c.set.new.self _ c.replace-slot.result Slot.Away c.arrive_from_target-arrived.new.self (with_target_arrival c.args.bytes.now)
    c.replace-slot.ensures.value c.replace-slot.ensures.after arrived c.set.ensures)) c.arrive_from_target-arrived.ensures
