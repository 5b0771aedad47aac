use Rattle.std.proofs.Common.{Bool, not}
use Rattle.net_ends.specs.Plans.{planned}
use Rattle.replay_run.specs.Changes.{with_plan}
use Rattle.socks_machine.specs.declared.script.ScriptLine.{ScriptLine}
use Rattle.replay_script.specs.declared.state.AssociationState.{AssociationState}
use Rattle.socks_machine.specs.Step.{basis_of}
use Rattle.replay_run.specs.declared.slot.Slot.{Slot}
use Rattle.replay_run.proofs.Changing.{changed, dial-changes, place-of, place-there, put-back, still-there}
use Rattle.replay_run.proofs.state.Replay.dial.Goals as goal

abbrev may_dial : AssociationState → Bool
may_dial side = not side.dialled

pub replace-slot-requires : goal.replace-slot-requires
replace-slot-requires c = let d = c.requires.due in
    place-there (basis_of d.behind.w) c.args.number may_dial d.state.sides d.behind.s.outsides c.args.self.now.slots
    (place-of (ScriptLine.Dial c.args.number c.args.outer) c.args.self.now c.args.number may_dial d d.allowed)

pub set-requires : goal.set-requires
set-requires c = let d = c.requires.due in
    still-there c.args.self.now.slots c.replace-slot.new.self _ Slot.Away
    (place-there (basis_of d.behind.w) c.args.number may_dial d.state.sides d.behind.s.outsides c.args.self.now.slots
    (place-of (ScriptLine.Dial c.args.number c.args.outer) c.args.self.now c.args.number may_dial d d.allowed)) c.replace-slot.ensures.after

pub returns : goal.returns
returns c = λ users script lines state form allowed has behind.
    changed users script lines state c.args.self.now c.set.new.self (ScriptLine.Dial c.args.number c.args.outer) c.args.number may_dial _ _ (with_plan (planned c.plan_of.result)) behind
    (dial-changes (basis_of behind.w) c.args.number c.args.outer (planned c.plan_of.result) (c.plan_of.ensures form)) allowed
    (put-back c.args.self.now.slots c.replace-slot.new.self c.set.new.self _ c.replace-slot.result Slot.Away c.plan.new.self (with_plan (planned c.plan_of.result))
    c.replace-slot.ensures.value c.replace-slot.ensures.after c.plan.ensures c.set.ensures)
