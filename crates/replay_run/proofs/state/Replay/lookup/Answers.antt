use Rattle.std.proofs.Common.{Bool, not}
use Rattle.replay_run.specs.Changes.{with_lookup}
use Rattle.socks_machine.specs.declared.script.ScriptLine.{ScriptLine}
use Rattle.replay_script.specs.declared.state.AssociationState.{AssociationState}
use Rattle.socks_machine.specs.Step.{basis_of}
use Rattle.replay_run.specs.declared.slot.Slot.{Slot}
use Rattle.replay_run.proofs.Changing.{changed, lookup-changes, place-of, place-there, put-back, still-there}
use Rattle.replay_run.proofs.state.Replay.lookup.Goals as goal

abbrev may_look : AssociationState → Bool
may_look side = not side.looked

pub replace-slot-requires : goal.replace-slot-requires
replace-slot-requires c = let d = c.requires.due in
    place-there (basis_of d.behind.w) c.args.number may_look d.state.sides d.behind.s.outsides c.args.self.now.slots
    (place-of (ScriptLine.Lookup c.args.number c.args.outer) c.args.self.now c.args.number may_look d d.allowed)

pub set-requires : goal.set-requires
set-requires c = let d = c.requires.due in
    still-there c.args.self.now.slots c.replace-slot.new.self _ Slot.Away
    (place-there (basis_of d.behind.w) c.args.number may_look d.state.sides d.behind.s.outsides c.args.self.now.slots
    (place-of (ScriptLine.Lookup c.args.number c.args.outer) c.args.self.now c.args.number may_look d d.allowed)) c.replace-slot.ensures.after

pub returns : goal.returns
returns c = λ users script lines state form allowed has behind.
    changed users script lines state c.args.self.now c.set.new.self (ScriptLine.Lookup c.args.number c.args.outer) c.args.number may_look _ _ (with_lookup c.found_of.result) behind
    (lookup-changes (basis_of behind.w) c.args.number c.args.outer c.found_of.result (c.found_of.ensures form)) allowed
    (put-back c.args.self.now.slots c.replace-slot.new.self c.set.new.self _ c.replace-slot.result Slot.Away c.plan_lookup.new.self (with_lookup c.found_of.result)
    c.replace-slot.ensures.value c.replace-slot.ensures.after c.plan_lookup.ensures c.set.ensures)
