use Rattle.std.proofs.Common.{Bool, true}
use Rattle.replay_run.specs.Changes.{with_side_narrow}
use Rattle.socks_machine.specs.declared.script.ScriptLine.{ScriptLine}
use Rattle.replay_script.specs.declared.state.AssociationState.{AssociationState}
use Rattle.socks_machine.specs.Step.{basis_of}
use Rattle.replay_run.specs.declared.slot.Slot.{Slot}
use Rattle.replay_run.proofs.Changing.{changed, room-changes, place-of, place-there, put-back, still-there}
use Rattle.replay_run.proofs.state.Replay.room.Goals as goal

abbrev may_be_open : AssociationState → Bool
may_be_open side = true

pub replace-slot-requires : goal.replace-slot-requires
replace-slot-requires c = let d = c.requires.due in
    place-there (basis_of d.behind.w) c.args.number may_be_open d.state.sides d.behind.s.outsides c.args.self.now.slots
    (place-of (ScriptLine.Room c.args.number c.args.side c.args.most) c.args.self.now c.args.number may_be_open d d.allowed)

pub set-requires : goal.set-requires
set-requires c = let d = c.requires.due in
    still-there c.args.self.now.slots c.replace-slot.new.self _ Slot.Away
    (place-there (basis_of d.behind.w) c.args.number may_be_open d.state.sides d.behind.s.outsides c.args.self.now.slots
    (place-of (ScriptLine.Room c.args.number c.args.side c.args.most) c.args.self.now c.args.number may_be_open d d.allowed)) c.replace-slot.ensures.after

pub returns : goal.returns
returns c = λ users script lines state form allowed has behind.
    changed users script lines state c.args.self.now c.set.new.self (ScriptLine.Room c.args.number c.args.side c.args.most) c.args.number may_be_open _ _ (with_side_narrow c.args.side c.args.most) behind
    (room-changes (basis_of behind.w) c.args.number c.args.side c.args.most form) allowed
    (put-back c.args.self.now.slots c.replace-slot.new.self c.set.new.self _ c.replace-slot.result Slot.Away c.narrow.new.self (with_side_narrow c.args.side c.args.most)
    c.replace-slot.ensures.value c.replace-slot.ensures.after c.narrow.ensures c.set.ensures)
