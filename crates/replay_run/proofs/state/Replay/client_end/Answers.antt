use Rattle.replay_run.specs.Changes.{with_client_end}
use Rattle.std.proofs.Common.{Bool, not}
use Rattle.replay_script.specs.declared.state.AssociationState.{AssociationState}
use Rattle.socks_machine.specs.declared.script.ScriptLine.{ScriptLine}
use Rattle.socks_machine.specs.Step.{basis_of}
use Rattle.replay_run.specs.declared.slot.Slot.{Slot}
use Rattle.replay_run.proofs.Changing.{changed, client-end-changes, place-of, place-there, put-back, still-there}
use Rattle.replay_run.proofs.state.Replay.client_end.Goals as goal

abbrev unended : AssociationState → Bool
unended side = not side.end_c

pub replace-slot-requires : goal.replace-slot-requires
replace-slot-requires c = let d = c.requires.due in
    place-there (basis_of d.behind.w) c.args.number unended d.state.sides d.behind.s.outsides c.args.self.now.slots
    (place-of (ScriptLine.ClientEnd c.args.number) c.args.self.now c.args.number unended d d.allowed)

pub set-requires : goal.set-requires
set-requires c = let d = c.requires.due in
    still-there c.args.self.now.slots c.replace-slot.new.self _ Slot.Away
    (place-there (basis_of d.behind.w) c.args.number unended d.state.sides d.behind.s.outsides c.args.self.now.slots
    (place-of (ScriptLine.ClientEnd c.args.number) c.args.self.now c.args.number unended d d.allowed)) c.replace-slot.ensures.after

pub returns : goal.returns
returns c = λ users script lines state form allowed has behind.
    changed users script lines state c.args.self.now c.set.new.self (ScriptLine.ClientEnd c.args.number) c.args.number unended _ _ with_client_end behind
    (client-end-changes (basis_of behind.w) c.args.number) allowed
    (put-back c.args.self.now.slots c.replace-slot.new.self c.set.new.self _ c.replace-slot.result Slot.Away c.end_client.new.self with_client_end
    c.replace-slot.ensures.value c.replace-slot.ensures.after c.end_client.ensures c.set.ensures)
