use Rattle.replay_run.specs.declared.slot.Slot.{Slot}
use Rattle.replay_run.proofs.events.opened.Goals as goal

pub returns : goal.returns
returns c = λ i. Slot.Going (c.in_ok-assoc.ensures i) (c.in_ok-net.ensures i)
