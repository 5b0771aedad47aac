use Rattle.std.proofs.Common.{◌≡◌, false}
use Rattle.assoc_core.specs.Carrying.{owed_of}
use Rattle.assoc_core.proofs.Carryings.{TakesSoFar}
use Rattle.assoc_core.proofs.Owing.{SentSoFar}
use Rattle.assoc_core.proofs.carry.take_from.Given as goal

abbrev pub invariant-loop-left : goal.invariant-loop-left
invariant-loop-left g l = record {
  so_far : TakesSoFar (g.L.Link.told l.initial.source) (g.L.Link.told l.source) (g.L.Link.counts l.initial.source) (g.L.Link.counts l.source) l.initial.text l.text l.left;
  sends : SentSoFar (g.L.Link.told l.initial.sink) (g.L.Link.told l.sink) (g.L.Link.counts l.initial.sink) (g.L.Link.counts l.sink) l.initial.sent l.sent (owed_of l.due.front l.due.skip l.text);
  unended : l.ended ≡ false;
}

abbrev pub decreases-loop-left : goal.decreases-loop-left
decreases-loop-left g l = l.left
