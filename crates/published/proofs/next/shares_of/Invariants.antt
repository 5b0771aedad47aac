use Rattle.std.proofs.Common.{◌≡◌, length, All}
use Rattle.std.specs.Arc.{arc_value}
use Rattle.published.specs.Shares.{IsShareOf}
use Rattle.published.proofs.next.shares_of.Given as goal

abbrev pub invariant-loop : goal.invariant-loop
invariant-loop l = record {
  each : All (IsShareOf l.snap.number (arc_value l.snap.config)) l.shares.items;
  count : length l.shares.items ≡ l.counter;
}
