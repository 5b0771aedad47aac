use Rattle.std.proofs.Common.{◌≤◌}
use Rattle.measure.proofs.index_count.count_built.Given as goal

abbrev pub invariant-loop : goal.invariant-loop
invariant-loop l = l.built ≤ l.counter
