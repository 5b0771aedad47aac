use Rattle.std.proofs.Common.{◌≡◌}
use Rattle.measure.specs.Passes.{passes_of}
use Rattle.measure.proofs.index_count.count_indexed.Given as goal

-- so far each judgement passed, or none
abbrev pub invariant-loop : goal.invariant-loop
invariant-loop l = l.passed ≡ passes_of l.counter l.config l.facts
