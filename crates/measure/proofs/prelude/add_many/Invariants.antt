use Rattle.std.proofs.Common.{◌≡◌, ◌++◌, replicate}
use Rattle.measure.proofs.prelude.add_many.Given as goal

abbrev pub invariant-loop : goal.invariant-loop
invariant-loop l = l.text ≡ l.fn.text ++ replicate l.counter l.byte
