use Rattle.std.proofs.Common.{take}
use Rattle.addr_pattern.specs.Cuts.{Lacks}
use Rattle.addr_pattern.proofs.cut.cut_first.Given as goal

abbrev pub invariant-loop-i : goal.invariant-loop-i
invariant-loop-i l = Lacks l.at (take l.i l.text)
