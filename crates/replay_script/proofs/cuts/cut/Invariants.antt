use Rattle.std.proofs.Common.{take}
use Rattle.replay_script.specs.Cuts.{Lacks}
use Rattle.replay_script.proofs.cuts.cut.Given as goal

abbrev pub invariant-loop-i : goal.invariant-loop-i
invariant-loop-i l = Lacks l.at (take l.i l.text)
