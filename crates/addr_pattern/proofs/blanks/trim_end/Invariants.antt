use Rattle.std.proofs.Common.{◌≡◌, ◌≤◌, take, length}
use Rattle.addr_pattern.specs.PatternText.{trim_end}
use Rattle.addr_pattern.proofs.blanks.trim_end.Given as goal

abbrev pub invariant-loop-end : goal.invariant-loop-end
invariant-loop-end l = record { within : l.end ≤ length l.text; so_far : trim_end l.text ≡ trim_end (take l.end l.text) }

abbrev pub decreases-loop-end : goal.decreases-loop-end
decreases-loop-end l = l.end
