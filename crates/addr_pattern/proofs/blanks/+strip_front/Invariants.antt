use Rattle.std.proofs.Common.{length}
use Rattle.addr_pattern.proofs.blanks.+strip_front.Given as goal

abbrev pub decreases-strip_front : goal.decreases-strip_front
decreases-strip_front l = length l.front.now
