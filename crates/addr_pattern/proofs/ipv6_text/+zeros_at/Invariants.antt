use Rattle.std.proofs.Common.{length}
use Rattle.addr_pattern.proofs.ipv6_text.+zeros_at.Given as goal

abbrev pub decreases-zeros_at : goal.decreases-zeros_at
decreases-zeros_at l = length l.groups.now
