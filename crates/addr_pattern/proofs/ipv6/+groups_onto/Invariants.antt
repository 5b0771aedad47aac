use Rattle.std.proofs.Common.{length}
use Rattle.addr_pattern.proofs.ipv6.+groups_onto.Given as goal

abbrev pub decreases-groups_onto : goal.decreases-groups_onto
decreases-groups_onto l = length l.text.now
