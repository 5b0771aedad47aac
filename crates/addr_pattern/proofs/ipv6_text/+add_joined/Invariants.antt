use Rattle.std.proofs.Common.{length}
use Rattle.addr_pattern.proofs.ipv6_text.+add_joined.Given as goal

abbrev pub decreases-add_joined : goal.decreases-add_joined
decreases-add_joined l = length l.groups.now
