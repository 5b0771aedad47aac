use Rattle.std.proofs.Common.{length}
use Rattle.assoc_core.proofs.reach.+granted_to.Given as goal

abbrev pub decreases-granted_to : goal.decreases-granted_to
decreases-granted_to l = length l.decisions.now
