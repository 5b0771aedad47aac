use Rattle.std.proofs.Common.{length}
use Rattle.assoc_core.proofs.replies.+reached_at.Given as goal

abbrev pub decreases-reached_at : goal.decreases-reached_at
decreases-reached_at l = length l.decisions.now
