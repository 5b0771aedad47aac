use Rattle.std.proofs.Common.{arith}
use Rattle.user_login.proofs.Comparing.{differing-more}
use Rattle.user_login.proofs.digest.is_same_digest.Goals as goal

pub loop-i-preserved : goal.loop-i-preserved
loop-i-preserved c = differing-more c.args.a.now c.args.b.now c.loop-i.i c.loop-i.differing (omega arith) (omega arith) c.loop-i.invariant
