use Rattle.std.proofs.Common.{arith}
use Rattle.replay_script.proofs.Cutting.{lacks_more}
use Rattle.replay_script.proofs.cuts.cut.Goals as goal

pub loop-i-preserved : goal.loop-i-preserved
loop-i-preserved c = lacks_more _ _ _ c.loop-i.invariant (omega arith) c.if-b-at.false
