use Rattle.std.proofs.Common.{arith}
use Rattle.addr_pattern.proofs.Cutting.{lacks_more, first_cut-at, first_cut-lacks, lacks-whole}
use Rattle.addr_pattern.proofs.cut.cut_first.Goals as goal

pub loop-i-preserved : goal.loop-i-preserved
loop-i-preserved c = lacks_more _ _ _ c.loop-i.invariant (omega arith) c.if-b-at.false

pub returns-then-b-at-clause-cut : goal.returns-then-b-at-clause-cut
returns-then-b-at-clause-cut c = first_cut-at c.args.at c.loop-i.i c.args.text.now c.loop-i.invariant (omega arith) c.if-b-at.true

pub returns-clause-cut : goal.returns-clause-cut
returns-clause-cut c = first_cut-lacks c.args.at c.args.text.now (lacks-whole c.args.at c.loop-i.i c.args.text.now (omega arith) c.loop-i.invariant)
