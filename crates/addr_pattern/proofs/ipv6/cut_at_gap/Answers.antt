use Rattle.std.proofs.Common.{sym, ◌∙◌, arith}
use Rattle.addr_pattern.proofs.Gaps.{gap-more, gap-none}
use Rattle.addr_pattern.proofs.ipv6.cut_at_gap.Goals as goal

pub loop-at-preserved : goal.loop-at-preserved
loop-at-preserved c = record {
  within = omega arith;
  so_far = c.loop-at.invariant.so_far ∙ gap-more c.args.text.now c.loop-at.at (omega arith) (sym c.is_gap.ensures ∙ c.if-is_gap.false);
}

pub returns : goal.returns
returns c = c.loop-at.invariant.so_far ∙ gap-none c.args.text.now c.loop-at.at (omega arith)
