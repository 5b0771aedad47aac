use Rattle.std.proofs.Common.{◌-◌, sym, ◌∙◌, arith}
use Rattle.addr_pattern.proofs.Trimming.{trimmed-less, trimmed-is}
use Rattle.addr_pattern.proofs.blanks.trim_end.Goals as goal

pub returns-then-text-end-ne32 : goal.returns-then-text-end-ne32
returns-then-text-end-ne32 c =
    sym (c.loop-end.invariant.so_far ∙ trimmed-is (c.loop-end.end - 1) c.loop-end.end c.args.text.now (omega arith) (omega arith) c.if-text-end-ne32.true)

pub loop-end-preserved : goal.loop-end-preserved
loop-end-preserved c = record {
  within = omega arith;
  so_far = c.loop-end.invariant.so_far ∙ trimmed-less (c.loop-end.end - 1) c.loop-end.end c.args.text.now (omega arith) (omega arith) c.if-text-end-ne32.false;
}
