use Rattle.std.proofs.Common.{ℕ, ◌≡◌, ◌+◌, ◌-◌, drop, subst, arith}
use Rattle.addr_pattern.specs.Cuts.{Lacks}
use Rattle.addr_pattern.proofs.Cutting.{last_cut-lacks, last_cut-at}
use Rattle.addr_pattern.proofs.cut.cut_last.Goals as goal

pub returns-then-text-end : goal.returns-then-text-end
returns-then-text-end c =
    let e : c.loop-end.end ≡ c.loop-end.end - 1 + 1 = omega arith in
    last_cut-at c.args.at (c.loop-end.end - 1) c.args.text.now (subst (λ (n : ℕ). Lacks c.args.at (drop n c.args.text.now)) e c.loop-end.invariant.so_far) (omega arith) c.if-text-end.true

pub returns : goal.returns
returns c =
    let e : c.loop-end.end ≡ 0 = omega arith in
    last_cut-lacks c.args.at c.args.text.now (subst (λ (n : ℕ). Lacks c.args.at (drop n c.args.text.now)) e c.loop-end.invariant.so_far)
