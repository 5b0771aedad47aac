use Rattle.std.proofs.Common.{◌≡◌, ℕ, arith, refl, subst}
use Rattle.replay_script.specs.Counted.{IsBehindLines}
use Rattle.replay_script.proofs.Counting.{more_lines, fewer_lines, no_line_left}
use Rattle.replay_script.proofs.counted.behind_lines.Goals as goal

pub counting-init : goal.counting-init
counting-init c = record { first = λ behind h. h; last = λ behind h. h }

pub returns-in_default : goal.returns-in_default
returns-in_default c = λ behind h.
    no_line_left c.counting.left c.counting.rest.now behind c.counting-test.true c.in_default.ensures.found (c.counting.invariant.last behind h)

pub counting-preserved : goal.counting-preserved
counting-preserved c = record {
  first = λ behind h. c.counting.invariant.first behind (more_lines c.counting.left c.counting.rest.now c.in-Some._line.now c.in-Some.behind.now behind c.counting-test.true c.in-Some.ensures.found h);
  last = λ behind h. fewer_lines c.counting.left c.counting.rest.now c.in-Some._line.now c.in-Some.behind.now behind c.counting-test.true c.in-Some.ensures.found (c.counting.invariant.last behind h);
}

pub returns : goal.returns
returns c =
    let e : 0 ≡ c.counting.left = omega (arith, c.counting-test.false) in
    c.counting.invariant.first c.counting.rest.now (subst (λ (z : ℕ). IsBehindLines z c.counting.rest.now c.counting.rest.now) e refl)
