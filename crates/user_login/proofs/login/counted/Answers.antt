use Rattle.std.proofs.Common.{◌≡◌, ◌≤◌, ◌∷◌, drop, length, ◌∙◌, arith}
use Rattle.user_login.proofs.Messages.{to_end, counted-all, counted-within, counted-short}
use Rattle.user_login.proofs.login.counted.Goals as goal

pub returns-then-rest-len : goal.returns-then-rest-len
returns-then-rest-len c =
    let e : drop c.args.at c.args.bytes.now ≡ c.in_ok-count.count.now ∷ c.in_ok-count.rest.now = to_end c.args.at c.args.bytes.now ∙ c.in_ok-count.ensures.cases.0 in
    counted-short c.args.at c.in_ok-count.count.now c.args.bytes.now c.in_ok-count.rest.now e (omega arith)

pub returns : goal.returns
returns c =
    let e : drop c.args.at c.args.bytes.now ≡ c.in_ok-count.count.now ∷ c.in_ok-count.rest.now = to_end c.args.at c.args.bytes.now ∙ c.in_ok-count.ensures.cases.0 in
    let h : c.in_ok-count.count.now ≤ length c.in_ok-count.rest.now = omega arith in
    rw c.from-len.ensures (
      counted-all c.args.at c.in_ok-count.count.now c.args.bytes.now c.in_ok-count.rest.now e h,
      counted-within c.args.at c.in_ok-count.count.now c.args.bytes.now c.in_ok-count.rest.now e h,
    )
