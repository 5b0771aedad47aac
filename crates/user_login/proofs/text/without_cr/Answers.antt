use Rattle.std.proofs.Common.{◌≡◌, [], ◌∷◌, ◌++◌, sym, arith}
use Rattle.std.proofs.lemmas.Bool.Decides.{nat_tests}
use Rattle.user_login.proofs.Lines.{cr-is, cr-other}
use Rattle.user_login.proofs.text.without_cr.Goals as goal

pub returns-then-last-eq13 : goal.returns-then-last-eq13
returns-then-last-eq13 c =
    let whole : c.args.line.now ≡ c.in-Some.front.now ++ c.in-Some.last.now ∷ [] = c.in-Some.ensures.cases.0 in
    rw whole (rw c.if-last-eq13.true (sym (cr-is c.in-Some.front.now)))

pub returns-else-last-eq13 : goal.returns-else-last-eq13
returns-else-last-eq13 c =
    let whole : c.args.line.now ≡ c.in-Some.front.now ++ c.in-Some.last.now ∷ [] = c.in-Some.ensures.cases.0 in
    rw whole (sym (cr-other c.in-Some.front.now c.in-Some.last.now (grind (arith, nat_tests))))
