use Rattle.std.proofs.Common.{◌≡◌, [], ◌∷◌, ◌++◌, sym, arith}
use Rattle.std.proofs.lemmas.Bool.Decides.{nat_tests}
use Rattle.addr_pattern.proofs.Folding.{without_last_dot-dot, without_last_dot-other}
use Rattle.addr_pattern.proofs.fold.without_last_dot.Goals as goal

pub returns-then-last-eq46 : goal.returns-then-last-eq46
returns-then-last-eq46 c =
    let whole : c.args.name.now ≡ c.in-Some.front.now ++ c.in-Some.last.now ∷ [] = c.in-Some.ensures.cases.0 in
    rw whole (rw c.if-last-eq46.true (sym (without_last_dot-dot c.in-Some.front.now)))

pub returns-else-last-eq46 : goal.returns-else-last-eq46
returns-else-last-eq46 c =
    let whole : c.args.name.now ≡ c.in-Some.front.now ++ c.in-Some.last.now ∷ [] = c.in-Some.ensures.cases.0 in
    rw whole (sym (without_last_dot-other c.in-Some.front.now c.in-Some.last.now (grind (arith, nat_tests))))
