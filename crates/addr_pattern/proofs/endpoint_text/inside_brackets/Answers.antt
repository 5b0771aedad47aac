use Rattle.std.proofs.Common.{◌≡◌, ◌∷◌, ◌++◌, [], ◌==◌, true, false, arith}
use Rattle.std.proofs.lemmas.Bool.Decides.{nat_tests}
use Rattle.addr_pattern.proofs.Cutting.{between-is, between-other}
use Rattle.addr_pattern.proofs.endpoint_text.inside_brackets.Goals as goal

pub returns-then-last-eq93 : goal.returns-then-last-eq93
returns-then-last-eq93 c =
    let first : (c.in_ok-first.first.now == 91) ≡ true = grind (arith, nat_tests) in
    let last : (c.in_ok-last.last.now == 93) ≡ true = grind (arith, nat_tests) in
    let cut : c.args.text.now ≡ c.in_ok-first.first.now ∷ c.in_ok-first.rest.now = c.in_ok-first.ensures.cases.0 in
    let end : c.in_ok-first.rest.now ≡ c.in_ok-last.inside.now ++ c.in_ok-last.last.now ∷ [] = c.in_ok-last.ensures.cases.0 in
    between-is _ _ _ _ _ cut end first last

pub returns-else-last-eq93 : goal.returns-else-last-eq93
returns-else-last-eq93 c =
    let first : (c.in_ok-first.first.now == 91) ≡ true = grind (arith, nat_tests) in
    let last : (c.in_ok-last.last.now == 93) ≡ false = grind (arith, nat_tests) in
    let cut : c.args.text.now ≡ c.in_ok-first.first.now ∷ c.in_ok-first.rest.now = c.in_ok-first.ensures.cases.0 in
    let end : c.in_ok-first.rest.now ≡ c.in_ok-last.inside.now ++ c.in_ok-last.last.now ∷ [] = c.in_ok-last.ensures.cases.0 in
    between-other _ _ _ _ _ cut end first last
