use Rattle.std.proofs.Common.{ℕ, ◌≡◌, ◌<◌, List, [], ◌∷◌, length, Some, refl, sym, ◌∙◌, arith}
use Rattle.std.proofs.lemmas.Bool.Decides.{nat_tests}
use Rattle.std.specs.Prelude.{bytes_eq}
use Rattle.std.specs.List.{list_any}
use Rattle.rule_list.specs.Rules.{allows_user}
use Rattle.rule_list.proofs.rule.allows_user.Goals as goal

allows_user-some : (us : List (List ℕ)) (user : List ℕ) → 0 < length us → allows_user us (Some user) ≡ list_any (bytes_eq user) us
allows_user-some [] user h = absurd (omega arith)
allows_user-some (u ∷ us) user h = refl

pub returns-in-Some : goal.returns-in-Some
returns-in-Some c =
    let some : 0 < length c.args.users.now = grind (arith, nat_tests, c.if-is_empty.ensures) in
    rw c.in-Some.is (c.lists_user.ensures ∙ sym (allows_user-some c.args.users.now c.in-Some.user.now some))
