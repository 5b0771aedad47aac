use Rattle.std.proofs.Common.{ℕ, ◌≡◌, ◌+◌, ◌-◌, ◌==◌, true, false, length, get_or, drop, refl, arith}
use Rattle.std.proofs.lemmas.Bool.Decides.{nat_tests}
use Rattle.addr_pattern.proofs.Folding.{ends_with-dot}
use Rattle.addr_pattern.proofs.fold.is_below.Goals as goal

pub returns-then-name-dot-eq46 : goal.returns-then-name-dot-eq46
returns-then-name-dot-eq46 c =
    let name = c.without_last_dot-name.result.now in
    let domain = c.without_last_dot-domain.result.now in
    let dot : ℕ = length name - length domain - 1 in
    let is_dot : (get_or name dot 0 == 46) ≡ true = grind (arith, nat_tests) in
    let end : c.split_at.result.1.now ≡ drop (dot + 1) name = c.split_at.ensures.back in
    rw (← c.without_last_dot-name.ensures) (rw (← c.without_last_dot-domain.ensures) (rw (ends_with-dot name domain dot c.if-name-domain.false refl) (rw is_dot (rw (← end) c.same_letters.ensures))))

pub returns-else-name-dot-eq46 : goal.returns-else-name-dot-eq46
returns-else-name-dot-eq46 c =
    let name = c.without_last_dot-name.result.now in
    let domain = c.without_last_dot-domain.result.now in
    let dot : ℕ = length name - length domain - 1 in
    let other : (get_or name dot 0 == 46) ≡ false = grind (arith, nat_tests) in
    rw (← c.without_last_dot-name.ensures) (rw (← c.without_last_dot-domain.ensures) (rw (ends_with-dot name domain dot c.if-name-domain.false refl) (rw other refl)))
