-- Names without a closing dot, and names below a domain.
use Rattle.std.proofs.Common.{ℕ, suc, ◌≡◌, ◌+◌, ◌-◌, ◌<◌, ◌≤◌, true, false, ◌&&◌, ◌==◌, List, [], ◌∷◌, ◌++◌, length, map, drop, get_or, bytes_eq, nat_le, refl, ap, arith, add-one}
use Rattle.std.proofs.Math.Seq.{drop-cons}
use Rattle.std.proofs.lemmas.List.{length-map, drop-map}
use Rattle.std.proofs.lemmas.Bool.Decides.{nat_tests}
use Rattle.addr_pattern.specs.Matches.{lower, without_last_dot, ends_with}

pub without_last_dot-dot : (xs : List ℕ) → without_last_dot (xs ++ 46 ∷ []) ≡ xs
without_last_dot-dot [] = refl
without_last_dot-dot (x ∷ []) = refl
without_last_dot-dot (x ∷ y ∷ xs) = ap (λ zs. x ∷ zs) (without_last_dot-dot (y ∷ xs))

pub without_last_dot-other : (xs : List ℕ) (last : ℕ) → (last == 46) ≡ false → without_last_dot (xs ++ last ∷ []) ≡ xs ++ last ∷ []
without_last_dot-other [] last h = rw h
without_last_dot-other (x ∷ []) last h = ap (λ zs. x ∷ zs) (without_last_dot-other [] last h)
without_last_dot-other (x ∷ y ∷ xs) last h = ap (λ zs. x ∷ zs) (without_last_dot-other (y ∷ xs) last h)

lower-dot : (b : ℕ) → (lower b == 46) ≡ (b == 46)
lower-dot b = grind (arith, nat_tests)

compared-cons : (b : ℕ) (back domain : List ℕ) → bytes_eq (map lower (b ∷ back)) (46 ∷ map lower domain) ≡ ((b == 46) && bytes_eq (map lower back) (map lower domain))
compared-cons b back domain = ap (λ t. t && bytes_eq (map lower back) (map lower domain)) (lower-dot b)

-- a text that is longer than the domain ends with a dot and the domain, where the byte before its end is a dot
pub ends_with-dot : (name domain : List ℕ) (dot : ℕ) → length domain < length name → dot ≡ length name - length domain - 1
    → ends_with (46 ∷ map lower domain) (map lower name) ≡ ((get_or name dot 0 == 46) && bytes_eq (map lower (drop (dot + 1) name)) (map lower domain))
ends_with-dot name domain dot h e =
    let long : nat_le (length (46 ∷ map lower domain)) (length (map lower name)) ≡ true = simp length-map (grind (arith, nat_tests)) in
    let cut : length (map lower name) - length (46 ∷ map lower domain) ≡ dot = simp length-map (omega arith) in
    rw long (rw cut (rw drop-map (rw (drop-cons name dot 0 (omega arith)) (rw add-one (compared-cons (get_or name dot 0) (drop (suc dot) name) domain)))))

pub ends_with-short : (name domain : List ℕ) → length name ≤ length domain → ends_with (46 ∷ map lower domain) (map lower name) ≡ false
ends_with-short name domain h =
    let short : nat_le (length (46 ∷ map lower domain)) (length (map lower name)) ≡ false = simp length-map (grind (arith, nat_tests)) in
    rw short
