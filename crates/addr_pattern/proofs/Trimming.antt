-- Texts without the blanks at their end.
use Rattle.std.proofs.Common.{ℕ, ◌≡◌, ◌≢◌, ◌<◌, ◌+◌, false, ◌==◌, List, [], ◌∷◌, ◌++◌, take, get_or, length, sym, ap, ◌∙◌, refl, arith}
use Rattle.std.proofs.lemmas.List.{take_more}
use Rattle.std.proofs.lemmas.Bool.Decides.{nat_tests}
use Rattle.addr_pattern.specs.PatternText.{trim_end, onto_trimmed}

trim_end-blank : (xs : List ℕ) → trim_end (xs ++ 32 ∷ []) ≡ trim_end xs
trim_end-blank [] = refl
trim_end-blank (x ∷ xs) = ap (onto_trimmed x) (trim_end-blank xs)

trim_end-other : (xs : List ℕ) (b : ℕ) → (b == 32) ≡ false → trim_end (xs ++ b ∷ []) ≡ xs ++ b ∷ []
trim_end-other [] b h = rw h refl
trim_end-other (x ∷ []) b h = ap (onto_trimmed x) (trim_end-other [] b h)
trim_end-other (x ∷ y ∷ xs) b h = ap (onto_trimmed x) (trim_end-other (y ∷ xs) b h)

last_of : (n : ℕ) (xs : List ℕ) → n < length xs → take (n + 1) xs ≡ take n xs ++ get_or xs n 0 ∷ []
last_of n xs h = take_more xs n 0 h

pub trimmed-less : (n end : ℕ) (xs : List ℕ) → n + 1 ≡ end → n < length xs → get_or xs n 0 ≡ 32 → trim_end (take end xs) ≡ trim_end (take n xs)
trimmed-less n end xs e lt is =
    ap (λ (k : ℕ). trim_end (take k xs)) (sym e)
    ∙ (ap trim_end (last_of n xs lt ∙ ap (λ b. take n xs ++ b ∷ []) is) ∙ trim_end-blank (take n xs))

pub trimmed-is : (n end : ℕ) (xs : List ℕ) → n + 1 ≡ end → n < length xs → get_or xs n 0 ≢ 32 → trim_end (take end xs) ≡ take end xs
trimmed-is n end xs e lt ne =
    let other : (get_or xs n 0 == 32) ≡ false = grind (arith, nat_tests, ne) in
    ap (λ (k : ℕ). trim_end (take k xs)) (sym e)
    ∙ (ap trim_end (last_of n xs lt) ∙ (trim_end-other (take n xs) (get_or xs n 0) other ∙ (sym (last_of n xs lt) ∙ ap (λ (k : ℕ). take k xs) e)))
