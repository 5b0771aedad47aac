-- Laws of texts that are cut.
use Rattle.std.proofs.Common.{true, false, true≢false, ◌≡◌, ◌≢◌, ◌<◌, ◌≤◌, ◌^◌, ℕ, List, [], ◌∷◌, ◌++◌, ◌+◌, ◌%◌, sym, subst, take, get_or, length, ◌∙◌, refl, decimal, arith}
use Rattle.std.proofs.lemmas.Fmt.{decimal_by_steps}
use Rattle.std.proofs.lemmas.List.{take_more}
use Rattle.std.proofs.lemmas.Bool.Decides.{nat_tests}
use Rattle.replay_script.specs.Cuts.{Lacks, is_digit}

pub lacks_append : (at : ℕ) (xs ys : List ℕ) → Lacks at xs → Lacks at ys → Lacks at (xs ++ ys)
lacks_append at [] ys h k = k
lacks_append at (x ∷ xs) ys h k = (h.0, lacks_append at xs ys h.1 k)

-- a text has one first cut
pub cut_one : (at : ℕ) (xs ys us vs : List ℕ) → Lacks at xs → Lacks at ys → xs ++ at ∷ us ≡ ys ++ at ∷ vs → (xs ≡ ys) × (us ≡ vs)
cut_one at [] [] us vs h k e = (refl, cc)
cut_one at [] (y ∷ ys) us vs h k e = let q : y ≡ at = cc in absurd (k.0 q)
cut_one at (x ∷ xs) [] us vs h k e = let q : x ≡ at = cc in absurd (h.0 q)
cut_one at (x ∷ xs) (y ∷ ys) us vs h k e =
    let q : xs ++ at ∷ us ≡ ys ++ at ∷ vs = cc in
    let p : x ≡ y = cc in
    let r = cut_one at xs ys us vs h.1 k.1 q in
    (cc r.0, r.1)

pub cut_none : (at : ℕ) (xs us : List ℕ) → Lacks at (xs ++ at ∷ us) → ⊥
cut_none at [] us h = h.0 refl
cut_none at (x ∷ xs) us h = cut_none at xs us h.1

-- numbers have digits alone
digits_apart : (at d : ℕ) → is_digit at ≡ false → d < 10 → 48 + d ≢ at
digits_apart at d digit small e =
    let k : (48 ≤ at) × (at ≤ 57) = (omega arith, omega arith) in
    let t : is_digit at ≡ true = grind (arith, nat_tests, k.0, k.1) in
    true≢false (sym t ∙ digit)

pub lacks_decimal : (at n : ℕ) → n < 2 ^ 64 → is_digit at ≡ false → Lacks at (decimal n)
lacks_decimal at n fits digit =
    decimal_by_steps (λ m ds. Lacks at ds)
    (λ m h. (digits_apart at m digit h, tt))
    (λ m ds h k. lacks_append at ds ((48 + m % 10) ∷ []) k (digits_apart at (m % 10) digit (omega arith), tt))
    n fits

pub lacks_more : (at i : ℕ) (xs : List ℕ) → Lacks at (take i xs) → i < length xs → (get_or xs i 0 ≡ at → ⊥) → Lacks at (take (i + 1) xs)
lacks_more at i xs h lt ne =
    subst (Lacks at) (sym (take_more xs i 0 lt)) (lacks_append at (take i xs) (get_or xs i 0 ∷ []) h (ne, tt))
