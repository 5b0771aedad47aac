-- Texts that are cut at a byte, and their parts.
use Rattle.std.proofs.Common.{ℕ, suc, ◌≡◌, ◌<◌, ◌≤◌, ◌+◌, ◌-◌, true, false, ◌==◌, Some, None, List, [], ◌∷◌, ◌++◌, take, drop, get_or, length, sym, subst, ap, ◌∙◌, refl, arith}
use Rattle.std.proofs.Math.Seq.{drop-cons}
use Rattle.std.proofs.lemmas.List.{take_more, take_all, take-append-drop, length-drop}
use Rattle.std.proofs.lemmas.Bool.Decides.{nat_tests}
use Rattle.addr_pattern.specs.AddressText.{parts}
use Rattle.addr_pattern.specs.Cuts.{Lacks, first_cut, last_cut, onto, between, without_end}

pub lacks_append : (at : ℕ) (xs ys : List ℕ) → Lacks at xs → Lacks at ys → Lacks at (xs ++ ys)
lacks_append at [] ys h k = k
lacks_append at (x ∷ xs) ys h k = (h.0, lacks_append at xs ys h.1 k)

pub lacks_more : (at i : ℕ) (xs : List ℕ) → Lacks at (take i xs) → i < length xs → (get_or xs i 0 ≡ at → ⊥) → Lacks at (take (i + 1) xs)
lacks_more at i xs h lt ne =
    subst (Lacks at) (sym (take_more xs i 0 lt)) (lacks_append at (take i xs) (get_or xs i 0 ∷ []) h (ne, tt))

pub lacks_before : (at i : ℕ) (xs : List ℕ) → Lacks at (drop (suc i) xs) → i < length xs → (get_or xs i 0 ≡ at → ⊥) → Lacks at (drop i xs)
lacks_before at i xs h lt ne = subst (Lacks at) (sym (drop-cons xs i 0 lt)) (ne, h)

pub parts-lacks : (at : ℕ) (xs : List ℕ) → Lacks at xs → parts at xs ≡ xs ∷ []
parts-lacks at [] h = refl
parts-lacks at (x ∷ xs) h =
    let ne = h.0 in
    let e : (x == at) ≡ false = grind (arith, nat_tests, ne) in
    rw e (rw (parts-lacks at xs h.1) refl)

pub parts-cut : (at : ℕ) (xs ys : List ℕ) → Lacks at xs → parts at (xs ++ at ∷ ys) ≡ xs ∷ parts at ys
parts-cut at [] ys h = let e : (at == at) ≡ true = grind (arith, nat_tests) in rw e refl
parts-cut at (x ∷ xs) ys h =
    let ne = h.0 in
    let e : (x == at) ≡ false = grind (arith, nat_tests, ne) in
    rw e (rw (parts-cut at xs ys h.1) refl)

pub last_cut-lacks : (at : ℕ) (xs : List ℕ) → Lacks at xs → last_cut at xs ≡ None
last_cut-lacks at [] h = refl
last_cut-lacks at (x ∷ xs) h =
    let ne = h.0 in
    let e : (x == at) ≡ false = grind (arith, nat_tests, ne) in
    rw (last_cut-lacks at xs h.1) (rw e refl)

pub last_cut-cut : (at : ℕ) (xs ys : List ℕ) → Lacks at ys → last_cut at (xs ++ at ∷ ys) ≡ Some (xs, ys)
last_cut-cut at [] ys h =
    let e : (at == at) ≡ true = grind (arith, nat_tests) in
    rw (last_cut-lacks at ys h) (rw e refl)
last_cut-cut at (x ∷ xs) ys h = rw (last_cut-cut at xs ys h) refl

pub first_cut-lacks : (at : ℕ) (xs : List ℕ) → Lacks at xs → first_cut at xs ≡ None
first_cut-lacks at [] h = refl
first_cut-lacks at (x ∷ xs) h =
    let ne = h.0 in
    let e : (x == at) ≡ false = grind (arith, nat_tests, ne) in
    rw e (rw (first_cut-lacks at xs h.1) refl)

pub first_cut-cut : (at : ℕ) (xs ys : List ℕ) → Lacks at xs → first_cut at (xs ++ at ∷ ys) ≡ Some (xs, ys)
first_cut-cut at [] ys h = let e : (at == at) ≡ true = grind (arith, nat_tests) in rw e refl
first_cut-cut at (x ∷ xs) ys h =
    let ne = h.0 in
    let e : (x == at) ≡ false = grind (arith, nat_tests, ne) in
    rw e (rw (first_cut-cut at xs ys h.1) refl)

cut_here : (at i : ℕ) (xs : List ℕ) → i < length xs → get_or xs i 0 ≡ at → xs ≡ take i xs ++ at ∷ drop (i + 1) xs
cut_here at i xs lt is =
    let e : suc i ≡ i + 1 = omega arith in
    sym (take-append-drop i xs) ∙ ap (λ z. take i xs ++ z) (drop-cons xs i 0 lt ∙ (ap (λ b. b ∷ drop (suc i) xs) is ∙ ap (λ n. at ∷ drop n xs) e))

-- a slice to the end
rest_is : (i : ℕ) (xs : List ℕ) → drop i xs ≡ take (length xs - i) (drop i xs)
rest_is i xs = let e = length-drop i xs in sym (take_all (length xs - i) (drop i xs) (omega (arith, e)))

pub first_cut-at : (at i : ℕ) (xs : List ℕ) → Lacks at (take i xs) → i < length xs → get_or xs i 0 ≡ at
    → first_cut at xs ≡ Some (take i xs, take (length xs - (i + 1)) (drop (i + 1) xs))
first_cut-at at i xs h lt is =
    ap (first_cut at) (cut_here at i xs lt is) ∙ (first_cut-cut at (take i xs) (drop (i + 1) xs) h ∙ ap (λ z. Some (take i xs, z)) (rest_is (i + 1) xs))

pub last_cut-at : (at i : ℕ) (xs : List ℕ) → Lacks at (drop (i + 1) xs) → i < length xs → get_or xs i 0 ≡ at
    → last_cut at xs ≡ Some (take i xs, take (length xs - (i + 1)) (drop (i + 1) xs))
last_cut-at at i xs h lt is =
    ap (last_cut at) (cut_here at i xs lt is) ∙ (last_cut-cut at (take i xs) (drop (i + 1) xs) h ∙ ap (λ z. Some (take i xs, z)) (rest_is (i + 1) xs))

-- ---- brackets

pub without_end-is : (last b : ℕ) (xs : List ℕ) → (b == last) ≡ true → without_end last (xs ++ b ∷ []) ≡ Some xs
without_end-is last b [] h = rw h refl
without_end-is last b (x ∷ []) h = ap (onto x) (without_end-is last b [] h)
without_end-is last b (x ∷ y ∷ xs) h = ap (onto x) (without_end-is last b (y ∷ xs) h)

pub without_end-other : (last b : ℕ) (xs : List ℕ) → (b == last) ≡ false → without_end last (xs ++ b ∷ []) ≡ None
without_end-other last b [] h = rw h refl
without_end-other last b (x ∷ []) h = ap (onto x) (without_end-other last b [] h)
without_end-other last b (x ∷ y ∷ xs) h = ap (onto x) (without_end-other last b (y ∷ xs) h)

pub lacks-whole : (at i : ℕ) (xs : List ℕ) → length xs ≤ i → Lacks at (take i xs) → Lacks at xs
lacks-whole at i xs le h = subst (Lacks at) (take_all i xs le) h

pub between-is : (text rest inside : List ℕ) (first last : ℕ) → text ≡ first ∷ rest → rest ≡ inside ++ last ∷ [] → (first == 91) ≡ true → (last == 93) ≡ true → between 91 93 text ≡ Some inside
between-is text rest inside first last e f h k = rw e (rw h (rw f (without_end-is 93 last inside k)))

pub between-other : (text rest inside : List ℕ) (first last : ℕ) → text ≡ first ∷ rest → rest ≡ inside ++ last ∷ [] → (first == 91) ≡ true → (last == 93) ≡ false → between 91 93 text ≡ None
between-other text rest inside first last e f h k = rw e (rw h (rw f (without_end-other 93 last inside k)))
