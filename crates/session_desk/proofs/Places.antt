-- What stands at the place where a number's entry was found.
use Rattle.std.proofs.Common.{ℕ, suc, ◌≡◌, ◌+◌, Bool, true, false, cond, not, nat_lt, Option, Some, None, List, [], ◌∷◌, length, get_or, ◌⊎◌, inl, inr, refl, sym, ◌∙◌, ap, subst, arith}
use Rattle.std.specs.Prelude.{slice_set, option_map, position}
use Rattle.std.specs.List.{prefix_len, remove}
use Rattle.std.proofs.lemmas.Option.{none-some, same_Some}
use Rattle.std.proofs.lemmas.Bool.Decides.{nat_tests}
use Rattle.socks_machine.specs.History.{Stand}
use Rattle.session_desk.specs.declared.entry.Live.{Live}
use Rattle.session_desk.specs.declared.entry.LiveAssociation.{LiveAssociation}
use Rattle.session_desk.specs.Books.{Book, with_grant, without_entry}
use Rattle.session_desk.specs.Entries.{stand_of_live, has_number, standing_in, renewed, without}

by_test : (b : Bool) (k n : ℕ) → cond (nat_lt (cond (not b) (1 + k) 0) (suc n)) (Some (cond (not b) (1 + k) 0)) None ≡ cond b (Some 0) (option_map suc (cond (nat_lt k n) (Some k) None))
by_test true k n = let first : nat_lt 0 (suc n) ≡ true = grind (arith, nat_tests) in rw first refl
by_test false k n =
    let e : 1 + k ≡ suc k = omega arith in
    let same : nat_lt (suc k) (suc n) ≡ nat_lt k n = grind (arith, nat_tests) in
    rw e (rw same (elim (nat_lt k n) as (λ t. cond t (Some (suc k)) None ≡ option_map suc (cond t (Some k) None)) [ true ↦ refl | false ↦ refl ]))

pub position-cons : {X : Type 0} (p : X → Bool) (x : X) (xs : List X) → position p (x ∷ xs) ≡ cond (p x) (Some 0) (option_map suc (position p xs))
position-cons p x xs = by_test (p x) (prefix_len (λ y. not (p y)) xs) (length xs)

none_behind : (b : Bool) (found : Option ℕ) → cond b (Some 0) (option_map suc found) ≡ None → (b ≡ false) × (found ≡ None)
none_behind true found h = cc
none_behind false None h = (refl, refl)
none_behind false (Some i) h = cc

pub standing_in-none : (n : ℕ) (es : List LiveAssociation) → position (has_number n) es ≡ None → standing_in es n ≡ Stand.Gone
standing_in-none n [] h = refl
standing_in-none n (e ∷ es) h =
    let found = none_behind (has_number n e) (position (has_number n) es) (sym (position-cons (has_number n) e es) ∙ h) in
    rw found.0 (standing_in-none n es found.1)

some_behind : (b : Bool) (found : Option ℕ) (i : ℕ) → cond b (Some 0) (option_map suc found) ≡ Some i
    → ((b ≡ true) × (0 ≡ i)) ⊎ ((b ≡ false) × ((j : ℕ) × ((found ≡ Some j) × (suc j ≡ i))))
some_behind true found i h = inl (refl, same_Some 0 i h)
some_behind false None i h = absurd (none-some i h)
some_behind false (Some j) i h = inr (refl, (j, (refl, same_Some (suc j) i h)))

by_entry : (P : List LiveAssociation → ℕ → Type 0) (n : ℕ) → ((e : LiveAssociation) (es : List LiveAssociation) → has_number n e ≡ true → P (e ∷ es) 0)
    → ((e : LiveAssociation) (es : List LiveAssociation) (i : ℕ) → has_number n e ≡ false → P es i → P (e ∷ es) (suc i))
    → (e : LiveAssociation) (es : List LiveAssociation) (i : ℕ) → ((j : ℕ) → position (has_number n) es ≡ Some j → P es j)
    → cond (has_number n e) (Some 0) (option_map suc (position (has_number n) es)) ≡ Some i → P (e ∷ es) i
by_entry P n here behind e es i rest h =
    elim (some_behind (has_number n e) (position (has_number n) es) i h) [
      | inl x ↦ subst (λ k. P (e ∷ es) k) x.1 (here e es x.0)
      | inr x ↦ subst (λ k. P (e ∷ es) k) x.1.1.1 (behind e es x.1.0 x.0 (rest x.1.0 x.1.1.0))
    ]

-- a fact about the place of a number, by the entries before it
at_place : (P : List LiveAssociation → ℕ → Type 0) (n : ℕ) → ((e : LiveAssociation) (es : List LiveAssociation) → has_number n e ≡ true → P (e ∷ es) 0)
    → ((e : LiveAssociation) (es : List LiveAssociation) (i : ℕ) → has_number n e ≡ false → P es i → P (e ∷ es) (suc i))
    → (es : List LiveAssociation) (i : ℕ) → position (has_number n) es ≡ Some i → P es i
at_place P n here behind [] i h = absurd (none-some i h)
at_place P n here behind (e ∷ es) i h =
    by_entry P n here behind e es i (at_place P n here behind es) (sym (position-cons (has_number n) e es) ∙ h)

pub standing_in-some : (n : ℕ) (es : List LiveAssociation) (i : ℕ) (d : LiveAssociation) → position (has_number n) es ≡ Some i → standing_in es n ≡ stand_of_live (get_or es i d).live
standing_in-some n es i d =
    at_place (λ es i. standing_in es n ≡ stand_of_live (get_or es i d).live) n (λ e es h. rw h refl) (λ e es i h before. rw h before) es i

set-place : (n : ℕ) (live : Live) (es : List LiveAssociation) (i : ℕ) → position (has_number n) es ≡ Some i → slice_set es i (record { number = n; live = live }) ≡ renewed n live es
set-place n live es i =
    at_place (λ es i. slice_set es i (record { number = n; live = live }) ≡ renewed n live es) n (λ e es h. rw h refl) (λ e es i h before. rw h (ap (λ rest. e ∷ rest) before)) es i

remove-place : (n : ℕ) (es : List LiveAssociation) (i : ℕ) → position (has_number n) es ≡ Some i → remove es i ≡ without n es
remove-place n es i =
    at_place (λ es i. remove es i ≡ without n es) n (λ e es h. rw h refl) (λ e es i h before. rw h (ap (λ rest. e ∷ rest) before)) es i

pub renewed-none : (n : ℕ) (live : Live) (es : List LiveAssociation) → position (has_number n) es ≡ None → renewed n live es ≡ es
renewed-none n live [] h = refl
renewed-none n live (e ∷ es) h =
    let found = none_behind (has_number n e) (position (has_number n) es) (sym (position-cons (has_number n) e es) ∙ h) in
    rw found.0 (ap (λ rest. e ∷ rest) (renewed-none n live es found.1))

pub without-none : (n : ℕ) (es : List LiveAssociation) → position (has_number n) es ≡ None → without n es ≡ es
without-none n [] h = refl
without-none n (e ∷ es) h =
    let found = none_behind (has_number n e) (position (has_number n) es) (sym (position-cons (has_number n) e es) ∙ h) in
    rw found.0 (ap (λ rest. e ∷ rest) (without-none n es found.1))

-- ---- the book with such entries, which is seen as the first of two equal ones

pub with_grant-place : (seen b : Book) (n : ℕ) (live : Live) (i : ℕ) → seen ≡ b → position (has_number n) b.entries ≡ Some i
    → record seen { entries = slice_set seen.entries i (record { number = n; live = live }) } ≡ with_grant b n live
with_grant-place seen b n live i same found =
    let P : Book → Type 0 = λ s. record s { entries = slice_set s.entries i (record { number = n; live = live }) } ≡ with_grant b n live in
    let changed : P b = ap (λ (es : List LiveAssociation). let after : Book = record b { entries = es } in after) (set-place n live b.entries i found) in
    subst P (sym same) changed

pub without_entry-place : (seen b : Book) (n i : ℕ) → seen ≡ b → position (has_number n) b.entries ≡ Some i
    → record seen { entries = remove seen.entries i } ≡ without_entry b n
without_entry-place seen b n i same found =
    let P : Book → Type 0 = λ s. record s { entries = remove s.entries i } ≡ without_entry b n in
    let changed : P b = ap (λ (es : List LiveAssociation). let after : Book = record b { entries = es } in after) (remove-place n b.entries i found) in
    subst P (sym same) changed
