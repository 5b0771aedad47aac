-- So many bytes that each pass a test.
use Rattle.std.proofs.Common.{ℕ, zero, suc, ◌≡◌, ◌+◌, ◌<◌, ◌≤◌, Bool, true, false, cond, Some, None, List, [], ◌∷◌, length, take, drop, get_or, position, refl, sym, ap, ◌∙◌, arith, get_or-take, length-take-le}
use Rattle.std.specs.List.{position_or_len}
use Rattle.std.proofs.lemmas.Bool.{ltb-false}
use Rattle.std.proofs.lemmas.List.Quantifiers.{position-Some}
use Rattle.std.proofs.lemmas.List.Sums.{fails_before_first}
use Rattle.addr_pattern.specs.declared.front.BadKind.{BadKind}
use Rattle.socks_grammar.specs.Grammar.{Read, and_then, done, bytes_that}

module _ (at b : ℕ) (kind : BadKind) (r : Read (List ℕ)) where
  -- what is read in front of the bytes, by whether the first passes
  abbrev pub first-read : Bool → Read (List ℕ)
  first-read t = elim t [ true ↦ and_then r (λ bs. done (b ∷ bs)) | false ↦ Read.Wrong at b kind ]

  pub goes-on : (t : Bool) → t ≡ true → first-read t ≡ and_then r (λ bs. done (b ∷ bs))
  goes-on true e = refl
  goes-on false e = cc

  is-wrong : (t : Bool) → t ≡ false → first-read t ≡ Read.Wrong at b kind
  is-wrong true e = cc
  is-wrong false e = refl

module _ (test : ℕ → Bool) (kind : BadKind) where
  pub bytes-got : (n at end : ℕ) (xs : List ℕ) → n ≤ length xs → ((k : ℕ) → k < n → test (get_or xs k 0) ≡ true) → at + n ≡ end
      → bytes_that test kind n at xs ≡ Read.Got (take n xs) end (drop n xs)
  bytes-got zero at end xs h fits e =
      let place : at ≡ end = omega arith in
      ap (λ m. Read.Got [] m xs) place
  bytes-got (suc n) at end [] h fits e = absurd (omega arith)
  bytes-got (suc n) at end (b ∷ bs) h fits e =
      let rest = bytes-got n (at + 1) end bs (omega arith) (λ k g. fits (suc k) (omega arith)) (omega arith) in
      goes-on at b kind (bytes_that test kind n (at + 1) bs) (test b) (fits 0 (omega arith)) ∙ ap (λ r. and_then r (λ bs. done (b ∷ bs))) rest

  pub bytes-wrong : (n k at place : ℕ) (xs : List ℕ) → k < n → k < length xs → test (get_or xs k 0) ≡ false
      → ((j : ℕ) → j < k → test (get_or xs j 0) ≡ true) → at + k ≡ place
      → bytes_that test kind n at xs ≡ Read.Wrong place (get_or xs k 0) kind
  bytes-wrong zero k at place xs h l bad fits e = absurd (omega arith)
  bytes-wrong (suc n) k at place [] h l bad fits e = absurd (omega arith)
  bytes-wrong (suc n) zero at place (b ∷ bs) h l bad fits e =
      let same : at ≡ place = omega arith in
      is-wrong at b kind (bytes_that test kind n (at + 1) bs) (test b) bad ∙ ap (λ m. Read.Wrong m b kind) same
  bytes-wrong (suc n) (suc k) at place (b ∷ bs) h l bad fits e =
      let rest = bytes-wrong n k (at + 1) place bs (omega arith) (omega arith) bad (λ j g. fits (suc j) (omega arith)) (omega arith) in
      goes-on at b kind (bytes_that test kind n (at + 1) bs) (test b) (fits 0 (omega arith)) ∙ ap (λ r. and_then r (λ bs. done (b ∷ bs))) rest

  pub bytes-short : (n at : ℕ) (xs : List ℕ) → length xs < n → ((k : ℕ) → k < length xs → test (get_or xs k 0) ≡ true)
      → bytes_that test kind n at xs ≡ Read.Short
  bytes-short zero at xs h fits = absurd (omega arith)
  bytes-short (suc n) at [] h fits = refl
  bytes-short (suc n) at (b ∷ bs) h fits =
      let rest = bytes-short n (at + 1) bs (omega arith) (λ k g. fits (suc k) (omega arith)) in
      goes-on at b kind (bytes_that test kind n (at + 1) bs) (test b) (fits 0 (omega arith)) ∙ ap (λ r. and_then r (λ bs. done (b ∷ bs))) rest

-- ---- the first byte that passes, among so many

none-found : (t : Bool) (n : ℕ) → cond t (Some n) None ≡ None → t ≡ false
none-found true n h = cc
none-found false n h = refl

none-passes : (p : ℕ → Bool) (xs : List ℕ) → position p xs ≡ None → (k : ℕ) → k < length xs → p (get_or xs k 0) ≡ false
none-passes p xs h k l =
    let past = ltb-false (position_or_len p xs) (length xs) (none-found _ _ h) in
    fails_before_first p xs k 0 (omega arith)

module _ (p : ℕ → Bool) (xs : List ℕ) (m : ℕ) (within : m ≤ length xs) where
  pub at-first : (n : ℕ) → position p (take m xs) ≡ Some n → (n < m) × (p (get_or xs n 0) ≡ true)
  at-first n h =
      let found = position-Some p (take m xs) n 0 h in
      let long = length-take-le m xs within in
      let inside : n < m = omega arith in
      (inside, ap p (sym (get_or-take m xs n 0 inside)) ∙ found.1)

  pub before-first : (n : ℕ) → position p (take m xs) ≡ Some n → (k : ℕ) → k < n → p (get_or xs k 0) ≡ false
  before-first n h k l =
      let found = position-Some p (take m xs) n 0 h in
      let long = length-take-le m xs within in
      let inside : k < m = omega arith in
      ap p (sym (get_or-take m xs k 0 inside)) ∙ found.2 k l

  pub without-first : position p (take m xs) ≡ None → (k : ℕ) → k < m → p (get_or xs k 0) ≡ false
  without-first h k l =
      let long = length-take-le m xs within in
      ap p (sym (get_or-take m xs k 0 l)) ∙ none-passes p (take m xs) h k (omega arith)
