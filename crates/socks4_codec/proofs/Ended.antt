-- Bytes that end with a 00, by the place of the first byte that ends them.
use Rattle.std.proofs.Common.{ℕ, zero, suc, ◌≡◌, ◌+◌, ◌<◌, ◌≤◌, min, Bool, true, false, cond, ◌==◌, Some, None, List, [], ◌∷◌, length, take, drop, get_or, position, refl, sym, ap, ◌∙◌, arith, length-take, get_or-take, eqb-true, eq-eqb}
use Rattle.std.specs.List.{position_or_len}
use Rattle.std.proofs.lemmas.Bool.{ltb-false}
use Rattle.std.proofs.lemmas.List.Sums.{fails_before_first}
use Rattle.std.proofs.lemmas.List.Quantifiers.{position-Some}
use Rattle.addr_pattern.specs.declared.front.BadKind.{BadKind}
use Rattle.socks_grammar.specs.Grammar.{Read, and_then, done, ended_by_zero, name4}
use Rattle.addr_pattern.specs.Names.{is_name_byte}

-- ---- a part that ends with a 00

pub false-unless : (t : Bool) → (t ≡ true → ⊥) → t ≡ false
false-unless true h = absurd (h refl)
false-unless false h = refl

module _ (at b : ℕ) (bs : List ℕ) (r : Read (List ℕ)) where
  -- what is read in front of the bytes, by whether the first is 00 and whether it passes
  abbrev pub first-read : Bool → Bool → Read (List ℕ)
  first-read z t = elim z [
    | true ↦ Read.Got [] (at + 1) bs
    | false ↦ elim t [ true ↦ and_then r (λ bs. done (b ∷ bs)) | false ↦ Read.Wrong at b BadKind.Field ]
  ]

  ends : (z t : Bool) → z ≡ true → first-read z t ≡ Read.Got [] (at + 1) bs
  ends true t e = refl
  ends false t e = cc

  pub goes-on : (z t : Bool) → z ≡ false → t ≡ true → first-read z t ≡ and_then r (λ bs. done (b ∷ bs))
  goes-on true t e f = cc
  goes-on false true e f = refl
  goes-on false false e f = cc

  is-wrong : (z t : Bool) → z ≡ false → t ≡ false → first-read z t ≡ Read.Wrong at b BadKind.Field
  is-wrong true t e f = cc
  is-wrong false true e f = cc
  is-wrong false false e f = refl

pub ended-got : (test : ℕ → Bool) (room at n end : ℕ) (xs : List ℕ) → n ≤ room → n < length xs → get_or xs n 0 ≡ 0
    → ((k : ℕ) → k < n → (get_or xs k 0 == 0) ≡ false) → ((k : ℕ) → k < n → test (get_or xs k 0) ≡ true) → at + suc n ≡ end
    → ended_by_zero test room at xs ≡ Read.Got (take n xs) end (drop (suc n) xs)
ended-got test room at n end [] h l z others fits e = absurd (omega arith)
ended-got test zero at zero end (b ∷ bs) h l z others fits e =
    let place : at + 1 ≡ end = omega arith in
    rw (eq-eqb b 0 z) (ap (λ m. Read.Got [] m bs) place)
ended-got test (suc room) at zero end (b ∷ bs) h l z others fits e =
    let place : at + 1 ≡ end = omega arith in
    ends at b bs (ended_by_zero test room (at + 1) bs) (b == 0) (test b) (eq-eqb b 0 z) ∙ ap (λ m. Read.Got [] m bs) place
ended-got test zero at (suc n) end (b ∷ bs) h l z others fits e = absurd (omega arith)
ended-got test (suc room) at (suc n) end (b ∷ bs) h l z others fits e =
    let rest = ended-got test room (at + 1) n end bs (omega arith) (omega arith) z (λ k g. others (suc k) (omega arith)) (λ k g. fits (suc k) (omega arith)) (omega arith) in
    goes-on at b bs (ended_by_zero test room (at + 1) bs) (b == 0) (test b) (others 0 (omega arith)) (fits 0 (omega arith))
    ∙ ap (λ r. and_then r (λ bs. done (b ∷ bs))) rest

pub ended-wrong : (test : ℕ → Bool) (room at n place : ℕ) (xs : List ℕ) → n ≤ room → n < length xs → (get_or xs n 0 == 0) ≡ false
    → (n < room → test (get_or xs n 0) ≡ false)
    → ((k : ℕ) → k < n → (get_or xs k 0 == 0) ≡ false) → ((k : ℕ) → k < n → test (get_or xs k 0) ≡ true) → at + n ≡ place
    → ended_by_zero test room at xs ≡ Read.Wrong place (get_or xs n 0) BadKind.Field
ended-wrong test room at n place [] h l z unfit others fits e = absurd (omega arith)
ended-wrong test zero at zero place (b ∷ bs) h l z unfit others fits e =
    let same : at ≡ place = omega arith in
    rw z (ap (λ m. Read.Wrong m b BadKind.Field) same)
ended-wrong test (suc room) at zero place (b ∷ bs) h l z unfit others fits e =
    let same : at ≡ place = omega arith in
    is-wrong at b bs (ended_by_zero test room (at + 1) bs) (b == 0) (test b) z (unfit (omega arith)) ∙ ap (λ m. Read.Wrong m b BadKind.Field) same
ended-wrong test zero at (suc n) place (b ∷ bs) h l z unfit others fits e = absurd (omega arith)
ended-wrong test (suc room) at (suc n) place (b ∷ bs) h l z unfit others fits e =
    let rest = ended-wrong test room (at + 1) n place bs (omega arith) (omega arith) z (λ g. unfit (omega arith)) (λ k g. others (suc k) (omega arith)) (λ k g. fits (suc k) (omega arith)) (omega arith) in
    goes-on at b bs (ended_by_zero test room (at + 1) bs) (b == 0) (test b) (others 0 (omega arith)) (fits 0 (omega arith))
    ∙ ap (λ r. and_then r (λ bs. done (b ∷ bs))) rest

pub ended-short : (test : ℕ → Bool) (room at : ℕ) (xs : List ℕ) → length xs ≤ room
    → ((k : ℕ) → k < length xs → (get_or xs k 0 == 0) ≡ false) → ((k : ℕ) → k < length xs → test (get_or xs k 0) ≡ true)
    → ended_by_zero test room at xs ≡ Read.Short
ended-short test zero at [] h others fits = refl
ended-short test (suc room) at [] h others fits = refl
ended-short test zero at (b ∷ bs) h others fits = absurd (omega arith)
ended-short test (suc room) at (b ∷ bs) h others fits =
    let rest = ended-short test room (at + 1) bs (omega arith) (λ k g. others (suc k) (omega arith)) (λ k g. fits (suc k) (omega arith)) in
    goes-on at b bs (ended_by_zero test room (at + 1) bs) (b == 0) (test b) (others 0 (omega arith)) (fits 0 (omega arith))
    ∙ ap (λ r. and_then r (λ bs. done (b ∷ bs))) rest

-- ---- a name

name-cases : (z t : Bool) (b at : ℕ) (bs : List ℕ) → z ≡ false
    → and_then (cond t (Read.Got b (at + 1) bs) (Read.Wrong at b BadKind.Field)) (λ first at bs. and_then (ended_by_zero is_name_byte 254 at bs) (λ rest. done (first ∷ rest)))
    ≡ first-read at b bs (ended_by_zero is_name_byte 254 (at + 1) bs) z t
name-cases true t b at bs e = cc
name-cases false true b at bs e = refl
name-cases false false b at bs e = refl

-- a name is bytes that end with a 00, which isn't the first
pub name-ended : (at : ℕ) (xs : List ℕ) → (get_or xs 0 0 == 0) ≡ false → name4 at xs ≡ ended_by_zero is_name_byte 255 at xs
name-ended at [] h = refl
name-ended at (b ∷ bs) h = name-cases (b == 0) (is_name_byte b) b at bs h

pub name-empty : (at : ℕ) (xs : List ℕ) → 0 < length xs → get_or xs 0 0 ≡ 0 → name4 at xs ≡ Read.Wrong at 0 BadKind.Field
name-empty at [] h e = absurd (omega arith)
name-empty at (b ∷ bs) h e = rw e refl

pub name_byte-not-zero : (b : ℕ) → is_name_byte b ≡ true → (b == 0) ≡ false
name_byte-not-zero b h = false-unless (b == 0) (λ e.
    let zero-byte : is_name_byte b ≡ false = ap is_name_byte (eqb-true b 0 e) in
    let both : true ≡ false = sym h ∙ zero-byte in
    cc)

-- ---- the first byte that ends a part, among so many

none-found : (t : Bool) (n : ℕ) → cond t (Some n) None ≡ None → t ≡ false
none-found true n h = cc
none-found false n h = refl

none-passes : (p : ℕ → Bool) (xs : List ℕ) → position p xs ≡ None → (k : ℕ) → k < length xs → p (get_or xs k 0) ≡ false
none-passes p xs h k l =
    let past = ltb-false (position_or_len p xs) (length xs) (none-found _ _ h) in
    fails_before_first p xs k 0 (omega arith)

module _ (p : ℕ → Bool) (xs : List ℕ) (m : ℕ) (is : m ≡ min (length xs) 256) where
  length-window : length (take m xs) ≡ m
  length-window = length-take m xs ∙ omega arith

  pub at-first : (n : ℕ) → position p (take m xs) ≡ Some n → (n < length xs) × (n < 256) × (p (get_or xs n 0) ≡ true)
  at-first n h =
      let found = position-Some p (take m xs) n 0 h in
      let long = length-window in
      let within : n < m = omega arith in
      (omega arith, omega arith, ap p (sym (get_or-take m xs n 0 within)) ∙ found.1)

  pub before-first : (n : ℕ) → position p (take m xs) ≡ Some n → (k : ℕ) → k < n → p (get_or xs k 0) ≡ false
  before-first n h k l =
      let found = position-Some p (take m xs) n 0 h in
      let long = length-window in
      let within : k < m = omega arith in
      ap p (sym (get_or-take m xs k 0 within)) ∙ found.2 k l

  pub without-first : position p (take m xs) ≡ None → (k : ℕ) → k < m → p (get_or xs k 0) ≡ false
  without-first h k l =
      let long = length-window in
      ap p (sym (get_or-take m xs k 0 l)) ∙ none-passes p (take m xs) h k (omega arith)
