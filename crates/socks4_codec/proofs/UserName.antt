-- The user and the name of a request, in the bytes.
use Rattle.std.proofs.Common.{ℕ, suc, zero, ◌≡◌, ◌≢◌, ◌⊎◌, inl, inr, ◌+◌, ◌-◌, ◌<◌, ◌≤◌, min, Bool, true, false, ◌&&◌, nat_lt, not, ◌==◌, Some, None, List, [], ◌∷◌, length, take, drop, get_or, position, refl, sym, ap, ◌∙◌, arith, length-drop, eqb-true, eq-eqb}
use Rattle.std.proofs.lemmas.Bool.{ltb-true, ltb-false}
use Rattle.std.proofs.lemmas.List.{drop-drop}
use Rattle.addr_pattern.specs.declared.front.BadKind.{BadKind}
use Rattle.socks_grammar.specs.Grammar.{Read, Reader, ended_by_zero, name4}
use Rattle.addr_pattern.specs.Names.{is_name_byte}
use Rattle.socks4_codec.specs.Placed.{bytes_in}
use Rattle.socks4_codec.specs.Reads.{IsEnded}
use Rattle.socks4_codec.proofs.Ended.{false-unless, ended-got, ended-wrong, ended-short, name-ended, name-empty, name_byte-not-zero, at-first, before-first, without-first}

pub ended-is : (read : Reader (List ℕ)) (bytes xs : List ℕ) (at n : ℕ) → xs ≡ drop at bytes → at ≤ length bytes → n < length xs
    → read at xs ≡ Read.Got (take n xs) (at + suc n) (drop (suc n) xs)
    → IsEnded read bytes at (record { at = at; len = n })
ended-is read bytes xs at n rest h l e =
    let size : at + n - at ≡ n = omega arith in
    let place : at + suc n ≡ at + n + 1 = omega arith in
    let long = length-drop at bytes in
    let short = ap length rest in
    let behind : drop (suc n) xs ≡ drop (at + n + 1) bytes = ap (drop (suc n)) rest ∙ (drop-drop (suc n) at bytes ∙ ap (λ m. drop m bytes) place) in
    let part : take n xs ≡ bytes_in bytes (record { at = at; len = n }) = ap (take n) rest ∙ ap (λ m. take m (drop at bytes)) (sym size) in
    record {
      spelled = ap (read at) (sym rest) ∙ (e ∙ (ap (λ m. Read.Got (take n xs) m (drop (suc n) xs)) place
          ∙ (ap (λ (r : List ℕ). Read.Got (take n xs) (at + n + 1) r) behind
          ∙ ap (λ (r : List ℕ). Read.Got r (at + n + 1) (drop (at + n + 1) bytes)) part)));
      begins = refl;
      inside = omega arith;
    }

not-true : (t : Bool) → not t ≡ true → t ≡ false
not-true true h = cc
not-true false h = refl

not-false : (t : Bool) → not t ≡ false → t ≡ true
not-false true h = refl
not-false false h = cc

begins-name : (at : ℕ) (xs : List ℕ) → (0 < length xs → (get_or xs 0 0 == 0) ≡ false) → name4 at xs ≡ ended_by_zero is_name_byte 255 at xs
begins-name at [] h = refl
begins-name at (b ∷ bs) h = name-ended at (b ∷ bs) (h (omega arith))

-- ---- where a name ends

pub is-ended : (n b : ℕ) → (nat_lt 0 n && b == 0) ≡ true → (0 < n) × (b ≡ 0)
is-ended n b e = both (nat_lt 0 n) (b == 0) refl refl e
  where
    both : (t u : Bool) → nat_lt 0 n ≡ t → (b == 0) ≡ u → (t && u) ≡ true → (0 < n) × (b ≡ 0)
    both true true p q e = (ltb-true 0 n p, eqb-true b 0 q)
    both true false p q e = cc
    both false u p q e = cc

pub not-ended : (n b : ℕ) → (nat_lt 0 n && b == 0) ≡ false → (n ≤ 0) ⊎ (b ≢ 0)
not-ended n b e = either (nat_lt 0 n) (b == 0) refl refl e
  where
    either : (t u : Bool) → nat_lt 0 n ≡ t → (b == 0) ≡ u → (t && u) ≡ false → (n ≤ 0) ⊎ (b ≢ 0)
    either false u p q e = inl (ltb-false 0 n p)
    either true true p q e = cc
    either true false p q e = inr (λ z.
        let both : false ≡ true = sym q ∙ eq-eqb b 0 z in
        cc)

-- the bytes from a place on, of which so many are looked at
module _ (bytes xs : List ℕ) (at m : ℕ) (rest : xs ≡ drop at bytes) (is : m ≡ min (length xs) 256) where
  moved : {A : Type 0} (read : Reader A) (x : Read A) → read at xs ≡ x → read at (drop at bytes) ≡ x
  moved read x e = ap (read at) (sym rest) ∙ e

  pub user-whole : (n : ℕ) → at ≤ length bytes → position (λ b. b == 0) (take m xs) ≡ Some n
      → IsEnded (ended_by_zero (λ _. true) 255) bytes at (record { at = at; len = n })
  user-whole n h found =
      let first = at-first (λ b. b == 0) xs m is n found in
      ended-is (ended_by_zero (λ _. true) 255) bytes xs at n rest h first.0
      (ended-got (λ _. true) 255 at n (at + suc n) xs (omega arith) first.0 (eqb-true _ 0 first.2) (before-first (λ b. b == 0) xs m is n found) (λ k g. refl) refl)

  pub user-short : position (λ b. b == 0) (take m xs) ≡ None → length xs < 256 → ended_by_zero (λ _. true) 255 at (drop at bytes) ≡ Read.Short
  user-short none h = moved (ended_by_zero (λ _. true) 255) Read.Short
      (ended-short (λ _. true) 255 at xs (omega arith) (λ k g. without-first (λ b. b == 0) xs m is none k (omega arith)) (λ k g. refl))

  pub user-wrong : position (λ b. b == 0) (take m xs) ≡ None → 256 ≤ length xs
      → ended_by_zero (λ _. true) 255 at (drop at bytes) ≡ Read.Wrong (at + 255) (get_or xs 255 0) BadKind.Field
  user-wrong none h = moved (ended_by_zero (λ _. true) 255) (Read.Wrong (at + 255) (get_or xs 255 0) BadKind.Field)
      (ended-wrong (λ _. true) 255 at 255 (at + 255) xs (omega arith) (omega arith) (without-first (λ b. b == 0) xs m is none 255 (omega arith))
      (λ g. absurd (omega arith)) (λ k g. without-first (λ b. b == 0) xs m is none k (omega arith)) (λ k g. refl) refl)

  -- the bytes before the first that is no byte of a name
  printing-before : (n : ℕ) → position (λ b. not (is_name_byte b)) (take m xs) ≡ Some n → (k : ℕ) → k < n → is_name_byte (get_or xs k 0) ≡ true
  printing-before n found k h = not-false _ (before-first (λ b. not (is_name_byte b)) xs m is n found k h)

  printing : position (λ b. not (is_name_byte b)) (take m xs) ≡ None → (k : ℕ) → k < m → is_name_byte (get_or xs k 0) ≡ true
  printing none k h = not-false _ (without-first (λ b. not (is_name_byte b)) xs m is none k h)

  pub name-whole : (n : ℕ) → at ≤ length bytes → position (λ b. not (is_name_byte b)) (take m xs) ≡ Some n → 0 < n → get_or xs n 0 ≡ 0
      → IsEnded name4 bytes at (record { at = at; len = n })
  name-whole n h found some zero-byte =
      let first = at-first (λ b. not (is_name_byte b)) xs m is n found in
      let fits = printing-before n found in
      ended-is name4 bytes xs at n rest h first.0
      (name-ended at xs (name_byte-not-zero _ (fits 0 (omega arith)))
      ∙ ended-got is_name_byte 255 at n (at + suc n) xs (omega arith) first.0 zero-byte (λ k g. name_byte-not-zero _ (fits k g)) fits refl)

  name-wrong : (n : ℕ) → position (λ b. not (is_name_byte b)) (take m xs) ≡ Some n → 0 < n → (get_or xs n 0 == 0) ≡ false
      → name4 at (drop at bytes) ≡ Read.Wrong (at + n) (get_or xs n 0) BadKind.Field
  name-wrong n found some other =
      let first = at-first (λ b. not (is_name_byte b)) xs m is n found in
      let fits = printing-before n found in
      moved name4 (Read.Wrong (at + n) (get_or xs n 0) BadKind.Field)
      (name-ended at xs (name_byte-not-zero _ (fits 0 (omega arith)))
      ∙ ended-wrong is_name_byte 255 at n (at + n) xs (omega arith) first.0 other (λ g. not-true _ first.2) (λ k g. name_byte-not-zero _ (fits k g)) fits refl)

  first-wrong : (z : Bool) → (get_or xs 0 0 == 0) ≡ z → 0 < length xs → is_name_byte (get_or xs 0 0) ≡ false
      → name4 at xs ≡ Read.Wrong at (get_or xs 0 0) BadKind.Field
  first-wrong true e some bad =
      let zero-byte = eqb-true (get_or xs 0 0) 0 e in
      name-empty at xs some zero-byte ∙ ap (λ b. Read.Wrong at b BadKind.Field) (sym zero-byte)
  first-wrong false e some bad =
      name-ended at xs e ∙ ended-wrong is_name_byte 255 at 0 at xs (omega arith) some e (λ g. bad) (λ k g. absurd (omega arith)) (λ k g. absurd (omega arith)) (omega arith)

  name-wrong-first : position (λ b. not (is_name_byte b)) (take m xs) ≡ Some 0 → name4 at (drop at bytes) ≡ Read.Wrong (at + 0) (get_or xs 0 0) BadKind.Field
  name-wrong-first found =
      let first = at-first (λ b. not (is_name_byte b)) xs m is 0 found in
      let place : at ≡ at + 0 = omega arith in
      moved name4 (Read.Wrong (at + 0) (get_or xs 0 0) BadKind.Field)
      (first-wrong (get_or xs 0 0 == 0) refl first.0 (not-true _ first.2) ∙ ap (λ p. Read.Wrong p (get_or xs 0 0) BadKind.Field) place)

  pub name-unfit : (n : ℕ) → position (λ b. not (is_name_byte b)) (take m xs) ≡ Some n → (n ≤ 0) ⊎ (get_or xs n 0 ≢ 0)
      → name4 at (drop at bytes) ≡ Read.Wrong (at + n) (get_or xs n 0) BadKind.Field
  name-unfit zero found why = name-wrong-first found
  name-unfit (suc n) found (inl none) = absurd (omega arith)
  name-unfit (suc n) found (inr other) = name-wrong (suc n) found (omega arith) (false-unless _ (λ e. other (eqb-true _ 0 e)))

  name-beginning : position (λ b. not (is_name_byte b)) (take m xs) ≡ None → name4 at xs ≡ ended_by_zero is_name_byte 255 at xs
  name-beginning none = begins-name at xs (λ some. name_byte-not-zero _ (printing none 0 (omega arith)))

  pub name-short : position (λ b. not (is_name_byte b)) (take m xs) ≡ None → length xs < 256 → name4 at (drop at bytes) ≡ Read.Short
  name-short none h = moved name4 Read.Short
      (name-beginning none
      ∙ ended-short is_name_byte 255 at xs (omega arith) (λ k g. name_byte-not-zero _ (printing none k (omega arith))) (λ k g. printing none k (omega arith)))

  pub name-long : position (λ b. not (is_name_byte b)) (take m xs) ≡ None → 256 ≤ length xs
      → name4 at (drop at bytes) ≡ Read.Wrong (at + 255) (get_or xs 255 0) BadKind.Field
  name-long none h = moved name4 (Read.Wrong (at + 255) (get_or xs 255 0) BadKind.Field)
      (name-beginning none
      ∙ ended-wrong is_name_byte 255 at 255 (at + 255) xs (omega arith) (omega arith) (name_byte-not-zero _ (printing none 255 (omega arith)))
      (λ g. absurd (omega arith)) (λ k g. name_byte-not-zero _ (printing none k (omega arith))) (λ k g. printing none k (omega arith)) refl)
