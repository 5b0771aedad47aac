-- A name behind its length, in the bytes.
use Rattle.std.proofs.Common.{ℕ, suc, ◌≡◌, ◌≢◌, ◌+◌, ◌-◌, ◌<◌, ◌≤◌, min, Bool, true, false, not, ◌==◌, Some, None, List, [], ◌∷◌, length, take, drop, get_or, position, refl, sym, ap, ◌∙◌, arith, length-drop, get_or-take, eqb-true, length-take-le}
use Rattle.std.proofs.lemmas.List.{drop-drop}
use Rattle.addr_pattern.specs.declared.host.Host.{Host}
use Rattle.addr_pattern.specs.declared.front.BadKind.{BadKind}
use Rattle.socks_grammar.specs.Grammar.{Read, and_then, done, bytes_that, name5}
use Rattle.addr_pattern.specs.Names.{is_name_byte}
use Rattle.socks5_codec.specs.declared.message.HostAt.{HostAt}
use Rattle.socks5_codec.specs.Parts.{name_spelled}
use Rattle.socks5_codec.specs.Placed.{bytes_in}
use Rattle.socks5_codec.specs.Steps.{IsHostAt}
use Rattle.socks5_codec.proofs.Bytes.{bytes-got, bytes-wrong, bytes-short, at-first, before-first, without-first}
use Rattle.socks5_codec.proofs.Numbers.{host-is}

not-true : (t : Bool) → not t ≡ true → t ≡ false
not-true true h = cc
not-true false h = refl

not-false : (t : Bool) → not t ≡ false → t ≡ true
not-false true h = refl
not-false false h = cc

pub false-unless : (t : Bool) → (t ≡ true → ⊥) → t ≡ false
false-unless true h = absurd (h refl)
false-unless false h = refl

name-behind : (at : ℕ) (xs : List ℕ) → 1 ≤ length xs → (get_or xs 0 0 == 0) ≡ false
    → name5 at xs ≡ bytes_that is_name_byte BadKind.Field (get_or xs 0 0) (at + 1) (drop 1 xs)
name-behind at [] h e = absurd (omega arith)
name-behind at (b ∷ bs) h e = rw e refl

-- the bytes from a place on, and those behind the length of the name, of which so many are looked at
module _ (bytes xs rest : List ℕ) (at count m : ℕ) (from : xs ≡ drop at bytes) (behind : rest ≡ drop 1 xs) (some : 1 ≤ length xs) (is : count ≡ get_or xs 0 0)
    (other : count ≢ 0) (size : m ≡ min (length rest) count) where
  within : m ≤ length rest
  within = omega arith

  name-bytes : name5 at xs ≡ bytes_that is_name_byte BadKind.Field count (at + 1) rest
  name-bytes =
      let not-zero = false-unless (get_or xs 0 0 == 0) (λ e. other (is ∙ eqb-true _ 0 e)) in
      name-behind at xs some not-zero ∙ (ap (λ n. bytes_that is_name_byte BadKind.Field n (at + 1) (drop 1 xs)) (sym is)
      ∙ ap (bytes_that is_name_byte BadKind.Field count (at + 1)) (sym behind))

  -- what the name is read as, as a host
  host-read : (r : Read (List ℕ)) → bytes_that is_name_byte BadKind.Field count (at + 1) rest ≡ r → name_spelled at xs ≡ and_then r (λ name. done (Host.Name name))
  host-read r e = ap (λ r. and_then r (λ name. done (Host.Name name))) (name-bytes ∙ e)

  printing-before : (n : ℕ) → position (λ b. not (is_name_byte b)) (take m rest) ≡ Some n → (k : ℕ) → k < n → is_name_byte (get_or rest k 0) ≡ true
  printing-before n found k h = not-false _ (before-first (λ b. not (is_name_byte b)) rest m within n found k h)

  printing : position (λ b. not (is_name_byte b)) (take m rest) ≡ None → (k : ℕ) → k < m → is_name_byte (get_or rest k 0) ≡ true
  printing none k h = not-false _ (without-first (λ b. not (is_name_byte b)) rest m within none k h)

  pub name-wrong : (n : ℕ) → position (λ b. not (is_name_byte b)) (take m rest) ≡ Some n
      → name_spelled at (drop at bytes) ≡ Read.Wrong (at + 1 + n) (get_or (take m rest) n 0) BadKind.Field
  name-wrong n found =
      let first = at-first (λ b. not (is_name_byte b)) rest m within n found in
      ap (name_spelled at) (sym from)
      ∙ (host-read _ (bytes-wrong is_name_byte BadKind.Field count n (at + 1) (at + 1 + n) rest (omega arith) (omega arith) (not-true _ first.1) (printing-before n found) refl)
      ∙ ap (λ b. Read.Wrong (at + 1 + n) b BadKind.Field) (sym (get_or-take m rest n 0 first.0)))

  pub name-short : position (λ b. not (is_name_byte b)) (take m rest) ≡ None → length (take m rest) < count → name_spelled at (drop at bytes) ≡ Read.Short
  name-short none h =
      let long = length-take-le m rest within in
      ap (name_spelled at) (sym from)
      ∙ host-read Read.Short (bytes-short is_name_byte BadKind.Field count (at + 1) rest (omega arith) (λ k g. printing none k (omega arith)))

  pub name-whole : at ≤ length bytes → position (λ b. not (is_name_byte b)) (take m rest) ≡ None → count ≤ length (take m rest)
      → IsHostAt name_spelled bytes at (at + 1) (HostAt.Name (record { at = at + 1; len = count })) (at + 1 + count)
  name-whole h none l =
      let long = length-take-le m rest within in
      let short = ap length behind in
      let more = length-drop 1 xs in
      let all : rest ≡ drop (at + 1) bytes = behind ∙ (ap (drop 1) from ∙ drop-drop 1 at bytes) in
      let same : at + 1 + count - (at + 1) ≡ count = omega arith in
      let part : take count rest ≡ bytes_in bytes (record { at = at + 1; len = count }) = ap (take count) all ∙ ap (λ n. take n (drop (at + 1) bytes)) (sym same) in
      let place : at + suc count ≡ at + 1 + count = omega arith in
      let next : 1 + count ≡ suc count = omega arith in
      let end : drop count rest ≡ drop (suc count) xs = ap (drop count) behind ∙ (drop-drop count 1 xs ∙ ap (λ n. drop n xs) next) in
      let whole = host-is name_spelled bytes xs at (suc count) (at + 1) (HostAt.Name (record { at = at + 1; len = count })) from h (omega arith) (refl, omega arith)
      (host-read _ (bytes-got is_name_byte BadKind.Field count (at + 1) (at + suc count) rest (omega arith) (λ k g. printing none k (omega arith)) (omega arith))
      ∙ (ap (λ (r : List ℕ). Read.Got (Host.Name (take count rest)) (at + suc count) r) end
      ∙ ap (λ (r : List ℕ). Read.Got (Host.Name r) (at + suc count) (drop (suc count) xs)) part)) in
      rw place at whole
