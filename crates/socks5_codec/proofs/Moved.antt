-- Readers that read the same at any place.
use Rattle.std.proofs.Common.{ℕ, zero, suc, ◌≡◌, ◌+◌, Bool, true, false, cond, ◌==◌, List, [], ◌∷◌, refl, ap, ◌∙◌, arith}
use Rattle.std.specs.Int.{w16, w32, w128, from_be_bytes}
use Rattle.addr_pattern.specs.declared.front.BadKind.{BadKind}
use Rattle.socks_grammar.specs.Grammar.{Read, Reader, ◌>>=◌, and_then, done, byte_that, any_byte, any_bytes, bytes_that, number16, number32, number128, name5, is_atyp, host_by_type, host5, request5, reply5_head}
use Rattle.addr_pattern.specs.Names.{is_name_byte}
use Rattle.socks5_codec.specs.Laws.{moved_by, IsSameAnywhere}
use Rattle.socks5_codec.specs.Parts.{host_spelled, typed_host, destination, request_spelled, reply5}

-- a reader that is the same at each place behind another
record Moves {A : Type 0} (read : Reader A) : Type 0 where
  pub law : (by at : ℕ) (bytes : List ℕ) → read (by + at) bytes ≡ moved_by by (read at bytes)

moved-bind : {A B : Type 0} (f : A → Reader B) → ((a : A) → Moves (f a)) → (by : ℕ) (r : Read A) → and_then (moved_by by r) f ≡ moved_by by (and_then r f)
moved-bind f each by (Read.Got a at rest) = (each a).law by at rest
moved-bind f each by Read.Short = refl
moved-bind f each by (Read.Wrong at byte kind) = refl

bind-moves : {A B : Type 0} (read : Reader A) (f : A → Reader B) → Moves read → ((a : A) → Moves (f a)) → Moves (read >>= f)
bind-moves read f good each = record { law = λ by at bytes. ap (λ r. and_then r f) (good.law by at bytes) ∙ moved-bind f each by (read at bytes) }

done-moves : {A : Type 0} (a : A) → Moves (done a)
done-moves a = record { law = λ by at bytes. refl }

cond-moves : {A : Type 0} (t : Bool) (x y : Reader A) → Moves x → Moves y → Moves (cond t x y)
cond-moves true x y p q = p
cond-moves false x y p q = q

-- ---- bytes

module _ (test : ℕ → Bool) (kind : BadKind) where
  chosen-moves : (t : Bool) (by at b : ℕ) (bs : List ℕ)
      → cond t (Read.Got b (by + at + 1) bs) (Read.Wrong (by + at) b kind) ≡ moved_by by (cond t (Read.Got b (at + 1) bs) (Read.Wrong at b kind))
  chosen-moves true by at b bs =
      let place : by + at + 1 ≡ by + (at + 1) = omega arith in
      ap (λ n. Read.Got b n bs) place
  chosen-moves false by at b bs = refl

  byte-law : (by at : ℕ) (bytes : List ℕ) → byte_that test kind (by + at) bytes ≡ moved_by by (byte_that test kind at bytes)
  byte-law by at [] = refl
  byte-law by at (b ∷ bs) = chosen-moves (test b) by at b bs

  byte-moves : Moves (byte_that test kind)
  byte-moves = record { law = byte-law }

  more-moves : (t : Bool) (by at b : ℕ) (x y : Read (List ℕ)) → x ≡ moved_by by y
      → elim t [ true ↦ and_then x (λ bs. done (b ∷ bs)) | false ↦ Read.Wrong (by + at) b kind ]
      ≡ moved_by by (elim t [ true ↦ and_then y (λ bs. done (b ∷ bs)) | false ↦ Read.Wrong at b kind ])
  more-moves true by at b x y e = ap (λ r. and_then r (λ bs. done (b ∷ bs))) e ∙ moved-bind (λ bs. done (b ∷ bs)) (λ bs. done-moves (b ∷ bs)) by y
  more-moves false by at b x y e = refl

  bytes-law : (n by at : ℕ) (bytes : List ℕ) → bytes_that test kind n (by + at) bytes ≡ moved_by by (bytes_that test kind n at bytes)
  bytes-law zero by at bytes = refl
  bytes-law (suc n) by at [] = refl
  bytes-law (suc n) by at (b ∷ bs) =
      let place : by + at + 1 ≡ by + (at + 1) = omega arith in
      more-moves (test b) by at b (bytes_that test kind n (by + at + 1) bs) (bytes_that test kind n (at + 1) bs)
      (ap (λ m. bytes_that test kind n m bs) place ∙ bytes-law n by (at + 1) bs)

  bytes-moves : (n : ℕ) → Moves (bytes_that test kind n)
  bytes-moves n = record { law = bytes-law n }

any_bytes-moves : (n : ℕ) → Moves (any_bytes n)
any_bytes-moves n = bytes-moves (λ _. true) BadKind.Field n

number16-moves : Moves number16
number16-moves = bind-moves (any_bytes 2) (λ bs. done (from_be_bytes w16 bs)) (any_bytes-moves 2) (λ bs. done-moves _)

number32-moves : Moves number32
number32-moves = bind-moves (any_bytes 4) (λ bs. done (from_be_bytes w32 bs)) (any_bytes-moves 4) (λ bs. done-moves _)

number128-moves : Moves number128
number128-moves = bind-moves (any_bytes 16) (λ bs. done (from_be_bytes w128 bs)) (any_bytes-moves 16) (λ bs. done-moves _)

name5-moves : Moves name5
name5-moves = bind-moves _ _ (byte-moves _ _) (λ count. bytes-moves is_name_byte BadKind.Field count)

-- ---- a host and a port

host_spelled-moves : (atyp : ℕ) → Moves (host_spelled atyp)
host_spelled-moves atyp = cond-moves (atyp == 1) _ _ (bind-moves number32 _ number32-moves (λ n. done-moves _))
    (cond-moves (atyp == 4) _ _ (bind-moves number128 _ number128-moves (λ n. done-moves _)) (bind-moves name5 _ name5-moves (λ name. done-moves _)))

host_by_type-moves : (atyp : ℕ) → Moves (host_by_type atyp)
host_by_type-moves atyp = cond-moves (atyp == 1) _ _ (bind-moves number32 _ number32-moves (λ n. done-moves _))
    (cond-moves (atyp == 4) _ _ (bind-moves number128 _ number128-moves (λ n. done-moves _)) (bind-moves name5 _ name5-moves (λ name. done-moves _)))

typed_host-moves : Moves typed_host
typed_host-moves = bind-moves _ host_spelled (byte-moves is_atyp BadKind.Atyp) host_spelled-moves

host5-moves : Moves host5
host5-moves = bind-moves _ host_by_type (byte-moves is_atyp BadKind.Atyp) host_by_type-moves

destination-moves : Moves destination
destination-moves = bind-moves typed_host _ typed_host-moves (λ host. bind-moves number16 _ number16-moves (λ port. done-moves _))

-- ---- the messages

any_byte-moves : Moves any_byte
any_byte-moves = byte-moves (λ _. true) BadKind.Field

request_spelled-moves : Moves request_spelled
request_spelled-moves = bind-moves _ _ (byte-moves _ _) (λ version. bind-moves _ _ (byte-moves _ _) (λ code. bind-moves any_byte _ any_byte-moves (λ reserved.
    bind-moves destination _ destination-moves (λ d. done-moves _))))

request5-moves : Moves request5
request5-moves = bind-moves _ _ (byte-moves _ _) (λ version. bind-moves _ _ (byte-moves _ _) (λ code. bind-moves any_byte _ any_byte-moves (λ reserved.
    bind-moves host5 _ host5-moves (λ host. bind-moves number16 _ number16-moves (λ port. done-moves _)))))

reply5_head-moves : Moves reply5_head
reply5_head-moves = bind-moves _ _ (byte-moves _ _) (λ version. any_byte-moves)

reply5-moves : Moves reply5
reply5-moves = bind-moves reply5_head _ reply5_head-moves (λ code. bind-moves any_byte _ any_byte-moves (λ reserved. bind-moves destination _ destination-moves (λ d. done-moves _)))

anywhere : {A : Type 0} (read : Reader A) → Moves read → IsSameAnywhere read
anywhere read good at bytes =
    let place : at ≡ at + 0 = omega arith in
    ap (λ n. read n bytes) place ∙ good.law at 0 bytes

pub spelled_requests-anywhere : IsSameAnywhere request_spelled
spelled_requests-anywhere = anywhere request_spelled request_spelled-moves

pub requests-anywhere : IsSameAnywhere request5
requests-anywhere = anywhere request5 request5-moves

pub replies-anywhere : IsSameAnywhere reply5
replies-anywhere = anywhere reply5 reply5-moves
