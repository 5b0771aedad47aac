-- A login and a request read the same from every place on.
use Rattle.std.proofs.Common.{ℕ, zero, suc, ◌≡◌, ◌+◌, Bool, true, false, cond, List, [], ◌∷◌, refl, sym, ap, ◌∙◌, arith}
use Rattle.addr_pattern.specs.declared.front.BadKind.{BadKind}
use Rattle.socks_grammar.specs.Grammar.{Read, Reader, ◌>>=◌, and_then, done, byte_that, any_byte, bytes_that, any_bytes, number16, number32, number128, name5, host_by_type, host5, request5, login}
use Rattle.handshake_core.specs.Readers.{shifted, IsShifting}
use Rattle.handshake_core.proofs.Tight.{one_by_one, as-one-by-one}

then-shifts : {A B : Type 0} (next : A → Reader B) (n : ℕ) (x : Read A) → ((a : A) → IsShifting (next a)) → and_then (shifted n x) next ≡ shifted n (and_then x next)
then-shifts next n (Read.Got a at rest) each = (each a).law n at rest
then-shifts next n Read.Short each = refl
then-shifts next n (Read.Wrong at byte kind) each = refl

bind-shifts : {A B : Type 0} (read : Reader A) (next : A → Reader B) → IsShifting read → ((a : A) → IsShifting (next a)) → IsShifting (read >>= next)
bind-shifts read next h each = record { law = λ n at bytes. ap (λ x. and_then x next) (h.law n at bytes) ∙ then-shifts next n (read at bytes) each }

done-shifts : {A : Type 0} (a : A) → IsShifting (done a)
done-shifts a = record { law = λ n at bytes. refl }

if-shifts : {A : Type 0} (t : Bool) (x y : Reader A) → IsShifting x → IsShifting y → IsShifting (cond t x y)
if-shifts true x y p q = p
if-shifts false x y p q = q

byte-at : (t : Bool) (n b at : ℕ) (kind : BadKind) (bytes : List ℕ)
    → ◌≡◌ {A = Read ℕ} (cond t (Read.Got b (n + at + 1) bytes) (Read.Wrong (n + at) b kind)) (shifted n (cond t (Read.Got b (at + 1) bytes) (Read.Wrong at b kind)))
byte-at true n b at kind bytes = let e : n + at + 1 ≡ n + (at + 1) = omega arith in ap (λ k. Read.Got b k bytes) e
byte-at false n b at kind bytes = refl

byte-law : (test : ℕ → Bool) (kind : BadKind) (n at : ℕ) (bytes : List ℕ) → byte_that test kind (n + at) bytes ≡ shifted n (byte_that test kind at bytes)
byte-law test kind n at [] = refl
byte-law test kind n at (b ∷ bytes) = byte-at (test b) n b at kind bytes

byte-shifts : (test : ℕ → Bool) (kind : BadKind) → IsShifting (byte_that test kind)
byte-shifts test kind = record { law = byte-law test kind }

same-shifts : {A : Type 0} (read other : Reader A) → ((at : ℕ) (bytes : List ℕ) → read at bytes ≡ other at bytes) → IsShifting other → IsShifting read
same-shifts read other same h = record { law = λ n at bytes. same (n + at) bytes ∙ (h.law n at bytes ∙ ap (shifted n) (sym (same at bytes))) }

bytes-shifts : (test : ℕ → Bool) (kind : BadKind) (n : ℕ) → IsShifting (bytes_that test kind n)
bytes-shifts test kind zero = record { law = λ n at bytes. refl }
bytes-shifts test kind (suc n) = same-shifts (bytes_that test kind (suc n)) (one_by_one test kind n) (as-one-by-one test kind n)
    (bind-shifts _ _ (byte-shifts test kind) (λ b. bind-shifts _ _ (bytes-shifts test kind n) (λ bs. done-shifts _)))

any_byte-shifts : IsShifting any_byte
any_byte-shifts = byte-shifts (λ _. true) BadKind.Field

any_bytes-shifts : (n : ℕ) → IsShifting (any_bytes n)
any_bytes-shifts n = bytes-shifts (λ _. true) BadKind.Field n

number16-shifts : IsShifting number16
number16-shifts = bind-shifts (any_bytes 2) _ (any_bytes-shifts 2) (λ bs. done-shifts _)

number32-shifts : IsShifting number32
number32-shifts = bind-shifts (any_bytes 4) _ (any_bytes-shifts 4) (λ bs. done-shifts _)

number128-shifts : IsShifting number128
number128-shifts = bind-shifts (any_bytes 16) _ (any_bytes-shifts 16) (λ bs. done-shifts _)

name5-shifts : IsShifting name5
name5-shifts = bind-shifts _ _ (byte-shifts _ _) (λ count. bytes-shifts _ _ count)

host_by_type-shifts : (atyp : ℕ) → IsShifting (host_by_type atyp)
host_by_type-shifts atyp = if-shifts _ _ _ (bind-shifts number32 _ number32-shifts (λ n. done-shifts _))
    (if-shifts _ _ _ (bind-shifts number128 _ number128-shifts (λ n. done-shifts _)) (bind-shifts name5 _ name5-shifts (λ name. done-shifts _)))

host5-shifts : IsShifting host5
host5-shifts = bind-shifts _ _ (byte-shifts _ _) (λ atyp. host_by_type-shifts atyp)

request5-shifts : IsShifting request5
request5-shifts = bind-shifts _ _ (byte-shifts _ _) (λ version. bind-shifts _ _ (byte-shifts _ _) (λ code. bind-shifts any_byte _ any_byte-shifts (λ reserved.
    bind-shifts host5 _ host5-shifts (λ host. bind-shifts number16 _ number16-shifts (λ port. done-shifts _)))))

login-shifts : IsShifting login
login-shifts = bind-shifts _ _ (byte-shifts _ _) (λ version. bind-shifts any_byte _ any_byte-shifts (λ n. bind-shifts (any_bytes n) _ (any_bytes-shifts n) (λ name.
    bind-shifts any_byte _ any_byte-shifts (λ m. bind-shifts (any_bytes m) _ (any_bytes-shifts m) (λ password. done-shifts _)))))

from-front : {A : Type 0} (read : Reader A) → IsShifting read → (n : ℕ) (bytes : List ℕ) → read n bytes ≡ shifted n (read 0 bytes)
from-front read h n bytes = let e : n ≡ n + 0 = omega arith in ap (λ k. read k bytes) e ∙ h.law n 0 bytes

pub request5-at : (n : ℕ) (bytes : List ℕ) → request5 n bytes ≡ shifted n (request5 0 bytes)
request5-at n bytes = from-front request5 request5-shifts n bytes

pub login-at : (n : ℕ) (bytes : List ℕ) → login n bytes ≡ shifted n (login 0 bytes)
login-at n bytes = from-front login login-shifts n bytes
