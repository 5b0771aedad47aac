-- A reader's place grows by what it reads, and so no message ends behind its input.
use Rattle.std.proofs.Common.{ℕ, zero, suc, ◌≡◌, ◌≤◌, ◌+◌, ◌==◌, Bool, true, false, cond, not, Option, Some, None, List, [], ◌∷◌, length, refl, sym, subst, ◌∙◌, arith}
use Rattle.addr_pattern.specs.declared.front.BadKind.{BadKind}
use Rattle.socks_grammar.specs.Grammar.{Read, Reader, Asked, Credentials, ◌>>=◌, and_then, done, byte_that, any_byte, bytes_that, any_bytes, number16, number32, number128, ended_by_zero, means_name, name4, host4, request4, greeting, name5, host_by_type, host5, request5, login}
use Rattle.addr_pattern.specs.Names.{is_name_byte}
use Rattle.handshake_core.specs.Lengths.{asked_end, logged_end, answered_end, greeted_end, prelude_end, EndsWithin}
use Rattle.handshake_core.specs.Readers.{Counted, IsCounted}
use Rattle.handshake_core.proofs.Tight.{one_by_one, as-one-by-one}

-- ---- the readers

counted-from : {A : Type 0} (from at : ℕ) (bytes rest : List ℕ) (x : Read A) → at + length rest ≡ from + length bytes → Counted at rest x → Counted from bytes x
counted-from from at bytes rest (Read.Got a to left) e h = h ∙ e
counted-from from at bytes rest Read.Short e h = tt
counted-from from at bytes rest (Read.Wrong place byte kind) e h = tt

then-counted : {A B : Type 0} (next : A → Reader B) (from : ℕ) (bytes : List ℕ) (x : Read A) → ((a : A) → IsCounted (next a)) → Counted from bytes x → Counted from bytes (and_then x next)
then-counted next from bytes (Read.Got a at rest) each h = counted-from from at bytes rest (next a at rest) h ((each a).law at rest)
then-counted next from bytes Read.Short each h = tt
then-counted next from bytes (Read.Wrong at byte kind) each h = tt

bind-counted : {A B : Type 0} (read : Reader A) (next : A → Reader B) → IsCounted read → ((a : A) → IsCounted (next a)) → IsCounted (read >>= next)
bind-counted read next h each = record { law = λ at bytes. then-counted next at bytes (read at bytes) each (h.law at bytes) }

done-counted : {A : Type 0} (a : A) → IsCounted (done a)
done-counted a = record { law = λ at bytes. refl }

if-counted : {A : Type 0} (t : Bool) (x y : Reader A) → IsCounted x → IsCounted y → IsCounted (cond t x y)
if-counted true x y p q = p
if-counted false x y p q = q

one-counted : (t : Bool) (b at : ℕ) (kind : BadKind) (bytes : List ℕ) → Counted at (b ∷ bytes) (cond t (Read.Got b (at + 1) bytes) (Read.Wrong at b kind))
one-counted true b at kind bytes = omega arith
one-counted false b at kind bytes = tt

byte-law : (test : ℕ → Bool) (kind : BadKind) (at : ℕ) (bytes : List ℕ) → Counted at bytes (byte_that test kind at bytes)
byte-law test kind at [] = tt
byte-law test kind at (b ∷ bytes) = one-counted (test b) b at kind bytes

byte-counted : (test : ℕ → Bool) (kind : BadKind) → IsCounted (byte_that test kind)
byte-counted test kind = record { law = byte-law test kind }

same-counted : {A : Type 0} (read other : Reader A) → ((at : ℕ) (bytes : List ℕ) → read at bytes ≡ other at bytes) → IsCounted other → IsCounted read
same-counted read other same h = record { law = λ at bytes. subst (Counted at bytes) (sym (same at bytes)) (h.law at bytes) }

bytes-counted : (test : ℕ → Bool) (kind : BadKind) (n : ℕ) → IsCounted (bytes_that test kind n)
bytes-counted test kind zero = record { law = λ at bytes. refl }
bytes-counted test kind (suc n) = same-counted (bytes_that test kind (suc n)) (one_by_one test kind n) (as-one-by-one test kind n)
    (bind-counted _ _ (byte-counted test kind) (λ b. bind-counted _ _ (bytes-counted test kind n) (λ bs. done-counted _)))

last-counted : (t : Bool) (b at : ℕ) (bytes : List ℕ) → Counted {A = List ℕ} at (b ∷ bytes) (cond t (Read.Got [] (at + 1) bytes) (Read.Wrong at b BadKind.Field))
last-counted true b at bytes = omega arith
last-counted false b at bytes = tt

step-counted : (t u : Bool) (b at : ℕ) (bytes : List ℕ) (x : Read (List ℕ)) → Counted (at + 1) bytes x
    → Counted at (b ∷ bytes) (elim t [
      | true ↦ Read.Got [] (at + 1) bytes
      | false ↦ elim u [ true ↦ and_then x (λ bs. done (b ∷ bs)) | false ↦ Read.Wrong at b BadKind.Field ]
    ])
step-counted true u b at bytes x h = omega arith
step-counted false false b at bytes x h = tt
step-counted false true b at bytes (Read.Got bs to left) h = omega (arith, h)
step-counted false true b at bytes Read.Short h = tt
step-counted false true b at bytes (Read.Wrong place byte kind) h = tt

zero-law : (test : ℕ → Bool) (room at : ℕ) (bytes : List ℕ) → Counted at bytes (ended_by_zero test room at bytes)
zero-law test zero at [] = tt
zero-law test (suc room) at [] = tt
zero-law test zero at (b ∷ bytes) = last-counted (b == 0) b at bytes
zero-law test (suc room) at (b ∷ bytes) = step-counted (b == 0) (test b) b at bytes (ended_by_zero test room (at + 1) bytes) (zero-law test room (at + 1) bytes)

zero-counted : (test : ℕ → Bool) (room : ℕ) → IsCounted (ended_by_zero test room)
zero-counted test room = record { law = zero-law test room }

any_byte-counted : IsCounted any_byte
any_byte-counted = byte-counted (λ _. true) BadKind.Field

any_bytes-counted : (n : ℕ) → IsCounted (any_bytes n)
any_bytes-counted n = bytes-counted (λ _. true) BadKind.Field n

number16-counted : IsCounted number16
number16-counted = bind-counted (any_bytes 2) _ (any_bytes-counted 2) (λ bs. done-counted _)

number32-counted : IsCounted number32
number32-counted = bind-counted (any_bytes 4) _ (any_bytes-counted 4) (λ bs. done-counted _)

number128-counted : IsCounted number128
number128-counted = bind-counted (any_bytes 16) _ (any_bytes-counted 16) (λ bs. done-counted _)

-- ---- the messages

name4-counted : IsCounted name4
name4-counted = bind-counted _ _ (byte-counted _ _) (λ first. bind-counted _ _ (zero-counted is_name_byte 254) (λ rest. done-counted _))

host4-counted : (addr : ℕ) → IsCounted (host4 addr)
host4-counted addr = if-counted (means_name addr) _ _ (bind-counted name4 _ name4-counted (λ name. done-counted _)) (done-counted _)

request4-counted : IsCounted request4
request4-counted = bind-counted _ _ (byte-counted _ _) (λ version. bind-counted _ _ (byte-counted _ _) (λ code. bind-counted number16 _ number16-counted (λ port.
    bind-counted number32 _ number32-counted (λ addr. bind-counted _ _ (zero-counted (λ _. true) 255) (λ user. bind-counted (host4 addr) _ (host4-counted addr) (λ host. done-counted _))))))

greeting-counted : IsCounted greeting
greeting-counted = bind-counted _ _ (byte-counted _ _) (λ version. bind-counted any_byte _ any_byte-counted (λ count. any_bytes-counted count))

name5-counted : IsCounted name5
name5-counted = bind-counted _ _ (byte-counted _ _) (λ count. bytes-counted _ _ count)

host_by_type-counted : (atyp : ℕ) → IsCounted (host_by_type atyp)
host_by_type-counted atyp = if-counted _ _ _ (bind-counted number32 _ number32-counted (λ n. done-counted _))
    (if-counted _ _ _ (bind-counted number128 _ number128-counted (λ n. done-counted _)) (bind-counted name5 _ name5-counted (λ name. done-counted _)))

host5-counted : IsCounted host5
host5-counted = bind-counted _ _ (byte-counted _ _) (λ atyp. host_by_type-counted atyp)

request5-counted : IsCounted request5
request5-counted = bind-counted _ _ (byte-counted _ _) (λ version. bind-counted _ _ (byte-counted _ _) (λ code. bind-counted any_byte _ any_byte-counted (λ reserved.
    bind-counted host5 _ host5-counted (λ host. bind-counted number16 _ number16-counted (λ port. done-counted _)))))

login-counted : IsCounted login
login-counted = bind-counted _ _ (byte-counted _ _) (λ version. bind-counted any_byte _ any_byte-counted (λ n. bind-counted (any_bytes n) _ (any_bytes-counted n) (λ name.
    bind-counted any_byte _ any_byte-counted (λ m. bind-counted (any_bytes m) _ (any_bytes-counted m) (λ password. done-counted _)))))

-- ---- where they end

asked-within : (from : ℕ) (bytes : List ℕ) (x : Read Asked) → Counted from bytes x → asked_end x ≤ from + length bytes
asked-within from bytes (Read.Got a at rest) h = omega (arith, h)
asked-within from bytes Read.Short h = omega arith
asked-within from bytes (Read.Wrong at byte kind) h = omega arith

logged-within : (from : ℕ) (bytes : List ℕ) (x : Read Credentials) → Counted from bytes x → logged_end x ≤ from + length bytes
logged-within from bytes (Read.Got l at rest) h = let k = asked-within at rest (request5 at rest) (request5-counted.law at rest) in omega (arith, h, k)
logged-within from bytes Read.Short h = omega arith
logged-within from bytes (Read.Wrong at byte kind) h = omega arith

either-within : (t : Bool) (m n most : ℕ) → m ≤ most → n ≤ most → cond t m n ≤ most
either-within true m n most h k = h
either-within false m n most h k = k

answered-within : (method at : ℕ) (rest : List ℕ) → answered_end method at rest ≤ at + length rest
answered-within method at rest = either-within (method == 0) _ _ (at + length rest) (asked-within at rest (request5 at rest) (request5-counted.law at rest))
    (either-within (method == 2) _ _ (at + length rest) (logged-within at rest (login at rest) (login-counted.law at rest)) (omega arith))

greeted-within : (method : Option ℕ) (from : ℕ) (bytes : List ℕ) (x : Read (List ℕ)) → Counted from bytes x → greeted_end method x ≤ from + length bytes
greeted-within (Some method) from bytes (Read.Got offered at rest) h = let k = answered-within method at rest in omega (arith, h, k)
greeted-within None from bytes (Read.Got offered at rest) h = omega arith
greeted-within None from bytes Read.Short h = omega arith
greeted-within (Some method) from bytes Read.Short h = omega arith
greeted-within None from bytes (Read.Wrong at byte kind) h = omega arith
greeted-within (Some method) from bytes (Read.Wrong at byte kind) h = omega arith

from-start : (m n : ℕ) → m ≤ 0 + n → m ≤ n
from-start m n h = omega (arith, h)

pub ends-within : EndsWithin
ends-within method [] = omega arith
ends-within method (b ∷ bytes) = from-start (prelude_end method (b ∷ bytes)) (length (b ∷ bytes))
    (either-within (b == 4) _ _ (0 + length (b ∷ bytes)) (asked-within 0 (b ∷ bytes) (request4 0 (b ∷ bytes)) (request4-counted.law 0 (b ∷ bytes)))
    (either-within (b == 5) _ _ (0 + length (b ∷ bytes)) (greeted-within method 0 (b ∷ bytes) (greeting 0 (b ∷ bytes)) (greeting-counted.law 0 (b ∷ bytes))) (omega arith)))
