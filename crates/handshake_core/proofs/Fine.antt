-- How many bytes the messages of a client have at most, and that names in them are names.
use Rattle.std.proofs.Common.{ℕ, zero, suc, ◌≡◌, ◌<◌, ◌≤◌, ◌+◌, Bool, true, false, cond, ◌==◌, ◌&&◌, not, nat_le, Option, Some, None, Ok, List, [], ◌∷◌, length, refl, sym, arith}
use Rattle.std.specs.List.{list_all}
use Rattle.std.proofs.lemmas.Bool.Decides.{nat_tests}
use Rattle.addr_pattern.specs.declared.front.BadKind.{BadKind}
use Rattle.addr_pattern.specs.declared.host.Host.{Host}
use Rattle.addr_pattern.specs.Names.{is_name_byte, name_of}
use Rattle.socks_grammar.specs.Grammar.{Read, Reader, Asked, ◌>>=◌, and_then, done, byte_that, any_byte, bytes_that, any_bytes, number16, number32, number128, ended_by_zero, name4, host4, request4, greeting, name5, host_by_type, host5, request5, login}
use Rattle.socks4_codec.specs.Parts.{Parts4, parts4, name_part}
use Rattle.socks5_codec.specs.Parts.{typed_host, host_spelled, destination, Destination, request_spelled}
use Rattle.handshake_core.specs.Readers.{AllBytes, Fine, IsFine}
use Rattle.handshake_core.proofs.Tight.{one_by_one, as-one-by-one}

further : {A : Type 0} (n m : ℕ) (P : A → Type 0) (from next : ℕ) (bytes rest : List ℕ) (x : Read A) → length bytes ≤ n + length rest → next ≤ from + n → Fine m P next rest x → Fine (n + m) P from bytes x
further n m P from next bytes rest (Read.Got a at more) h k f = let j = f.0 in let i = f.3 in (omega (arith, h, j), f.1, f.2, omega (arith, k, i))
further n m P from next bytes rest Read.Short h k f = omega (arith, h, f)
further n m P from next bytes rest (Read.Wrong at byte kind) h k f = omega (arith, k, f)

then-fine : {A B : Type 0} (n m : ℕ) (Q : A → Type 0) (P : B → Type 0) (next : A → Reader B) (from : ℕ) (bytes : List ℕ) (x : Read A) → ((a : A) → Q a → IsFine m P (next a)) → Fine n Q from bytes x → Fine (n + m) P from bytes (and_then x next)
then-fine n m Q P next from bytes (Read.Got a at rest) each f = further n m P from at bytes rest (next a at rest) f.0 f.3 ((each a f.2).law at rest f.1)
then-fine n m Q P next from bytes Read.Short each f = omega (arith, f)
then-fine n m Q P next from bytes (Read.Wrong at byte kind) each f = omega (arith, f)

bind-fine : {A B : Type 0} (n m : ℕ) (Q : A → Type 0) (P : B → Type 0) (read : Reader A) (next : A → Reader B) → IsFine n Q read → ((a : A) → Q a → IsFine m P (next a)) → IsFine (n + m) P (read >>= next)
bind-fine n m Q P read next h each = record { law = λ at bytes all. then-fine n m Q P next at bytes (read at bytes) each (h.law at bytes all) }

done-fine : {A : Type 0} (P : A → Type 0) (a : A) → P a → IsFine 0 P (done a)
done-fine P a p = record { law = λ at bytes all. (omega arith, all, p, omega arith) }

more : {A : Type 0} (n m : ℕ) (P Q : A → Type 0) (from : ℕ) (bytes : List ℕ) (x : Read A) → n ≤ m → ((a : A) → P a → Q a) → Fine n P from bytes x → Fine m Q from bytes x
more n m P Q from bytes (Read.Got a at rest) h k f = let j = f.0 in let i = f.3 in (omega (arith, h, j), f.1, k a f.2, omega (arith, h, i))
more n m P Q from bytes Read.Short h k f = omega (arith, h, f)
more n m P Q from bytes (Read.Wrong at byte kind) h k f = omega (arith, h, f)

more-fine : {A : Type 0} (n m : ℕ) (P Q : A → Type 0) (read : Reader A) → n ≤ m → ((a : A) → P a → Q a) → IsFine n P read → IsFine m Q read
more-fine n m P Q read h k f = record { law = λ at bytes all. more n m P Q at bytes (read at bytes) h k (f.law at bytes all) }

if-fine : {A : Type 0} (n : ℕ) (P : A → Type 0) (t : Bool) (x y : Reader A) → IsFine n P x → IsFine n P y → IsFine n P (cond t x y)
if-fine n P true x y p q = p
if-fine n P false x y p q = q

same-fine : {A : Type 0} (n : ℕ) (P : A → Type 0) (read other : Reader A) → ((at : ℕ) (bytes : List ℕ) → read at bytes ≡ other at bytes) → IsFine n P other → IsFine n P read
same-fine n P read other same h = record { law = λ at bytes all. rw (same at bytes) (h.law at bytes all) }

-- ---- bytes

abbrev pub Passes : (ℕ → Bool) → ℕ → Type 0
Passes test b = (b < 256) × (test b ≡ true)

byte-at : (test : ℕ → Bool) (t : Bool) (b at : ℕ) (kind : BadKind) (bytes : List ℕ) → t ≡ test b → AllBytes (b ∷ bytes) → Fine 1 (Passes test) at (b ∷ bytes) (cond t (Read.Got b (at + 1) bytes) (Read.Wrong at b kind))
byte-at test true b at kind bytes e all = (omega arith, all.1, (all.0, sym e), omega arith)
byte-at test false b at kind bytes e all = omega arith

byte-law : (test : ℕ → Bool) (kind : BadKind) (at : ℕ) (bytes : List ℕ) → AllBytes bytes → Fine 1 (Passes test) at bytes (byte_that test kind at bytes)
byte-law test kind at [] all = omega arith
byte-law test kind at (b ∷ bytes) all = byte-at test (test b) b at kind bytes refl all

byte-fine : (test : ℕ → Bool) (kind : BadKind) → IsFine 1 (Passes test) (byte_that test kind)
byte-fine test kind = record { law = byte-law test kind }

abbrev pub PassAll : (ℕ → Bool) → ℕ → List ℕ → Type 0
PassAll test n bs = (length bs ≡ n) × (list_all test bs ≡ true)

abbrev pub PassUpTo : (ℕ → Bool) → ℕ → List ℕ → Type 0
PassUpTo test n bs = (length bs ≤ n) × (list_all test bs ≡ true)

pass-more : (test : ℕ → Bool) (n b : ℕ) (bs : List ℕ) → test b ≡ true → PassAll test n bs → PassAll test (1 + n) (b ∷ bs)
pass-more test n b bs h k = let j = k.0 in (omega (arith, j), rw h k.1)

bytes-fine : (test : ℕ → Bool) (kind : BadKind) (n : ℕ) → IsFine n (PassAll test n) (bytes_that test kind n)
bytes-fine test kind zero = record { law = λ at bytes all. (omega arith, all, (refl, refl), omega arith) }
bytes-fine test kind (suc n) =
    let j : 1 + (n + 0) ≤ suc n = omega arith in
    same-fine (suc n) (PassAll test (suc n)) (bytes_that test kind (suc n)) (one_by_one test kind n) (as-one-by-one test kind n)
    (more-fine (1 + (n + 0)) (suc n) (PassAll test (1 + n)) (PassAll test (suc n)) (one_by_one test kind n) j (λ bs p. let q = p.0 in (omega (arith, q), p.1))
    (bind-fine 1 (n + 0) (Passes test) (PassAll test (1 + n)) (byte_that test kind) _ (byte-fine test kind)
    (λ b p. bind-fine n 0 (PassAll test n) (PassAll test (1 + n)) (bytes_that test kind n) _ (bytes-fine test kind n)
    (λ bs q. done-fine (PassAll test (1 + n)) (b ∷ bs) (pass-more test n b bs p.1 q)))))

last-fine : (test : ℕ → Bool) (t : Bool) (b at : ℕ) (bytes : List ℕ) → AllBytes (b ∷ bytes)
    → Fine 1 (PassUpTo test 0) at (b ∷ bytes) (cond t (Read.Got [] (at + 1) bytes) (Read.Wrong at b BadKind.Field))
last-fine test true b at bytes all = (omega arith, all.1, (omega arith, refl), omega arith)
last-fine test false b at bytes all = omega arith

onto-fine : (test : ℕ → Bool) (room b from : ℕ) (bytes : List ℕ) (x : Read (List ℕ)) → test b ≡ true → Fine (room + 1) (PassUpTo test room) (from + 1) bytes x
    → Fine (suc room + 1) (PassUpTo test (suc room)) from (b ∷ bytes) (and_then x (λ bs. done (b ∷ bs)))
onto-fine test room b from bytes (Read.Got bs at rest) e f = let j = f.0 in let k = f.2.0 in let i = f.3 in (omega (arith, j), f.1, (omega (arith, k), rw e f.2.1), omega (arith, i))
onto-fine test room b from bytes Read.Short e f = omega (arith, f)
onto-fine test room b from bytes (Read.Wrong at byte kind) e f = omega (arith, f)

step-fine : (test : ℕ → Bool) (z t : Bool) (room b at : ℕ) (bytes : List ℕ) (x : Read (List ℕ)) → t ≡ test b → AllBytes (b ∷ bytes) → Fine (room + 1) (PassUpTo test room) (at + 1) bytes x
    → Fine (suc room + 1) (PassUpTo test (suc room)) at (b ∷ bytes) (elim z [
      | true ↦ Read.Got [] (at + 1) bytes
      | false ↦ elim t [ true ↦ and_then x (λ bs. done (b ∷ bs)) | false ↦ Read.Wrong at b BadKind.Field ]
    ])
step-fine test true t room b at bytes x e all f = (omega arith, all.1, (omega arith, refl), omega arith)
step-fine test false true room b at bytes x e all f = onto-fine test room b at bytes x (sym e) f
step-fine test false false room b at bytes x e all f = omega arith

zero-law : (test : ℕ → Bool) (room at : ℕ) (bytes : List ℕ) → AllBytes bytes → Fine (room + 1) (PassUpTo test room) at bytes (ended_by_zero test room at bytes)
zero-law test zero at [] all = omega arith
zero-law test (suc room) at [] all = omega arith
zero-law test zero at (b ∷ bytes) all = last-fine test (b == 0) b at bytes all
zero-law test (suc room) at (b ∷ bytes) all = step-fine test (b == 0) (test b) room b at bytes (ended_by_zero test room (at + 1) bytes) refl all (zero-law test room (at + 1) bytes all.1)

zero-fine : (test : ℕ → Bool) (room : ℕ) → IsFine (room + 1) (PassUpTo test room) (ended_by_zero test room)
zero-fine test room = record { law = zero-law test room }

-- ---- parts

abbrev pub Anything : {A : Type 0} → A → Type 0
Anything a = Unit {0}

any_byte-fine : IsFine 1 (Passes (λ _. true)) any_byte
any_byte-fine = byte-fine (λ _. true) BadKind.Field

numbered-fine : (n : ℕ) (f : List ℕ → ℕ) → IsFine (n + 0) Anything (any_bytes n >>= (λ bs. done (f bs)))
numbered-fine n f = bind-fine n 0 _ Anything (any_bytes n) _ (bytes-fine (λ _. true) BadKind.Field n) (λ bs p. done-fine Anything (f bs) tt)

number16-fine : IsFine 2 Anything number16
number16-fine = numbered-fine 2 _

number32-fine : IsFine 4 Anything number32
number32-fine = numbered-fine 4 _

number128-fine : IsFine 16 Anything number128
number128-fine = numbered-fine 16 _

-- so many bytes as a byte says
counted-fine : (n : ℕ) → n < 256 → IsFine 255 Anything (any_bytes n)
counted-fine n h = more-fine n 255 _ Anything (any_bytes n) (omega arith) (λ bs p. tt) (bytes-fine (λ _. true) BadKind.Field n)

-- ---- names

abbrev pub IsNamed : List ℕ → Type 0
IsNamed name = name_of name ≡ Ok name

abbrev pub HostNamed : Host → Type 0
HostNamed (Host.Addr a) = Unit {0}
HostNamed (Host.Name name) = IsNamed name

abbrev pub OptionNamed : Option (List ℕ) → Type 0
OptionNamed None = Unit {0}
OptionNamed (Some name) = IsNamed name

when-all : {A : Type 0} (a b c : Bool) (x y : A) → a ≡ true → b ≡ true → c ≡ true → cond (a && (b && c)) x y ≡ x
when-all a b c x y h k j = rw h (rw k (rw j refl))

named-cons : (b : ℕ) (bs : List ℕ) → length bs ≤ 254 → is_name_byte b ≡ true → list_all is_name_byte bs ≡ true → IsNamed (b ∷ bs)
named-cons b bs h k j =
    let e : nat_le (length (b ∷ bs)) 255 ≡ true = grind (arith, nat_tests) in
    when-all (nat_le (length (b ∷ bs)) 255) (is_name_byte b) (list_all is_name_byte bs) _ _ e k j

and-both : (a b : Bool) → (a && b) ≡ true → (a ≡ true) × (b ≡ true)
and-both true b h = (refl, h)
and-both false b h = cc

named-all : (count : ℕ) (bs : List ℕ) → (count == 0) ≡ false → count < 256 → PassAll is_name_byte count bs → IsNamed bs
named-all count [] h k p = let e = p.0 in let z : (count == 0) ≡ true = grind (arith, nat_tests, e) in cc
named-all count (b ∷ bs) h k p =
    let e = p.0 in let both = and-both (is_name_byte b) (list_all is_name_byte bs) p.1 in
    named-cons b bs (omega (arith, e)) both.0 both.1

name4-fine : IsFine 256 IsNamed name4
name4-fine = bind-fine 1 255 _ IsNamed _ _ (byte-fine is_name_byte BadKind.Field) (λ b p. bind-fine 255 0 _ IsNamed _ _ (zero-fine is_name_byte 254) (λ bs q. done-fine IsNamed _ (named-cons b bs q.0 p.1 q.1)))

not-is : (a : Bool) → not a ≡ true → a ≡ false
not-is true h = cc
not-is false h = refl

name5-fine : IsFine 256 IsNamed name5
name5-fine = bind-fine 1 255 _ IsNamed _ _ (byte-fine (λ b. not (b == 0)) BadKind.Field)
    (λ count p. let h = p.0 in more-fine count 255 _ IsNamed _ (omega (arith, h)) (λ bs q. named-all count bs (not-is (count == 0) p.1) h q) (bytes-fine is_name_byte BadKind.Field count))

-- ---- messages

pub greeting-fine : IsFine 257 Anything greeting
greeting-fine = bind-fine 1 256 _ Anything _ _ (byte-fine _ _) (λ version p. bind-fine 1 255 _ Anything any_byte _ any_byte-fine (λ count q. counted-fine count q.0))

pub login-fine : IsFine 513 Anything login
login-fine = bind-fine 1 512 _ Anything _ _ (byte-fine _ _) (λ version p. bind-fine 1 511 _ Anything any_byte _ any_byte-fine (λ n q.
    bind-fine 255 256 Anything Anything (any_bytes n) _ (counted-fine n q.0) (λ name r. bind-fine 1 255 _ Anything any_byte _ any_byte-fine (λ m s.
    bind-fine 255 0 Anything Anything (any_bytes m) _ (counted-fine m s.0) (λ password t. done-fine Anything _ tt)))))

host4-fine : (addr : ℕ) → IsFine 256 Anything (host4 addr)
host4-fine addr = if-fine 256 Anything _ _ _ (bind-fine 256 0 IsNamed Anything name4 _ name4-fine (λ name p. done-fine Anything _ tt)) (more-fine 0 256 Anything Anything _ (omega arith) (λ h p. tt) (done-fine Anything _ tt))

pub request4-fine : IsFine 520 Anything request4
request4-fine = bind-fine 1 519 _ Anything _ _ (byte-fine _ _) (λ version p. bind-fine 1 518 _ Anything _ _ (byte-fine _ _) (λ code q.
    bind-fine 2 516 Anything Anything number16 _ number16-fine (λ port r. bind-fine 4 512 Anything Anything number32 _ number32-fine (λ addr s.
    bind-fine 256 256 _ Anything (ended_by_zero (λ _. true) 255) _ (zero-fine (λ _. true) 255) (λ user t.
    bind-fine 256 0 Anything Anything (host4 addr) _ (host4-fine addr) (λ host u. done-fine Anything _ tt))))))

abbrev pub PartsNamed : Parts4 → Type 0
PartsNamed p = OptionNamed p.name

name_part-fine : (addr : ℕ) → IsFine 256 OptionNamed (name_part addr)
name_part-fine addr = if-fine 256 OptionNamed _ _ _ (bind-fine 256 0 IsNamed OptionNamed name4 _ name4-fine (λ name p. done-fine OptionNamed (Some name) p)) (more-fine 0 256 OptionNamed OptionNamed _ (omega arith) (λ o p. p) (done-fine OptionNamed None tt))

pub parts4-fine : IsFine 520 PartsNamed parts4
parts4-fine = bind-fine 1 519 _ PartsNamed _ _ (byte-fine _ _) (λ version p. bind-fine 1 518 _ PartsNamed _ _ (byte-fine _ _) (λ code q.
    bind-fine 2 516 Anything PartsNamed number16 _ number16-fine (λ port r. bind-fine 4 512 Anything PartsNamed number32 _ number32-fine (λ addr s.
    bind-fine 256 256 _ PartsNamed (ended_by_zero (λ _. true) 255) _ (zero-fine (λ _. true) 255) (λ user t.
    bind-fine 256 0 OptionNamed PartsNamed (name_part addr) _ (name_part-fine addr) (λ name u. done-fine PartsNamed _ u))))))

host_by_type-fine : (atyp : ℕ) → IsFine 256 Anything (host_by_type atyp)
host_by_type-fine atyp = if-fine 256 Anything _ _ _ (more-fine 4 256 Anything Anything _ (omega arith) (λ h p. tt) (bind-fine 4 0 Anything Anything number32 _ number32-fine (λ n p. done-fine Anything _ tt)))
    (if-fine 256 Anything _ _ _ (more-fine 16 256 Anything Anything _ (omega arith) (λ h p. tt) (bind-fine 16 0 Anything Anything number128 _ number128-fine (λ n p. done-fine Anything _ tt)))
    (bind-fine 256 0 IsNamed Anything name5 _ name5-fine (λ name p. done-fine Anything _ tt)))

pub request5-fine : IsFine 262 Anything request5
request5-fine = bind-fine 1 261 _ Anything _ _ (byte-fine _ _) (λ version p. bind-fine 1 260 _ Anything _ _ (byte-fine _ _) (λ code q. bind-fine 1 259 _ Anything any_byte _ any_byte-fine (λ reserved r.
    bind-fine 257 2 Anything Anything host5 _ (bind-fine 1 256 _ Anything _ _ (byte-fine _ _) (λ atyp s. host_by_type-fine atyp)) (λ host t.
    bind-fine 2 0 Anything Anything number16 _ number16-fine (λ port u. done-fine Anything _ tt)))))

host_spelled-fine : (atyp : ℕ) → IsFine 256 HostNamed (host_spelled atyp)
host_spelled-fine atyp = if-fine 256 HostNamed _ _ _ (more-fine 4 256 HostNamed HostNamed _ (omega arith) (λ h p. p) (bind-fine 4 0 Anything HostNamed number32 _ number32-fine (λ n p. done-fine HostNamed _ tt)))
    (if-fine 256 HostNamed _ _ _ (more-fine 16 256 HostNamed HostNamed _ (omega arith) (λ h p. p) (bind-fine 16 0 Anything HostNamed number128 _ number128-fine (λ n p. done-fine HostNamed _ tt)))
    (bind-fine 256 0 IsNamed HostNamed name5 _ name5-fine (λ name p. done-fine HostNamed (Host.Name name) p)))

abbrev pub AskedNamed : Asked → Type 0
AskedNamed a = HostNamed a.host

abbrev pub DestinationNamed : Destination → Type 0
DestinationNamed d = HostNamed d.host

destination-fine : IsFine 259 DestinationNamed destination
destination-fine = bind-fine 257 2 HostNamed DestinationNamed typed_host _ (bind-fine 1 256 _ HostNamed _ _ (byte-fine _ _) (λ atyp s. host_spelled-fine atyp)) (λ host t.
    bind-fine 2 0 Anything DestinationNamed number16 _ number16-fine (λ port u. done-fine DestinationNamed _ t))

pub request_spelled-fine : IsFine 262 AskedNamed request_spelled
request_spelled-fine = bind-fine 1 261 _ AskedNamed _ _ (byte-fine _ _) (λ version p. bind-fine 1 260 _ AskedNamed _ _ (byte-fine _ _) (λ code q. bind-fine 1 259 _ AskedNamed any_byte _ any_byte-fine (λ reserved r.
    bind-fine 259 0 DestinationNamed AskedNamed destination _ destination-fine (λ d t. done-fine AskedNamed _ t))))
