-- Each reader is stable: what it has found stays found, whatever follows.
use Rattle.std.proofs.Common.{ℕ, zero, suc, ◌+◌, refl, Bool, true, false, cond, ◌==◌, Option, Some, None, List, [], ◌∷◌, ◌++◌}
use Rattle.addr_pattern.specs.declared.front.BadKind.{BadKind}
use Rattle.socks_grammar.specs.declared.protocol.Method.{Method}
use Rattle.socks_grammar.specs.declared.user.User.{User}
use Rattle.socks_grammar.specs.declared.protocol.Version.{Version}
use Rattle.socks_grammar.specs.Grammar.{Read, Reader, Asked, Credentials, ◌>>=◌, and_then, done, byte_that, any_byte, bytes_that, any_bytes, number16, number32, number128, ended_by_zero, name4, host4, request4, greeting, name5, host5, host_by_type, request5, login}
use Rattle.socks_grammar.specs.Handshake.{Split, split_request, split_login, split_answered, split_greeted}
use Rattle.socks_grammar.specs.Stable.{Extends, IsStable, SplitExtends, SplitIsStable}
use Rattle.socks_grammar.specs.Users.{user_fits}

and_then-extends : {A B : Type 0} (f : A → Reader B) (more : List ℕ) (x y : Read A)
    → ((a : A) → IsStable (f a)) → Extends x more y → Extends (and_then x f) more (and_then y f)
and_then-extends f more (Read.Got a at rest) y stable e = rw e ((stable a).law at rest more)
and_then-extends f more Read.Short y stable e = tt
and_then-extends f more (Read.Wrong at byte kind) y stable e = rw e refl

bind-stable : {A B : Type 0} (read : Reader A) (f : A → Reader B) → IsStable read → ((a : A) → IsStable (f a)) → IsStable (read >>= f)
bind-stable read f stable each = record { law = λ at bytes more. and_then-extends f more (read at bytes) (read at (bytes ++ more)) each (stable.law at bytes more) }

done-stable : {A : Type 0} (a : A) → IsStable (done a)
done-stable a = record { law = λ at bytes more. refl }

if-stable : {A : Type 0} (b : Bool) (x y : Reader A) → IsStable x → IsStable y → IsStable (cond b x y)
if-stable true x y p q = p
if-stable false x y p q = q

byte-extends : (b : Bool) (at byte : ℕ) (kind : BadKind) (bytes more : List ℕ)
    → Extends (cond b (Read.Got byte (at + 1) bytes) (Read.Wrong at byte kind)) more (cond b (Read.Got byte (at + 1) (bytes ++ more)) (Read.Wrong at byte kind))
byte-extends true at byte kind bytes more = refl
byte-extends false at byte kind bytes more = refl

byte-law : (test : ℕ → Bool) (kind : BadKind) (at : ℕ) (bytes more : List ℕ) → Extends (byte_that test kind at bytes) more (byte_that test kind at (bytes ++ more))
byte-law test kind at [] more = tt
byte-law test kind at (b ∷ bytes) more = byte-extends (test b) at b kind bytes more

byte-stable : (test : ℕ → Bool) (kind : BadKind) → IsStable (byte_that test kind)
byte-stable test kind = record { law = byte-law test kind }

bytes-extends : (t : Bool) (b at : ℕ) (kind : BadKind) (more : List ℕ) (x y : Read (List ℕ)) → Extends x more y
    → Extends (elim t [ true ↦ and_then x (λ bs. done (b ∷ bs)) | false ↦ Read.Wrong at b kind ]) more
    (elim t [ true ↦ and_then y (λ bs. done (b ∷ bs)) | false ↦ Read.Wrong at b kind ])
bytes-extends true b at kind more x y e = and_then-extends (λ bs. done (b ∷ bs)) more x y (λ bs. done-stable (b ∷ bs)) e
bytes-extends false b at kind more x y e = refl

bytes-law : (test : ℕ → Bool) (kind : BadKind) (n at : ℕ) (bytes more : List ℕ) → Extends (bytes_that test kind n at bytes) more (bytes_that test kind n at (bytes ++ more))
bytes-law test kind zero at bytes more = refl
bytes-law test kind (suc n) at [] more = tt
bytes-law test kind (suc n) at (b ∷ bytes) more =
    bytes-extends (test b) b at kind more (bytes_that test kind n (at + 1) bytes) (bytes_that test kind n (at + 1) (bytes ++ more))
    (bytes-law test kind n (at + 1) bytes more)

bytes-stable : (test : ℕ → Bool) (kind : BadKind) (n : ℕ) → IsStable (bytes_that test kind n)
bytes-stable test kind n = record { law = bytes-law test kind n }

zero-extends : (t : Bool) (at : ℕ) (bytes more : List ℕ) (x y : Read (List ℕ)) → Extends x more y
    → Extends (elim t [ true ↦ Read.Got [] (at + 1) bytes | false ↦ x ]) more (elim t [ true ↦ Read.Got [] (at + 1) (bytes ++ more) | false ↦ y ])
zero-extends true at bytes more x y e = refl
zero-extends false at bytes more x y e = e

last-extends : (t : Bool) (at b : ℕ) (bytes more : List ℕ)
    → Extends {A = List ℕ} (cond t (Read.Got [] (at + 1) bytes) (Read.Wrong at b BadKind.Field)) more (cond t (Read.Got [] (at + 1) (bytes ++ more)) (Read.Wrong at b BadKind.Field))
last-extends true at b bytes more = refl
last-extends false at b bytes more = refl

zero-law : (test : ℕ → Bool) (room at : ℕ) (bytes more : List ℕ) → Extends (ended_by_zero test room at bytes) more (ended_by_zero test room at (bytes ++ more))
zero-law test zero at [] more = tt
zero-law test (suc room) at [] more = tt
zero-law test zero at (b ∷ bytes) more = last-extends (b == 0) at b bytes more
zero-law test (suc room) at (b ∷ bytes) more =
    zero-extends (b == 0) at bytes more _ _
    (bytes-extends (test b) b at BadKind.Field more (ended_by_zero test room (at + 1) bytes) (ended_by_zero test room (at + 1) (bytes ++ more))
    (zero-law test room (at + 1) bytes more))

zero-stable : (test : ℕ → Bool) (room : ℕ) → IsStable (ended_by_zero test room)
zero-stable test room = record { law = zero-law test room }

any_byte-stable : IsStable any_byte
any_byte-stable = byte-stable (λ _. true) BadKind.Field

any_bytes-stable : (n : ℕ) → IsStable (any_bytes n)
any_bytes-stable n = bytes-stable (λ _. true) BadKind.Field n

number16-stable : IsStable number16
number16-stable = bind-stable (any_bytes 2) _ (any_bytes-stable 2) (λ bs. done-stable _)

number32-stable : IsStable number32
number32-stable = bind-stable (any_bytes 4) _ (any_bytes-stable 4) (λ bs. done-stable _)

number128-stable : IsStable number128
number128-stable = bind-stable (any_bytes 16) _ (any_bytes-stable 16) (λ bs. done-stable _)

name4-stable : IsStable name4
name4-stable = bind-stable _ _ (byte-stable _ _) (λ first. bind-stable _ _ (zero-stable _ 254) (λ rest. done-stable _))

host4-stable : (addr : ℕ) → IsStable (host4 addr)
host4-stable addr = if-stable _ _ _ (bind-stable name4 _ name4-stable (λ name. done-stable _)) (done-stable _)

request4-stable : IsStable request4
request4-stable = bind-stable _ _ (byte-stable _ _) (λ version. bind-stable _ _ (byte-stable _ _) (λ code.
    bind-stable number16 _ number16-stable (λ port. bind-stable number32 _ number32-stable (λ addr.
    bind-stable (ended_by_zero (λ _. true) 255) _ (zero-stable (λ _. true) 255) (λ user. bind-stable (host4 addr) _ (host4-stable addr) (λ host. done-stable _))))))

pub greeting-stable : IsStable greeting
greeting-stable = bind-stable _ _ (byte-stable _ _) (λ version. bind-stable any_byte _ any_byte-stable (λ count. any_bytes-stable count))

name5-stable : IsStable name5
name5-stable = bind-stable _ _ (byte-stable _ _) (λ count. bytes-stable _ _ count)

host_by_type-stable : (atyp : ℕ) → IsStable (host_by_type atyp)
host_by_type-stable atyp = if-stable _ _ _ (bind-stable number32 _ number32-stable (λ n. done-stable _))
    (if-stable _ _ _ (bind-stable number128 _ number128-stable (λ n. done-stable _)) (bind-stable name5 _ name5-stable (λ name. done-stable _)))

host5-stable : IsStable host5
host5-stable = bind-stable _ _ (byte-stable _ _) (λ atyp. host_by_type-stable atyp)

request5-stable : IsStable request5
request5-stable = bind-stable _ _ (byte-stable _ _) (λ version. bind-stable _ _ (byte-stable _ _) (λ code. bind-stable any_byte _ any_byte-stable (λ reserved.
    bind-stable host5 _ host5-stable (λ host. bind-stable number16 _ number16-stable (λ port. done-stable _)))))

pub login-stable : IsStable login
login-stable = bind-stable _ _ (byte-stable _ _) (λ version. bind-stable any_byte _ any_byte-stable (λ n. bind-stable (any_bytes n) _ (any_bytes-stable n) (λ name.
    bind-stable any_byte _ any_byte-stable (λ m. bind-stable (any_bytes m) _ (any_bytes-stable m) (λ password. done-stable _)))))

-- ---- the whole input

request-extends : (v : Version) (m : Method) (user : Option (List ℕ)) (more : List ℕ) (x y : Read Asked) → Extends x more y
    → SplitExtends (split_request v m user x) (split_request v m user y)
request-extends v m user more (Read.Got a at rest) y e = rw e refl
request-extends v m user more Read.Short y e = tt
request-extends v m user more (Read.Wrong at byte kind) y e = rw e refl

fits-extends : (b : Bool) (x y : Split) → SplitExtends x y → SplitExtends (cond b x Split.LoginFailed) (cond b y Split.LoginFailed)
fits-extends true x y e = e
fits-extends false x y e = refl

login-extends : (users : List User) (more : List ℕ) (x y : Read Credentials) → Extends x more y → SplitExtends (split_login users x) (split_login users y)
login-extends users more (Read.Got l at rest) y e = rw e (fits-extends (user_fits users l.name l.password) _ _
    (request-extends Version.V5 Method.Username (Some l.name) more _ _ (request5-stable.law at rest more)))
login-extends users more Read.Short y e = tt
login-extends users more (Read.Wrong at byte kind) y e = rw e refl

split-if : (b : Bool) (x y x' y' : Split) → SplitExtends x x' → SplitExtends y y' → SplitExtends (cond b x y) (cond b x' y')
split-if true x y x' y' p q = p
split-if false x y x' y' p q = q

answered-extends : (users : List User) (method at : ℕ) (rest more : List ℕ) → SplitExtends (split_answered users method at rest) (split_answered users method at (rest ++ more))
answered-extends users method at rest more = split-if (method == 0) _ _ _ _
    (request-extends Version.V5 Method.NoAuth None more _ _ (request5-stable.law at rest more))
    (split-if (method == 2) _ _ _ _ (login-extends users more _ _ (login-stable.law at rest more)) refl)

greeted-extends : (users : List User) (method : Option ℕ) (more : List ℕ) (x y : Read (List ℕ)) → Extends x more y
    → SplitExtends (split_greeted users method x) (split_greeted users method y)
greeted-extends users None more (Read.Got offered at rest) y e = tt
greeted-extends users (Some m) more (Read.Got offered at rest) y e = rw e (answered-extends users m at rest more)
greeted-extends users method more Read.Short y e = tt
greeted-extends users method more (Read.Wrong at byte kind) y e = rw e refl

pub split-extends : SplitIsStable
split-extends users method [] more = tt
split-extends users method (b ∷ bytes) more = split-if (b == 4) _ _ _ _
    (request-extends Version.V4 Method.NoAuth None more _ _ (request4-stable.law 0 (b ∷ bytes) more))
    (split-if (b == 5) _ _ _ _ (greeted-extends users method more _ _ (greeting-stable.law 0 (b ∷ bytes) more)) refl)
