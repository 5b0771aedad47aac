-- A greeting and a login end with the first byte that makes them whole.
use Rattle.std.proofs.Common.{ℕ, zero, suc, ◌≡◌, ◌+◌, Bool, true, false, cond, List, [], ◌∷◌, ◌++◌, refl}
use Rattle.addr_pattern.specs.declared.front.BadKind.{BadKind}
use Rattle.socks_grammar.specs.Grammar.{Read, Reader, ◌>>=◌, and_then, done, byte_that, any_byte, bytes_that, any_bytes, greeting, login}
use Rattle.socks_grammar.specs.Stable.{Extends}
use Rattle.handshake_core.specs.Readers.{Ends, Tight, IsTight}

then-nil : {A B : Type 0} (next : A → Reader B) (x : Read A) → ((a : A) → IsTight (next a)) → Ends x → Ends (and_then x next)
then-nil next (Read.Got a at rest) each e = rw e ((each a).nil at)
then-nil next Read.Short each e = tt
then-nil next (Read.Wrong at byte kind) each e = tt

then-stable : {A B : Type 0} (next : A → Reader B) (more : List ℕ) (x y : Read A) → ((a : A) → IsTight (next a)) → Extends x more y → Extends (and_then x next) more (and_then y next)
then-stable next more (Read.Got a at rest) y each e = rw e ((each a).stable at rest more)
then-stable next more Read.Short y each e = tt
then-stable next more (Read.Wrong at byte kind) y each e = rw e refl

then-law : {A B : Type 0} (next : A → Reader B) (b : ℕ) (x y : Read A) → ((a : A) → IsTight (next a)) → Extends x (b ∷ []) y → Tight x y → Tight (and_then x next) (and_then y next)
then-law next b (Read.Got a at rest) y each e t = rw e ((each a).law at rest b)
then-law next b Read.Short y each e t = then-nil next y each t
then-law next b (Read.Wrong at byte kind) y each e t = tt

bind-tight : {A B : Type 0} (read : Reader A) (next : A → Reader B) → IsTight read → ((a : A) → IsTight (next a)) → IsTight (read >>= next)
bind-tight read next h each = record {
  nil = λ at. then-nil next (read at []) each (h.nil at);
  stable = λ at bytes more. then-stable next more (read at bytes) (read at (bytes ++ more)) each (h.stable at bytes more);
  law = λ at bytes b. then-law next b (read at bytes) (read at (bytes ++ b ∷ [])) each (h.stable at bytes (b ∷ [])) (h.law at bytes b);
}

done-tight : {A : Type 0} (a : A) → IsTight (done a)
done-tight a = record { nil = λ at. refl; stable = λ at bytes more. refl; law = λ at bytes b. tt }

byte-stable : (t : Bool) (b at : ℕ) (kind : BadKind) (bytes more : List ℕ)
    → Extends (cond t (Read.Got b (at + 1) bytes) (Read.Wrong at b kind)) more (cond t (Read.Got b (at + 1) (bytes ++ more)) (Read.Wrong at b kind))
byte-stable true b at kind bytes more = refl
byte-stable false b at kind bytes more = refl

byte-extends : (test : ℕ → Bool) (kind : BadKind) (at : ℕ) (bytes more : List ℕ) → Extends (byte_that test kind at bytes) more (byte_that test kind at (bytes ++ more))
byte-extends test kind at [] more = tt
byte-extends test kind at (b ∷ bytes) more = byte-stable (test b) b at kind bytes more

one-ends : (t : Bool) (b at : ℕ) (kind : BadKind) → Ends (cond t (Read.Got b (at + 1) []) (Read.Wrong at b kind))
one-ends true b at kind = refl
one-ends false b at kind = tt

not-short : (t : Bool) (b at : ℕ) (kind : BadKind) (bytes : List ℕ) (y : Read ℕ) → Tight (cond t (Read.Got b (at + 1) bytes) (Read.Wrong at b kind)) y
not-short true b at kind bytes y = tt
not-short false b at kind bytes y = tt

byte-law : (test : ℕ → Bool) (kind : BadKind) (at : ℕ) (bytes : List ℕ) (b : ℕ) → Tight (byte_that test kind at bytes) (byte_that test kind at (bytes ++ b ∷ []))
byte-law test kind at [] b = one-ends (test b) b at kind
byte-law test kind at (x ∷ bytes) b = not-short (test x) x at kind bytes (byte_that test kind at ((x ∷ bytes) ++ b ∷ []))

byte-tight : (test : ℕ → Bool) (kind : BadKind) → IsTight (byte_that test kind)
byte-tight test kind = record { nil = λ at. tt; stable = byte-extends test kind; law = byte-law test kind }

-- bytes are read one by one
abbrev pub one_by_one : (ℕ → Bool) → BadKind → ℕ → Reader (List ℕ)
one_by_one test kind n = byte_that test kind >>= (λ b. bytes_that test kind n >>= (λ bs. done (b ∷ bs)))

first-of : (test : ℕ → Bool) (kind : BadKind) (n b at : ℕ) (bytes : List ℕ) (t : Bool)
    → ◌≡◌ {A = Read (List ℕ)} (elim t [ true ↦ and_then (bytes_that test kind n (at + 1) bytes) (λ bs. done (b ∷ bs)) | false ↦ Read.Wrong at b kind ])
    (and_then (cond t (Read.Got b (at + 1) bytes) (Read.Wrong at b kind)) (λ x. bytes_that test kind n >>= (λ bs. done (x ∷ bs))))
first-of test kind n b at bytes true = refl
first-of test kind n b at bytes false = refl

pub as-one-by-one : (test : ℕ → Bool) (kind : BadKind) (n at : ℕ) (bytes : List ℕ) → bytes_that test kind (suc n) at bytes ≡ one_by_one test kind n at bytes
as-one-by-one test kind n at [] = refl
as-one-by-one test kind n at (b ∷ bytes) = first-of test kind n b at bytes (test b)

same-tight : {A : Type 0} (read other : Reader A) → ((at : ℕ) (bytes : List ℕ) → read at bytes ≡ other at bytes) → IsTight other → IsTight read
same-tight read other same h = record {
  nil = λ at. rw (same at []) (h.nil at);
  stable = λ at bytes more. rw (same at bytes) (rw (same at (bytes ++ more)) (h.stable at bytes more));
  law = λ at bytes b. rw (same at bytes) (rw (same at (bytes ++ b ∷ [])) (h.law at bytes b));
}

bytes-tight : (test : ℕ → Bool) (kind : BadKind) (n : ℕ) → IsTight (bytes_that test kind n)
bytes-tight test kind zero = record { nil = λ at. refl; stable = λ at bytes more. refl; law = λ at bytes b. tt }
bytes-tight test kind (suc n) = same-tight (bytes_that test kind (suc n)) (one_by_one test kind n) (as-one-by-one test kind n)
    (bind-tight _ _ (byte-tight test kind) (λ b. bind-tight _ _ (bytes-tight test kind n) (λ bs. done-tight _)))

any_byte-tight : IsTight any_byte
any_byte-tight = byte-tight (λ _. true) BadKind.Field

any_bytes-tight : (n : ℕ) → IsTight (any_bytes n)
any_bytes-tight n = bytes-tight (λ _. true) BadKind.Field n

pub greeting-tight : IsTight greeting
greeting-tight = bind-tight _ _ (byte-tight _ _) (λ version. bind-tight any_byte _ any_byte-tight (λ count. any_bytes-tight count))

pub login-tight : IsTight login
login-tight = bind-tight _ _ (byte-tight _ _) (λ version. bind-tight any_byte _ any_byte-tight (λ n. bind-tight (any_bytes n) _ (any_bytes-tight n) (λ name.
    bind-tight any_byte _ any_byte-tight (λ m. bind-tight (any_bytes m) _ (any_bytes-tight m) (λ password. done-tight _)))))
