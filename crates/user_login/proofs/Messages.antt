-- Logins, part by part.
use Rattle.std.proofs.Common.{ℕ, zero, suc, ◌≡◌, ◌<◌, ◌≤◌, ◌+◌, ◌-◌, false, ◌==◌, List, [], ◌∷◌, ◌++◌, length, take, drop, refl, sym, ap, ◌∙◌, add-zero, append_assoc, length-append, arith}
use Rattle.std.proofs.lemmas.List.{drop-drop, length-drop, take_all}
use Rattle.addr_pattern.specs.declared.front.BadKind.{BadKind}
use Rattle.socks_grammar.specs.Grammar.{Read, Reader, Credentials, ◌>>=◌, and_then, done, any_byte, any_bytes, login, spelled_login}
use Rattle.user_login.specs.Messages.{counted}
use Rattle.user_login.specs.Laws.{LoginReadAgain}

-- ---- bytes behind their length

all-there : (n at : ℕ) (bytes : List ℕ) → n ≤ length bytes → any_bytes n at bytes ≡ Read.Got (take n bytes) (at + n) (drop n bytes)
all-there zero at bytes h = rw add-zero refl
all-there (suc n) at [] h = absurd (omega arith)
all-there (suc n) at (b ∷ bytes) h =
    let e : at + 1 + n ≡ at + suc n = omega arith in
    rw (all-there n (at + 1) bytes (omega arith)) (ap (λ k. Read.Got (b ∷ take n bytes) k (drop n bytes)) e)

too-few : (n at : ℕ) (bytes : List ℕ) → length bytes < n → any_bytes n at bytes ≡ Read.Short
too-few zero at bytes h = absurd (omega arith)
too-few (suc n) at [] h = refl
too-few (suc n) at (b ∷ bytes) h = rw (too-few n (at + 1) bytes (omega arith)) refl

drop-behind : (at n b : ℕ) (bytes rest : List ℕ) → drop at bytes ≡ b ∷ rest → drop (at + 1 + n) bytes ≡ drop n rest
drop-behind at n b bytes rest e =
    let k : at + 1 + n ≡ at + suc n = omega arith in
    ap (λ j. drop j bytes) k ∙ (sym (drop-drop (suc n) at bytes) ∙ ap (drop (suc n)) e)

drop-next : (at b : ℕ) (bytes rest : List ℕ) → drop at bytes ≡ b ∷ rest → drop (at + 1) bytes ≡ rest
drop-next at b bytes rest e = sym (drop-drop 1 at bytes) ∙ ap (drop 1) e

pub counted-all : (at n : ℕ) (bytes rest : List ℕ) → drop at bytes ≡ n ∷ rest → n ≤ length rest
    → counted at (drop at bytes) ≡ Read.Got (take n (drop (at + 1) bytes)) (at + 1 + n) (drop (at + 1 + n) bytes)
counted-all at n bytes rest e h =
    ap (counted at) e ∙ (all-there n (at + 1) rest h ∙ (rw (drop-behind at n n bytes rest e) (rw (drop-next at n bytes rest e) refl)))

pub counted-within : (at n : ℕ) (bytes rest : List ℕ) → drop at bytes ≡ n ∷ rest → n ≤ length rest → at + 1 + n ≤ length bytes
counted-within at n bytes rest e h =
    let k = length-drop at bytes in
    let j : length (drop at bytes) ≡ suc (length rest) = ap length e in
    omega arith

pub counted-short : (at n : ℕ) (bytes rest : List ℕ) → drop at bytes ≡ n ∷ rest → length rest < n → counted at (drop at bytes) ≡ Read.Short
counted-short at n bytes rest e h = ap (counted at) e ∙ too-few n (at + 1) rest h

pub counted-none : (at : ℕ) (bytes : List ℕ) → drop at bytes ≡ [] → counted at (drop at bytes) ≡ Read.Short
counted-none at bytes e = ap (counted at) e

-- a slice to the end
pub to_end : (i : ℕ) (xs : List ℕ) → drop i xs ≡ take (length xs - i) (drop i xs)
to_end i xs = let e = length-drop i xs in sym (take_all (length xs - i) (drop i xs) (omega (arith, e)))

-- ---- a login

abbrev with_password : List ℕ → List ℕ → Reader Credentials
with_password name password = done (record { name = name; password = password })

abbrev with_name : List ℕ → Reader Credentials
with_name name = any_byte >>= (λ n. any_bytes n >>= with_password name)

-- a length and its bytes are read as one
together : (x : Read ℕ) (next : List ℕ → Reader Credentials) → and_then x (λ n. any_bytes n >>= next) ≡ and_then (and_then x any_bytes) next
together (Read.Got n at bytes) next = refl
together Read.Short next = refl
together (Read.Wrong at byte kind) next = refl

name-first : (bytes rest : List ℕ) → bytes ≡ 1 ∷ rest → login 0 bytes ≡ and_then (counted 1 rest) with_name
name-first bytes rest e = ap (login 0) e ∙ together (any_byte 1 rest) with_name

then-password : (name : List ℕ) (at : ℕ) (rest : List ℕ) → with_name name at rest ≡ and_then (counted at rest) (with_password name)
then-password name at rest = together (any_byte at rest) (with_password name)

pub login-other : (b : ℕ) (bytes rest : List ℕ) → bytes ≡ b ∷ rest → (b == 1) ≡ false → login 0 bytes ≡ Read.Wrong 0 b BadKind.Version
login-other b bytes rest e h = ap (login 0) e ∙ (rw h refl)

pub login-unnamed : (bytes rest : List ℕ) → bytes ≡ 1 ∷ rest → counted 1 rest ≡ Read.Short → login 0 bytes ≡ Read.Short
login-unnamed bytes rest e h = name-first bytes rest e ∙ ap (λ x. and_then x with_name) h

pub login-named : (bytes rest name more : List ℕ) (at : ℕ) → bytes ≡ 1 ∷ rest → counted 1 rest ≡ Read.Got name at more → counted at more ≡ Read.Short → login 0 bytes ≡ Read.Short
login-named bytes rest name more at e h k =
    name-first bytes rest e ∙ (ap (λ x. and_then x with_name) h ∙ (then-password name at more ∙ ap (λ x. and_then x (with_password name)) k))

pub login-whole : (bytes rest name more password behind : List ℕ) (at end : ℕ) → bytes ≡ 1 ∷ rest → counted 1 rest ≡ Read.Got name at more
    → counted at more ≡ Read.Got password end behind → login 0 bytes ≡ Read.Got (record { name = name; password = password }) end behind
login-whole bytes rest name more password behind at end e h k =
    name-first bytes rest e ∙ (ap (λ x. and_then x with_name) h ∙ (then-password name at more ∙ ap (λ x. and_then x (with_password name)) k))

-- ---- a written login

again : (xs rest : List ℕ) (at : ℕ) → any_bytes (length xs) at (xs ++ rest) ≡ Read.Got xs (at + length xs) rest
again [] rest at = rw add-zero refl
again (x ∷ xs) rest at =
    let e : at + 1 + length xs ≡ at + suc (length xs) = omega arith in
    rw (again xs rest (at + 1)) (ap (λ k. Read.Got (x ∷ xs) k rest) e)

pub login-again : LoginReadAgain
login-again name password rest h k =
    let e : (name ++ length password ∷ password) ++ rest ≡ name ++ length password ∷ (password ++ rest) = append_assoc name (length password ∷ password) rest in
    let n : 2 + length name + 1 + length password ≡ length (spelled_login name password) = simp length-append (omega arith) in
    ap (λ bytes. and_then (any_bytes (length name) 2 bytes) with_name) e
    ∙ (ap (λ x. and_then x with_name) (again name (length password ∷ (password ++ rest)) 2)
    ∙ (ap (λ x. and_then x (with_password name)) (again password rest (2 + length name + 1))
    ∙ ap (λ at. Read.Got (record { name = name; password = password }) at rest) n))
