-- The number of the first user who passes.
use Rattle.std.proofs.Common.{ℕ, suc, ◌≡◌, ◌<◌, ◌≤◌, ◌+◌, ◌-◌, Bool, true, false, cond, ◌&&◌, ◌||◌, not, ◌==◌, Some, None, is_some, List, [], ◌∷◌, length, drop, get_or, refl, sym, ap, ◌∙◌, arith}
use Rattle.std.proofs.Math.Seq.{drop-cons}
use Rattle.std.specs.Prelude.{bytes_eq}
use Rattle.std.proofs.lemmas.Slice.Eq.{bytes_eq-Decides}
use Rattle.std.proofs.lemmas.List.{drop_all}
use Rattle.std.specs.List.{list_any}
use Rattle.std.specs.Prelude.{Option}
use Rattle.sha2.specs.Sha256.{sha256}
use Rattle.socks_grammar.specs.declared.user.User.{User}
use Rattle.socks_grammar.specs.Users.{is_user, user_fits}
use Rattle.user_login.specs.Checking.{number_from, user_number}

next-at : (users : List User) (i : ℕ) (u : User) → i < length users → u ≡ get_or users i u → drop i users ≡ u ∷ drop (i + 1) users
next-at users i u h e =
    let k : suc i ≡ i + 1 = omega arith in
    drop-cons users i u h ∙ (ap (λ x. x ∷ drop (suc i) users) (sym e) ∙ ap (λ j. u ∷ drop j users) k)

pub number-at : (test : User → Bool) (users : List User) (n i : ℕ) (u : User) → i < length users → u ≡ get_or users i u → test u ≡ true → number_from n test (drop i users) ≡ Some n
number-at test users n i u h e k = ap (number_from n test) (next-at users i u h e) ∙ (rw k refl)

pub number-skips : (test : User → Bool) (users : List User) (n i : ℕ) (u : User) → i < length users → u ≡ get_or users i u → test u ≡ false
    → number_from n test (drop i users) ≡ number_from (n + 1) test (drop (i + 1) users)
number-skips test users n i u h e k = ap (number_from n test) (next-at users i u h e) ∙ (rw k refl)

either : (t : Bool) (n : ℕ) (x : Option ℕ) → is_some (cond t (Some n) x) ≡ (t || is_some x)
either true n x = refl
either false n x = refl

number-any : (test : User → Bool) (n : ℕ) (users : List User) → is_some (number_from n test users) ≡ list_any test users
number-any test n [] = refl
number-any test n (u ∷ users) = either (test u) n (number_from (n + 1) test users) ∙ ap (λ x. test u || x) (number-any test (n + 1) users)

fits-when : (a b : Bool) (x : Option ℕ) (y : Bool) → is_some x ≡ y → is_some (cond (a || b) None x) ≡ (not a && not b && y)
fits-when true b x y e = refl
fits-when false true x y e = refl
fits-when false false x y e = e

pub number-fits : (users : List User) (name password : List ℕ) → is_some (user_number users name password) ≡ user_fits users name password
number-fits users name password =
    fits-when (length name == 0) (length password == 0) _ _ (number-any (is_user name (sha256 password)) 1 users)

-- nobody passes
pub number-none : (users shown : List User) (name password : List ℕ) (i : ℕ) → (length name == 0) ≡ false → (length password == 0) ≡ false → shown ≡ users → length shown ≤ i
    → number_from 1 (is_user name (sha256 password)) shown ≡ number_from (i + 1) (is_user name (sha256 password)) (drop i shown) → None ≡ user_number users name password
number-none users shown name password i h k e le so_far =
    rw h (rw k (rw (sym e) (sym (so_far ∙ ap (number_from (i + 1) (is_user name (sha256 password))) (drop_all i shown le)))))

-- the user whose number was found
pub record Finds (test : User → Bool) (users : List User) (first n : ℕ) : Type 0 where
  pub user : User
  pub counts : first ≤ n
  pub inside : n - first < length users
  pub stands : (d : User) → get_or users (n - first) d ≡ user
  pub passes : test user ≡ true

found-here : (test : User → Bool) (u : User) (users : List User) (first n : ℕ) (t : Bool) → t ≡ test u → (number_from (first + 1) test users ≡ Some n → Finds test users (first + 1) n)
    → cond t (Some first) (number_from (first + 1) test users) ≡ Some n → Finds test (u ∷ users) first n
found-here test u users first n true e behind h =
    let same : first ≡ n = cc in
    let none : n - first ≡ 0 = omega arith in
    record { user = u; counts = omega arith; inside = omega arith; stands = λ d. rw none refl; passes = sym e }
found-here test u users first n false e behind h =
    let f = behind h in
    let c = f.counts in
    let next : n - first ≡ suc (n - (first + 1)) = omega (arith, c) in
    let i = f.inside in record { user = f.user; counts = omega (arith, c); inside = omega (arith, c, i); stands = λ d. rw next (f.stands d); passes = f.passes }

pub number-finds : (test : User → Bool) (users : List User) (first n : ℕ) → number_from first test users ≡ Some n → Finds test users first n
number-finds test [] first n h = cc
number-finds test (u ∷ users) first n h = found-here test u users first n (test u) refl (number-finds test users (first + 1) n) h

some-number : (a b : Bool) (x : Option ℕ) (n : ℕ) → cond (a || b) None x ≡ Some n → x ≡ Some n
some-number true b x n h = cc
some-number false true x n h = cc
some-number false false x n h = h

pub numbered : (users : List User) (name password : List ℕ) (n : ℕ) → user_number users name password ≡ Some n → Finds (is_user name (sha256 password)) users 1 n
numbered users name password n h = number-finds _ users 1 n (some-number (length name == 0) (length password == 0) _ n h)

and-both : (a b : Bool) → (a && b) ≡ true → (a ≡ true) × (b ≡ true)
and-both true b h = (refl, h)
and-both false b h = cc

pub is-user : (name digest : List ℕ) (user : User) → is_user name digest user ≡ true → (user.name ≡ name) × (user.digest ≡ digest)
is-user name digest user h =
    let both = and-both (bytes_eq user.name name) (bytes_eq user.digest digest) h in
    ((bytes_eq-Decides user.name name).0 both.0, (bytes_eq-Decides user.digest digest).0 both.1)

pub found : (users shown : List User) (name password : List ℕ) (n : ℕ) (u : User) → Some n ≡ user_number users name password → true ≡ user_fits users name password → shown ≡ users
    → u ≡ get_or shown (n - 1) u → (user_fits users name password ≡ true) × (u.name ≡ name) × (u.digest ≡ sha256 password)
found users shown name password n u h k e at =
    let f = numbered users name password n (sym h) in
    let same : u ≡ f.user = at ∙ (ap (λ (us : List User). get_or us (n - 1) u) e ∙ f.stands u) in
    let is = is-user name (sha256 password) u (rw same f.passes) in
    (sym k, is.0, is.1)

pub within : (users shown : List User) (name password : List ℕ) (n : ℕ) → Some n ≡ user_number users name password → shown ≡ users → (1 ≤ n) × (n - 1 < length shown)
within users shown name password n h e = let f = numbered users name password n (sym h) in (f.counts, rw e f.inside)
