-- A client's input as one reader, which wants more exactly of proper prefixes.
use Rattle.std.proofs.Common.{ℕ, zero, suc, ◌≡◌, ◌≢◌, ◌+◌, ◌==◌, Bool, true, false, cond, Option, Some, None, List, [], ◌∷◌, ◌++◌, length, take, refl, sym, ap, subst, ◌∙◌, arith}
use Rattle.addr_pattern.specs.declared.front.BadKind.{BadKind}
use Rattle.socks_grammar.specs.declared.protocol.Method.{Method}
use Rattle.socks_grammar.specs.declared.protocol.Version.{Version}
use Rattle.socks_grammar.specs.declared.user.User.{User}
use Rattle.socks_grammar.specs.Grammar.{Read, Reader, Asked, Credentials, ◌>>=◌, and_then, done, greeting, login, request4, request5}
use Rattle.socks_grammar.specs.Handshake.{Request, Split, request_of, split, split_request, split_login, split_answered, split_greeted, greeting_length, place_behind, login_place, login_place_of, login_end}
use Rattle.socks_grammar.specs.Users.{user_fits}
use Rattle.socks_grammar.proofs.Exact.{FoundAt, LacksAt, WrongAt, Tells, IsExact, done-exact, cond-exact, bind-exact}
use Rattle.socks4_codec.proofs.Prefixes.{request4-exact}
use Rattle.socks5_codec.proofs.Prefixes.{greeting-exact, request5-exact}
use Rattle.user_login.proofs.Prefixes.{login-exact}

-- ---- a reader that is another wherever the bytes begin with this one

module _ {A : Type 0} (read other : Reader A) (at b : ℕ) (nil : read at [] ≡ Read.Short) (other-nil : other at [] ≡ Read.Short)
    (same : (bytes : List ℕ) → read at (b ∷ bytes) ≡ other at (b ∷ bytes)) where
  same-first : (c : ℕ) (bytes : List ℕ) (r : Read A) → c ≡ b → other at (c ∷ bytes) ≡ r → read at (c ∷ bytes) ≡ r
  same-first c bytes r is e = subst (λ x. other at (x ∷ bytes) ≡ r → read at (x ∷ bytes) ≡ r) (sym is) (λ h. same bytes ∙ h) e

  found-too : (bytes : List ℕ) (a : A) (place : ℕ) (rest used : List ℕ) → b ∷ bytes ≡ used ++ rest → place ≡ at + length used
      → ((more : List ℕ) → other at (used ++ more) ≡ Read.Got a place more) → FoundAt read at (b ∷ bytes) a place rest
  found-too bytes a place rest [] is place-is always =
      let both : Read.Short ≡ Read.Got a place [] = sym other-nil ∙ always [] in
      absurd (cc)
  found-too bytes a place rest (c ∷ used) is place-is always =
      let first : c ≡ b = cc in
      record { used = c ∷ used; is = is; place-is = place-is; always = λ more. same-first c (used ++ more) (Read.Got a place more) first (always more) }

  wrong-too : (bytes : List ℕ) (place byte : ℕ) (kind : BadKind) (rest used : List ℕ) → b ∷ bytes ≡ used ++ byte ∷ rest → place ≡ at + length used
      → other at used ≡ Read.Short → ((more : List ℕ) → other at (used ++ byte ∷ more) ≡ Read.Wrong place byte kind) → WrongAt read at (b ∷ bytes) place byte kind
  wrong-too bytes place byte kind rest [] is place-is short always =
      let first : byte ≡ b = cc in
      record { used = []; rest = rest; is = is; place-is = place-is; short = nil; always = λ more. same-first byte more (Read.Wrong place byte kind) first (always more) }
  wrong-too bytes place byte kind rest (c ∷ used) is place-is short always =
      let first : c ≡ b = cc in
      record {
        used = c ∷ used;
        rest = rest;
        is = is;
        place-is = place-is;
        short = same-first c used Read.Short first short;
        always = λ more. same-first c (used ++ byte ∷ more) (Read.Wrong place byte kind) first (always more);
      }

  tells-too : (bytes : List ℕ) (r : Read A) → Tells other at (b ∷ bytes) r → Tells read at (b ∷ bytes) r
  tells-too bytes (Read.Got a place rest) t = found-too bytes a place rest t.used t.is t.place-is t.always
  tells-too bytes Read.Short t = record { more = t.more; a = t.a; fit = t.fit; whole = same (bytes ++ t.more) ∙ t.whole }
  tells-too bytes (Read.Wrong place byte kind) t = wrong-too bytes place byte kind t.rest t.used t.is t.place-is t.short t.always

-- ---- a reader by the version that the first byte says

module _ {A : Type 0} (x y : Reader A) where
  abbrev pub by_version : Reader A
  by_version at [] = Read.Short
  by_version at (b ∷ bytes) = cond (b == 4) (x at (b ∷ bytes)) (cond (b == 5) (y at (b ∷ bytes)) (Read.Wrong at b BadKind.Version))

  module _ (x-nil : (at : ℕ) → x at [] ≡ Read.Short) (y-nil : (at : ℕ) → y at [] ≡ Read.Short)
      (only-4 : (at b : ℕ) (bytes : List ℕ) → (b == 4) ≡ false → x at (b ∷ bytes) ≡ Read.Wrong at b BadKind.Version) (good-x : IsExact x) (good-y : IsExact y) where
    begins : (at : ℕ) (more : List ℕ) (a : A) (n : ℕ) (rest : List ℕ) → x at more ≡ Read.Got a n rest → by_version at more ≡ Read.Got a n rest
    begins at [] a n rest e =
        let both : Read.Short ≡ Read.Got a n rest = sym (x-nil at) ∙ e in
        absurd (cc)
    begins at (b ∷ more) a n rest e = choice (b == 4) refl
      where
        choice : (t : Bool) → (b == 4) ≡ t → cond t (x at (b ∷ more)) (cond (b == 5) (y at (b ∷ more)) (Read.Wrong at b BadKind.Version)) ≡ Read.Got a n rest
        choice true is = e
        choice false is =
            let both : Read.Wrong at b BadKind.Version ≡ Read.Got a n rest = sym (only-4 at b more is) ∙ e in
            absurd (cc)

    lacks : (at : ℕ) → LacksAt x at [] → LacksAt by_version at []
    lacks at t = record { more = t.more; a = t.a; fit = t.fit; whole = begins at t.more t.a (at + length t.more) [] t.whole }

    by-first : (at b : ℕ) (bytes : List ℕ) (s t : Bool) → (b == 4) ≡ s → (b == 5) ≡ t
        → Tells by_version at (b ∷ bytes) (cond s (x at (b ∷ bytes)) (cond t (y at (b ∷ bytes)) (Read.Wrong at b BadKind.Version)))
    by-first at b bytes true t is4 is5 = tells-too by_version x at b refl (x-nil at) (λ more. ap (λ s. cond s (x at (b ∷ more)) (cond (b == 5) (y at (b ∷ more)) (Read.Wrong at b BadKind.Version))) is4)
        bytes (x at (b ∷ bytes)) (good-x.law at (b ∷ bytes))
    by-first at b bytes false true is4 is5 = tells-too by_version y at b refl (y-nil at) (λ more.
        ap (λ s. cond s (x at (b ∷ more)) (cond (b == 5) (y at (b ∷ more)) (Read.Wrong at b BadKind.Version))) is4 ∙ ap (λ s. cond s (y at (b ∷ more)) (Read.Wrong at b BadKind.Version)) is5)
        bytes (y at (b ∷ bytes)) (good-y.law at (b ∷ bytes))
    by-first at b bytes false false is4 is5 = record {
      used = [];
      rest = bytes;
      is = refl;
      place-is = omega arith;
      short = refl;
      always = λ more. ap (λ s. cond s (x at (b ∷ more)) (cond (b == 5) (y at (b ∷ more)) (Read.Wrong at b BadKind.Version))) is4 ∙ ap (λ s. cond s (y at (b ∷ more)) (Read.Wrong at b BadKind.Version)) is5;
    }

    by-law : (at : ℕ) (bytes : List ℕ) → Tells by_version at bytes (by_version at bytes)
    by-law at [] = lacks at (subst (Tells x at []) (x-nil at) (good-x.law at []))
    by-law at (b ∷ bytes) = by-first at b bytes (b == 4) (b == 5) refl refl

    pub by_version-exact : IsExact by_version
    by_version-exact = record { law = by-law }

-- ---- the input of a client

-- what settles an input; a greeting that nothing was answered to waits
pub data Settled : Type 0 where
  Prelude : Request → Settled
  NoMethod : Settled
  LoginFailed : Settled
  Unanswered : Settled

abbrev pub asked : Version → Method → Option (List ℕ) → Asked → Reader Settled
asked version method user a = done (Settled.Prelude (request_of version method user a))

abbrev pub logged : List User → Credentials → Reader Settled
logged users l = cond (user_fits users l.name l.password) (request5 >>= asked Version.V5 Method.Username (Some l.name)) (done Settled.LoginFailed)

abbrev pub answered : List User → Option ℕ → Reader Settled
answered users None = done Settled.Unanswered
answered users (Some method) = cond (method == 0) (request5 >>= asked Version.V5 Method.NoAuth None) (cond (method == 2) (login >>= logged users) (done Settled.NoMethod))

abbrev pub version4 : Reader Settled
version4 = request4 >>= asked Version.V4 Method.NoAuth None

abbrev pub version5 : List User → Option ℕ → Reader Settled
version5 users method = greeting >>= λ offered. answered users method

abbrev pub prelude : List User → Option ℕ → Reader Settled
prelude users method = by_version version4 (version5 users method)

-- ---- it is exact

request-exact : (version : Version) (method : Method) (user : Option (List ℕ)) (read : Reader Asked) → IsExact read → IsExact (read >>= asked version method user)
request-exact version method user read good = bind-exact read (asked version method user) good (λ a. done-exact _)

logged-exact : (users : List User) (l : Credentials) → IsExact (logged users l)
logged-exact users l = cond-exact (user_fits users l.name l.password) _ _ (request-exact Version.V5 Method.Username (Some l.name) request5 request5-exact) (done-exact Settled.LoginFailed)

answered-exact : (users : List User) (method : Option ℕ) → IsExact (answered users method)
answered-exact users None = done-exact Settled.Unanswered
answered-exact users (Some method) = cond-exact (method == 0) _ _ (request-exact Version.V5 Method.NoAuth None request5 request5-exact)
    (cond-exact (method == 2) _ _ (bind-exact login (logged users) login-exact (logged-exact users)) (done-exact Settled.NoMethod))

only-version4 : (at b : ℕ) (bytes : List ℕ) → (b == 4) ≡ false → version4 at (b ∷ bytes) ≡ Read.Wrong at b BadKind.Version
only-version4 at b bytes e = rw e refl

pub prelude-exact : (users : List User) (method : Option ℕ) → IsExact (prelude users method)
prelude-exact users method = by_version-exact version4 (version5 users method) (λ at. refl) (λ at. refl) only-version4
    (request-exact Version.V4 Method.NoAuth None request4 request4-exact) (bind-exact greeting (λ offered. answered users method) greeting-exact (λ offered. answered-exact users method))

-- ---- and it is what splits an input

abbrev pub split_of : Read Settled → Split
split_of (Read.Got (Settled.Prelude request) n rest) = Split.Whole request n
split_of (Read.Got Settled.NoMethod n rest) = Split.NoMethod
split_of (Read.Got Settled.LoginFailed n rest) = Split.LoginFailed
split_of (Read.Got Settled.Unanswered n rest) = Split.More
split_of Read.Short = Split.More
split_of (Read.Wrong at byte kind) = Split.Bad at byte kind

split-cond : (t : Bool) (p q : Split) (r s : Read Settled) → p ≡ split_of r → q ≡ split_of s → cond t p q ≡ split_of (cond t r s)
split-cond true p q r s e f = e
split-cond false p q r s e f = f

split-at : (t : Bool) (p q : Split) (r s : Reader Settled) (at : ℕ) (bytes : List ℕ) → p ≡ split_of (r at bytes) → q ≡ split_of (s at bytes) → cond t p q ≡ split_of (cond t r s at bytes)
split-at true p q r s at bytes e f = e
split-at false p q r s at bytes e f = f

asked-split : (version : Version) (method : Method) (user : Option (List ℕ)) (r : Read Asked) → split_request version method user r ≡ split_of (and_then r (asked version method user))
asked-split version method user (Read.Got a at rest) = refl
asked-split version method user Read.Short = refl
asked-split version method user (Read.Wrong at byte kind) = refl

login-split : (users : List User) (r : Read Credentials) → split_login users r ≡ split_of (and_then r (logged users))
login-split users (Read.Got l at rest) = split-at (user_fits users l.name l.password) _ _ (request5 >>= asked Version.V5 Method.Username (Some l.name)) (done Settled.LoginFailed) at rest
    (asked-split Version.V5 Method.Username (Some l.name) (request5 at rest)) refl
login-split users Read.Short = refl
login-split users (Read.Wrong at byte kind) = refl

greeted-split : (users : List User) (method : Option ℕ) (r : Read (List ℕ)) → split_greeted users method r ≡ split_of (and_then r (λ offered. answered users method))
greeted-split users None (Read.Got offered at rest) = refl
greeted-split users (Some method) (Read.Got offered at rest) = split-at (method == 0) _ _ (request5 >>= asked Version.V5 Method.NoAuth None) (cond (method == 2) (login >>= logged users) (done Settled.NoMethod)) at rest
    (asked-split Version.V5 Method.NoAuth None (request5 at rest)) (split-at (method == 2) _ _ (login >>= logged users) (done Settled.NoMethod) at rest (login-split users (login at rest)) refl)
greeted-split users method Read.Short = refl
greeted-split users method (Read.Wrong at byte kind) = refl

pub splits : (users : List User) (method : Option ℕ) (bytes : List ℕ) → split users method bytes ≡ split_of (prelude users method 0 bytes)
splits users method [] = refl
splits users method (b ∷ bytes) = split-cond (b == 4) _ _ _ _ (asked-split Version.V4 Method.NoAuth None (request4 0 (b ∷ bytes)))
    (split-cond (b == 5) _ _ _ _ (greeted-split users method (greeting 0 (b ∷ bytes))) refl)

-- ---- where an input is settled

abbrev pub Ended : Option ℕ → List ℕ → Read Settled → Type 0
Ended method bytes (Read.Got Settled.NoMethod n rest) = greeting_length bytes ≡ n
Ended method bytes (Read.Got Settled.LoginFailed n rest) = login_place bytes ≡ Some n
Ended method bytes (Read.Got Settled.Unanswered n rest) = method ≡ None
Ended method bytes _ = Unit {0}

ended-cond : (t : Bool) (method : Option ℕ) (all : List ℕ) (r s : Read Settled) → Ended method all r → Ended method all s → Ended method all (cond t r s)
ended-cond true method all r s e f = e
ended-cond false method all r s e f = f

ended-at : (t : Bool) (method : Option ℕ) (all : List ℕ) (r s : Reader Settled) (at : ℕ) (bytes : List ℕ) → Ended method all (r at bytes) → Ended method all (s at bytes) → Ended method all (cond t r s at bytes)
ended-at true method all r s at bytes e f = e
ended-at false method all r s at bytes e f = f

asked-ended : (before : Option ℕ) (all : List ℕ) (version : Version) (method : Method) (user : Option (List ℕ)) (r : Read Asked) → Ended before all (and_then r (asked version method user))
asked-ended before all version method user (Read.Got a at rest) = tt
asked-ended before all version method user Read.Short = tt
asked-ended before all version method user (Read.Wrong at byte kind) = tt

login-ended : (users : List User) (method : Option ℕ) (all : List ℕ) (r : Read Credentials) → login_place all ≡ login_end r → Ended method all (and_then r (logged users))
login-ended users method all (Read.Got l at rest) e = ended-at (user_fits users l.name l.password) method all (request5 >>= asked Version.V5 Method.Username (Some l.name)) (done Settled.LoginFailed) at rest
    (asked-ended method all Version.V5 Method.Username (Some l.name) (request5 at rest)) e
login-ended users method all Read.Short e = tt
login-ended users method all (Read.Wrong at byte kind) e = tt

greeted-ended : (users : List User) (method : Option ℕ) (all : List ℕ) (r : Read (List ℕ)) → greeting 0 all ≡ r → Ended method all (and_then r (λ offered. answered users method))
greeted-ended users None all (Read.Got offered at rest) e = refl
greeted-ended users (Some method) all (Read.Got offered at rest) e = ended-at (method == 0) (Some method) all (request5 >>= asked Version.V5 Method.NoAuth None) (cond (method == 2) (login >>= logged users) (done Settled.NoMethod)) at rest
    (asked-ended (Some method) all Version.V5 Method.NoAuth None (request5 at rest))
    (ended-at (method == 2) (Some method) all (login >>= logged users) (done Settled.NoMethod) at rest (login-ended users (Some method) all (login at rest) (ap login_place_of e)) (ap place_behind e))
greeted-ended users method all Read.Short e = tt
greeted-ended users method all (Read.Wrong at byte kind) e = tt

pub ends : (users : List User) (method : Option ℕ) (bytes : List ℕ) → Ended method bytes (prelude users method 0 bytes)
ends users method [] = tt
ends users method (b ∷ bytes) = ended-cond (b == 4) method (b ∷ bytes) _ _ (asked-ended method (b ∷ bytes) Version.V4 Method.NoAuth None (request4 0 (b ∷ bytes)))
    (ended-cond (b == 5) method (b ∷ bytes) _ _ (greeted-ended users method (b ∷ bytes) (greeting 0 (b ∷ bytes)) refl) tt)
