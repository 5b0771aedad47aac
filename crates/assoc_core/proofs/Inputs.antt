-- What the definitions say of a client's input, over any prelude.
use Rattle.std.proofs.Common.{◌≡◌, ◌==◌, ◌&&◌, ℕ, Bool, true, false, not, if◌then◌else◌, Option, Some, None, List, [], ◌∷◌, ◌++◌, is_some, refl, sym, ap, subst, ◌∙◌, arith}
use Rattle.conf_types.specs.declared.entries.Entries.{Entries}
use Rattle.socks_grammar.specs.declared.protocol.Method.{Method}
use Rattle.socks_grammar.specs.declared.protocol.Version.{Version}
use Rattle.socks_grammar.specs.declared.user.User.{User}
use Rattle.socks_grammar.specs.Grammar.{Read, Asked, Credentials, greeting, login, request4}
use Rattle.socks_grammar.specs.Handshake.{Request, Split, split, split_request, split_login, split_answered, split_greeted, login_end, login_place, login_place_of}
use Rattle.socks_grammar.specs.Stable.{SplitExtends}
use Rattle.socks_grammar.specs.Users.{user_fits}
use Rattle.socks_grammar.proofs.GrammarLaws.{split-extends}
use Rattle.socks_machine.specs.Inputs.{is_served_input, is_served_split}
use Rattle.socks_machine.specs.Socks.{socks}
use Rattle.socks_machine.specs.View.{login_fits, login_fits_behind}
use Rattle.assoc_core.specs.Plain.{is_failed_split}

-- ---- what is served

left : (a b : Bool) → a && b ≡ true → a ≡ true
left true b h = refl
left false b h = cc

right : (a b : Bool) → a && b ≡ true → b ≡ true
right true b h = h
right false b h = cc

served-none : (users : List User) (c : List ℕ) → is_served_input users c ≡ true → is_served_split (split users (Some 0) c) ≡ true
served-none users c h = left (is_served_split (split users (Some 0) c)) _ h

served-login : (users : List User) (c : List ℕ) → is_served_input users c ≡ true → is_served_split (split users (Some 2) c) ≡ true
served-login users c h = right (is_served_split (split users (Some 0) c)) _ h

-- behind a greeting another method than 00 and 02 agrees upon nothing
greeted-served : (users : List User) (method : ℕ) (x : Read (List ℕ)) → is_served_split (split_greeted users (Some 0) x) ≡ true → is_served_split (split_greeted users (Some 2) x) ≡ true
    → is_served_split (split_greeted users (Some method) x) ≡ true
greeted-served users method (Read.Got o at rest) h k = by (method == 0) (method == 2) refl refl
  where
    by : (none login' : Bool) → method == 0 ≡ none → method == 2 ≡ login' → is_served_split (split_answered users method at rest) ≡ true
    by true login' e f = let n : method ≡ 0 = grind (arith, e) in subst (λ m. is_served_split (split_answered users m at rest) ≡ true) (sym n) h
    by false true e f = let n : method ≡ 2 = grind (arith, f) in subst (λ m. is_served_split (split_answered users m at rest) ≡ true) (sym n) k
    by false false e f = rw (e, f) refl
greeted-served users method Read.Short h k = refl
greeted-served users method (Read.Wrong at byte kind) h k = refl

unanswered-served : (users : List User) (x : Read (List ℕ)) → is_served_split (split_greeted users None x) ≡ true
unanswered-served users (Read.Got o at rest) = refl
unanswered-served users Read.Short = refl
unanswered-served users (Read.Wrong at byte kind) = refl

-- a served input is served whichever method was answered
pub served-by : (users : List User) (method : Option ℕ) (c : List ℕ) → is_served_input users c ≡ true → is_served_split (split users method c) ≡ true
served-by users method [] h = refl
served-by users method (b ∷ bs) h = by (b == 4) (b == 5) refl refl method
  where
    at-four : b == 4 ≡ true → (method : Option ℕ) → split users method (b ∷ bs) ≡ split_request Version.V4 Method.NoAuth None (request4 0 (b ∷ bs))
    at-four e4 method = rw e4 refl

    at-five : b == 4 ≡ false → b == 5 ≡ true → (method : Option ℕ) → split users method (b ∷ bs) ≡ split_greeted users method (greeting 0 (b ∷ bs))
    at-five e4 e5 method = rw (e4, e5) refl

    by : (four five : Bool) → b == 4 ≡ four → b == 5 ≡ five → (method : Option ℕ) → is_served_split (split users method (b ∷ bs)) ≡ true
    by true five e4 e5 method = ap is_served_split (at-four e4 method ∙ sym (at-four e4 (Some 0))) ∙ served-none users (b ∷ bs) h
    by false true e4 e5 None = ap is_served_split (at-five e4 e5 None) ∙ unanswered-served users (greeting 0 (b ∷ bs))
    by false true e4 e5 (Some m) = ap is_served_split (at-five e4 e5 (Some m)) ∙ greeted-served users m (greeting 0 (b ∷ bs))
        (sym (ap is_served_split (at-five e4 e5 (Some 0))) ∙ served-none users (b ∷ bs) h)
        (sym (ap is_served_split (at-five e4 e5 (Some 2))) ∙ served-login users (b ∷ bs) h)
    by false false e4 e5 method = rw (e4, e5) refl

-- ---- a first part of an input

first-served : (x y : Split) → SplitExtends x y → is_served_split y ≡ true → is_served_split x ≡ true
first-served (Split.Whole q n) y e h = sym (ap is_served_split e) ∙ h
first-served (Split.Bad at byte kind) y e h = refl
first-served Split.NoMethod y e h = refl
first-served Split.LoginFailed y e h = refl
first-served Split.More y e h = refl

-- a first part of a served input is served, whichever method was answered
pub first-part-served : (users : List User) (method : Option ℕ) (c x : List ℕ) → is_served_input users (c ++ x) ≡ true → is_served_split (split users method c) ≡ true
first-part-served users method c x h = first-served (split users method c) (split users method (c ++ x)) (split-extends users method c x) (served-by users method (c ++ x) h)

-- a whole prelude stays whole, whatever follows
pub whole-stays : (users : List User) (method : Option ℕ) (c x : List ℕ) (q : Request) (n : ℕ) → split users method c ≡ Split.Whole q n → split users method (c ++ x) ≡ Split.Whole q n
whole-stays users method c x q n h = by (split users method c) (split users method (c ++ x)) (split-extends users method c x) h
  where
    by : (s s' : Split) → SplitExtends s s' → s ≡ Split.Whole q n → s' ≡ Split.Whole q n
    by (Split.Whole r k) s' e f = e ∙ f
    by (Split.Bad at byte kind) s' e f = absurd (cc)
    by Split.NoMethod s' e f = absurd (cc)
    by Split.LoginFailed s' e f = absurd (cc)
    by Split.More s' e f = absurd (cc)

-- ---- the login

never-failed : (version : Version) (method : Method) (user : Option (List ℕ)) (x : Read Asked) → is_failed_split (split_request version method user x) ≡ false
never-failed version method user (Read.Got a at rest) = refl
never-failed version method user Read.Short = refl
never-failed version method user (Read.Wrong at byte kind) = refl

fits-passed : (fits : Bool) (x : Split) → is_failed_split x ≡ false → fits ≡ not (is_failed_split (if fits then x else Split.LoginFailed))
fits-passed true x h = sym (ap not h)
fits-passed false x h = refl

logged-passed : (users : List User) (pubs : List Entries) (x : Read Credentials) → login_fits (socks users pubs) x ≡ (is_some (login_end x) && not (is_failed_split (split_login users x)))
logged-passed users pubs (Read.Got l at rest) = fits-passed (user_fits users l.name l.password) _ (never-failed Version.V5 Method.Username (Some l.name) _)
logged-passed users pubs Read.Short = refl
logged-passed users pubs (Read.Wrong at byte kind) = refl

greeted-passed : (users : List User) (pubs : List Entries) (x : Read (List ℕ)) → login_fits_behind (socks users pubs) x ≡ (is_some (login_place_of x) && not (is_failed_split (split_greeted users (Some 2) x)))
greeted-passed users pubs (Read.Got o at rest) = logged-passed users pubs (login at rest)
greeted-passed users pubs Read.Short = refl
greeted-passed users pubs (Read.Wrong at byte kind) = refl

-- whether the login behind a greeting fits, in the words of the split
pub login-passed : (users : List User) (pubs : List Entries) (c : List ℕ) → login_fits_behind (socks users pubs) (greeting 0 c) ≡ (is_some (login_place c) && not (is_failed_split (split users (Some 2) c)))
login-passed users pubs [] = refl
login-passed users pubs (b ∷ bytes) = by (b == 5) refl
  where
    by : (five : Bool) → b == 5 ≡ five
        → login_fits_behind (socks users pubs) (greeting 0 (b ∷ bytes)) ≡ (is_some (login_place (b ∷ bytes)) && not (is_failed_split (split users (Some 2) (b ∷ bytes))))
    by false e5 = rw e5 refl
    by true e5 =
        let n : b ≡ 5 = grind (arith, e5) in
        subst (λ z. login_fits_behind (socks users pubs) (greeting 0 (z ∷ bytes)) ≡ (is_some (login_place (z ∷ bytes)) && not (is_failed_split (split users (Some 2) (z ∷ bytes)))))
        (sym n) (greeted-passed users pubs (greeting 0 (5 ∷ bytes)))
