-- What the readers of messages find, put together to the request of a whole input.
use Rattle.std.proofs.Common.{ℕ, zero, suc, ◌≡◌, ◌≤◌, ◌+◌, ◌-◌, Bool, true, false, Option, Some, None, is_some, List, [], ◌∷◌, length, drop, take, refl, sym, subst, ap, ◌∙◌, arith}
use Rattle.std.specs.Prelude.{slice_range}
use Rattle.std.proofs.lemmas.List.{drop-drop, length-drop, take_all}
use Rattle.addr_pattern.specs.declared.front.Front.{Front}
use Rattle.socks_grammar.specs.declared.protocol.Method.{Method}
use Rattle.socks_grammar.specs.declared.protocol.Version.{Version}
use Rattle.socks_grammar.specs.declared.user.User.{User}
use Rattle.socks_grammar.specs.Fronts.{IsFront}
use Rattle.socks_grammar.specs.Grammar.{Read, Asked, Credentials, greeting, login, request4, request5}
use Rattle.socks_grammar.specs.Handshake.{Split, split_request, split_login, split_greeted, request_of, login_end}
use Rattle.socks_grammar.specs.Users.{user_fits}
use Rattle.socks5_codec.specs.declared.message.Greeting.{Greeting}
use Rattle.socks5_codec.specs.Reads.{OnGreeting}
use Rattle.user_login.specs.declared.login.LoginAt.{LoginAt}
use Rattle.user_login.specs.Messages.{part, credentials_at, IsLogin, OnLogin}
use Rattle.handshake_core.specs.declared.asked.Asked.{Asked as AskedIs}
use Rattle.handshake_core.specs.declared.request.Request.{Request}
use Rattle.handshake_core.specs.Asking.{asked_in}
use Rattle.handshake_core.specs.Lengths.{asked_end, logged_end}
use Rattle.handshake_core.specs.Readers.{AllBytes, shifted}
use Rattle.handshake_core.specs.Whole.{OnSplit}
use Rattle.handshake_core.proofs.Asking.{front-whole}
use Rattle.handshake_core.proofs.Hearing.{part-is, whole-place}
use Rattle.handshake_core.proofs.Shifting.{login-at, request5-at}

-- ---- nothing is found

-- too few bytes, or a bad one
abbrev pub NotGot : {A : Type 0} → Read A → Type 0
NotGot (Read.Got a at rest) = ⊥
NotGot _ = Unit {0}

unfound : {A B : Type 0} (view : A → B) (r : Front A) (x : Read B) → IsFront view r x → ((value : A) (len : ℕ) → r ≡ Front.Whole value len → ⊥) → NotGot x
unfound view (Front.Whole value len) x h none = absurd (none value len refl)
unfound view Front.More (Read.Got b at rest) h none = h
unfound view (Front.Bad bad) (Read.Got b at rest) h none = h
unfound view Front.More Read.Short h none = tt
unfound view Front.More (Read.Wrong at byte kind) h none = tt
unfound view (Front.Bad bad) Read.Short h none = tt
unfound view (Front.Bad bad) (Read.Wrong at byte kind) h none = tt

further : {A : Type 0} (n : ℕ) (x : Read A) → NotGot x → NotGot (shifted n x)
further n (Read.Got a at rest) h = h
further n Read.Short h = tt
further n (Read.Wrong at byte kind) h = tt

no-request : (version : Version) (method : Method) (user : Option (List ℕ)) (x : Read Asked) → NotGot x → OnSplit None (split_request version method user x)
no-request version method user (Read.Got a at rest) h = h
no-request version method user Read.Short h = tt
no-request version method user (Read.Wrong at byte kind) h = tt

no-login : (users : List User) (x : Read Credentials) → NotGot x → OnSplit None (split_login users x)
no-login users (Read.Got l at rest) h = absurd h
no-login users Read.Short h = tt
no-login users (Read.Wrong at byte kind) h = tt

no-greeting : (users : List User) (method : ℕ) (x : Read (List ℕ)) → NotGot x → OnSplit None (split_greeted users (Some method) x)
no-greeting users method (Read.Got l at rest) h = absurd h
no-greeting users method Read.Short h = tt
no-greeting users method (Read.Wrong at byte kind) h = tt

greeting-unfound : (bytes : List ℕ) (r : Front Greeting) → OnGreeting bytes r → ((value : Greeting) (len : ℕ) → r ≡ Front.Whole value len → ⊥) → NotGot (greeting 0 bytes)
greeting-unfound bytes (Front.Whole value len) h none = absurd (none value len refl)
greeting-unfound bytes Front.More h none = subst NotGot (sym h) tt
greeting-unfound bytes (Front.Bad bad) h none = subst NotGot (sym h) tt

login-unfound : (bytes : List ℕ) (r : Front LoginAt) → OnLogin bytes r → ((value : LoginAt) (len : ℕ) → r ≡ Front.Whole value len → ⊥) → NotGot (login 0 bytes)
login-unfound bytes (Front.Whole value len) h none = absurd (none value len refl)
login-unfound bytes Front.More h none = subst NotGot (sym h) tt
login-unfound bytes (Front.Bad bad) h none = subst NotGot (sym h.spelled) tt

-- ---- the rest of a slice

rest-is : (bytes : List ℕ) (at : ℕ) → take (length bytes - at) (drop at bytes) ≡ drop at bytes
rest-is bytes at = let k = length-drop at bytes in take_all (length bytes - at) (drop at bytes) (omega (arith, k))

all-drop : (n : ℕ) (bytes : List ℕ) → AllBytes bytes → AllBytes (drop n bytes)
all-drop zero bytes h = h
all-drop (suc n) [] h = tt
all-drop (suc n) (b ∷ bytes) h = all-drop n bytes h.1

-- ---- version 4

pub four-found : (bytes : List ℕ) (asked : AskedIs) (len : ℕ) → IsFront asked_in (Front.Whole asked len) (request4 0 bytes)
    → split_request Version.V4 Method.NoAuth None (request4 0 bytes) ≡ Split.Whole (request_of Version.V4 Method.NoAuth None (asked_in asked)) len
four-found bytes asked len h = ap (split_request Version.V4 Method.NoAuth None) (front-whole asked_in asked len (request4 0 bytes) h).is

pub four-unfound : (bytes : List ℕ) (r : Front AskedIs) → IsFront asked_in r (request4 0 bytes) → ((asked : AskedIs) (len : ℕ) → r ≡ Front.Whole asked len → ⊥)
    → OnSplit None (split_request Version.V4 Method.NoAuth None (request4 0 bytes))
four-unfound bytes r h none = no-request Version.V4 Method.NoAuth None (request4 0 bytes) (unfound asked_in r (request4 0 bytes) h none)

-- ---- a request of version 5 behind other messages

abbrev rest_of : List ℕ → ℕ → List ℕ
rest_of bytes at = take (length bytes - at) (drop at bytes)

request-at : (bytes : List ℕ) (at : ℕ) → request5 at (drop at bytes) ≡ shifted at (request5 0 (rest_of bytes at))
request-at bytes at = request5-at at (drop at bytes) ∙ ap (λ (x : List ℕ). shifted at (request5 0 x)) (sym (rest-is bytes at))

pub request-place : (bytes : List ℕ) (at : ℕ) (asked : AskedIs) (len : ℕ) → AllBytes bytes → IsFront asked_in (Front.Whole asked len) (request5 0 (rest_of bytes at)) → len ≤ 262
request-place bytes at asked len all h =
    let f = front-whole asked_in asked len (request5 0 (rest_of bytes at)) h in
    whole-place (rest_of bytes at) (asked_in asked) len f.rest (subst AllBytes (sym (rest-is bytes at)) (all-drop at bytes all)) f.is

pub request-found : (method : Method) (user : Option (List ℕ)) (bytes : List ℕ) (at : ℕ) (asked : AskedIs) (len : ℕ) → IsFront asked_in (Front.Whole asked len) (request5 0 (rest_of bytes at))
    → split_request Version.V5 method user (request5 at (drop at bytes)) ≡ Split.Whole (request_of Version.V5 method user (asked_in asked)) (at + len)
request-found method user bytes at asked len h =
    ap (split_request Version.V5 method user) (request-at bytes at ∙ ap (shifted at) (front-whole asked_in asked len (request5 0 (rest_of bytes at)) h).is)

pub request-unfound : (method : Method) (user : Option (List ℕ)) (bytes : List ℕ) (at : ℕ) (r : Front AskedIs) → IsFront asked_in r (request5 0 (rest_of bytes at))
    → ((asked : AskedIs) (len : ℕ) → r ≡ Front.Whole asked len → ⊥) → OnSplit None (split_request Version.V5 method user (request5 at (drop at bytes)))
request-unfound method user bytes at r h none =
    subst (λ x. OnSplit None (split_request Version.V5 method user x)) (sym (request-at bytes at))
    (no-request Version.V5 method user (shifted at (request5 0 (rest_of bytes at))) (further at (request5 0 (rest_of bytes at)) (unfound asked_in r (request5 0 (rest_of bytes at)) h none)))

-- ---- a login

login-place : (bytes : List ℕ) (at : ℕ) → login at (drop at bytes) ≡ shifted at (login 0 (rest_of bytes at))
login-place bytes at = login-at at (drop at bytes) ∙ ap (λ (x : List ℕ). shifted at (login 0 x)) (sym (rest-is bytes at))

login-is : (bytes : List ℕ) (at : ℕ) (l : LoginAt) (len : ℕ) → IsLogin (rest_of bytes at) l len
    → login at (drop at bytes) ≡ Read.Got (credentials_at (rest_of bytes at) l) (at + len) (drop (at + len) bytes)
login-is bytes at l len h =
    login-place bytes at ∙ (ap (shifted at) h.spelled
    ∙ ap (λ (x : List ℕ). Read.Got (credentials_at (rest_of bytes at) l) (at + len) x) (ap (drop len) (rest-is bytes at) ∙ drop-drop len at bytes))

-- the name and the password, as they are cut from the bytes
abbrev name_in : List ℕ → LoginAt → List ℕ
name_in bytes l = slice_range bytes l.name.at (l.name.at + l.name.len)

abbrev password_in : List ℕ → LoginAt → List ℕ
password_in bytes l = slice_range bytes l.password.at (l.password.at + l.password.len)

fits-in : (users : List User) (bytes : List ℕ) (l : LoginAt) (t : Bool) → user_fits users (name_in bytes l) (password_in bytes l) ≡ t → user_fits users (part bytes l.name) (part bytes l.password) ≡ t
fits-in users bytes l t h =
    ap (λ (x : List ℕ). user_fits users x (part bytes l.password)) (part-is bytes l.name) ∙ (ap (user_fits users (name_in bytes l)) (part-is bytes l.password) ∙ h)

pub login-found : (users : List User) (bytes : List ℕ) (at : ℕ) (l : LoginAt) (len : ℕ) (user : List ℕ) (r : Option Request) → IsLogin (rest_of bytes at) l len
    → user_fits users (name_in (rest_of bytes at) l) (password_in (rest_of bytes at) l) ≡ true → user ≡ name_in (rest_of bytes at) l
    → OnSplit r (split_request Version.V5 Method.Username (Some user) (request5 (at + len) (drop (at + len) bytes))) → OnSplit r (split_login users (login at (drop at bytes)))
login-found users bytes at l len user r h fits is k =
    let rest = rest_of bytes at in
    let name : user ≡ part rest l.name = is ∙ sym (part-is rest l.name) in
    let j = subst (λ (x : List ℕ). OnSplit r (split_request Version.V5 Method.Username (Some x) (request5 (at + len) (drop (at + len) bytes)))) name k in
    let t = fits-in users rest l true fits in
    subst (λ x. OnSplit r (split_login users x)) (sym (login-is bytes at l len h)) (rw t j)

pub login-unfit : (users : List User) (bytes : List ℕ) (at : ℕ) (l : LoginAt) (len : ℕ) → IsLogin (rest_of bytes at) l len
    → user_fits users (name_in (rest_of bytes at) l) (password_in (rest_of bytes at) l) ≡ false → OnSplit None (split_login users (login at (drop at bytes)))
login-unfit users bytes at l len h unfit =
    let t = fits-in users (rest_of bytes at) l false unfit in
    subst (λ x. OnSplit None (split_login users x)) (sym (login-is bytes at l len h)) (rw t tt)

pub login-missing : (users : List User) (bytes : List ℕ) (at : ℕ) (r : Front LoginAt) → OnLogin (rest_of bytes at) r → ((value : LoginAt) (len : ℕ) → r ≡ Front.Whole value len → ⊥)
    → OnSplit None (split_login users (login at (drop at bytes)))
login-missing users bytes at r h none =
    subst (λ x. OnSplit None (split_login users x)) (sym (login-place bytes at))
    (no-login users (shifted at (login 0 (rest_of bytes at))) (further at (login 0 (rest_of bytes at)) (login-unfound (rest_of bytes at) r h none)))

-- ---- a greeting

pub greeting-missing : (users : List User) (method : ℕ) (bytes : List ℕ) (r : Front Greeting) → OnGreeting bytes r → ((value : Greeting) (len : ℕ) → r ≡ Front.Whole value len → ⊥)
    → OnSplit None (split_greeted users (Some method) (greeting 0 bytes))
greeting-missing users method bytes r h none = no-greeting users method (greeting 0 bytes) (greeting-unfound bytes r h none)

-- ---- where messages end

ends-nowhere : (x : Read Asked) → NotGot x → asked_end x ≡ 0
ends-nowhere (Read.Got a at rest) h = absurd h
ends-nowhere Read.Short h = refl
ends-nowhere (Read.Wrong at byte kind) h = refl

login-ends-nowhere : (x : Read Credentials) → NotGot x → logged_end x ≡ 0
login-ends-nowhere (Read.Got l at rest) h = absurd h
login-ends-nowhere Read.Short h = refl
login-ends-nowhere (Read.Wrong at byte kind) h = refl

pub request-ends : (bytes : List ℕ) (at : ℕ) (asked : AskedIs) (len : ℕ) → IsFront asked_in (Front.Whole asked len) (request5 0 (rest_of bytes at)) → at + len ≡ asked_end (request5 at (drop at bytes))
request-ends bytes at asked len h = sym (ap asked_end (request-at bytes at ∙ ap (shifted at) (front-whole asked_in asked len (request5 0 (rest_of bytes at)) h).is))

pub request-ends-nowhere : (bytes : List ℕ) (at : ℕ) (r : Front AskedIs) → IsFront asked_in r (request5 0 (rest_of bytes at)) → ((asked : AskedIs) (len : ℕ) → r ≡ Front.Whole asked len → ⊥)
    → 0 ≡ asked_end (request5 at (drop at bytes))
request-ends-nowhere bytes at r h none =
    sym (ap asked_end (request-at bytes at) ∙ ends-nowhere (shifted at (request5 0 (rest_of bytes at))) (further at (request5 0 (rest_of bytes at)) (unfound asked_in r (request5 0 (rest_of bytes at)) h none)))

pub login-ends : (bytes : List ℕ) (at : ℕ) (l : LoginAt) (len n : ℕ) → IsLogin (rest_of bytes at) l len → n ≡ asked_end (request5 (at + len) (drop (at + len) bytes)) → n ≡ logged_end (login at (drop at bytes))
login-ends bytes at l len n h e = e ∙ sym (ap logged_end (login-is bytes at l len h))

pub login-ends-missing : (bytes : List ℕ) (at : ℕ) (r : Front LoginAt) → OnLogin (rest_of bytes at) r → ((value : LoginAt) (len : ℕ) → r ≡ Front.Whole value len → ⊥) → 0 ≡ logged_end (login at (drop at bytes))
login-ends-missing bytes at r h none =
    sym (ap logged_end (login-place bytes at) ∙ login-ends-nowhere (shifted at (login 0 (rest_of bytes at))) (further at (login 0 (rest_of bytes at)) (login-unfound (rest_of bytes at) r h none)))

-- ---- whether a login is whole

pub has-login : (bytes : List ℕ) (at : ℕ) (l : LoginAt) (len : ℕ) → IsLogin (rest_of bytes at) l len → is_some (login_end (login at (drop at bytes))) ≡ true
has-login bytes at l len h = ap (λ x. is_some (login_end x)) (login-is bytes at l len h)

no-login-end : (x : Read Credentials) → NotGot x → is_some (login_end x) ≡ false
no-login-end (Read.Got l at rest) h = absurd h
no-login-end Read.Short h = refl
no-login-end (Read.Wrong at byte kind) h = refl

pub has-no-login : (bytes : List ℕ) (at : ℕ) (r : Front LoginAt) → OnLogin (rest_of bytes at) r → ((value : LoginAt) (len : ℕ) → r ≡ Front.Whole value len → ⊥)
    → is_some (login_end (login at (drop at bytes))) ≡ false
has-no-login bytes at r h none =
    ap (λ x. is_some (login_end x)) (login-place bytes at)
    ∙ no-login-end (shifted at (login 0 (rest_of bytes at))) (further at (login 0 (rest_of bytes at)) (login-unfound (rest_of bytes at) r h none))
