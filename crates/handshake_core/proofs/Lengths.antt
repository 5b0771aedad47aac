-- Where whole preludes end.
use Rattle.std.proofs.Common.{ℕ, ◌≡◌, ◌==◌, Bool, true, false, if◌then◌else◌, Option, Some, None, List, [], ◌∷◌}
use Rattle.socks_grammar.specs.declared.protocol.Method.{Method}
use Rattle.socks_grammar.specs.declared.protocol.Version.{Version}
use Rattle.socks_grammar.specs.declared.user.User.{User}
use Rattle.socks_grammar.specs.Grammar.{Read, Asked, Credentials, greeting, login, request4, request5}
use Rattle.socks_grammar.specs.Handshake.{Request, Split, split_request, split_login, split_answered, split_greeted}
use Rattle.socks_grammar.specs.Users.{user_fits}
use Rattle.handshake_core.specs.Lengths.{asked_end, logged_end, answered_end, greeted_end, IsLengthOfPrelude}

asked-ends : (version : Version) (method : Method) (user : Option (List ℕ)) (x : Read Asked) (q : Request) (n : ℕ) → split_request version method user x ≡ Split.Whole q n → asked_end x ≡ n
asked-ends version method user (Read.Got a at rest) q n h = cc
asked-ends version method user Read.Short q n h = absurd (cc)
asked-ends version method user (Read.Wrong at byte kind) q n h = absurd (cc)

fits-ends : (fits : Bool) (x : Split) (e : ℕ) (q : Request) (n : ℕ) → ((q : Request) (n : ℕ) → x ≡ Split.Whole q n → e ≡ n) → (if fits then x else Split.LoginFailed) ≡ Split.Whole q n → e ≡ n
fits-ends true x e q n f h = f q n h
fits-ends false x e q n f h = absurd (cc)

logged-ends : (users : List User) (x : Read Credentials) (q : Request) (n : ℕ) → split_login users x ≡ Split.Whole q n → logged_end x ≡ n
logged-ends users (Read.Got l at rest) q n h = fits-ends (user_fits users l.name l.password) (split_request Version.V5 Method.Username (Some l.name) (request5 at rest)) _ q n
    (asked-ends Version.V5 Method.Username (Some l.name) (request5 at rest)) h
logged-ends users Read.Short q n h = absurd (cc)
logged-ends users (Read.Wrong at byte kind) q n h = absurd (cc)

by-tests : (t : Bool) (x y : Split) (d e : ℕ) (q : Request) (n : ℕ) → (x ≡ Split.Whole q n → d ≡ n) → (y ≡ Split.Whole q n → e ≡ n) → (if t then x else y) ≡ Split.Whole q n → (if t then d else e) ≡ n
by-tests true x y d e q n f g h = f h
by-tests false x y d e q n f g h = g h

answered-ends : (users : List User) (method at : ℕ) (rest : List ℕ) (q : Request) (n : ℕ) → split_answered users method at rest ≡ Split.Whole q n → answered_end method at rest ≡ n
answered-ends users method at rest q n = by-tests (method == 0) _ _ _ _ q n (asked-ends Version.V5 Method.NoAuth None (request5 at rest) q n)
    (by-tests (method == 2) _ _ _ _ q n (logged-ends users (login at rest) q n) (λ h. absurd (cc)))

greeted-ends : (users : List User) (method : Option ℕ) (x : Read (List ℕ)) (q : Request) (n : ℕ) → split_greeted users method x ≡ Split.Whole q n → greeted_end method x ≡ n
greeted-ends users None (Read.Got offered at rest) q n h = absurd (cc)
greeted-ends users (Some method) (Read.Got offered at rest) q n h = answered-ends users method at rest q n h
greeted-ends users method Read.Short q n h = absurd (cc)
greeted-ends users method (Read.Wrong at byte kind) q n h = absurd (cc)

pub ends-there : IsLengthOfPrelude
ends-there users method [] q n h = absurd (cc)
ends-there users method (b ∷ bytes) q n h = by-tests (b == 4) _ _ _ _ q n (asked-ends Version.V4 Method.NoAuth None (request4 0 (b ∷ bytes)) q n)
    (by-tests (b == 5) _ _ _ _ q n (greeted-ends users method (greeting 0 (b ∷ bytes)) q n) (λ k. absurd (cc))) h
