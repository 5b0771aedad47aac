-- How long the prelude is at the front of a whole input, whoever its user is.
use Rattle.std.specs.Prelude.{ℕ, ◌≡◌, ◌≤◌, ◌==◌, if◌then◌else◌, Option, Some, List, [], ◌∷◌, length}
use Rattle.socks_grammar.specs.declared.user.User.{User}
use Rattle.socks_grammar.specs.Grammar.{Read, Asked, Credentials, greeting, login, request4, request5}
use Rattle.socks_grammar.specs.Handshake.{Request, Split, split}

-- where a message ends that is whole, and 0 where it isn't
abbrev pub asked_end : Read Asked → ℕ
asked_end (Read.Got a at rest) = at
asked_end _ = 0

-- .. the request behind a login (RFC 1929, section 2)
abbrev pub logged_end : Read Credentials → ℕ
logged_end (Read.Got l at rest) = asked_end (request5 at rest)
logged_end _ = 0

-- .. behind a greeting to which this method was answered (RFC 1928, section 3)
abbrev pub answered_end : ℕ → ℕ → List ℕ → ℕ
answered_end method at rest =
    if method == 0 then asked_end (request5 at rest) else (if method == 2 then logged_end (login at rest) else 0)

abbrev pub greeted_end : Option ℕ → Read (List ℕ) → ℕ
greeted_end (Some method) (Read.Got offered at rest) = answered_end method at rest
greeted_end _ _ = 0

-- .. in a whole input; the first byte says the version (RFC 1928, section 3, and the SOCKS 4 memo)
abbrev pub prelude_end : Option ℕ → List ℕ → ℕ
prelude_end method [] = 0
prelude_end method (b ∷ bytes) =
    if b == 4 then asked_end (request4 0 (b ∷ bytes)) else (if b == 5 then greeted_end method (greeting 0 (b ∷ bytes)) else 0)

-- a whole prelude ends there
abbrev pub IsLengthOfPrelude : Type 0
IsLengthOfPrelude = (users : List User) (method : Option ℕ) (bytes : List ℕ) (q : Request) (n : ℕ) → split users method bytes ≡ Split.Whole q n → prelude_end method bytes ≡ n

-- no prelude is longer than its input
abbrev pub EndsWithin : Type 0
EndsWithin = (method : Option ℕ) (bytes : List ℕ) → prelude_end method bytes ≤ length bytes
