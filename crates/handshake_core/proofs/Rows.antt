-- Where an input ends that is settled, on worked bytes.
use Rattle.std.proofs.Common.{ℕ, Some, None, List, [], ◌∷◌, refl}
use Rattle.std.specs.Prelude.{IsTrue, is_some}
use Rattle.socks_grammar.specs.Handshake.{split, offered}
use Rattle.handshake_core.specs.PreludeLaws.{EndsSettled}

-- CONNECT to 10.0.0.1, port 80 (the SOCKS 4 memo)
abbrev connect4 : List ℕ
connect4 = 4 ∷ 1 ∷ 0 ∷ 80 ∷ 10 ∷ 0 ∷ 0 ∷ 1 ∷ 0 ∷ []

request-ends : EndsSettled connect4 (split [] (Some 0) connect4)
request-ends = refl

-- a greeting that offers 00, and CONNECT to 10.0.0.1, port 80 (RFC 1928, sections 3 and 4)
abbrev connect5 : List ℕ
connect5 = 5 ∷ 1 ∷ 0 ∷ 5 ∷ 1 ∷ 0 ∷ 1 ∷ 10 ∷ 0 ∷ 0 ∷ 1 ∷ 0 ∷ 80 ∷ []

prelude-ends : EndsSettled connect5 (split [] (Some 0) connect5)
prelude-ends = refl

-- a greeting that offers 01, to which FF is answered (RFC 1928, section 3)
abbrev offers-other : List ℕ
offers-other = 5 ∷ 1 ∷ 1 ∷ []

no-method-ends : EndsSettled offers-other (split [] (Some 255) offers-other)
no-method-ends = refl

waits : IsTrue (is_some (offered offers-other))
waits = refl

-- a greeting that offers 02, and a login without a name (RFC 1928, section 3, and RFC 1929, section 2)
abbrev nameless : List ℕ
nameless = 5 ∷ 1 ∷ 2 ∷ 1 ∷ 0 ∷ 0 ∷ []

login-ends : EndsSettled nameless (split [] (Some 2) nameless)
login-ends = refl

-- a byte later the login has ended before
not-later : EndsSettled (5 ∷ 1 ∷ 2 ∷ 1 ∷ 0 ∷ 0 ∷ 5 ∷ []) (split [] (Some 2) (5 ∷ 1 ∷ 2 ∷ 1 ∷ 0 ∷ 0 ∷ 5 ∷ [])) → ⊥
not-later e = cc
