-- The preludes that are measured.
use Rattle.std.specs.Prelude.{ℕ, List, [], ◌∷◌, ◌++◌, replicate}

-- no login, and a CONNECT to port 80 of 127.0.0.1: 13 bytes (RFC 1928, sections 3 and 4)
abbrev pub short_prelude : List ℕ
short_prelude = 5 ∷ 1 ∷ 0 ∷ 5 ∷ 1 ∷ 0 ∷ 1 ∷ 127 ∷ 0 ∷ 0 ∷ 1 ∷ 0 ∷ 80 ∷ []

-- 255 methods, the last a login
abbrev pub long_greeting : List ℕ
long_greeting = 5 ∷ 255 ∷ replicate 254 1 ++ 2 ∷ []

-- 255 bytes u, and 255 bytes p (RFC 1929, section 2)
abbrev pub long_login : List ℕ
long_login = (1 ∷ 255 ∷ replicate 255 117) ++ 255 ∷ replicate 255 112

-- a CONNECT to port 80 of a name of 255 bytes n
abbrev pub long_request : List ℕ
long_request = (5 ∷ 1 ∷ 0 ∷ 3 ∷ 255 ∷ replicate 255 110) ++ 0 ∷ 80 ∷ []

-- 1,032 bytes
abbrev pub long_prelude : List ℕ
long_prelude = long_greeting ++ long_login ++ long_request
