-- How many handshakes over the same bytes end with a request.
use Rattle.std.specs.Prelude.{ℕ, Bool, true, false, if◌then◌else◌, None, List}
use Rattle.socks_grammar.specs.declared.protocol.Method.{Method}
use Rattle.socks_grammar.specs.declared.user.User.{User}
use Rattle.socks_grammar.specs.Handshake.{Split, split}
use Rattle.handshake_core.specs.Due.{method_after}

abbrev pub is_whole : Split → Bool
is_whole (Split.Whole request n) = true
is_whole _ = false

-- the bytes begin with a whole prelude, over the method that the server answers to its greeting
abbrev pub asks : List Method → List User → List ℕ → Bool
asks methods users bytes = is_whole (split users (method_after methods None bytes) bytes)

-- each of the handshakes, or none
abbrev pub asked_of : ℕ → List Method → List User → List ℕ → ℕ
asked_of count methods users bytes = if asks methods users bytes then count else 0
