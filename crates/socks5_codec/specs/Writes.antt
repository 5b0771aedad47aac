-- What messages spell that no reader of the grammar has.
use Rattle.std.specs.Prelude.{ℕ, List, [], ◌∷◌}
use Rattle.addr_pattern.specs.declared.endpoint.Endpoint.{Endpoint}
use Rattle.socks_grammar.specs.declared.protocol.Command.{Command}
use Rattle.socks_grammar.specs.Grammar.{spelled_endpoint}

-- CONNECT, BIND and UDP ASSOCIATE (RFC 1928, section 4)
abbrev pub IsCommand5 : Command → Type 0
IsCommand5 Command.Connect = Unit {0}
IsCommand5 Command.Bind = Unit {0}
IsCommand5 Command.UdpAssociate = Unit {0}
IsCommand5 _ = ⊥

-- the answer to a greeting (RFC 1928, section 3)
abbrev pub spelled_method : ℕ → List ℕ
spelled_method method = 5 ∷ method ∷ []

-- a reply (RFC 1928, section 6)
abbrev pub spelled_reply5 : ℕ → Endpoint → List ℕ
spelled_reply5 code at = 5 ∷ code ∷ 0 ∷ spelled_endpoint at
