-- Which input of a client is served, over the users: any, but for a request of another command than CONNECT (RFC 1928, section 4, and
-- the SOCKS 4 memo).
use Rattle.std.specs.Prelude.{ℕ, Bool, true, false, ◌&&◌, Some, List}
use Rattle.socks_grammar.specs.declared.protocol.Command.{Command}
use Rattle.socks_grammar.specs.declared.user.User.{User}
use Rattle.socks_grammar.specs.Handshake.{Request, Split, split}

abbrev pub is_connect_command : Command → Bool
is_connect_command Command.Connect = true
is_connect_command _ = false

abbrev pub is_served_request : Request → Bool
is_served_request q = is_connect_command q.command

-- what isn't a whole prelude is served
abbrev pub is_served_split : Split → Bool
is_served_split (Split.Whole q n) = is_served_request q
is_served_split _ = true

-- whichever of the two methods is answered to the greeting, 00 or 02 (RFC 1928, section 3)
abbrev pub is_served_input : List User → List ℕ → Bool
is_served_input users c = is_served_split (split users (Some 0) c) && is_served_split (split users (Some 2) c)
