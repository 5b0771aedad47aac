-- What a request of SOCKS 4 or 4A can spell.
use Rattle.std.specs.Prelude.{ℕ, ◌≤◌, ◌==◌, IsTrue, not, List, length}
use Rattle.std.specs.List.{list_all}
use Rattle.addr_pattern.specs.declared.addr.Addr.{Addr}
use Rattle.addr_pattern.specs.declared.host.Host.{Host}
use Rattle.socks_grammar.specs.declared.protocol.Command.{Command}

-- CONNECT and BIND (the SOCKS 4 memo)
abbrev pub IsCommand4 : Command → Type 0
IsCommand4 Command.Connect = Unit {0}
IsCommand4 Command.Bind = Unit {0}
IsCommand4 _ = ⊥

-- an address of IPv4, or a name (the SOCKS 4 and 4A memos)
abbrev pub IsHost4 : Host → Type 0
IsHost4 (Host.Addr (Addr.V6 n)) = ⊥
IsHost4 _ = Unit {0}

-- at most 255 bytes, and no 00 among them (the SOCKS 4 memo has no limit)
pub record IsUser (user : List ℕ) : Type 0 where
  pub short : length user ≤ 255
  pub no_zero : IsTrue (list_all (λ b. not (b == 0)) user)
