-- A request and a reply in their parts, as they are spelled (the SOCKS 4 and 4A memos).
use Rattle.std.specs.Prelude.{ℕ, true, ◌==◌, ◌||◌, if◌then◌else◌, Option, Some, None, List, ◌∷◌, ◌++◌}
use Rattle.std.specs.Int.{w16, w32, to_be_bytes}
use Rattle.addr_pattern.specs.declared.addr.Addr.{Addr}
use Rattle.addr_pattern.specs.declared.host.Host.{Host}
use Rattle.addr_pattern.specs.declared.front.BadKind.{BadKind}
use Rattle.addr_pattern.specs.AddressText.{host_of}
use Rattle.socks_grammar.specs.declared.protocol.Command.{Command}
use Rattle.socks_grammar.specs.Grammar.{Reader, Asked, ◌>>=◌, done, byte_that, number16, number32, ended_by_zero, command4, means_name, name4, reply4_head}
use Rattle.socks4_codec.specs.declared.reply.Reply4.{Reply4}

-- what a request spells
pub record Parts4 : Type 0 where
  pub command : Command
  pub port : ℕ
  pub addr : ℕ
  pub user : List ℕ
  pub name : Option (List ℕ)

-- a name, where the address says that one follows (the SOCKS 4A memo)
abbrev pub name_part : ℕ → Reader (Option (List ℕ))
name_part addr = if means_name addr then (name4 >>= λ name. done (Some name)) else done None

-- the name behind the user
abbrev pub behind_user : Command → ℕ → ℕ → List ℕ → Reader Parts4
behind_user command port addr user = do
  name ← name_part addr
  done (record { command = command; port = port; addr = addr; user = user; name = name })

-- the user, and a name
abbrev pub behind_addr : Command → ℕ → ℕ → Reader Parts4
behind_addr command port addr = do
  user ← ended_by_zero (λ _. true) 255
  behind_user command port addr user

-- a request: version, command, port, address, user, and a name where the address says so (the SOCKS 4 and 4A memos)
abbrev pub parts4 : Reader Parts4
parts4 = do
  version ← byte_that (λ b. b == 4) BadKind.Version
  code ← byte_that (λ b. b == 1 || b == 2) BadKind.Command
  port ← number16
  addr ← number32
  behind_addr (command4 code) port addr

-- the destination: the name where one is spelled, else the address
abbrev pub host_named : ℕ → Option (List ℕ) → Host
host_named addr None = Host.Addr (Addr.V4 addr)
host_named addr (Some name) = host_of name

-- what is asked for
abbrev pub asked_by : Parts4 → Asked
asked_by p = record { command = p.command; host = host_named p.addr p.name; port = p.port }

-- a reply: its code, a port and an address (the SOCKS 4 memo)
abbrev pub reply4 : Reader Reply4
reply4 = do
  code ← reply4_head
  port ← number16
  addr ← number32
  done (record { code = code; port = port; addr = addr })

-- a reply (the SOCKS 4 memo)
abbrev pub spelled_reply4 : Reply4 → List ℕ
spelled_reply4 r = 0 ∷ r.code ∷ to_be_bytes w16 r.port ++ to_be_bytes w32 r.addr
