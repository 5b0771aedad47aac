-- What is written is read again, whatever follows it.
use Rattle.std.specs.Prelude.{ℕ, ◌≡◌, ◌<◌, ◌≤◌, ◌^◌, false, Option, Some, None, Ok, List, ◌++◌, length}
use Rattle.addr_pattern.specs.declared.addr.Addr.{Addr}
use Rattle.addr_pattern.specs.declared.endpoint.Endpoint.{Endpoint}
use Rattle.addr_pattern.specs.declared.host.Host.{Host}
use Rattle.addr_pattern.specs.Names.{name_of}
use Rattle.socks_grammar.specs.declared.protocol.Command.{Command}
use Rattle.socks_grammar.specs.Grammar.{Read, ◌>>=◌, means_name, request4, reply4_head, endpoint4, spelled_request4}
use Rattle.socks4_codec.specs.declared.reply.Reply4.{Reply4}
use Rattle.socks4_codec.specs.Parts.{Parts4, parts4, asked_by, reply4, spelled_reply4}
use Rattle.socks4_codec.specs.Writes.{IsCommand4, IsUser}

-- ---- what is written is read again

-- an address that isn't the sign of a name, or a name
abbrev pub IsSpelledHost4 : Host → Type 0
IsSpelledHost4 (Host.Addr (Addr.V4 n)) = (n < 2 ^ 32) × (means_name n ≡ false)
IsSpelledHost4 (Host.Addr (Addr.V6 n)) = ⊥
IsSpelledHost4 (Host.Name name) = name_of name ≡ Ok name

pub record IsSpelled4 (command : Command) (host : Host) (port : ℕ) (user : List ℕ) : Type 0 where
  pub known : IsCommand4 command
  pub host_4 : IsSpelledHost4 host
  pub port_16 : port < 65536
  pub user_4 : IsUser user

-- the address that is written: 0.0.0.1 before a name (the SOCKS 4A memo)
abbrev pub addr_of_host : Host → ℕ
addr_of_host (Host.Addr (Addr.V4 n)) = n
addr_of_host _ = 1

abbrev pub name_of_host : Host → Option (List ℕ)
name_of_host (Host.Addr a) = None
name_of_host (Host.Name name) = Some name

abbrev pub parts_of : Command → Host → ℕ → List ℕ → Parts4
parts_of command host port user = record { command = command; port = port; addr = addr_of_host host; user = user; name = name_of_host host }

pub record RequestReadAgain (command : Command) (host : Host) (port : ℕ) (user more : List ℕ) : Type 0 where
  pub parts : parts4 0 (spelled_request4 command host port user ++ more) ≡ Read.Got (parts_of command host port user) (length (spelled_request4 command host port user)) more
  pub asked : request4 0 (spelled_request4 command host port user ++ more) ≡ Read.Got (asked_by (parts_of command host port user)) (length (spelled_request4 command host port user)) more

abbrev pub RequestsReadAgain : Type 0
RequestsReadAgain = (command : Command) (host : Host) (port : ℕ) (user more : List ℕ) → IsSpelled4 command host port user → RequestReadAgain command host port user more

pub record IsSpelledReply4 (r : Reply4) : Type 0 where
  pub known : (90 ≤ r.code) × (r.code ≤ 93)
  pub port_16 : r.port < 65536
  pub addr_32 : r.addr < 2 ^ 32

abbrev pub RepliesReadAgain : Type 0
RepliesReadAgain = (r : Reply4) (more : List ℕ) → IsSpelledReply4 r → reply4 0 (spelled_reply4 r ++ more) ≡ Read.Got r 8 more

-- ---- a reply in pieces

abbrev pub endpoint_by : Read Reply4 → Read Endpoint
endpoint_by (Read.Got r at rest) = Read.Got (record { addr = Addr.V4 r.addr; port = r.port }) at rest
endpoint_by Read.Short = Read.Short
endpoint_by (Read.Wrong at byte kind) = Read.Wrong at byte kind

-- the head of a reply and the endpoint behind it are the reply
abbrev pub RepliesInPieces : Type 0
RepliesInPieces = (at : ℕ) (bytes : List ℕ) → (reply4_head >>= λ code. endpoint4) at bytes ≡ endpoint_by (reply4 at bytes)
