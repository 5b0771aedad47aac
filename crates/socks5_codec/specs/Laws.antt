-- What is written is read again, whatever follows it.
use Rattle.std.specs.Prelude.{ℕ, ◌+◌, ◌≡◌, ◌<◌, Bool, true, false, Ok, List, [], ◌∷◌, ◌++◌, length}
use Rattle.addr_pattern.specs.declared.endpoint.Endpoint.{Endpoint}
use Rattle.addr_pattern.specs.declared.host.Host.{Host}
use Rattle.addr_pattern.specs.Names.{name_of}
use Rattle.addr_pattern.specs.ReadAgain.{IsAddr, IsEndpoint}
use Rattle.socks_grammar.specs.declared.protocol.Command.{Command}
use Rattle.socks_grammar.specs.Grammar.{Read, Reader, Asked, UdpHeader, ◌>>=◌, greeting, method_answer, request5, udp_header, reply5_head, reply5_rest, endpoint_of, spelled_greeting, spelled_request5, spelled_udp_header}
use Rattle.socks5_codec.specs.Parts.{Replied, request_spelled, asked_by, reply5, header_spelled, meant}
use Rattle.socks5_codec.specs.Writes.{IsCommand5, spelled_method, spelled_reply5}

-- ---- what is written is read again

abbrev pub IsSpelledHost5 : Host → Type 0
IsSpelledHost5 (Host.Addr a) = IsAddr a
IsSpelledHost5 (Host.Name name) = name_of name ≡ Ok name

pub record IsSpelled5 (command : Command) (host : Host) (port : ℕ) : Type 0 where
  pub known : IsCommand5 command
  pub host_5 : IsSpelledHost5 host
  pub port_16 : port < 65536

abbrev pub asked_of : Command → Host → ℕ → Asked
asked_of command host port = record { command = command; host = host; port = port }

pub record RequestReadAgain (command : Command) (host : Host) (port : ℕ) (more : List ℕ) : Type 0 where
  pub spelled : request_spelled 0 (spelled_request5 command host port ++ more) ≡ Read.Got (asked_of command host port) (length (spelled_request5 command host port)) more
  pub asked : request5 0 (spelled_request5 command host port ++ more) ≡ Read.Got (asked_by (asked_of command host port)) (length (spelled_request5 command host port)) more

abbrev pub RequestsReadAgain : Type 0
RequestsReadAgain = (command : Command) (host : Host) (port : ℕ) (more : List ℕ) → IsSpelled5 command host port → RequestReadAgain command host port more

abbrev pub offered_with : Bool → List ℕ
offered_with true = 0 ∷ 2 ∷ []
offered_with false = 0 ∷ []

abbrev pub GreetingsReadAgain : Type 0
GreetingsReadAgain = (login : Bool) (more : List ℕ) → greeting 0 (spelled_greeting login ++ more) ≡ Read.Got (offered_with login) (length (spelled_greeting login)) more

abbrev pub MethodsReadAgain : Type 0
MethodsReadAgain = (method : ℕ) (more : List ℕ) → method_answer 0 (spelled_method method ++ more) ≡ Read.Got method 2 more

abbrev pub replied_of : ℕ → Endpoint → Replied
replied_of code at = record { code = code; host = Host.Addr at.addr; port = at.port }

abbrev pub RepliesReadAgain : Type 0
RepliesReadAgain = (code : ℕ) (at : Endpoint) (more : List ℕ) → IsEndpoint at → reply5 0 (spelled_reply5 code at ++ more) ≡ Read.Got (replied_of code at) (length (spelled_reply5 code at)) more

abbrev pub header_of : Endpoint → UdpHeader
header_of at = record { frag = 0; host = Host.Addr at.addr; port = at.port }

pub record HeaderReadAgain (at : Endpoint) (more : List ℕ) : Type 0 where
  pub spelled : header_spelled 0 (spelled_udp_header at ++ more) ≡ Read.Got (header_of at) (length (spelled_udp_header at)) more
  pub meant_again : udp_header 0 (spelled_udp_header at ++ more) ≡ Read.Got (header_of at) (length (spelled_udp_header at)) more

abbrev pub HeadersReadAgain : Type 0
HeadersReadAgain = (at : Endpoint) (more : List ℕ) → IsEndpoint at → HeaderReadAgain at more

-- ---- a reply in pieces

abbrev pub endpoint_by : Read Replied → Read Endpoint
endpoint_by (Read.Got r at rest) = Read.Got (endpoint_of (meant r.host) r.port) at rest
endpoint_by Read.Short = Read.Short
endpoint_by (Read.Wrong at byte kind) = Read.Wrong at byte kind

-- the head of a reply and its rest, one behind the other, are the reply: they give the endpoint that its host and port are
abbrev pub RepliesInPieces : Type 0
RepliesInPieces = (at : ℕ) (bytes : List ℕ) → (reply5_head >>= λ code. reply5_rest) at bytes ≡ endpoint_by (reply5 at bytes)

-- ---- a message behind others

abbrev pub moved_by : {A : Type 0} → ℕ → Read A → Read A
moved_by by (Read.Got a at rest) = Read.Got a (by + at) rest
moved_by by Read.Short = Read.Short
moved_by by (Read.Wrong at byte kind) = Read.Wrong (by + at) byte kind

-- at each place the same is read as at the front, with its places moved
abbrev pub IsSameAnywhere : {A : Type 0} → Reader A → Type 0
IsSameAnywhere read = (at : ℕ) (bytes : List ℕ) → read at bytes ≡ moved_by at (read 0 bytes)
