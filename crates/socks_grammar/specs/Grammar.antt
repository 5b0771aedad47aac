-- The byte grammars of SOCKS 4 and 4A, SOCKS 5 (RFC 1928) and the username login (RFC 1929), as readers of the front of a list.
use Rattle.std.specs.Prelude.{ℕ, zero, suc, ◌+◌, Bool, true, false, ◌&&◌, ◌||◌, not, ◌==◌, nat_lt, nat_le, if◌then◌else◌, List, [], ◌∷◌, ◌++◌, length}
use Rattle.std.specs.Int.{w16, w32, w128, to_be_bytes, from_be_bytes}
use Rattle.addr_pattern.specs.declared.addr.Addr.{Addr}
use Rattle.addr_pattern.specs.declared.endpoint.Endpoint.{Endpoint}
use Rattle.addr_pattern.specs.declared.host.Host.{Host}
use Rattle.addr_pattern.specs.declared.front.BadKind.{BadKind}
use Rattle.socks_grammar.specs.declared.protocol.Command.{Command}
use Rattle.socks_grammar.specs.declared.protocol.Method.{Method}
use Rattle.addr_pattern.specs.AddressText.{host_of}
use Rattle.addr_pattern.specs.Names.{is_name_byte}

-- What stands at the front of the bytes: a value, the place behind it and the bytes from there on; too few bytes;
-- or the first byte after which no spelling is possible, with its place.
pub data Read (A : Type 0) : Type 0 where
  Got : A → ℕ → List ℕ → Read A
  Short : Read A
  Wrong : ℕ → ℕ → BadKind → Read A

-- a reader is given the place of the bytes, and the bytes
abbrev pub Reader : Type 0 → Type 0
Reader A = ℕ → List ℕ → Read A

abbrev pub and_then : {A B : Type 0} → Read A → (A → Reader B) → Read B
and_then (Got a at bytes) next = next a at bytes
and_then Short next = Short
and_then (Wrong at byte kind) next = Wrong at byte kind

infixl 10 ◌>>=◌
abbrev pub ◌>>=◌ : {A B : Type 0} → Reader A → (A → Reader B) → Reader B
(read >>= next) at bytes = and_then (read at bytes) next

abbrev pub done : {A : Type 0} → A → Reader A
done a at bytes = Got a at bytes

-- one byte that passes the test
abbrev pub byte_that : (ℕ → Bool) → BadKind → Reader ℕ
byte_that test kind at [] = Short
byte_that test kind at (b ∷ bytes) = if test b then Got b (at + 1) bytes else Wrong at b kind

abbrev pub any_byte : Reader ℕ
any_byte = byte_that (λ _. true) BadKind.Field

-- so many bytes that each pass the test
abbrev pub bytes_that : (ℕ → Bool) → BadKind → ℕ → Reader (List ℕ)
bytes_that test kind zero at bytes = Got [] at bytes
bytes_that test kind (suc n) at [] = Short
bytes_that test kind (suc n) at (b ∷ bytes) =
    elim (test b) [ true ↦ and_then (bytes_that test kind n (at + 1) bytes) (λ bs. done (b ∷ bs)) | false ↦ Wrong at b kind ]

abbrev pub any_bytes : ℕ → Reader (List ℕ)
any_bytes n = bytes_that (λ _. true) BadKind.Field n

-- a port (network order: RFC 1928, section 4, and the SOCKS 4 memo)
abbrev pub number16 : Reader ℕ
number16 = do
  bytes ← any_bytes 2
  done (from_be_bytes w16 bytes)

-- an address of IPv4 (network order: RFC 1928, section 5, and the SOCKS 4 memo)
abbrev pub number32 : Reader ℕ
number32 = do
  bytes ← any_bytes 4
  done (from_be_bytes w32 bytes)

-- an address of IPv6 (network order: RFC 1928, section 5)
abbrev pub number128 : Reader ℕ
number128 = do
  bytes ← any_bytes 16
  done (from_be_bytes w128 bytes)

-- at most so many bytes that each pass the test, and a 00 behind them (the user and the name of the SOCKS 4 and 4A memos)
abbrev pub ended_by_zero : (ℕ → Bool) → ℕ → Reader (List ℕ)
ended_by_zero test room at [] = Short
ended_by_zero test zero at (b ∷ bytes) = if b == 0 then Got [] (at + 1) bytes else Wrong at b BadKind.Field
ended_by_zero test (suc room) at (b ∷ bytes) =
    elim (b == 0) [
      | true ↦ Got [] (at + 1) bytes
      | false ↦
          elim (test b) [ true ↦ and_then (ended_by_zero test room (at + 1) bytes) (λ bs. done (b ∷ bs)) | false ↦ Wrong at b BadKind.Field ]
    ]

-- ---- SOCKS 4 and 4A

-- a request of either version (RFC 1928, section 4, and the SOCKS 4 memo)
pub record Asked : Type 0 where
  pub command : Command
  pub host : Host
  pub port : ℕ

-- the command by its code (the SOCKS 4 memo, CONNECT and BIND)
abbrev pub command4 : ℕ → Command
command4 n = if n == 1 then Command.Connect else Command.Bind

-- 0.0.0.x with x not 0: a name follows (the SOCKS 4A memo)
abbrev pub means_name : ℕ → Bool
means_name addr = nat_lt 0 addr && nat_lt addr 256

-- the name behind the user: it is not empty, and at most 255 bytes (the SOCKS 4A memo)
abbrev pub name4 : Reader (List ℕ)
name4 = do
  first ← byte_that is_name_byte BadKind.Field
  rest ← ended_by_zero is_name_byte 254
  done (first ∷ rest)

-- the destination: the address, or the name that follows (the SOCKS 4 and 4A memos)
abbrev pub host4 : ℕ → Reader Host
host4 addr = if means_name addr then (name4 >>= λ name. done (host_of name)) else done (Host.Addr (Addr.V4 addr))

-- a request: version, command, port, address, user, and a name where the address says so (the SOCKS 4 and 4A memos)
abbrev pub request4 : Reader Asked
request4 = do
  version ← byte_that (λ b. b == 4) BadKind.Version
  code ← byte_that (λ b. b == 1 || b == 2) BadKind.Command
  port ← number16
  addr ← number32
  user ← ended_by_zero (λ _. true) 255
  host ← host4 addr
  done (record { command = command4 code; host = host; port = port })

-- a reply: its code, and the endpoint in it (the SOCKS 4 memo: 90 granted, 91 to 93 refused)
abbrev pub reply4_head : Reader ℕ
reply4_head = do
  version ← byte_that (λ b. b == 0) BadKind.Version
  byte_that (λ b. nat_le 90 b && nat_le b 93) BadKind.Field

-- the port and the address in a reply (the SOCKS 4 memo, the reply to a CONNECT or a BIND)
abbrev pub endpoint4 : Reader Endpoint
endpoint4 = do
  port ← number16
  addr ← number32
  done (record { addr = Addr.V4 addr; port = port })

-- ---- SOCKS 5

-- the methods that are offered (RFC 1928, section 3)
abbrev pub greeting : Reader (List ℕ)
greeting = do
  version ← byte_that (λ b. b == 5) BadKind.Version
  count ← any_byte
  any_bytes count

-- the method that the server answers (RFC 1928, section 3)
abbrev pub method_answer : Reader ℕ
method_answer = do
  version ← byte_that (λ b. b == 5) BadKind.Version
  any_byte

-- the command by its code (RFC 1928, section 4)
abbrev pub command5 : ℕ → Command
command5 n = if n == 1 then Command.Connect else (if n == 2 then Command.Bind else Command.UdpAssociate)

-- a name: its length, which is not 0, and its bytes (RFC 1928, section 5)
abbrev pub name5 : Reader (List ℕ)
name5 = do
  count ← byte_that (λ b. not (b == 0)) BadKind.Field
  bytes_that is_name_byte BadKind.Field count

-- a type of address: IPv4, a name, IPv6 (RFC 1928, section 5)
abbrev pub is_atyp : ℕ → Bool
is_atyp b = b == 1 || b == 3 || b == 4

-- an address or a name, by its type (RFC 1928, section 5)
abbrev pub host_by_type : ℕ → Reader Host
host_by_type atyp =
    if atyp == 1 then (number32 >>= λ n. done (Host.Addr (Addr.V4 n)))
    else (if atyp == 4 then (number128 >>= λ n. done (Host.Addr (Addr.V6 n)))
    else (name5 >>= λ name. done (host_of name)))

-- the type of the address, and the address (RFC 1928, section 5)
abbrev pub host5 : Reader Host
host5 = do
  atyp ← byte_that is_atyp BadKind.Atyp
  host_by_type atyp

-- a request: version, command, a reserved byte, destination and port (RFC 1928, section 4)
abbrev pub request5 : Reader Asked
request5 = do
  version ← byte_that (λ b. b == 5) BadKind.Version
  code ← byte_that (λ b. b == 1 || b == 2 || b == 3) BadKind.Command
  reserved ← any_byte
  host ← host5
  port ← number16
  done (record { command = command5 code; host = host; port = port })

-- the code of a reply; what is behind it is read only where the code is 0 (RFC 1928, section 6)
abbrev pub reply5_head : Reader ℕ
reply5_head = do
  version ← byte_that (λ b. b == 5) BadKind.Version
  any_byte

-- a name in a reply stands for no endpoint (RFC 1928, section 6)
abbrev pub endpoint_of : Host → ℕ → Endpoint
endpoint_of (Host.Addr a) port = record { addr = a; port = port }
endpoint_of (Host.Name n) port = record { addr = Addr.V4 0; port = 0 }

-- the rest of a reply: a reserved byte, and the endpoint that the server is bound to (RFC 1928, section 6)
abbrev pub reply5_rest : Reader Endpoint
reply5_rest = do
  reserved ← any_byte
  host ← host5
  port ← number16
  done (endpoint_of host port)

-- the header of a datagram (RFC 1928, section 7)
pub record UdpHeader : Type 0 where
  pub frag : ℕ
  pub host : Host
  pub port : ℕ

-- two reserved bytes, the number of the fragment, destination and port (RFC 1928, section 7)
abbrev pub udp_header : Reader UdpHeader
udp_header = do
  reserved ← any_bytes 2
  frag ← any_byte
  host ← host5
  port ← number16
  done (record { frag = frag; host = host; port = port })

-- ---- the login

-- a name and a password (RFC 1929, section 2)
pub record Credentials : Type 0 where
  pub name : List ℕ
  pub password : List ℕ

-- the client's login (RFC 1929, section 2)
abbrev pub login : Reader Credentials
login = do
  version ← byte_that (λ b. b == 1) BadKind.Version
  name_length ← any_byte
  name ← any_bytes name_length
  password_length ← any_byte
  password ← any_bytes password_length
  done (record { name = name; password = password })

-- the status that the server answers; 0 is success (RFC 1929, section 2)
abbrev pub login_status : Reader ℕ
login_status = do
  version ← byte_that (λ b. b == 1) BadKind.Version
  any_byte

-- ---- spellings

-- an address behind its type (RFC 1928, section 5)
abbrev pub spelled_addr : Addr → List ℕ
spelled_addr (Addr.V4 n) = 1 ∷ to_be_bytes w32 n
spelled_addr (Addr.V6 n) = 4 ∷ to_be_bytes w128 n

-- an address behind its type, and a port (RFC 1928, section 6)
abbrev pub spelled_endpoint : Endpoint → List ℕ
spelled_endpoint e = spelled_addr e.addr ++ to_be_bytes w16 e.port

-- a destination behind its type (RFC 1928, section 5)
abbrev pub spelled_host : Host → List ℕ
spelled_host (Host.Addr a) = spelled_addr a
spelled_host (Host.Name n) = 3 ∷ length n ∷ n

-- the code of a command (RFC 1928, section 4, and the SOCKS 4 memo)
abbrev pub command_byte : Command → ℕ
command_byte Command.Connect = 1
command_byte Command.Bind = 2
command_byte _ = 3

-- the code of a method (RFC 1928, section 3: 00 no authentication required, 02 username and password)
abbrev pub method_byte : Method → ℕ
method_byte Method.NoAuth = 0
method_byte Method.Username = 2

-- a request (RFC 1928, section 4)
abbrev pub spelled_request5 : Command → Host → ℕ → List ℕ
spelled_request5 command host port = 5 ∷ command_byte command ∷ 0 ∷ spelled_host host ++ to_be_bytes w16 port

-- an address, the user, and a name (the SOCKS 4 and 4A memos; they have no address of IPv6)
abbrev pub spelled_host4 : Host → List ℕ → List ℕ
spelled_host4 (Host.Addr (Addr.V4 n)) user = to_be_bytes w32 n ++ user ++ 0 ∷ []
spelled_host4 (Host.Addr (Addr.V6 n)) user = 0 ∷ 0 ∷ 0 ∷ 0 ∷ user ++ 0 ∷ []
spelled_host4 (Host.Name name) user = 0 ∷ 0 ∷ 0 ∷ 1 ∷ user ++ 0 ∷ name ++ 0 ∷ []

-- a request (the SOCKS 4 and 4A memos)
abbrev pub spelled_request4 : Command → Host → ℕ → List ℕ → List ℕ
spelled_request4 command host port user = 4 ∷ command_byte command ∷ to_be_bytes w16 port ++ spelled_host4 host user

-- a greeting that offers no login alone, or the login as well (RFC 1928, section 3)
abbrev pub spelled_greeting : Bool → List ℕ
spelled_greeting true = 5 ∷ 2 ∷ 0 ∷ 2 ∷ []
spelled_greeting false = 5 ∷ 1 ∷ 0 ∷ []

-- a login (RFC 1929, section 2)
abbrev pub spelled_login : List ℕ → List ℕ → List ℕ
spelled_login name password = 1 ∷ length name ∷ name ++ length password ∷ password

-- the header of a datagram from or to an endpoint (RFC 1928, section 7)
abbrev pub spelled_udp_header : Endpoint → List ℕ
spelled_udp_header e = 0 ∷ 0 ∷ 0 ∷ spelled_endpoint e
