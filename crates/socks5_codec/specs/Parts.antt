-- A request, a reply and the header of a datagram, as they are spelled: a name stays a name where it is the text of an address.
use Rattle.std.specs.Prelude.{ℕ, ◌==◌, ◌||◌, if◌then◌else◌}
use Rattle.addr_pattern.specs.declared.addr.Addr.{Addr}
use Rattle.addr_pattern.specs.declared.host.Host.{Host}
use Rattle.addr_pattern.specs.declared.front.BadKind.{BadKind}
use Rattle.addr_pattern.specs.AddressText.{host_of}
use Rattle.socks_grammar.specs.declared.protocol.Command.{Command}
use Rattle.socks_grammar.specs.Grammar.{Reader, Asked, UdpHeader, ◌>>=◌, done, byte_that, any_byte, any_bytes, number16, number32, number128, name5, is_atyp, command5, reply5_head}

-- an address of IPv4, an address of IPv6, a name (RFC 1928, section 5)
abbrev pub ipv4_spelled : Reader Host
ipv4_spelled = number32 >>= λ n. done (Host.Addr (Addr.V4 n))

abbrev pub ipv6_spelled : Reader Host
ipv6_spelled = number128 >>= λ n. done (Host.Addr (Addr.V6 n))

abbrev pub name_spelled : Reader Host
name_spelled = name5 >>= λ name. done (Host.Name name)

-- an address or a name, by its type (RFC 1928, section 5)
abbrev pub host_spelled : ℕ → Reader Host
host_spelled atyp = if atyp == 1 then ipv4_spelled else (if atyp == 4 then ipv6_spelled else name_spelled)

-- the type of the address, and the address (RFC 1928, section 5)
abbrev pub typed_host : Reader Host
typed_host = do
  atyp ← byte_that is_atyp BadKind.Atyp
  host_spelled atyp

-- the host that is meant: a name that is the text of an address is that address
abbrev pub meant : Host → Host
meant (Host.Addr a) = Host.Addr a
meant (Host.Name name) = host_of name

pub record Destination : Type 0 where
  pub host : Host
  pub port : ℕ

-- a host with its type, and a port (RFC 1928, section 4)
abbrev pub destination : Reader Destination
destination = do
  host ← typed_host
  port ← number16
  done (record { host = host; port = port })

abbrev pub asked_for : Command → Destination → Asked
asked_for command d = record { command = command; host = d.host; port = d.port }

-- what is asked for, where a name stands for the address that it is the text of
abbrev pub asked_by : Asked → Asked
asked_by a = record { command = a.command; host = meant a.host; port = a.port }

-- a request: version, command, a reserved byte, destination and port (RFC 1928, section 4)
abbrev pub request_spelled : Reader Asked
request_spelled = do
  version ← byte_that (λ b. b == 5) BadKind.Version
  code ← byte_that (λ b. b == 1 || b == 2 || b == 3) BadKind.Command
  reserved ← any_byte
  d ← destination
  done (asked_for (command5 code) d)

pub record Replied : Type 0 where
  pub code : ℕ
  pub host : Host
  pub port : ℕ

-- a reply: version, code, a reserved byte, and where the server is bound (RFC 1928, section 6)
abbrev pub reply5 : Reader Replied
reply5 = do
  code ← reply5_head
  reserved ← any_byte
  d ← destination
  done (record { code = code; host = d.host; port = d.port })

-- the header of a datagram: two reserved bytes, the number of the fragment, destination and port (RFC 1928, section 7)
abbrev pub header_spelled : Reader UdpHeader
header_spelled = do
  reserved ← any_bytes 2
  frag ← any_byte
  d ← destination
  done (record { frag = frag; host = d.host; port = d.port })

-- the header, where a name stands for the address that it is the text of
abbrev pub header_by : UdpHeader → UdpHeader
header_by h = record { frag = h.frag; host = meant h.host; port = h.port }
