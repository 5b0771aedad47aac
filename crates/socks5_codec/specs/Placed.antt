-- What a message has from the places in the bytes that it was read from.
use Rattle.std.specs.Prelude.{ℕ, ◌+◌, ◌≡◌, ◌≤◌, List, drop, length, slice_range}
use Rattle.addr_pattern.specs.declared.front.Span.{Span}
use Rattle.addr_pattern.specs.declared.host.Host.{Host}
use Rattle.socks_grammar.specs.Grammar.{Read, Asked, UdpHeader, greeting, request5, udp_header}
use Rattle.socks5_codec.specs.declared.message.Greeting.{Greeting}
use Rattle.socks5_codec.specs.declared.message.HostAt.{HostAt}
use Rattle.socks5_codec.specs.declared.message.Reply5.{Reply5}
use Rattle.socks5_codec.specs.declared.message.Request5.{Request5}
use Rattle.socks5_codec.specs.declared.message.UdpHead.{UdpHead}
use Rattle.socks5_codec.specs.Parts.{Replied, request_spelled, asked_by, reply5, header_spelled, header_by}

-- the bytes in a place
abbrev pub bytes_in : List ℕ → Span → List ℕ
bytes_in bytes s = slice_range bytes s.at (s.at + s.len)

abbrev pub host_in : List ℕ → HostAt → Host
host_in bytes (HostAt.Addr a) = Host.Addr a
host_in bytes (HostAt.Name s) = Host.Name (bytes_in bytes s)

-- a name begins at this place, and stands before the port that ends the message
abbrev pub NameStands : HostAt → ℕ → ℕ → Type 0
NameStands (HostAt.Addr a) first end = Unit {0}
NameStands (HostAt.Name s) first end = (s.at ≡ first) × (s.at + s.len + 2 ≡ end)

-- the methods stand behind the version and their count, and end the greeting (RFC 1928, section 3)
pub record IsGreeting (bytes : List ℕ) (g : Greeting) (len : ℕ) : Type 0 where
  pub offered : greeting 0 bytes ≡ Read.Got (bytes_in bytes g.methods) len (drop len bytes)
  pub begins : g.methods.at ≡ 2
  pub ends : g.methods.at + g.methods.len ≡ len
  pub inside : len ≤ length bytes

abbrev pub request_in : List ℕ → Request5 → Asked
request_in bytes r = record { command = r.command; host = host_in bytes r.host; port = r.port }

-- a request of this length stands at the front of the bytes; a name stands behind the five bytes of version, command, reserved byte, type and length, and before the port
pub record IsRequest5 (bytes : List ℕ) (r : Request5) (len : ℕ) : Type 0 where
  pub spelled : request_spelled 0 bytes ≡ Read.Got (request_in bytes r) len (drop len bytes)
  pub asked : request5 0 bytes ≡ Read.Got (asked_by (request_in bytes r)) len (drop len bytes)
  pub name_at : NameStands r.host 5 len
  pub inside : len ≤ length bytes

abbrev pub reply_in : List ℕ → Reply5 → Replied
reply_in bytes r = record { code = r.code; host = host_in bytes r.host; port = r.port }

-- a reply of this length stands at the front of the bytes
pub record IsReply5 (bytes : List ℕ) (r : Reply5) (len : ℕ) : Type 0 where
  pub spelled : reply5 0 bytes ≡ Read.Got (reply_in bytes r) len (drop len bytes)
  pub name_at : NameStands r.host 5 len
  pub inside : len ≤ length bytes

abbrev pub header_in : List ℕ → UdpHead → UdpHeader
header_in bytes h = record { frag = h.frag; host = host_in bytes h.host; port = h.port }

-- a header of this length stands at the front of the datagram
pub record IsUdpHead (bytes : List ℕ) (h : UdpHead) (len : ℕ) : Type 0 where
  pub spelled : header_spelled 0 bytes ≡ Read.Got (header_in bytes h) len (drop len bytes)
  pub meant : udp_header 0 bytes ≡ Read.Got (header_by (header_in bytes h)) len (drop len bytes)
  pub name_at : NameStands h.host 5 len
  pub inside : len ≤ length bytes
