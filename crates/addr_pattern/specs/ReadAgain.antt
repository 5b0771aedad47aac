-- What is written is read again, and what is read can be written.
use Rattle.std.specs.Prelude.{ℕ, ◌≡◌, ◌<◌, ◌≤◌, ◌^◌, ◌==◌, ◌||◌, Bool, false, IsTrue, Some, Ok, length, List, [], ◌∷◌, ◌++◌}
use Rattle.std.specs.List.{list_any, list_all}
use Rattle.addr_pattern.specs.declared.addr.Addr.{Addr}
use Rattle.addr_pattern.specs.declared.endpoint.Endpoint.{Endpoint}
use Rattle.addr_pattern.specs.declared.pattern.HostPattern.{HostPattern}
use Rattle.addr_pattern.specs.declared.pattern.PortTest.{PortTest}
use Rattle.addr_pattern.specs.declared.pattern.Pattern.{Pattern}
use Rattle.addr_pattern.specs.AddressText.{number_of_text, number_text, addr_text, endpoint_text}
use Rattle.addr_pattern.specs.Reading.{addr_read, endpoint_read}
use Rattle.addr_pattern.specs.PatternText.{is_quad_byte, is_host_byte, is_host_name, has_no_host_bits, width_of, host_text, port_text, port_part, pattern_read, pattern_text}

-- ---- what a text can spell

abbrev pub IsAddr : Addr → Type 0
IsAddr (Addr.V4 n) = n < 2 ^ 32
IsAddr (Addr.V6 n) = n < 2 ^ 128

pub record IsEndpoint (e : Endpoint) : Type 0 where
  pub addr : IsAddr e.addr
  pub port : e.port < 65536

-- the bits fit the address, and none is set behind them
pub record IsNet (addr : Addr) (bits : ℕ) : Type 0 where
  pub known : IsAddr addr
  pub within : bits ≤ width_of addr
  pub clear : IsTrue (has_no_host_bits addr bits)

-- digits and dots alone would be read as an address
pub record IsPatternName (limit : ℕ) (name : List ℕ) : Type 0 where
  pub spelled : IsTrue (is_host_name limit name)
  pub no_quad : list_all is_quad_byte name ≡ false

abbrev pub IsHostPattern : HostPattern → Type 0
IsHostPattern HostPattern.Any = Unit {0}
IsHostPattern (HostPattern.Net addr bits) = IsNet addr bits
IsHostPattern (HostPattern.Name name) = IsPatternName 255 name
IsHostPattern (HostPattern.Domain name) = IsPatternName 254 name

abbrev pub IsPortTest : PortTest → Type 0
IsPortTest PortTest.Any = Unit {0}
IsPortTest (PortTest.Eq n) = n < 65536
IsPortTest (PortTest.Ne n) = n < 65536
IsPortTest (PortTest.Ge n) = n < 65536
IsPortTest (PortTest.Le n) = n < 65536
IsPortTest (PortTest.Gt n) = n < 65536
IsPortTest (PortTest.Lt n) = n < 65536
IsPortTest (PortTest.Range low high) = (low ≤ high) × (high < 65536)

pub record IsPattern (p : Pattern) : Type 0 where
  pub host : IsHostPattern p.host
  pub port : IsPortTest p.port

-- ---- what is written is read again

abbrev pub NumberReadAgain : Type 0
NumberReadAgain = (limit n : ℕ) → limit < 2 ^ 32 → n ≤ limit → number_of_text limit (number_text n) ≡ Some n

abbrev pub AddrReadAgain : Type 0
AddrReadAgain = (a : Addr) → IsAddr a → addr_read (addr_text a) ≡ Ok a

abbrev pub EndpointReadAgain : Type 0
EndpointReadAgain = (e : Endpoint) → IsEndpoint e → endpoint_read (endpoint_text e) ≡ Ok e

abbrev pub PatternReadAgain : Type 0
PatternReadAgain = (p : Pattern) → IsPattern p → pattern_read (pattern_text p) ≡ Ok p

abbrev pub PortPartReadAgain : Type 0
PortPartReadAgain = (n : ℕ) → n < 65536 → port_part (port_text (PortTest.Eq n)) ≡ Some n

-- ---- what is read can be written

abbrev pub AddrInRange : Type 0
AddrInRange = (text : List ℕ) (a : Addr) → addr_read text ≡ Ok a → IsAddr a

abbrev pub EndpointInRange : Type 0
EndpointInRange = (text : List ℕ) (e : Endpoint) → endpoint_read text ≡ Ok e → IsEndpoint e

abbrev pub PatternInRange : Type 0
PatternInRange = (text : List ℕ) (p : Pattern) → pattern_read text ≡ Ok p → IsPattern p

abbrev pub PortPartInRange : Type 0
PortPartInRange = (text : List ℕ) (n : ℕ) → port_part text ≡ Some n → n < 65536

-- ---- a written host stands as one word

abbrev pub is_plain_byte : ℕ → Bool
is_plain_byte b = is_host_byte b || b == 58 || b == 47

-- letters, digits, `.`, `-`, `_`, `:` and `/`, and no colon at the end that is the only one
pub record IsPlainText (text : List ℕ) : Type 0 where
  pub some : 1 ≤ length text
  pub plain : IsTrue (list_all is_plain_byte text)
  pub no_key : (front : List ℕ) → text ≡ front ++ 58 ∷ [] → IsTrue (list_any (λ b. b == 58) front)

abbrev pub PlainAddr : Type 0
PlainAddr = (a : Addr) → IsAddr a → IsPlainText (addr_text a)

abbrev pub PlainHost : Type 0
PlainHost = (h : HostPattern) → IsHostPattern h → IsPlainText (host_text h)
