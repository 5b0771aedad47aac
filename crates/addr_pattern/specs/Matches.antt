-- Which hosts and ports a pattern takes.
use Rattle.std.specs.Prelude.{ℕ, ◌+◌, ◌-◌, ◌/◌, ◌^◌, Bool, true, false, ◌&&◌, ◌||◌, not, ◌==◌, nat_lt, nat_le, if◌then◌else◌, Option, Some, None, List, [], ◌∷◌, map, length, drop, bytes_eq}
use Rattle.addr_pattern.specs.declared.addr.Addr.{Addr}
use Rattle.addr_pattern.specs.declared.pattern.HostPattern.{HostPattern}
use Rattle.addr_pattern.specs.declared.pattern.PortTest.{PortTest}
use Rattle.addr_pattern.specs.declared.pattern.Pattern.{Pattern}

-- the first bits of two addresses of one family agree
abbrev pub prefix_agrees : ℕ → Addr → Addr → Bool
prefix_agrees bits (Addr.V4 a) (Addr.V4 b) = a / 2 ^ (32 - bits) == b / 2 ^ (32 - bits)
prefix_agrees bits (Addr.V6 a) (Addr.V6 b) = a / 2 ^ (128 - bits) == b / 2 ^ (128 - bits)
prefix_agrees _ _ _ = false

abbrev pub lower : ℕ → ℕ
lower b = if nat_le 65 b && nat_le b 90 then b + 32 else b

-- a list without its last element where that is a dot
abbrev pub without_last_dot : List ℕ → List ℕ
without_last_dot [] = []
without_last_dot (b ∷ []) = if b == 46 then [] else b ∷ []
without_last_dot (b ∷ c ∷ bs) = b ∷ without_last_dot (c ∷ bs)

-- how names are compared: in lower case, without one closing dot
abbrev pub folded : List ℕ → List ℕ
folded name = map lower (without_last_dot name)

abbrev pub ends_with : List ℕ → List ℕ → Bool
ends_with end text = nat_le (length end) (length text) && bytes_eq (drop (length text - length end) text) end

abbrev pub host_matches : HostPattern → Option (List ℕ) → Addr → Bool
host_matches HostPattern.Any name addr = true
host_matches (HostPattern.Net net bits) name addr = prefix_agrees bits net addr
host_matches (HostPattern.Name wanted) None addr = false
host_matches (HostPattern.Name wanted) (Some name) addr = bytes_eq (folded name) (folded wanted)
host_matches (HostPattern.Domain domain) None addr = false
host_matches (HostPattern.Domain domain) (Some name) addr =
    bytes_eq (folded name) (folded domain) || ends_with (46 ∷ folded domain) (folded name)

abbrev pub port_matches : PortTest → ℕ → Bool
port_matches PortTest.Any port = true
port_matches (PortTest.Eq n) port = port == n
port_matches (PortTest.Ne n) port = not (port == n)
port_matches (PortTest.Ge n) port = nat_le n port
port_matches (PortTest.Le n) port = nat_le port n
port_matches (PortTest.Gt n) port = nat_lt n port
port_matches (PortTest.Lt n) port = nat_lt port n
port_matches (PortTest.Range low high) port = nat_le low port && nat_le port high

-- the pattern takes this address and port, reached under this name if any
abbrev pub matches : Pattern → Option (List ℕ) → Addr → ℕ → Bool
matches p name addr port = host_matches p.host name addr && port_matches p.port port
