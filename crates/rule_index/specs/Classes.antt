-- Which part of a destination the `to` of a rule looks at, and the slot in which the index keeps the rule for it.
use Rattle.std.specs.Prelude.{ℕ, ◌+◌, ◌-◌, ◌*◌, ◌/◌, ◌%◌, ◌^◌, ◌==◌, ◌&&◌, Bool, true, false, if◌then◌else◌}
use Rattle.addr_pattern.specs.declared.addr.Addr.{Addr}
use Rattle.addr_pattern.specs.declared.pattern.HostPattern.{HostPattern}
use Rattle.addr_pattern.specs.declared.pattern.PortTest.{PortTest}
use Rattle.addr_pattern.specs.declared.pattern.Pattern.{Pattern}
use Rattle.rule_index.specs.declared.class.HostClass.{HostClass}
use Rattle.rule_index.specs.declared.class.Class.{Class}

-- the first bits of an address, or nothing of it where every address may match
abbrev pub host_class : HostPattern → HostClass
host_class HostPattern.Any = HostClass.Every
host_class (HostPattern.Net (Addr.V4 net) bits) = HostClass.V4 bits
host_class (HostPattern.Net (Addr.V6 net) bits) = HostClass.V6 bits
host_class (HostPattern.Name wanted) = HostClass.Every
host_class (HostPattern.Domain domain) = HostClass.Every

abbrev pub is_one_port : PortTest → Bool
is_one_port (PortTest.Eq port) = true
is_one_port _ = false

-- what the pattern looks at
abbrev pub class_of : Pattern → Class
class_of p = record { host = host_class p.host; one_port = is_one_port p.port }

abbrev pub host_class_eq : HostClass → HostClass → Bool
host_class_eq HostClass.Every HostClass.Every = true
host_class_eq (HostClass.V4 a) (HostClass.V4 b) = a == b
host_class_eq (HostClass.V6 a) (HostClass.V6 b) = a == b
host_class_eq _ _ = false

abbrev pub bool_eq : Bool → Bool → Bool
bool_eq true true = true
bool_eq false false = true
bool_eq _ _ = false

abbrev pub class_eq : Class → Class → Bool
class_eq a b = host_class_eq a.host b.host && bool_eq a.one_port b.one_port

-- the bits of an address that a class looks at; 0 where it looks at none, or the address is of the other family
abbrev pub network : HostClass → Addr → ℕ
network (HostClass.V4 bits) (Addr.V4 a) = a / 2 ^ (32 - bits)
network (HostClass.V6 bits) (Addr.V6 a) = a / 2 ^ (128 - bits)
network _ _ = 0

-- the slot, of so many, in which the rules of this class for an address and a port are kept
abbrev pub slot_in : ℕ → Class → Addr → ℕ → ℕ
slot_in slots class addr port = (network class.host addr % slots * 65537 + (if class.one_port then port else 0)) % slots

-- the address of a network; any other where there is none
abbrev pub address_of : HostPattern → Addr
address_of (HostPattern.Net addr bits) = addr
address_of _ = Addr.V4 0

abbrev pub port_of : PortTest → ℕ
port_of (PortTest.Eq port) = port
port_of _ = 0

-- the slot in which a rule with this `to` is kept
abbrev pub slot_of : ℕ → Pattern → ℕ
slot_of slots p = slot_in slots (class_of p) (address_of p.host) (port_of p.port)
