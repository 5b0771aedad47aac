-- Whether two values of a data type are the same, as a test.
use Rattle.std.specs.Prelude.{ℕ, Bool, true, false, ◌&&◌, ◌==◌, Option, Some, None, List, bytes_eq}
use Rattle.addr_pattern.specs.declared.addr.Addr.{Addr}
use Rattle.addr_pattern.specs.declared.endpoint.Endpoint.{Endpoint}

abbrev pub addr_eq : Addr → Addr → Bool
addr_eq (Addr.V4 a) (Addr.V4 b) = a == b
addr_eq (Addr.V6 a) (Addr.V6 b) = a == b
addr_eq _ _ = false

abbrev pub endpoint_eq : Endpoint → Endpoint → Bool
endpoint_eq x y = addr_eq x.addr y.addr && (x.port == y.port)

-- the families of two addresses agree
abbrev pub same_family : Addr → Addr → Bool
same_family (Addr.V4 a) (Addr.V4 b) = true
same_family (Addr.V6 a) (Addr.V6 b) = true
same_family _ _ = false

-- an address of all zeros
abbrev pub is_unspecified : Addr → Bool
is_unspecified (Addr.V4 a) = a == 0
is_unspecified (Addr.V6 a) = a == 0

abbrev pub bytes_option_eq : Option (List ℕ) → Option (List ℕ) → Bool
bytes_option_eq None None = true
bytes_option_eq (Some a) (Some b) = bytes_eq a b
bytes_option_eq _ _ = false
