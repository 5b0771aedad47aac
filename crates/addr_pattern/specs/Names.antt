-- Which bytes are a name.
use Rattle.std.specs.Prelude.{ℕ, Bool, ◌&&◌, nat_le, if◌then◌else◌, Result, Ok, Err, List, [], ◌∷◌, length}
use Rattle.std.specs.List.{list_all}
use Rattle.addr_pattern.specs.declared.fault.AddrFault.{AddrFault}

-- from 21 to 7E
abbrev pub is_name_byte : ℕ → Bool
is_name_byte b = nat_le 33 b && nat_le b 126

-- the name that bytes are, or what is wrong with them
abbrev pub name_of : List ℕ → Result (List ℕ) AddrFault
name_of [] = Err AddrFault.Empty
name_of (b ∷ bs) = if nat_le (length (b ∷ bs)) 255 && list_all is_name_byte (b ∷ bs) then Ok (b ∷ bs) else Err AddrFault.BadName
