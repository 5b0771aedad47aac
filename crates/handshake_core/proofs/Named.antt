-- A name of the grammar is a name, or the address that it is the text of.
use Rattle.std.proofs.Common.{ℕ, ◌≡◌, Bool, true, false, cond, ◌==◌, Option, Some, None, option_map, Ok, List, [], ◌∷◌, refl}
use Rattle.std.specs.List.{list_any}
use Rattle.addr_pattern.specs.declared.addr.Addr.{Addr}
use Rattle.addr_pattern.specs.declared.fault.AddrFault.{AddrFault}
use Rattle.addr_pattern.specs.AddressText.{ipv4_of, ipv6_of, named, host_of}
use Rattle.addr_pattern.specs.Names.{name_of}
use Rattle.addr_pattern.specs.PatternText.{host_or_name, host_read}
use Rattle.addr_pattern.specs.Reading.{or_fault}

either : (name : List ℕ) (t : Bool) (v6 v4 : Option ℕ) → name_of name ≡ Ok name
    → host_or_name name (cond t (or_fault AddrFault.BadGroup (option_map Addr.V6 v6)) (or_fault AddrFault.BadOctet (option_map Addr.V4 v4)))
    ≡ Ok (named name (cond t (option_map Addr.V6 v6) (option_map Addr.V4 v4)))
either name true (Some n) v4 h = refl
either name true None v4 h = rw h refl
either name false v6 (Some n) h = refl
either name false v6 None h = rw h refl

pub host-meant : (name : List ℕ) → name_of name ≡ Ok name → host_read name ≡ Ok (host_of name)
host-meant [] h = cc
host-meant (b ∷ bs) h = either (b ∷ bs) (list_any (λ c. c == 58) (b ∷ bs)) (ipv6_of (b ∷ bs)) (ipv4_of (b ∷ bs)) h
