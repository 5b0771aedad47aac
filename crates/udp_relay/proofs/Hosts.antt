-- The address that a name is the text of.
use Rattle.std.proofs.Common.{[], ◌∷◌, ℕ, ◌≡◌, Bool, true, false, cond, ◌==◌, Option, Some, None, option_map, Result, Ok, Err, List, refl}
use Rattle.std.specs.List.{list_any}
use Rattle.addr_pattern.specs.declared.addr.Addr.{Addr}
use Rattle.addr_pattern.specs.declared.fault.AddrFault.{AddrFault}
use Rattle.addr_pattern.specs.AddressText.{ipv4_of, ipv6_of, host_of, named}
use Rattle.addr_pattern.specs.Reading.{or_fault, addr_read}
use Rattle.udp_relay.specs.Outcomes.{addr_in}

abbrev pub found : Result Addr AddrFault → Option Addr
found (Ok a) = Some a
found (Err fault) = None

either : (name : List ℕ) (t : Bool) (v6 v4 : Option ℕ)
    → found (cond t (or_fault AddrFault.BadGroup (option_map Addr.V6 v6)) (or_fault AddrFault.BadOctet (option_map Addr.V4 v4)))
    ≡ addr_in (named name (cond t (option_map Addr.V6 v6) (option_map Addr.V4 v4)))
either name true (Some n) v4 = refl
either name true None v4 = refl
either name false v6 (Some n) = refl
either name false v6 None = refl

-- an address is found where the text stands for one
pub text-found : (name : List ℕ) → found (addr_read name) ≡ addr_in (host_of name)
text-found [] = refl
text-found (b ∷ bs) = either (b ∷ bs) (list_any (λ c. c == 58) (b ∷ bs)) (ipv6_of (b ∷ bs)) (ipv4_of (b ∷ bs))
