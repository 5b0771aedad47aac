-- What a text of an address or an endpoint stands for, or what is wrong with it.
use Rattle.std.specs.Prelude.{ℕ, ◌==◌, if◌then◌else◌, Result, Ok, Err, Option, Some, None, option_map, List, [], ◌∷◌}
use Rattle.std.specs.List.{list_any}
use Rattle.addr_pattern.specs.declared.addr.Addr.{Addr}
use Rattle.addr_pattern.specs.declared.endpoint.Endpoint.{Endpoint}
use Rattle.addr_pattern.specs.declared.fault.AddrFault.{AddrFault}
use Rattle.addr_pattern.specs.AddressText.{ipv4_of, ipv6_of, number_of_text}
use Rattle.addr_pattern.specs.Cuts.{last_cut, between}

abbrev pub or_fault : {A : Type 0} → AddrFault → Option A → Result A AddrFault
or_fault fault None = Err fault
or_fault fault (Some a) = Ok a

-- four decimal numbers 0 to 255 without leading zeros, joined by dots
abbrev pub ipv4_read : List ℕ → Result Addr AddrFault
ipv4_read [] = Err AddrFault.Empty
ipv4_read (b ∷ bs) = or_fault AddrFault.BadOctet (option_map Addr.V4 (ipv4_of (b ∷ bs)))

-- the forms of RFC 4291, section 2.2
abbrev pub ipv6_read : List ℕ → Result Addr AddrFault
ipv6_read [] = Err AddrFault.Empty
ipv6_read (b ∷ bs) = or_fault AddrFault.BadGroup (option_map Addr.V6 (ipv6_of (b ∷ bs)))

-- a text with a colon is of IPv6, any other of IPv4
abbrev pub addr_read : List ℕ → Result Addr AddrFault
addr_read text = if list_any (λ b. b == 58) text then ipv6_read text else ipv4_read text

-- the address before a port: of IPv6 where it stands in brackets
abbrev pub unbracketed : List ℕ → Option (List ℕ) → Result Addr AddrFault
unbracketed text None = ipv4_read text
unbracketed text (Some inside) = ipv6_read inside

abbrev pub bracketed_read : List ℕ → Result Addr AddrFault
bracketed_read text = unbracketed text (between 91 93 text)

abbrev pub with_port : ℕ → Result Addr AddrFault → Result Endpoint AddrFault
with_port port (Err fault) = Err fault
with_port port (Ok addr) = Ok (record { addr = addr; port = port })

abbrev pub endpoint_parts : Option ℕ → List ℕ → Result Endpoint AddrFault
endpoint_parts None host = Err AddrFault.BadPort
endpoint_parts (Some port) host = with_port port (bracketed_read host)

-- an address, the last colon and a port 0 to 65535 without leading zeros; what is wrong with the port comes first
abbrev pub endpoint_cut : Option (List ℕ × List ℕ) → Result Endpoint AddrFault
endpoint_cut None = Err AddrFault.BadPort
endpoint_cut (Some x) = endpoint_parts (number_of_text 65535 x.1) x.0

abbrev pub endpoint_read : List ℕ → Result Endpoint AddrFault
endpoint_read text = endpoint_cut (last_cut 58 text)
