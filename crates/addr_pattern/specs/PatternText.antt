-- What a text of a host or a pattern stands for, or what is wrong with it; and the text of a pattern.
use Rattle.std.specs.Prelude.{ℕ, ◌==◌, ◌&&◌, ◌||◌, ◌-◌, ◌%◌, ◌^◌, Bool, false, nat_le, if◌then◌else◌, Result, Ok, Err, Option, Some, None, List, [], ◌∷◌, ◌++◌, length, codes, bytes_eq}
use Rattle.std.specs.List.{list_any, list_all}
use Rattle.addr_pattern.specs.declared.addr.Addr.{Addr}
use Rattle.addr_pattern.specs.declared.fault.AddrFault.{AddrFault}
use Rattle.addr_pattern.specs.declared.host.Host.{Host}
use Rattle.addr_pattern.specs.declared.pattern.HostPattern.{HostPattern}
use Rattle.addr_pattern.specs.declared.pattern.PortTest.{PortTest}
use Rattle.addr_pattern.specs.declared.pattern.Pattern.{Pattern}
use Rattle.addr_pattern.specs.declared.port_text.Operator.{Operator}
use Rattle.addr_pattern.specs.AddressText.{is_digit, number_of_text, number_text, addr_text}
use Rattle.addr_pattern.specs.Names.{name_of}
use Rattle.addr_pattern.specs.Cuts.{first_cut}
use Rattle.addr_pattern.specs.Reading.{addr_read, ipv4_read, ipv6_read}

-- ---- hosts

abbrev pub named_host : Result (List ℕ) AddrFault → Result Host AddrFault
named_host (Err fault) = Err fault
named_host (Ok name) = Ok (Host.Name name)

abbrev pub host_or_name : List ℕ → Result Addr AddrFault → Result Host AddrFault
host_or_name text (Ok addr) = Ok (Host.Addr addr)
host_or_name text (Err fault) = named_host (name_of text)

-- an address where the text is one, else a name
abbrev pub host_read : List ℕ → Result Host AddrFault
host_read text = host_or_name text (addr_read text)

-- ---- networks

abbrev pub has_colon : List ℕ → Bool
has_colon text = list_any (λ b. b == 58) text

abbrev pub is_quad_byte : ℕ → Bool
is_quad_byte b = is_digit b || b == 46

-- digits, dots and at most one slash
abbrev pub are_quad_parts : List ℕ → Option (List ℕ × List ℕ) → Bool
are_quad_parts text None = list_all is_quad_byte text
are_quad_parts text (Some x) = list_all is_quad_byte x.0 && list_all is_quad_byte x.1

-- so many bits from the end on are zeros
abbrev pub are_zeros : ℕ → ℕ → Bool
are_zeros behind n = n % 2 ^ behind == 0

abbrev pub has_no_host_bits : Addr → ℕ → Bool
has_no_host_bits (Addr.V4 n) bits = are_zeros (32 - bits) n
has_no_host_bits (Addr.V6 n) bits = are_zeros (128 - bits) n

abbrev pub width_of : Addr → ℕ
width_of (Addr.V4 n) = 32
width_of (Addr.V6 n) = 128

abbrev pub masked : Addr → Option ℕ → Result HostPattern AddrFault
masked addr None = Err AddrFault.BadMask
masked addr (Some bits) = if has_no_host_bits addr bits then Ok (HostPattern.Net addr bits) else Err AddrFault.HostBits

abbrev pub net_of : Result Addr AddrFault → List ℕ → Result HostPattern AddrFault
net_of (Err fault) mask = Err fault
net_of (Ok addr) mask = masked addr (number_of_text (width_of addr) mask)

abbrev pub whole_net : Result Addr AddrFault → Result HostPattern AddrFault
whole_net (Err fault) = Err fault
whole_net (Ok addr) = Ok (HostPattern.Net addr (width_of addr))

-- the address, then the mask behind the first slash; without one all bits count
abbrev pub family_read : Bool → List ℕ → Result Addr AddrFault
family_read six text = if six then ipv6_read text else ipv4_read text

abbrev pub net_cut : Bool → List ℕ → Option (List ℕ × List ℕ) → Result HostPattern AddrFault
net_cut six text None = whole_net (family_read six text)
net_cut six text (Some x) = net_of (family_read six x.0) x.1

-- ---- names and domains

abbrev pub is_letter_or_digit : ℕ → Bool
is_letter_or_digit b = is_digit b || (nat_le 65 b && nat_le b 90) || (nat_le 97 b && nat_le b 122)

abbrev pub is_host_byte : ℕ → Bool
is_host_byte b = is_letter_or_digit b || b == 45 || b == 46 || b == 95

abbrev pub begins_well : List ℕ → Bool
begins_well [] = false
begins_well (b ∷ bs) = is_letter_or_digit b

-- letters, digits, `-`, `_` and `.`, up to so many bytes, the first a letter or a digit
abbrev pub is_host_name : ℕ → List ℕ → Bool
is_host_name limit text = begins_well text && nat_le (length text) limit && list_all is_host_byte text

-- a name, or behind a dot a domain
abbrev pub name_read : List ℕ → Result HostPattern AddrFault
name_read [] = Err AddrFault.BadName
name_read (b ∷ bs) =
    if b == 46 then (if is_host_name 254 bs then Ok (HostPattern.Domain bs) else Err AddrFault.BadName)
    else (if is_host_name 255 (b ∷ bs) then Ok (HostPattern.Name (b ∷ bs)) else Err AddrFault.BadName)

-- ---- the host of a pattern

abbrev pub host_of_cut : List ℕ → Option (List ℕ × List ℕ) → Result HostPattern AddrFault
host_of_cut text cut = if has_colon text || are_quad_parts text cut then net_cut (has_colon text) text cut else name_read text

abbrev pub host_pattern_read : List ℕ → Result HostPattern AddrFault
host_pattern_read text = if bytes_eq text (codes "0/0") then Ok HostPattern.Any else host_of_cut text (first_cut 47 text)

-- ---- ports

abbrev pub skip_blanks : List ℕ → List ℕ
skip_blanks [] = []
skip_blanks (b ∷ bs) = if b == 32 then skip_blanks bs else b ∷ bs

abbrev pub onto_trimmed : ℕ → List ℕ → List ℕ
onto_trimmed b [] = if b == 32 then [] else b ∷ []
onto_trimmed b (c ∷ cs) = b ∷ c ∷ cs

-- without the blanks at the end
abbrev pub trim_end : List ℕ → List ℕ
trim_end [] = []
trim_end (b ∷ bs) = onto_trimmed b (trim_end bs)

-- the services that a port may be named by
abbrev pub service_of : List ℕ → Option ℕ
service_of text =
    if bytes_eq text (codes "ftp") then Some 21
    else (if bytes_eq text (codes "ssh") then Some 22
    else (if bytes_eq text (codes "telnet") then Some 23
    else (if bytes_eq text (codes "smtp") then Some 25
    else (if bytes_eq text (codes "domain") then Some 53
    else (if bytes_eq text (codes "http") then Some 80
    else (if bytes_eq text (codes "pop3") then Some 110
    else (if bytes_eq text (codes "imap") then Some 143
    else (if bytes_eq text (codes "https") then Some 443
    else (if bytes_eq text (codes "socks") then Some 1080 else None)))))))))

abbrev pub number_or : Option ℕ → Option ℕ → Option ℕ
number_or (Some n) other = Some n
number_or None other = other

-- a number 0 to 65535 without leading zeros, or a service
abbrev pub port_of : List ℕ → Option ℕ
port_of text = number_or (number_of_text 65535 text) (service_of text)

abbrev pub strip_front : List ℕ → List ℕ → Option (List ℕ)
strip_front [] text = Some text
strip_front (f ∷ fs) [] = None
strip_front (f ∷ fs) (b ∷ bs) = if b == f then strip_front fs bs else None

-- what an operator says of a port
abbrev pub test_of : Operator → Option ℕ → Option PortTest
test_of op None = None
test_of Operator.Eq (Some n) = Some (PortTest.Eq n)
test_of Operator.Ne (Some n) = Some (PortTest.Ne n)
test_of Operator.Ge (Some n) = Some (PortTest.Ge n)
test_of Operator.Le (Some n) = Some (PortTest.Le n)
test_of Operator.Gt (Some n) = Some (PortTest.Gt n)
test_of Operator.Lt (Some n) = Some (PortTest.Lt n)

-- the operators, with the longer before those that they begin with
abbrev pub or_else : Operator → Option (List ℕ) → Option (Operator × List ℕ) → Option (Operator × List ℕ)
or_else op None other = other
or_else op (Some rest) other = Some (op, rest)

abbrev pub word_operator : List ℕ → Option (Operator × List ℕ)
word_operator text =
    or_else Operator.Eq (strip_front (codes "eq") text)
    (or_else Operator.Ne (strip_front (codes "neq") text)
    (or_else Operator.Ne (strip_front (codes "ne") text)
    (or_else Operator.Ge (strip_front (codes "ge") text)
    (or_else Operator.Le (strip_front (codes "le") text)
    (or_else Operator.Gt (strip_front (codes "gt") text)
    (or_else Operator.Lt (strip_front (codes "lt") text) None))))))

abbrev pub sign_operator : List ℕ → Option (Operator × List ℕ)
sign_operator text =
    or_else Operator.Eq (strip_front (codes "=") text)
    (or_else Operator.Ne (strip_front (codes "!=") text)
    (or_else Operator.Ge (strip_front (codes ">=") text)
    (or_else Operator.Le (strip_front (codes "<=") text)
    (or_else Operator.Gt (strip_front (codes ">") text)
    (or_else Operator.Lt (strip_front (codes "<") text) None)))))

abbrev pub either : Option (Operator × List ℕ) → Option (Operator × List ℕ) → Option (Operator × List ℕ)
either (Some x) other = Some x
either None other = other

abbrev pub operator_of : List ℕ → Option (Operator × List ℕ)
operator_of text = either (sign_operator text) (word_operator text)

-- a range whose lower end is not above its upper
abbrev pub range_of : Option ℕ → Option ℕ → Option PortTest
range_of (Some low) (Some high) = if nat_le low high then Some (PortTest.Range low high) else None
range_of _ _ = None

abbrev pub range_cut : List ℕ → Option (List ℕ × List ℕ) → Option PortTest
range_cut text None = test_of Operator.Eq (port_of text)
range_cut text (Some x) = range_of (port_of (trim_end x.0)) (port_of (skip_blanks x.1))

-- one port or a range
abbrev pub bare_test : List ℕ → Option PortTest
bare_test text = range_cut text (first_cut 45 text)

abbrev pub begins_blank : List ℕ → Bool
begins_blank [] = false
begins_blank (b ∷ bs) = b == 32

-- behind the word `port`: an operator and a port, or behind a blank one port or a range
abbrev pub operator_test : List ℕ → Option (Operator × List ℕ) → Option PortTest
operator_test text (Some x) = test_of x.0 (port_of (skip_blanks x.1))
operator_test text None = if begins_blank text then bare_test (skip_blanks text) else None

abbrev pub behind_port : Option (List ℕ) → Option PortTest
behind_port None = None
behind_port (Some text) = operator_test text (operator_of (skip_blanks text))

abbrev pub port_read : List ℕ → Option PortTest
port_read text = behind_port (strip_front (codes "port") (skip_blanks text))

-- behind the word `port`: `=` and a port, or behind a blank a port
abbrev pub plain_port : List ℕ → Option (List ℕ) → Option ℕ
plain_port rest (Some digits) = port_of (skip_blanks digits)
plain_port rest None = if begins_blank rest then port_of (skip_blanks rest) else None

abbrev pub behind_plain_port : Option (List ℕ) → Option ℕ
behind_plain_port None = None
behind_plain_port (Some rest) = plain_port rest (strip_front (codes "=") (skip_blanks rest))

-- the port part of an address to listen on or to go to: no operator but `=`, and no range
abbrev pub port_part : List ℕ → Option ℕ
port_part text = behind_plain_port (strip_front (codes "port") (skip_blanks text))

-- ---- patterns

abbrev pub with_test : HostPattern → Option PortTest → Result Pattern AddrFault
with_test host None = Err AddrFault.BadPort
with_test host (Some port) = Ok (record { host = host; port = port })

abbrev pub pattern_of : Result HostPattern AddrFault → Option PortTest → Result Pattern AddrFault
pattern_of (Err fault) port = Err fault
pattern_of (Ok host) port = with_test host port

-- the host is what stands before the first blank, and what is wrong with it comes before what is wrong with the port
abbrev pub pattern_cut : List ℕ → Option (List ℕ × List ℕ) → Result Pattern AddrFault
pattern_cut text None = pattern_of (host_pattern_read text) (Some PortTest.Any)
pattern_cut text (Some ([], rest)) = Err AddrFault.BadName
pattern_cut text (Some (b ∷ bs, rest)) = pattern_of (host_pattern_read (b ∷ bs)) (port_read rest)

abbrev pub pattern_read : List ℕ → Result Pattern AddrFault
pattern_read text = pattern_cut text (first_cut 32 text)

-- ---- writing

abbrev pub mask_text : ℕ → ℕ → List ℕ
mask_text width bits = if bits == width then [] else 47 ∷ number_text bits

abbrev pub host_text : HostPattern → List ℕ
host_text HostPattern.Any = codes "0/0"
host_text (HostPattern.Net addr bits) = addr_text addr ++ mask_text (width_of addr) bits
host_text (HostPattern.Name name) = name
host_text (HostPattern.Domain name) = 46 ∷ name

abbrev pub port_text : PortTest → List ℕ
port_text PortTest.Any = []
port_text (PortTest.Eq n) = codes " port = " ++ number_text n
port_text (PortTest.Ne n) = codes " port != " ++ number_text n
port_text (PortTest.Ge n) = codes " port >= " ++ number_text n
port_text (PortTest.Le n) = codes " port <= " ++ number_text n
port_text (PortTest.Gt n) = codes " port > " ++ number_text n
port_text (PortTest.Lt n) = codes " port < " ++ number_text n
port_text (PortTest.Range low high) = codes " port " ++ number_text low ++ 45 ∷ number_text high

-- the canonical text
abbrev pub pattern_text : Pattern → List ℕ
pattern_text p = host_text p.host ++ port_text p.port
