-- The texts of addresses and endpoints.
use Rattle.std.specs.Prelude.{ℕ, zero, suc, ◌+◌, ◌-◌, ◌*◌, ◌/◌, ◌%◌, Bool, true, false, ◌&&◌, not, ◌==◌, nat_lt, nat_le, if◌then◌else◌, Option, Some, None, List, [], ◌∷◌, ◌++◌, length, drop, take, replicate, option_map, option_and_then}
use Rattle.std.specs.List.{list_all, list_any}
use Rattle.addr_pattern.specs.declared.addr.Addr.{Addr}
use Rattle.addr_pattern.specs.declared.endpoint.Endpoint.{Endpoint}
use Rattle.addr_pattern.specs.declared.host.Host.{Host}

-- ---- numbers

abbrev pub is_digit : ℕ → Bool
is_digit b = nat_le 48 b && nat_le b 57

-- the decimal digits of a number, in front of a text; the first number bounds how many
abbrev pub decimal_onto : ℕ → ℕ → List ℕ → List ℕ
decimal_onto zero n text = text
decimal_onto (suc k) n text =
    elim (nat_lt n 10) [ true ↦ (48 + n) ∷ text | false ↦ decimal_onto k (n / 10) ((48 + n % 10) ∷ text) ]

abbrev pub number_text : ℕ → List ℕ
number_text n = decimal_onto 40 n []

abbrev pub hex_digit : ℕ → ℕ
hex_digit d = if nat_lt d 10 then 48 + d else 87 + d

-- two digits
abbrev pub hex_byte : ℕ → List ℕ
hex_byte b = hex_digit (b / 16) ∷ hex_digit (b % 16) ∷ []

abbrev pub hex_text : List ℕ → List ℕ
hex_text [] = []
hex_text (b ∷ bs) = hex_digit (b / 16) ∷ hex_digit (b % 16) ∷ hex_text bs

-- ---- texts cut at a byte

abbrev pub onto_first : ℕ → List (List ℕ) → List (List ℕ)
onto_first b [] = (b ∷ []) ∷ []
onto_first b (p ∷ ps) = (b ∷ p) ∷ ps

-- the parts between the separators, one more than there are of these
abbrev pub parts : ℕ → List ℕ → List (List ℕ)
parts sep [] = [] ∷ []
parts sep (b ∷ bs) = if b == sep then [] ∷ parts sep bs else onto_first b (parts sep bs)

-- ---- reading

abbrev pub value_of_digits : ℕ → List ℕ → ℕ
value_of_digits n [] = n
value_of_digits n (d ∷ ds) = value_of_digits (n * 10 + (d - 48)) ds

abbrev pub no_leading_zero : List ℕ → Bool
no_leading_zero [] = false
no_leading_zero (d ∷ []) = true
no_leading_zero (d ∷ e ∷ ds) = not (d == 48)

-- a decimal number without leading zeros, at most the limit
abbrev pub number_of_text : ℕ → List ℕ → Option ℕ
number_of_text limit text =
    if no_leading_zero text && list_all is_digit text && nat_le (length text) 40 && nat_le (value_of_digits 0 text) limit then Some (value_of_digits 0 text) else None

abbrev pub all_of : List (Option ℕ) → Option (List ℕ)
all_of [] = Some []
all_of (None ∷ xs) = None
all_of (Some x ∷ xs) = option_map (λ ys. x ∷ ys) (all_of xs)

abbrev pub map_parts : (List ℕ → Option ℕ) → List (List ℕ) → List (Option ℕ)
map_parts f [] = []
map_parts f (p ∷ ps) = f p ∷ map_parts f ps

abbrev pub worth : ℕ → ℕ → List ℕ → ℕ
worth base n [] = n
worth base n (d ∷ ds) = worth base (n * base + d) ds

-- four decimal numbers 0 to 255, joined by dots
abbrev pub ipv4_of_octets : List ℕ → Option ℕ
ipv4_of_octets octets = if length octets == 4 then Some (worth 256 0 octets) else None

abbrev pub ipv4_of : List ℕ → Option ℕ
ipv4_of text = option_and_then ipv4_of_octets (all_of (map_parts (number_of_text 255) (parts 46 text)))

abbrev pub hex_value : ℕ → Option ℕ
hex_value b =
    if is_digit b then Some (b - 48) else (if nat_le 97 b && nat_le b 102 then Some (b - 87) else (if nat_le 65 b && nat_le b 70 then Some (b - 55) else None))

abbrev pub map_bytes : (ℕ → Option ℕ) → List ℕ → List (Option ℕ)
map_bytes f [] = []
map_bytes f (b ∷ bs) = f b ∷ map_bytes f bs

-- one to four hexadecimal digits
abbrev pub group_of : List ℕ → Option ℕ
group_of text = if nat_le 1 (length text) && nat_le (length text) 4 then option_map (worth 16 0) (all_of (map_bytes hex_value text)) else None

abbrev pub both : Option (List ℕ) → Option (List ℕ) → Option (List ℕ)
both (Some xs) (Some ys) = Some (xs ++ ys)
both _ _ = None

abbrev pub tail_groups : Option ℕ → Option (List ℕ)
tail_groups None = None
tail_groups (Some n) = Some (n / 65536 ∷ n % 65536 ∷ [])

-- the groups of the parts between colons; the last may be a dotted quad, which is two groups
abbrev pub groups_of_parts : List (List ℕ) → Option (List ℕ)
groups_of_parts [] = Some []
groups_of_parts (p ∷ []) = if list_any (λ b. b == 46) p then tail_groups (ipv4_of p) else option_map (λ g. g ∷ []) (group_of p)
groups_of_parts (p ∷ q ∷ ps) = both (option_map (λ g. g ∷ []) (group_of p)) (groups_of_parts (q ∷ ps))

-- no groups in a text of no bytes
abbrev pub groups_of : List ℕ → Option (List ℕ)
groups_of [] = Some []
groups_of (b ∷ bs) = groups_of_parts (parts 58 (b ∷ bs))

-- what stands before and behind the first `::`
abbrev pub push_front : ℕ → Option (List ℕ × List ℕ) → Option (List ℕ × List ℕ)
push_front b None = None
push_front b (Some x) = Some (b ∷ x.0, x.1)

abbrev pub cut_at_gap : List ℕ → Option (List ℕ × List ℕ)
cut_at_gap [] = None
cut_at_gap (b ∷ []) = None
cut_at_gap (b ∷ c ∷ bs) = if b == 58 && c == 58 then Some ([], bs) else push_front b (cut_at_gap (c ∷ bs))

abbrev pub filled : Option (List ℕ) → Option (List ℕ) → Option (List ℕ)
filled (Some xs) (Some ys) = if nat_lt (length xs + length ys) 8 then Some (xs ++ replicate (8 - (length xs + length ys)) 0 ++ ys) else None
filled _ _ = None

abbrev pub whole_groups : Option (List ℕ) → Option (List ℕ)
whole_groups None = None
whole_groups (Some xs) = if length xs == 8 then Some xs else None

-- a dotted quad stands at the text's end alone, so there is none before the `::`
abbrev pub undotted : List ℕ → Option (List ℕ)
undotted text = if list_any (λ b. b == 46) text then None else groups_of text

abbrev pub ipv6_cut : List ℕ → Option (List ℕ × List ℕ) → Option (List ℕ)
ipv6_cut text None = whole_groups (groups_of text)
ipv6_cut text (Some x) = filled (undotted x.0) (groups_of x.1)

abbrev pub ipv6_of : List ℕ → Option ℕ
ipv6_of text = option_map (worth 65536 0) (ipv6_cut text (cut_at_gap text))

-- the address that a text stands for
abbrev pub addr_of : List ℕ → Option Addr
addr_of text = if list_any (λ b. b == 58) text then option_map Addr.V6 (ipv6_of text) else option_map Addr.V4 (ipv4_of text)

abbrev pub named : List ℕ → Option Addr → Host
named name None = Host.Name name
named name (Some a) = Host.Addr a

-- an address where the text stands for one, else a name
abbrev pub host_of : List ℕ → Host
host_of text = named text (addr_of text)

-- ---- writing

abbrev pub ipv4_text : ℕ → List ℕ
ipv4_text n = number_text (n / 16777216) ++ 46 ∷ number_text (n / 65536 % 256) ++ 46 ∷ number_text (n / 256 % 256) ++ 46 ∷ number_text (n % 256)

abbrev pub hex_onto : ℕ → ℕ → List ℕ → List ℕ
hex_onto zero n text = text
hex_onto (suc k) n text = elim (nat_lt n 16) [ true ↦ hex_digit n ∷ text | false ↦ hex_onto k (n / 16) (hex_digit (n % 16) ∷ text) ]

abbrev pub group_text : ℕ → List ℕ
group_text n = hex_onto 4 n []

-- so many groups of the number, the highest first
abbrev pub groups : ℕ → ℕ → List ℕ
groups zero n = []
groups (suc k) n = groups k (n / 65536) ++ n % 65536 ∷ []

abbrev pub zeros_at_front : List ℕ → ℕ
zeros_at_front [] = 0
zeros_at_front (g ∷ gs) = if g == 0 then suc (zeros_at_front gs) else 0

-- the longest run of zero groups, the first of equal ones: its place and its length
abbrev pub better : ℕ → ℕ × ℕ → ℕ × ℕ
better here found = if nat_lt here found.1 then (found.0 + 1, found.1) else (0, here)

abbrev pub longest_run : List ℕ → ℕ × ℕ
longest_run [] = (0, 0)
longest_run (g ∷ gs) = better (zeros_at_front (g ∷ gs)) (longest_run gs)

abbrev pub joined : List ℕ → List ℕ
joined [] = []
joined (g ∷ []) = group_text g
joined (g ∷ h ∷ gs) = group_text g ++ 58 ∷ joined (h ∷ gs)

abbrev pub text_with_run : List ℕ → ℕ × ℕ → List ℕ
text_with_run gs run = if nat_lt run.1 2 then joined gs else joined (take run.0 gs) ++ 58 ∷ 58 ∷ joined (drop (run.0 + run.1) gs)

-- RFC 5952, without a dotted tail
abbrev pub ipv6_text : ℕ → List ℕ
ipv6_text n = let gs = groups 8 n in text_with_run gs (longest_run gs)

abbrev pub addr_text : Addr → List ℕ
addr_text (Addr.V4 n) = ipv4_text n
addr_text (Addr.V6 n) = ipv6_text n

-- an address with a port: that of IPv6 stands in brackets
abbrev pub bracketed : Addr → List ℕ
bracketed (Addr.V4 n) = ipv4_text n
bracketed (Addr.V6 n) = 91 ∷ ipv6_text n ++ 93 ∷ []

abbrev pub endpoint_text : Endpoint → List ℕ
endpoint_text e = bracketed e.addr ++ 58 ∷ number_text e.port
