-- What a text spells is in range.
use Rattle.std.proofs.Common.{ℕ, zero, suc, ◌≡◌, ◌<◌, ◌≤◌, ◌+◌, ◌-◌, ◌*◌, ◌^◌, true, false, ◌==◌, ◌&&◌, nat_le, nat_lt, Option, Some, None, IfSome, option_map, option_and_then, Result, Ok, Err, IfOk, List, [], ◌∷◌, ◌++◌, replicate, length, length-append, sym, subst, ap, ◌∙◌, refl, arith, cond}
use Rattle.std.specs.List.{list_any, list_all}
use Rattle.std.proofs.lemmas.Bool.{eqb-true, ltb-true, leb-true, and_parts}
use Rattle.std.proofs.lemmas.List.{length-replicate}
use Rattle.std.proofs.Math.Nat.{mul-le-mul_right, pow-succ', pow-le-pow_right, mul_assoc, suc-mul, mul-one, pow-zero}
use Rattle.addr_pattern.specs.declared.addr.Addr.{Addr}
use Rattle.addr_pattern.specs.declared.fault.AddrFault.{AddrFault}
use Rattle.addr_pattern.specs.AddressText.{is_digit, no_leading_zero, value_of_digits, number_of_text, all_of, map_parts, map_bytes, hex_value, worth, ipv4_of_octets, ipv4_of, group_of, both, tail_groups, groups_of_parts, groups_of, filled, whole_groups, undotted, ipv6_cut, ipv6_of, parts, cut_at_gap}
use Rattle.addr_pattern.specs.Reading.{or_fault, ipv4_read, ipv6_read, addr_read, unbracketed, bracketed_read, with_port, endpoint_parts, endpoint_cut, endpoint_read}
use Rattle.addr_pattern.specs.Cuts.{last_cut, between}
use Rattle.addr_pattern.specs.ReadAgain.{IsAddr, IsEndpoint, AddrInRange, EndpointInRange}
use Rattle.addr_pattern.proofs.Hexadecimal.{Below}
use Rattle.addr_pattern.proofs.GroupNumbers.{below-append}

-- what holds of an answer holds of the value in it
pub in_some : {A : Type 0} (P : A → Type 0) (o : Option A) (x : A) → IfSome o P → o ≡ Some x → P x
in_some P o x h e = subst (λ z. IfSome z P) e h

pub in_ok : {A : Type 0} (P : A → Type 0) (r : Result A AddrFault) (x : A) → IfOk r P → r ≡ Ok x → P x
in_ok P r x h e = subst (λ z. IfOk z P) e h

-- ---- numbers

pub number-within : (limit : ℕ) (text : List ℕ) → IfSome (number_of_text limit text) (λ n. n ≤ limit)
number-within limit text =
    let front = no_leading_zero text && list_all is_digit text && nat_le (length text) 40 in
    let value = value_of_digits 0 text in
    elim (front && nat_le value limit) as (λ b. (front && nat_le value limit) ≡ b → IfSome (cond b (Some value) None) (λ n. n ≤ limit)) [
      | true ↦ λ e. leb-true value limit (and_parts front (nat_le value limit) e).1
      | false ↦ λ e. tt
    ] refl

-- ---- digits in a row

-- what digits below the base are worth
worth-step : (base n d : ℕ) → d < base → n * base + d + 1 ≤ (n + 1) * base
worth-step base n d h =
    let one : n + 1 ≡ suc n = omega arith in
    let e : (n + 1) * base ≡ n * base + base = ap (λ (m : ℕ). m * base) one ∙ suc-mul n base in
    omega (arith, h, e)

worth-below : (base n : ℕ) (ds : List ℕ) → Below base ds → worth base n ds < (n + 1) * base ^ length ds
worth-below base n [] h = let e : (n + 1) * base ^ 0 ≡ n + 1 = ap (λ (m : ℕ). (n + 1) * m) (pow-zero base) ∙ mul-one (n + 1) in omega (arith, e)
worth-below base n (d ∷ ds) h =
    let more = worth-below base (n * base + d) ds h.1 in
    let grown : (n * base + d + 1) * base ^ length ds ≤ ((n + 1) * base) * base ^ length ds = mul-le-mul_right (base ^ length ds) (worth-step base n d h.0) in
    let step : (n + 1) * base ^ suc (length ds) ≡ ((n + 1) * base) * base ^ length ds = ap (λ (m : ℕ). (n + 1) * m) (pow-succ' base (length ds)) ∙ sym (mul_assoc (n + 1) base (base ^ length ds)) in
    omega (arith, more, grown, step)

-- so many numbers, each below the first
record HasDigits (base count : ℕ) (ds : List ℕ) : Type 0 where
  pub below : Below base ds
  pub many : length ds ≡ count

abbrev EachBelow : ℕ → List (Option ℕ) → Type 0
EachBelow n [] = Unit {0}
EachBelow n (o ∷ os) = IfSome o (λ x. x < n) × EachBelow n os

put-front : (n count x : ℕ) (o : Option (List ℕ)) → x < n → IfSome o (HasDigits n count) → IfSome (option_map (λ (ys : List ℕ). x ∷ ys) o) (HasDigits n (suc count))
put-front n count x None h k = tt
put-front n count x (Some ys) h k = record { below = (h, k.below); many = ap suc k.many }

all_of-below : (n : ℕ) (os : List (Option ℕ)) → EachBelow n os → IfSome (all_of os) (HasDigits n (length os))
all_of-below n [] h = record { below = tt; many = refl }
all_of-below n (None ∷ os) h = tt
all_of-below n (Some x ∷ os) h = put-front n (length os) x (all_of os) h.0 (all_of-below n os h.1)

-- ---- IPv4

octets-below : (ps : List (List ℕ)) → EachBelow 256 (map_parts (number_of_text 255) ps)
octets-below [] = tt
octets-below (p ∷ ps) = (wider (number_of_text 255 p) (number-within 255 p), octets-below ps)
  where
    wider : (o : Option ℕ) → IfSome o (λ n. n ≤ 255) → IfSome o (λ n. n < 256)
    wider None h = tt
    wider (Some n) h = omega (arith, h)

octets-worth : (count : ℕ) (o : Option (List ℕ)) → IfSome o (HasDigits 256 count) → IfSome (option_and_then ipv4_of_octets o) (λ n. n < 2 ^ 32)
octets-worth count None h = tt
octets-worth count (Some ds) h =
    elim (length ds == 4) as (λ b. (length ds == 4) ≡ b → IfSome (cond b (Some (worth 256 0 ds)) None) (λ n. n < 2 ^ 32)) [
      | true ↦ λ e.
          let four : 256 ^ length ds ≡ 2 ^ 32 = ap (λ (k : ℕ). 256 ^ k) (eqb-true (length ds) 4 e) in
          let value = worth-below 256 0 ds h.below in
          omega (arith, four, value)
      | false ↦ λ e. tt
    ] refl

pub ipv4-small : (text : List ℕ) → IfSome (ipv4_of text) (λ n. n < 2 ^ 32)
ipv4-small text =
    let ps = parts 46 text in
    octets-worth (length (map_parts (number_of_text 255) ps)) (all_of (map_parts (number_of_text 255) ps)) (all_of-below 256 (map_parts (number_of_text 255) ps) (octets-below ps))

-- ---- groups

hex-below : (b : ℕ) → IfSome (hex_value b) (λ d. d < 16)
hex-below b =
    elim (is_digit b) as (λ t. is_digit b ≡ t → IfSome (cond t (Some (b - 48)) (cond (nat_le 97 b && nat_le b 102) (Some (b - 87)) (cond (nat_le 65 b && nat_le b 70) (Some (b - 55)) None))) (λ d. d < 16)) [
      | true ↦ λ e. let high = leb-true b 57 (and_parts (nat_le 48 b) (nat_le b 57) e).1 in omega (arith, high)
      | false ↦ λ e.
          elim (nat_le 97 b && nat_le b 102) as (λ t. (nat_le 97 b && nat_le b 102) ≡ t → IfSome (cond t (Some (b - 87)) (cond (nat_le 65 b && nat_le b 70) (Some (b - 55)) None)) (λ d. d < 16)) [
            | true ↦ λ f. let high = leb-true b 102 (and_parts (nat_le 97 b) (nat_le b 102) f).1 in omega (arith, high)
            | false ↦ λ f.
                elim (nat_le 65 b && nat_le b 70) as (λ t. (nat_le 65 b && nat_le b 70) ≡ t → IfSome (cond t (Some (b - 55)) None) (λ d. d < 16)) [
                  | true ↦ λ g. let high = leb-true b 70 (and_parts (nat_le 65 b) (nat_le b 70) g).1 in omega (arith, high)
                  | false ↦ λ g. tt
                ] refl
          ] refl
    ] refl

digits-below : (text : List ℕ) → EachBelow 16 (map_bytes hex_value text)
digits-below [] = tt
digits-below (b ∷ bs) = (hex-below b, digits-below bs)

length-map_bytes : (text : List ℕ) → length (map_bytes hex_value text) ≡ length text
length-map_bytes [] = refl
length-map_bytes (b ∷ bs) = ap suc (length-map_bytes bs)

digits-worth : (count : ℕ) (o : Option (List ℕ)) → count ≤ 4 → IfSome o (HasDigits 16 count) → IfSome (option_map (worth 16 0) o) (λ n. n < 65536)
digits-worth count None few h = tt
digits-worth count (Some ds) few h =
    let less : length ds ≤ 4 = omega (arith, few, h.many) in
    let least : 16 ^ length ds ≤ 16 ^ 4 = pow-le-pow_right {n = 16} (omega arith) less in
    let value = worth-below 16 0 ds h.below in
    omega (arith, least, value)

group-small : (text : List ℕ) → IfSome (group_of text) (λ n. n < 65536)
group-small text =
    elim (nat_le 1 (length text) && nat_le (length text) 4) as (λ t. (nat_le 1 (length text) && nat_le (length text) 4) ≡ t → IfSome (cond t (option_map (worth 16 0) (all_of (map_bytes hex_value text))) None) (λ n. n < 65536)) [
      | true ↦ λ e.
          let few = leb-true (length text) 4 (and_parts (nat_le 1 (length text)) (nat_le (length text) 4) e).1 in
          digits-worth (length (map_bytes hex_value text)) (all_of (map_bytes hex_value text)) (omega (arith, few, length-map_bytes text)) (all_of-below 16 (map_bytes hex_value text) (digits-below text))
      | false ↦ λ e. tt
    ] refl

one-below : (o : Option ℕ) → IfSome o (λ g. g < 65536) → IfSome (option_map (λ (g : ℕ). g ∷ []) o) (Below 65536)
one-below None h = tt
one-below (Some g) h = (h, tt)

two-below : (o : Option ℕ) → IfSome o (λ n. n < 2 ^ 32) → IfSome (tail_groups o) (Below 65536)
two-below None h = tt
two-below (Some n) h = (omega (arith, h), (omega arith, tt))

both-below : (o p : Option (List ℕ)) → IfSome o (Below 65536) → IfSome p (Below 65536) → IfSome (both o p) (Below 65536)
both-below None p h k = tt
both-below (Some xs) None h k = tt
both-below (Some xs) (Some ys) h k = below-append 65536 xs ys h k

parts-below : (ps : List (List ℕ)) → IfSome (groups_of_parts ps) (Below 65536)
parts-below [] = tt
parts-below (p ∷ []) =
    elim (list_any (λ b. b == 46) p) as (λ t. IfSome (cond t (tail_groups (ipv4_of p)) (option_map (λ (g : ℕ). g ∷ []) (group_of p))) (Below 65536)) [
      | true ↦ two-below (ipv4_of p) (ipv4-small p)
      | false ↦ one-below (group_of p) (group-small p)
    ]
parts-below (p ∷ q ∷ ps) = both-below (option_map (λ (g : ℕ). g ∷ []) (group_of p)) (groups_of_parts (q ∷ ps)) (one-below (group_of p) (group-small p)) (parts-below (q ∷ ps))

groups_of-below : (text : List ℕ) → IfSome (groups_of text) (Below 65536)
groups_of-below [] = tt
groups_of-below (b ∷ bs) = parts-below (parts 58 (b ∷ bs))

undotted-below : (text : List ℕ) → IfSome (undotted text) (Below 65536)
undotted-below text = elim (list_any (λ b. b == 46) text) as (λ t. IfSome (cond t None (groups_of text)) (Below 65536)) [ true ↦ tt | false ↦ groups_of-below text ]

-- ---- IPv6

zeros-below : (n : ℕ) → Below 65536 (replicate n 0)
zeros-below zero = tt
zeros-below (suc n) = (omega arith, zeros-below n)

whole-eight : (o : Option (List ℕ)) → IfSome o (Below 65536) → IfSome (whole_groups o) (HasDigits 65536 8)
whole-eight None h = tt
whole-eight (Some xs) h = elim (length xs == 8) as (λ t. (length xs == 8) ≡ t → IfSome (cond t (Some xs) None) (HasDigits 65536 8)) [
  | true ↦ λ e. record { below = h; many = eqb-true (length xs) 8 e }
  | false ↦ λ e. tt
] refl

filled-eight : (o p : Option (List ℕ)) → IfSome o (Below 65536) → IfSome p (Below 65536) → IfSome (filled o p) (HasDigits 65536 8)
filled-eight None p h k = tt
filled-eight (Some xs) None h k = tt
filled-eight (Some xs) (Some ys) h k =
    let zeros = 8 - (length xs + length ys) in
    elim (nat_lt (length xs + length ys) 8) as (λ t. nat_lt (length xs + length ys) 8 ≡ t → IfSome (cond t (Some (xs ++ replicate zeros 0 ++ ys)) None) (HasDigits 65536 8)) [
      | true ↦ λ e.
          let less = ltb-true (length xs + length ys) 8 e in
          let outer = length-append (xs ++ replicate zeros 0) ys in
          let inner = length-append xs (replicate zeros 0) in
          let count = length-replicate {A = ℕ} zeros 0 in
          record {
            below = below-append 65536 (xs ++ replicate zeros 0) ys (below-append 65536 xs (replicate zeros 0) h (zeros-below zeros)) k;
            many = omega (arith, less, outer, inner, count);
          }
      | false ↦ λ e. tt
    ] refl

cut-eight : (text : List ℕ) (cut : Option (List ℕ × List ℕ)) → IfSome (ipv6_cut text cut) (HasDigits 65536 8)
cut-eight text None = whole-eight (groups_of text) (groups_of-below text)
cut-eight text (Some x) = filled-eight (undotted x.0) (groups_of x.1) (undotted-below x.0) (groups_of-below x.1)

eight-worth : (o : Option (List ℕ)) → IfSome o (HasDigits 65536 8) → IfSome (option_map (worth 65536 0) o) (λ n. n < 2 ^ 128)
eight-worth None h = tt
eight-worth (Some gs) h =
    let eight : 65536 ^ length gs ≡ 2 ^ 128 = ap (λ (k : ℕ). 65536 ^ k) h.many in
    let value = worth-below 65536 0 gs h.below in
    omega (arith, eight, value)

pub ipv6-small : (text : List ℕ) → IfSome (ipv6_of text) (λ n. n < 2 ^ 128)
ipv6-small text = eight-worth (ipv6_cut text (cut_at_gap text)) (cut-eight text (cut_at_gap text))

-- ---- addresses

v4-or : (o : Option ℕ) → IfSome o (λ n. n < 2 ^ 32) → IfOk (or_fault AddrFault.BadOctet (option_map Addr.V4 o)) IsAddr
v4-or None h = tt
v4-or (Some n) h = h

v6-or : (o : Option ℕ) → IfSome o (λ n. n < 2 ^ 128) → IfOk (or_fault AddrFault.BadGroup (option_map Addr.V6 o)) IsAddr
v6-or None h = tt
v6-or (Some n) h = h

pub ipv4_read-addr : (text : List ℕ) → IfOk (ipv4_read text) IsAddr
ipv4_read-addr [] = tt
ipv4_read-addr (b ∷ bs) = v4-or (ipv4_of (b ∷ bs)) (ipv4-small (b ∷ bs))

pub ipv6_read-addr : (text : List ℕ) → IfOk (ipv6_read text) IsAddr
ipv6_read-addr [] = tt
ipv6_read-addr (b ∷ bs) = v6-or (ipv6_of (b ∷ bs)) (ipv6-small (b ∷ bs))

addr_read-addr : (text : List ℕ) → IfOk (addr_read text) IsAddr
addr_read-addr text = elim (list_any (λ b. b == 58) text) as (λ t. IfOk (cond t (ipv6_read text) (ipv4_read text)) IsAddr) [ true ↦ ipv6_read-addr text | false ↦ ipv4_read-addr text ]

pub addr-in_range : AddrInRange
addr-in_range text a h = in_ok IsAddr (addr_read text) a (addr_read-addr text) h

-- ---- endpoints

inside-addr : (text : List ℕ) (inside : Option (List ℕ)) → IfOk (unbracketed text inside) IsAddr
inside-addr text None = ipv4_read-addr text
inside-addr text (Some inside) = ipv6_read-addr inside

ported : (port : ℕ) (r : Result Addr AddrFault) → port ≤ 65535 → IfOk r IsAddr → IfOk (with_port port r) IsEndpoint
ported port (Err fault) h k = tt
ported port (Ok addr) h k = record { addr = k; port = omega (arith, h) }

parts-endpoint : (port : Option ℕ) (host : List ℕ) → IfSome port (λ n. n ≤ 65535) → IfOk (endpoint_parts port host) IsEndpoint
parts-endpoint None host h = tt
parts-endpoint (Some port) host h = ported port (bracketed_read host) h (inside-addr host (between 91 93 host))

cut-endpoint : (cut : Option (List ℕ × List ℕ)) → IfOk (endpoint_cut cut) IsEndpoint
cut-endpoint None = tt
cut-endpoint (Some x) = parts-endpoint (number_of_text 65535 x.1) x.0 (number-within 65535 x.1)

pub endpoint-in_range : EndpointInRange
endpoint-in_range text e h = in_ok IsEndpoint (endpoint_read text) e (cut-endpoint (last_cut 58 text)) h
