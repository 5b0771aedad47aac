-- A pattern that a text spells can be written.
use Rattle.std.proofs.Common.{ℕ, ◌≡◌, ◌<◌, ◌≤◌, ◌%◌, ◌^◌, Bool, true, false, ◌==◌, ◌||◌, nat_le, Option, Some, None, IfSome, Result, Ok, Err, IfOk, List, [], ◌∷◌, codes, bytes_eq, sym, ap, ◌∙◌, refl, arith, cond}
use Rattle.std.specs.List.{list_all}
use Rattle.std.proofs.lemmas.Bool.{eqb-true, eq-eqb, leb-true, or_parts}
use Rattle.addr_pattern.specs.declared.addr.Addr.{Addr}
use Rattle.addr_pattern.specs.declared.fault.AddrFault.{AddrFault}
use Rattle.addr_pattern.specs.declared.pattern.HostPattern.{HostPattern}
use Rattle.addr_pattern.specs.declared.pattern.PortTest.{PortTest}
use Rattle.addr_pattern.specs.declared.port_text.Operator.{Operator}
use Rattle.addr_pattern.specs.AddressText.{number_of_text}
use Rattle.addr_pattern.specs.PatternText.{is_quad_byte, has_colon, are_quad_parts, are_zeros, has_no_host_bits, width_of, masked, net_of, whole_net, family_read, net_cut, is_host_byte, is_host_name, name_read, host_of_cut, host_pattern_read, skip_blanks, trim_end, strip_front, service_of, number_or, port_of, test_of, operator_of, operator_test, range_of, range_cut, bare_test, begins_blank, behind_port, port_read, plain_port, behind_plain_port, port_part, with_test, pattern_of, pattern_cut, pattern_read}
use Rattle.addr_pattern.specs.Cuts.{first_cut}
use Rattle.addr_pattern.specs.ReadAgain.{IsAddr, IsHostPattern, IsPortTest, IsPattern, PatternInRange, PortPartInRange}
use Rattle.addr_pattern.proofs.Bytes.{all-cons, lacks-all}
use Rattle.addr_pattern.proofs.Cutting.{first_cut-lacks}
use Rattle.addr_pattern.proofs.PlainTexts.{name-bytes}
use Rattle.addr_pattern.proofs.InRange.{in_some, in_ok, number-within, ipv4_read-addr, ipv6_read-addr}

-- ---- networks

family-addr : (six : Bool) (text : List ℕ) → IfOk (family_read six text) IsAddr
family-addr true text = ipv6_read-addr text
family-addr false text = ipv4_read-addr text

no_zeros : (n : ℕ) → are_zeros 0 n ≡ true
no_zeros n = let e : n % 2 ^ 0 ≡ 0 = omega arith in eq-eqb (n % 2 ^ 0) 0 e

whole-clear : (a : Addr) → has_no_host_bits a (width_of a) ≡ true
whole-clear (Addr.V4 n) = no_zeros n
whole-clear (Addr.V6 n) = no_zeros n

whole-host : (r : Result Addr AddrFault) → IfOk r IsAddr → IfOk (whole_net r) IsHostPattern
whole-host (Err fault) h = tt
whole-host (Ok addr) h = record { known = h; within = omega arith; clear = whole-clear addr }

masked-host : (addr : Addr) (bits : Option ℕ) → IsAddr addr → IfSome bits (λ n. n ≤ width_of addr) → IfOk (masked addr bits) IsHostPattern
masked-host addr None h k = tt
masked-host addr (Some bits) h k =
    elim (has_no_host_bits addr bits) as (λ t. has_no_host_bits addr bits ≡ t → IfOk (cond t (Ok (HostPattern.Net addr bits)) (Err AddrFault.HostBits)) IsHostPattern) [
      | true ↦ λ e. record { known = h; within = k; clear = e }
      | false ↦ λ e. tt
    ] refl

net-host : (r : Result Addr AddrFault) (mask : List ℕ) → IfOk r IsAddr → IfOk (net_of r mask) IsHostPattern
net-host (Err fault) mask h = tt
net-host (Ok addr) mask h = masked-host addr (number_of_text (width_of addr) mask) h (number-within (width_of addr) mask)

cut-net : (six : Bool) (text : List ℕ) (cut : Option (List ℕ × List ℕ)) → IfOk (net_cut six text cut) IsHostPattern
cut-net six text None = whole-host (family_read six text) (family-addr six text)
cut-net six text (Some x) = net-host (family_read six x.0) x.1 (family-addr six x.0)

-- ---- names

domain-host : (b : ℕ) (bs : List ℕ) → b ≡ 46 → (list_all is_host_byte (b ∷ bs) ≡ true → list_all is_quad_byte (b ∷ bs) ≡ false)
    → IfOk (cond (is_host_name 254 bs) (Ok (HostPattern.Domain bs)) (Err AddrFault.BadName)) IsHostPattern
domain-host b bs dot h =
    elim (is_host_name 254 bs) as (λ t. is_host_name 254 bs ≡ t → IfOk (cond t (Ok (HostPattern.Domain bs)) (Err AddrFault.BadName)) IsHostPattern) [
      | true ↦ λ e. record {
        spelled = e;
        no_quad = ap (λ (d : ℕ). list_all is_quad_byte (d ∷ bs)) (sym dot) ∙ h (all-cons is_host_byte b bs (ap is_host_byte dot) (name-bytes 254 bs e));
      }
      | false ↦ λ e. tt
    ] refl

plain-name : (name : List ℕ) → (list_all is_host_byte name ≡ true → list_all is_quad_byte name ≡ false)
    → IfOk (cond (is_host_name 255 name) (Ok (HostPattern.Name name)) (Err AddrFault.BadName)) IsHostPattern
plain-name name h =
    elim (is_host_name 255 name) as (λ t. is_host_name 255 name ≡ t → IfOk (cond t (Ok (HostPattern.Name name)) (Err AddrFault.BadName)) IsHostPattern) [
      | true ↦ λ e. record { spelled = e; no_quad = h (name-bytes 255 name e) }
      | false ↦ λ e. tt
    ] refl

name-host : (text : List ℕ) → (list_all is_host_byte text ≡ true → list_all is_quad_byte text ≡ false) → IfOk (name_read text) IsHostPattern
name-host [] h = tt
name-host (b ∷ bs) h =
    elim (b == 46) as (λ t. (b == 46) ≡ t → IfOk (cond t (cond (is_host_name 254 bs) (Ok (HostPattern.Domain bs)) (Err AddrFault.BadName)) (cond (is_host_name 255 (b ∷ bs)) (Ok (HostPattern.Name (b ∷ bs))) (Err AddrFault.BadName))) IsHostPattern) [
      | true ↦ λ e. domain-host b bs (eqb-true b 46 e) h
      | false ↦ λ e. plain-name (b ∷ bs) h
    ] refl

-- a text that isn't cut at a slash has no other bytes than digits and dots where its parts have none
quad-whole : (text : List ℕ) (cut : Option (List ℕ × List ℕ)) → first_cut 47 text ≡ cut → are_quad_parts text cut ≡ false → list_all is_host_byte text ≡ true → list_all is_quad_byte text ≡ false
quad-whole text None e h k = h
quad-whole text (Some x) e h k = let none = first_cut-lacks 47 text (lacks-all is_host_byte 47 text refl k) in cc

cut-host : (text : List ℕ) (cut : Option (List ℕ × List ℕ)) → first_cut 47 text ≡ cut → IfOk (host_of_cut text cut) IsHostPattern
cut-host text cut e =
    elim (has_colon text || are_quad_parts text cut) as (λ t. (has_colon text || are_quad_parts text cut) ≡ t → IfOk (cond t (net_cut (has_colon text) text cut) (name_read text)) IsHostPattern) [
      | true ↦ λ f. cut-net (has_colon text) text cut
      | false ↦ λ f. name-host text (quad-whole text cut e (or_parts (has_colon text) (are_quad_parts text cut) f).1)
    ] refl

host-in_range : (text : List ℕ) → IfOk (host_pattern_read text) IsHostPattern
host-in_range text = elim (bytes_eq text (codes "0/0")) as (λ t. IfOk (cond t (Ok HostPattern.Any) (host_of_cut text (first_cut 47 text))) IsHostPattern) [
  | true ↦ tt
  | false ↦ cut-host text (first_cut 47 text) refl
]

-- ---- ports

abbrev IsPort : Option ℕ → Type 0
IsPort o = IfSome o (λ n. n < 65536)

abbrev Ported : Type 0
Ported = (o : Option ℕ) × IsPort o

either-port : (b : Bool) (n : ℕ) (o : Option ℕ) → n < 65536 → IsPort o → IsPort (cond b (Some n) o)
either-port true n o h k = h
either-port false n o h k = k

abbrev named : Bool → (n : ℕ) → n < 65536 → Ported → Ported
named b n h other = (cond b (Some n) other.0, either-port b n other.0 h other.1)

service-port : (text : List ℕ) → IsPort (service_of text)
service-port text = port.1
  where
    port : Ported
    port = named (bytes_eq text (codes "ftp")) 21 (omega arith)
        (named (bytes_eq text (codes "ssh")) 22 (omega arith)
        (named (bytes_eq text (codes "telnet")) 23 (omega arith)
        (named (bytes_eq text (codes "smtp")) 25 (omega arith)
        (named (bytes_eq text (codes "domain")) 53 (omega arith)
        (named (bytes_eq text (codes "http")) 80 (omega arith)
        (named (bytes_eq text (codes "pop3")) 110 (omega arith)
        (named (bytes_eq text (codes "imap")) 143 (omega arith)
        (named (bytes_eq text (codes "https")) 443 (omega arith)
        (named (bytes_eq text (codes "socks")) 1080 (omega arith)
        ((None, tt)))))))))))

number-port : (o other : Option ℕ) → IfSome o (λ n. n ≤ 65535) → IsPort other → IsPort (number_or o other)
number-port None other h k = k
number-port (Some n) other h k = omega (arith, h)

pub port_of-port : (text : List ℕ) → IsPort (port_of text)
port_of-port text = number-port (number_of_text 65535 text) (service_of text) (number-within 65535 text) (service-port text)

test-port : (op : Operator) (o : Option ℕ) → IsPort o → IfSome (test_of op o) IsPortTest
test-port op None h = tt
test-port Operator.Eq (Some n) h = h
test-port Operator.Ne (Some n) h = h
test-port Operator.Ge (Some n) h = h
test-port Operator.Le (Some n) h = h
test-port Operator.Gt (Some n) h = h
test-port Operator.Lt (Some n) h = h

range-port : (low high : Option ℕ) → IsPort high → IfSome (range_of low high) IsPortTest
range-port None None h = tt
range-port None (Some high) h = tt
range-port (Some low) None h = tt
range-port (Some low) (Some high) h = elim (nat_le low high) as (λ t. nat_le low high ≡ t → IfSome (cond t (Some (PortTest.Range low high)) None) IsPortTest) [
  | true ↦ λ e. (leb-true low high e, h)
  | false ↦ λ e. tt
] refl

cut-port : (text : List ℕ) (cut : Option (List ℕ × List ℕ)) → IfSome (range_cut text cut) IsPortTest
cut-port text None = test-port Operator.Eq (port_of text) (port_of-port text)
cut-port text (Some x) = range-port (port_of (trim_end x.0)) (port_of (skip_blanks x.1)) (port_of-port (skip_blanks x.1))

operator-port : (text : List ℕ) (found : Option (Operator × List ℕ)) → IfSome (operator_test text found) IsPortTest
operator-port text (Some x) = test-port x.0 (port_of (skip_blanks x.1)) (port_of-port (skip_blanks x.1))
operator-port text None = elim (begins_blank text) as (λ t. IfSome (cond t (bare_test (skip_blanks text)) None) IsPortTest) [
  | true ↦ cut-port (skip_blanks text) (first_cut 45 (skip_blanks text))
  | false ↦ tt
]

behind-in_range : (rest : Option (List ℕ)) → IfSome (behind_port rest) IsPortTest
behind-in_range None = tt
behind-in_range (Some text) = operator-port text (operator_of (skip_blanks text))

port-in_range : (text : List ℕ) → IfSome (port_read text) IsPortTest
port-in_range text = behind-in_range (strip_front (codes "port") (skip_blanks text))

-- ---- the port part of an address

plain-port : (rest : List ℕ) (digits : Option (List ℕ)) → IsPort (plain_port rest digits)
plain-port rest (Some digits) = port_of-port (skip_blanks digits)
plain-port rest None = elim (begins_blank rest) as (λ t. IsPort (cond t (port_of (skip_blanks rest)) None)) [
  | true ↦ port_of-port (skip_blanks rest)
  | false ↦ tt
]

behind-plain_port : (rest : Option (List ℕ)) → IsPort (behind_plain_port rest)
behind-plain_port None = tt
behind-plain_port (Some rest) = plain-port rest (strip_front (codes "=") (skip_blanks rest))

pub port_part-in_range : PortPartInRange
port_part-in_range text n h = in_some (λ m. m < 65536) (port_part text) n (behind-plain_port (strip_front (codes "port") (skip_blanks text))) h

-- ---- patterns

with-in_range : (host : HostPattern) (port : Option PortTest) → IsHostPattern host → IfSome port IsPortTest → IfOk (with_test host port) IsPattern
with-in_range host None h k = tt
with-in_range host (Some port) h k = record { host = h; port = k }

of-in_range : (host : Result HostPattern AddrFault) (port : Option PortTest) → IfOk host IsHostPattern → IfSome port IsPortTest → IfOk (pattern_of host port) IsPattern
of-in_range (Err fault) port h k = tt
of-in_range (Ok host) port h k = with-in_range host port h k

cut-in_range : (text : List ℕ) (cut : Option (List ℕ × List ℕ)) → IfOk (pattern_cut text cut) IsPattern
cut-in_range text None = of-in_range (host_pattern_read text) (Some PortTest.Any) (host-in_range text) tt
cut-in_range text (Some ([], rest)) = tt
cut-in_range text (Some (b ∷ bs, rest)) = of-in_range (host_pattern_read (b ∷ bs)) (port_read rest) (host-in_range (b ∷ bs)) (port-in_range rest)

pub pattern-in_range : PatternInRange
pattern-in_range text p h = in_ok IsPattern (pattern_read text) p (cut-in_range text (first_cut 32 text)) h
