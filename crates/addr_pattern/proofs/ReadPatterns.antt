-- What is written of a pattern is read again.
use Rattle.std.proofs.Common.{ℕ, ◌≡◌, ◌<◌, ◌≤◌, ◌/◌, ◌%◌, ◌^◌, Bool, true, false, ◌==◌, ◌||◌, ◌&&◌, nat_le, inl, inr, Option, Some, None, Ok, Err, List, [], ◌∷◌, ◌++◌, length, append-nil, codes, bytes_eq, sym, ap, ◌∙◌, refl, arith, cond}
use Rattle.std.specs.List.{list_any, list_all}
use Rattle.std.proofs.lemmas.Bool.{eqb-true, and_from, and_parts, false≢true, false_from_ne_true}
use Rattle.std.proofs.lemmas.Slice.Eq.{bytes_eq-Decides}
use Rattle.addr_pattern.specs.declared.addr.Addr.{Addr}
use Rattle.addr_pattern.specs.declared.fault.AddrFault.{AddrFault}
use Rattle.addr_pattern.specs.declared.pattern.HostPattern.{HostPattern}
use Rattle.addr_pattern.specs.declared.pattern.PortTest.{PortTest}
use Rattle.addr_pattern.specs.AddressText.{is_digit, number_text, ipv4_text, ipv6_text, addr_text}
use Rattle.addr_pattern.specs.PatternText.{is_quad_byte, has_colon, has_no_host_bits, width_of, masked, net_of, whole_net, family_read, net_cut, is_letter_or_digit, is_host_byte, is_host_name, name_read, host_of_cut, host_pattern_read, port_read, with_test, pattern_of, pattern_cut, pattern_read, mask_text, host_text, port_text}
use Rattle.addr_pattern.specs.Cuts.{Lacks, first_cut}
use Rattle.addr_pattern.specs.ReadAgain.{IsAddr, IsHostPattern, is_plain_byte, PatternReadAgain}
use Rattle.addr_pattern.proofs.Bytes.{all-cons, lacks-all, none-lacks, any-append_left, any-append_right}
use Rattle.std.proofs.lemmas.List.Folds.{list_any-append}
use Rattle.std.proofs.Math.Bool.{or-false}
use Rattle.addr_pattern.proofs.Cutting.{first_cut-lacks, first_cut-cut}
use Rattle.addr_pattern.proofs.Inverse.{number-inverse, digits-number}
use Rattle.addr_pattern.proofs.Joined.{is_six_byte}
use Rattle.addr_pattern.proofs.InverseSix.{bytes-ipv6}
use Rattle.addr_pattern.proofs.ReadAddresses.{bytes-ipv4, quad-number, ipv4_read-text, ipv6_read-text, no_colon-ipv4, colon-ipv6}
use Rattle.addr_pattern.proofs.ReadPorts.{IsPortText, port-inverse}
use Rattle.addr_pattern.proofs.PlainTexts.{width-small, name-bytes, plain-host-text}

-- a text that a test tells from `0/0` is another
not_any : (f : List ℕ → Bool) (text : List ℕ) → f text ≡ true → f (codes "0/0") ≡ false → bytes_eq text (codes "0/0") ≡ false
not_any f text h k = false_from_ne_true (bytes_eq text (codes "0/0")) (λ e. false≢true (sym k ∙ (ap f (sym ((bytes_eq-Decides text (codes "0/0")).0 e)) ∙ h)))

host-cut : (text : List ℕ) (cut : Option (List ℕ × List ℕ)) → bytes_eq text (codes "0/0") ≡ false → first_cut 47 text ≡ cut → host_pattern_read text ≡ host_of_cut text cut
host-cut text cut other e = ap (λ b. cond b (Ok HostPattern.Any) (host_of_cut text (first_cut 47 text))) other ∙ ap (host_of_cut text) e

-- ---- names

named : (text : List ℕ) → list_all is_host_byte text ≡ true → list_all is_quad_byte text ≡ false → host_pattern_read text ≡ name_read text
named text h no_quad =
    host-cut text None (not_any (list_all is_host_byte) text h refl) (first_cut-lacks 47 text (lacks-all is_host_byte 47 text refl h))
    ∙ (ap (λ b. cond (b || list_all is_quad_byte text) (net_cut b text None) (name_read text)) (none-lacks 58 text (lacks-all is_host_byte 58 text refl h))
    ∙ ap (λ b. cond b (net_cut false text None) (name_read text)) no_quad)

no_dot : (b : ℕ) → is_letter_or_digit b ≡ true → (b == 46) ≡ false
no_dot b h = false_from_ne_true (b == 46) (λ e. false≢true (ap is_letter_or_digit (sym (eqb-true b 46 e)) ∙ h))

name-inverse : (name : List ℕ) → is_host_name 255 name ≡ true → name_read name ≡ Ok (HostPattern.Name name)
name-inverse [] h = cc
name-inverse (b ∷ bs) h =
    let begins = (and_parts (is_letter_or_digit b) (nat_le (length (b ∷ bs)) 255) (and_parts (is_letter_or_digit b && nat_le (length (b ∷ bs)) 255) (list_all is_host_byte (b ∷ bs)) h).0).0 in
    ap (λ t. cond t (cond (is_host_name 254 bs) (Ok (HostPattern.Domain bs)) (Err AddrFault.BadName)) (cond (is_host_name 255 (b ∷ bs)) (Ok (HostPattern.Name (b ∷ bs))) (Err AddrFault.BadName))) (no_dot b begins)
    ∙ ap (λ t. cond t (Ok (HostPattern.Name (b ∷ bs))) (Err AddrFault.BadName)) h

domain-inverse : (name : List ℕ) → is_host_name 254 name ≡ true → name_read (46 ∷ name) ≡ Ok (HostPattern.Domain name)
domain-inverse name h = ap (λ t. cond t (Ok (HostPattern.Domain name)) (Err AddrFault.BadName)) h

-- ---- networks

-- the text of an address, as the reader of patterns takes it
record IsAddrText (six : Bool) (addr : Addr) (text : List ℕ) : Type 0 where
  pub lacks : Lacks 47 text
  pub colon : has_colon text ≡ six
  pub quads : (six || list_all is_quad_byte text) ≡ true
  pub read : family_read six text ≡ Ok addr
  pub other : (more : List ℕ) → bytes_eq (text ++ more) (codes "0/0") ≡ false

dotted : (n : ℕ) → list_any (λ b. b == 46) (ipv4_text n) ≡ true
dotted n = any-append_right (λ b. b == 46) (number_text (n / 16777216) ++ 46 ∷ number_text (n / 65536 % 256) ++ 46 ∷ number_text (n / 256 % 256)) (46 ∷ number_text (n % 256)) refl

addr-text : (addr : Addr) → IsAddr addr → (six : Bool) × IsAddrText six addr (addr_text addr)
addr-text (Addr.V4 n) h = (
  false,
  record {
    lacks = lacks-all is_quad_byte 47 (ipv4_text n) refl (bytes-ipv4 n h);
    colon = no_colon-ipv4 n h;
    quads = bytes-ipv4 n h;
    read = ipv4_read-text n h;
    other = λ more. not_any (list_any (λ b. b == 46)) (ipv4_text n ++ more) (any-append_left (λ b. b == 46) (ipv4_text n) more (dotted n)) refl;
  },
)
addr-text (Addr.V6 n) h = (
  true,
  record {
    lacks = lacks-all is_six_byte 47 (ipv6_text n) refl (bytes-ipv6 n);
    colon = colon-ipv6 n;
    quads = refl;
    read = ipv6_read-text n h;
    other = λ more. not_any (list_any (λ b. b == 58)) (ipv6_text n ++ more) (any-append_left (λ b. b == 58) (ipv6_text n) more (colon-ipv6 n)) refl;
  },
)

whole-inverse : (six : Bool) (addr : Addr) (text : List ℕ) → IsAddrText six addr text → host_of_cut text None ≡ Ok (HostPattern.Net addr (width_of addr))
whole-inverse six addr text h =
    ap (λ b. cond (b || list_all is_quad_byte text) (net_cut b text None) (name_read text)) h.colon
    ∙ (ap (λ b. cond b (net_cut six text None) (name_read text)) h.quads
    ∙ ap whole_net h.read)

colon-behind : (six : Bool) (addr : Addr) (text digits : List ℕ) → IsAddrText six addr text → list_all is_digit digits ≡ true → has_colon (text ++ 47 ∷ digits) ≡ six
colon-behind six addr text digits h d =
    list_any-append (λ b. b == 58) text (47 ∷ digits)
    ∙ (ap (λ b. b || list_any (λ c. c == 58) digits) h.colon ∙ (ap (λ b. six || b) (none-lacks 58 digits (lacks-all is_digit 58 digits refl d)) ∙ or-false six))

quads-behind : (six all : Bool) (digits : List ℕ) → (six || all) ≡ true → list_all is_quad_byte digits ≡ true → (six || (all && list_all is_quad_byte digits)) ≡ true
quads-behind true all digits h k = refl
quads-behind false all digits h k = and_from all (list_all is_quad_byte digits) h k

mask-inverse : (six : Bool) (addr : Addr) (bits : ℕ) (text : List ℕ) → IsAddrText six addr text → bits ≤ width_of addr → width_of addr < 2 ^ 32 → has_no_host_bits addr bits ≡ true
    → host_of_cut (text ++ 47 ∷ number_text bits) (Some (text, number_text bits)) ≡ Ok (HostPattern.Net addr bits)
mask-inverse six addr bits text h within small clear =
    let digits = number_text bits in
    let both : bits < 2 ^ 32 = omega (arith, within, small) in
    ap (λ b. cond (b || (list_all is_quad_byte text && list_all is_quad_byte digits)) (net_cut b (text ++ 47 ∷ digits) (Some (text, digits))) (name_read (text ++ 47 ∷ digits))) (colon-behind six addr text digits h (digits-number bits both))
    ∙ (ap (λ b. cond b (net_cut six (text ++ 47 ∷ digits) (Some (text, digits))) (name_read (text ++ 47 ∷ digits))) (quads-behind six (list_all is_quad_byte text) digits h.quads (quad-number bits both))
    ∙ (ap (λ r. net_of r digits) h.read
    ∙ (ap (masked addr) (number-inverse (width_of addr) bits small within)
    ∙ ap (λ b. cond b (Ok (HostPattern.Net addr bits)) (Err AddrFault.HostBits)) clear)))

net-read : (six : Bool) (addr : Addr) (bits : ℕ) (text : List ℕ) → IsAddrText six addr text → bits ≤ width_of addr → width_of addr < 2 ^ 32 → has_no_host_bits addr bits ≡ true
    → host_pattern_read (text ++ mask_text (width_of addr) bits) ≡ Ok (HostPattern.Net addr bits)
net-read six addr bits text h within small clear =
    elim (bits == width_of addr) as (λ b. (bits == width_of addr) ≡ b → host_pattern_read (text ++ cond b [] (47 ∷ number_text bits)) ≡ Ok (HostPattern.Net addr bits)) [
      | true ↦ λ e. ap host_pattern_read (append-nil text)
          ∙ (host-cut text None (ap (λ (t : List ℕ). bytes_eq t (codes "0/0")) (sym (append-nil text)) ∙ h.other []) (first_cut-lacks 47 text h.lacks)
          ∙ (whole-inverse six addr text h ∙ ap (λ (n : ℕ). Ok (HostPattern.Net addr n)) (sym (eqb-true bits (width_of addr) e))))
      | false ↦ λ e. host-cut (text ++ 47 ∷ number_text bits) (Some (text, number_text bits)) (h.other (47 ∷ number_text bits)) (first_cut-cut 47 text (number_text bits) h.lacks)
          ∙ mask-inverse six addr bits text h within small clear
    ] refl

pub host-inverse : (host : HostPattern) → IsHostPattern host → host_pattern_read (host_text host) ≡ Ok host
host-inverse HostPattern.Any h = refl
host-inverse (HostPattern.Net addr bits) h =
    let text = addr-text addr h.known in
    net-read text.0 addr bits (addr_text addr) text.1 h.within (omega (arith, width-small addr)) h.clear
host-inverse (HostPattern.Name name) h = named name (name-bytes 255 name h.spelled) h.no_quad ∙ name-inverse name h.spelled
host-inverse (HostPattern.Domain name) h =
    named (46 ∷ name) (all-cons is_host_byte 46 name refl (name-bytes 254 name h.spelled)) h.no_quad ∙ domain-inverse name h.spelled

-- ---- patterns

cut-some : (text rest : List ℕ) (host : HostPattern) (port : PortTest) → 1 ≤ length text → host_pattern_read text ≡ Ok host → port_read rest ≡ Some port
    → pattern_cut (text ++ 32 ∷ rest) (Some (text, rest)) ≡ Ok (record { host = host; port = port })
cut-some [] rest host port some h k = absurd (omega (arith, some))
cut-some (b ∷ bs) rest host port some h k = ap (λ r. pattern_of r (port_read rest)) h ∙ ap (with_test host) k

pattern-read : (text tail : List ℕ) (host : HostPattern) (port : PortTest) → 1 ≤ length text → Lacks 32 text → host_pattern_read text ≡ Ok host → IsPortText port tail
    → pattern_read (text ++ tail) ≡ Ok (record { host = host; port = port })
pattern-read text tail host port some lacks h (inl any) =
    ap pattern_read (ap (λ (t : List ℕ). text ++ t) any.1 ∙ append-nil text)
    ∙ (ap (pattern_cut text) (first_cut-lacks 32 text lacks)
    ∙ (ap (λ r. pattern_of r (Some PortTest.Any)) h
    ∙ ap (λ (test : PortTest). Ok (record { host = host; port = test })) (sym any.0)))
pattern-read text tail host port some lacks h (inr test) =
    ap pattern_read (ap (λ (t : List ℕ). text ++ t) test.1)
    ∙ (ap (pattern_cut (text ++ 32 ∷ test.0)) (first_cut-cut 32 text test.0 lacks)
    ∙ cut-some text test.0 host port some h test.2)

pub pattern-inverse : PatternReadAgain
pattern-inverse p h =
    let plain = plain-host-text p.host h.host in
    pattern-read (host_text p.host) (port_text p.port) p.host p.port plain.some (lacks-all is_plain_byte 32 (host_text p.host) refl plain.plain) (host-inverse p.host h.host) (port-inverse p.port h.port)
