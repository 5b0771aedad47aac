-- A written address, and the written host of a pattern, stand as one word that is no key.
use Rattle.std.proofs.Common.{ℕ, suc, ◌≡◌, ◌≢◌, ◌<◌, ◌≤◌, ◌+◌, ◌^◌, true, false, ◌==◌, ◌||◌, ◌&&◌, nat_le, Some, List, [], ◌∷◌, ◌++◌, length, length-append, codes, ap, ◌∙◌, refl, arith, cond}
use Rattle.std.specs.List.{list_any, list_all}
use Rattle.std.proofs.lemmas.Bool.{ne_eqb, or_left, and_parts}
use Rattle.std.proofs.lemmas.Bool.Decides.{nat_tests}
use Rattle.addr_pattern.specs.declared.addr.Addr.{Addr}
use Rattle.addr_pattern.specs.declared.pattern.HostPattern.{HostPattern}
use Rattle.addr_pattern.specs.declared.pattern.Pattern.{Pattern}
use Rattle.addr_pattern.specs.AddressText.{is_digit, number_text, ipv4_of, ipv4_text, ipv6_text, addr_text}
use Rattle.addr_pattern.specs.PatternText.{is_quad_byte, is_letter_or_digit, is_host_byte, is_host_name, begins_well, width_of, mask_text, host_text}
use Rattle.addr_pattern.specs.Cuts.{Lacks}
use Rattle.addr_pattern.specs.ReadAgain.{IsAddr, IsPattern, IsNet, is_plain_byte, IsPlainText, PlainAddr, PlainHost}
use Rattle.addr_pattern.proofs.Bytes.{all-cons, all-append, all-wider, lacks-all}
use Rattle.addr_pattern.proofs.Inverse.{digits-number, ipv4-inverse}
use Rattle.addr_pattern.proofs.Joined.{is_six_byte}
use Rattle.addr_pattern.proofs.InverseSix.{colons, colons-append, colons-any, bytes-ipv6, colons-ipv6}
use Rattle.addr_pattern.proofs.ReadAddresses.{bytes-ipv4}

-- ---- the bytes

letter-digit : (b : ℕ) → is_digit b ≡ true → is_letter_or_digit b ≡ true
letter-digit b h = grind (arith, h)

host-letter : (b : ℕ) → is_letter_or_digit b ≡ true → is_host_byte b ≡ true
host-letter b h = grind (arith, h)

plain-host : (b : ℕ) → is_host_byte b ≡ true → is_plain_byte b ≡ true
plain-host b h = or_left (is_host_byte b || b == 58) (b == 47) (or_left (is_host_byte b) (b == 58) h)

plain-digit : (b : ℕ) → is_digit b ≡ true → is_plain_byte b ≡ true
plain-digit b h = plain-host b (host-letter b (letter-digit b h))

plain-quad : (b : ℕ) → is_quad_byte b ≡ true → is_plain_byte b ≡ true
plain-quad b h = grind (arith, nat_tests)

plain-six : (b : ℕ) → is_six_byte b ≡ true → is_plain_byte b ≡ true
plain-six b h = grind (arith, nat_tests)

-- ---- no key

colons-lacks : (text : List ℕ) → Lacks 58 text → colons text ≡ 0
colons-lacks [] h = refl
colons-lacks (b ∷ bs) h = ap (λ t. cond t (suc (colons bs)) (colons bs)) (ne_eqb b 58 h.0) ∙ colons-lacks bs h.1

-- a text whose last byte is its only colon has one colon
not-key : (text : List ℕ) → colons text ≢ 1 → (front : List ℕ) → text ≡ front ++ 58 ∷ [] → list_any (λ b. b == 58) front ≡ true
not-key text many front e =
    let count : colons text ≡ colons front + 1 = ap colons e ∙ colons-append front (58 ∷ []) in
    let some : 1 ≤ colons front = omega (arith, many, count) in
    colons-any front some

-- ---- addresses

some-quad : (text : List ℕ) (n : ℕ) → ipv4_of text ≡ Some n → 1 ≤ length text
some-quad [] n h = cc
some-quad (b ∷ bs) n h = omega arith

some-colons : (text : List ℕ) → 1 ≤ colons text → 1 ≤ length text
some-colons [] h = h
some-colons (b ∷ bs) h = omega arith

colons-addr : (a : Addr) → IsAddr a → colons (addr_text a) ≢ 1
colons-addr (Addr.V4 n) h e = omega (arith, e, colons-lacks (ipv4_text n) (lacks-all is_quad_byte 58 (ipv4_text n) refl (bytes-ipv4 n h)))
colons-addr (Addr.V6 n) h e = omega (arith, e, colons-ipv6 n)

pub plain-addr : PlainAddr
plain-addr (Addr.V4 n) h = record {
  some = some-quad (ipv4_text n) n (ipv4-inverse n h);
  plain = all-wider is_quad_byte is_plain_byte plain-quad (ipv4_text n) (bytes-ipv4 n h);
  no_key = not-key (ipv4_text n) (colons-addr (Addr.V4 n) h);
}
plain-addr (Addr.V6 n) h = record {
  some = some-colons (ipv6_text n) (omega (arith, colons-ipv6 n));
  plain = all-wider is_six_byte is_plain_byte plain-six (ipv6_text n) (bytes-ipv6 n);
  no_key = not-key (ipv6_text n) (colons-addr (Addr.V6 n) h);
}

-- ---- hosts

-- what stands behind an address: nothing, or a slash and digits
mask-bytes : (width bits : ℕ) → bits < 2 ^ 32 → list_all is_plain_byte (mask_text width bits) ≡ true
mask-bytes width bits h = elim (bits == width) as (λ b. list_all is_plain_byte (cond b [] (47 ∷ number_text bits)) ≡ true) [
  | true ↦ refl
  | false ↦ all-cons is_plain_byte 47 (number_text bits) refl (all-wider is_digit is_plain_byte plain-digit (number_text bits) (digits-number bits h))
]

mask-colons : (width bits : ℕ) → bits < 2 ^ 32 → colons (mask_text width bits) ≡ 0
mask-colons width bits h = elim (bits == width) as (λ b. colons (cond b [] (47 ∷ number_text bits)) ≡ 0) [
  | true ↦ refl
  | false ↦ colons-lacks (number_text bits) (lacks-all is_digit 58 (number_text bits) refl (digits-number bits h))
]

pub width-small : (a : Addr) → width_of a ≤ 128
width-small (Addr.V4 n) = omega arith
width-small (Addr.V6 n) = omega arith

plain-net : (a : Addr) (bits : ℕ) → IsNet a bits → IsPlainText (addr_text a ++ mask_text (width_of a) bits)
plain-net a bits h =
    let addr = plain-addr a h.known in
    let mask = mask_text (width_of a) bits in
    let small : bits < 2 ^ 32 = omega (arith, h.within, width-small a) in
    let both = length-append (addr_text a) mask in
    let all = colons-append (addr_text a) mask in
    let none = mask-colons (width_of a) bits small in
    record {
      some = omega (arith, addr.some, both);
      plain = all-append is_plain_byte (addr_text a) mask addr.plain (mask-bytes (width_of a) bits small);
      no_key = not-key (addr_text a ++ mask) (λ e. colons-addr a h.known (omega (arith, e, all, none)));
    }

pub name-bytes : (limit : ℕ) (name : List ℕ) → is_host_name limit name ≡ true → list_all is_host_byte name ≡ true
name-bytes limit name h = (and_parts (begins_well name && nat_le (length name) limit) (list_all is_host_byte name) h).1

name-some : (limit : ℕ) (name : List ℕ) → is_host_name limit name ≡ true → 1 ≤ length name
name-some limit [] h = cc
name-some limit (b ∷ bs) h = omega arith

plain-bytes : (text : List ℕ) → 1 ≤ length text → list_all is_host_byte text ≡ true → IsPlainText text
plain-bytes text some h = record {
  some = some;
  plain = all-wider is_host_byte is_plain_byte plain-host text h;
  no_key = not-key text (λ e. omega (arith, e, colons-lacks text (lacks-all is_host_byte 58 text refl h)));
}

pub plain-host-text : PlainHost
plain-host-text HostPattern.Any h = record { some = omega arith; plain = refl; no_key = not-key (codes "0/0") (λ e. omega (arith, e)) }
plain-host-text (HostPattern.Net addr bits) h = plain-net addr bits h
plain-host-text (HostPattern.Name name) h = plain-bytes name (name-some 255 name h.spelled) (name-bytes 255 name h.spelled)
plain-host-text (HostPattern.Domain name) h = plain-bytes (46 ∷ name) (omega arith) (all-cons is_host_byte 46 name refl (name-bytes 254 name h.spelled))

pub plain-pattern-text : (p : Pattern) → IsPattern p → IsPlainText (host_text p.host)
plain-pattern-text p h = plain-host-text p.host h.host
