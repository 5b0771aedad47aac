-- What is written of an address or an endpoint is read again.
use Rattle.std.proofs.Common.{ℕ, ◌≡◌, ◌<◌, ◌≤◌, ◌^◌, ◌/◌, ◌%◌, true, false, ◌==◌, Some, None, Ok, option_map, List, [], ◌∷◌, ◌++◌, ap, ◌∙◌, refl, arith, cond}
use Rattle.std.specs.List.{list_any, list_all}
use Rattle.std.proofs.lemmas.Bool.{ne_eqb, or_left}
use Rattle.addr_pattern.specs.declared.addr.Addr.{Addr}
use Rattle.addr_pattern.specs.declared.fault.AddrFault.{AddrFault}
use Rattle.addr_pattern.specs.AddressText.{is_digit, number_text, ipv4_of, ipv4_text, ipv6_of, ipv6_text, bracketed}
use Rattle.addr_pattern.specs.Reading.{or_fault, ipv4_read, ipv6_read, unbracketed, with_port, endpoint_parts, endpoint_cut, bracketed_read}
use Rattle.addr_pattern.specs.PatternText.{is_quad_byte}
use Rattle.addr_pattern.specs.Cuts.{Lacks, between, without_end}
use Rattle.addr_pattern.specs.ReadAgain.{IsAddr, NumberReadAgain, AddrReadAgain, EndpointReadAgain}
use Rattle.addr_pattern.proofs.Bytes.{all-cons, all-append, all-wider, lacks-all, none-lacks}
use Rattle.addr_pattern.proofs.Cutting.{last_cut-cut, without_end-is}
use Rattle.addr_pattern.proofs.Inverse.{number-inverse, digits-number, ipv4-inverse}
use Rattle.addr_pattern.proofs.InverseSix.{ipv6-inverse, colons-ipv6, colons-any}

-- ---- the bytes of IPv4

quad-digit : (b : ℕ) → is_digit b ≡ true → is_quad_byte b ≡ true
quad-digit b h = or_left (is_digit b) (b == 46) h

pub quad-number : (n : ℕ) → n < 2 ^ 32 → list_all is_quad_byte (number_text n) ≡ true
quad-number n h = all-wider is_digit is_quad_byte quad-digit (number_text n) (digits-number n h)

quad-join : (xs ys : List ℕ) → list_all is_quad_byte xs ≡ true → list_all is_quad_byte ys ≡ true → list_all is_quad_byte (xs ++ 46 ∷ ys) ≡ true
quad-join xs ys h k = all-append is_quad_byte xs (46 ∷ ys) h (all-cons is_quad_byte 46 ys refl k)

pub bytes-ipv4 : (n : ℕ) → n < 2 ^ 32 → list_all is_quad_byte (ipv4_text n) ≡ true
bytes-ipv4 n h =
    let a = number_text (n / 16777216) in
    let b = number_text (n / 65536 % 256) in
    let c = number_text (n / 256 % 256) in
    let d = number_text (n % 256) in
    let two = quad-join a b (quad-number (n / 16777216) (omega arith)) (quad-number (n / 65536 % 256) (omega arith)) in
    let three = quad-join (a ++ 46 ∷ b) c two (quad-number (n / 256 % 256) (omega arith)) in
    quad-join (a ++ 46 ∷ b ++ 46 ∷ c) d three (quad-number (n % 256) (omega arith))

-- ---- addresses

pub ipv4_read-is : (text : List ℕ) (n : ℕ) → ipv4_of text ≡ Some n → ipv4_read text ≡ Ok (Addr.V4 n)
ipv4_read-is [] n h = cc
ipv4_read-is (b ∷ bs) n h = ap (λ o. or_fault AddrFault.BadOctet (option_map Addr.V4 o)) h

pub ipv6_read-is : (text : List ℕ) (n : ℕ) → ipv6_of text ≡ Some n → ipv6_read text ≡ Ok (Addr.V6 n)
ipv6_read-is [] n h = cc
ipv6_read-is (b ∷ bs) n h = ap (λ o. or_fault AddrFault.BadGroup (option_map Addr.V6 o)) h

pub ipv4_read-text : (n : ℕ) → n < 2 ^ 32 → ipv4_read (ipv4_text n) ≡ Ok (Addr.V4 n)
ipv4_read-text n h = ipv4_read-is (ipv4_text n) n (ipv4-inverse n h)

pub ipv6_read-text : (n : ℕ) → n < 2 ^ 128 → ipv6_read (ipv6_text n) ≡ Ok (Addr.V6 n)
ipv6_read-text n h = ipv6_read-is (ipv6_text n) n (ipv6-inverse n h)

pub no_colon-ipv4 : (n : ℕ) → n < 2 ^ 32 → list_any (λ b. b == 58) (ipv4_text n) ≡ false
no_colon-ipv4 n h = none-lacks 58 (ipv4_text n) (lacks-all is_quad_byte 58 (ipv4_text n) refl (bytes-ipv4 n h))

pub colon-ipv6 : (n : ℕ) → list_any (λ b. b == 58) (ipv6_text n) ≡ true
colon-ipv6 n = colons-any (ipv6_text n) (omega (arith, colons-ipv6 n))

pub addr-inverse : AddrReadAgain
addr-inverse (Addr.V4 n) h = ap (λ b. cond b (ipv6_read (ipv4_text n)) (ipv4_read (ipv4_text n))) (no_colon-ipv4 n h) ∙ ipv4_read-text n h
addr-inverse (Addr.V6 n) h = ap (λ b. cond b (ipv6_read (ipv6_text n)) (ipv4_read (ipv6_text n))) (colon-ipv6 n) ∙ ipv6_read-text n h

-- ---- endpoints

not-between : (text : List ℕ) → Lacks 91 text → between 91 93 text ≡ None
not-between [] h = refl
not-between (b ∷ bs) h = ap (λ t. cond t (without_end 93 bs) None) (ne_eqb b 91 h.0)

bracketed-inverse : (a : Addr) → IsAddr a → bracketed_read (bracketed a) ≡ Ok a
bracketed-inverse (Addr.V4 n) h =
    ap (unbracketed (ipv4_text n)) (not-between (ipv4_text n) (lacks-all is_quad_byte 91 (ipv4_text n) refl (bytes-ipv4 n h)))
    ∙ ipv4_read-text n h
bracketed-inverse (Addr.V6 n) h =
    ap (unbracketed (91 ∷ ipv6_text n ++ 93 ∷ [])) (without_end-is 93 93 (ipv6_text n) refl)
    ∙ ipv6_read-text n h

pub endpoint-inverse : EndpointReadAgain
endpoint-inverse e h =
    let small : e.port ≤ 65535 = omega (arith, h.port) in
    let digits = digits-number e.port (omega (arith, h.port)) in
    ap endpoint_cut (last_cut-cut 58 (bracketed e.addr) (number_text e.port) (lacks-all is_digit 58 (number_text e.port) refl digits))
    ∙ (ap (λ o. endpoint_parts o (bracketed e.addr)) (number-inverse 65535 e.port (omega arith) small)
    ∙ ap (with_port e.port) (bracketed-inverse e.addr h.addr))

pub number-again : NumberReadAgain
number-again limit n l h = number-inverse limit n l h
