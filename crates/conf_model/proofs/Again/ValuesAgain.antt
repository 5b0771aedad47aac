-- The values of a canonical text are read again.
use Rattle.std.proofs.Common.{◌≡◌, ◌≢◌, ℕ, ◌<◌, ◌≤◌, ◌^◌, ◌==◌, Bool, true, false, true≢false, ◌&&◌, ◌||◌, not, cond, List, [], ◌∷◌, ◌++◌, length, codes, Option, Some, None, Ok, Err, refl, sym, ap, ◌∙◌, arith}
use Rattle.std.proofs.lemmas.Bool.{and_from, and_parts, le-leb, or_parts}
use Rattle.std.proofs.Math.Bool.{and-false}
use Rattle.std.specs.Prelude.{nat_le}
use Rattle.std.specs.Char.{is_ascii_alphabetic}
use Rattle.std.specs.List.{AllByRecursion, list_all, list_any}
use Rattle.std.proofs.lemmas.Bool.Decides.{nat_tests}
use Rattle.addr_pattern.specs.declared.addr.Addr.{Addr}
use Rattle.addr_pattern.specs.declared.endpoint.Endpoint.{Endpoint}
use Rattle.addr_pattern.specs.declared.fault.AddrFault.{AddrFault}
use Rattle.addr_pattern.specs.declared.pattern.Pattern.{Pattern}
use Rattle.addr_pattern.specs.AddressText.{addr_text, ipv4_text, ipv6_text, is_digit, number_text}
use Rattle.addr_pattern.specs.Cuts.{Lacks}
use Rattle.addr_pattern.specs.Names.{is_name_byte, name_of}
use Rattle.addr_pattern.specs.PatternText.{is_quad_byte, number_or, pattern_read, port_of, port_part, service_of, skip_blanks}
use Rattle.addr_pattern.specs.Reading.{addr_read}
use Rattle.addr_pattern.specs.ReadAgain.{IsAddr, IsEndpoint, IsPattern}
use Rattle.addr_pattern.proofs.Cutting.{first_cut-cut}
use Rattle.addr_pattern.proofs.Inverse.{digits-number, number-inverse}
use Rattle.addr_pattern.proofs.ReadAddresses.{addr-inverse, bytes-ipv4, colon-ipv6}
use Rattle.addr_pattern.proofs.ReadPatterns.{pattern-inverse}
use Rattle.conf_model.specs.declared.given.Hop.{Hop}
use Rattle.socks_grammar.specs.declared.login.Login.{Login}
use Rattle.conf_types.specs.Kept.{IsLogin, IsUser, is_name, is_readable}
use Rattle.conf_model.specs.Values.{address_of, at_port, endpoint_of, hop_at, hop_of, is_interface, login_of, login_parts, login_with, number_of, pattern_of, readable, users_of}
use Rattle.conf_model.proofs.Again.Spelled.{listener_words, pattern_joined, pattern_words}

pub pattern-again : (p : Pattern) → IsPattern p → pattern_of (pattern_words p) ≡ Some p
pattern-again p h = ap (λ (z : List ℕ). readable (pattern_read z)) (pattern_joined p) ∙ ap readable (pattern-inverse p h)

pub number-again : (limit n : ℕ) → limit < 2 ^ 32 → n ≤ limit → number_of limit (number_text n ∷ []) ≡ Some n
number-again limit n h k = number-inverse limit n h k

-- ---- addresses

digit_stays : (text : List ℕ) → list_all is_digit text ≡ true → skip_blanks text ≡ text
digit_stays [] h = refl
digit_stays (b ∷ text) h =
    let q = and_parts (is_digit b) (list_all is_digit text) h in
    let digit = q.0 in
    let e : (b == 32) ≡ false = grind (arith, nat_tests, digit) in
    ap (λ v. cond v (skip_blanks text) (b ∷ text)) e

port-again : (n : ℕ) → n < 65536 → port_part (codes "port = " ++ number_text n) ≡ Some n
port-again n h =
    ap port_of (digit_stays (number_text n) (digits-number n (omega arith)))
    ∙ ap (λ (z : Option ℕ). number_or z (service_of (number_text n))) (number-inverse 65535 n (omega arith) (omega arith))

addr-again : (a : Addr) → IsAddr a → readable (addr_read (addr_text a)) ≡ Some a
addr-again a h = ap readable (addr-inverse a h)

pub address-again : (a : Addr) → IsAddr a → address_of (addr_text a ∷ []) ≡ Some a
address-again a h = addr-again a h

pub endpoint-again : (port : Option ℕ) (e : Endpoint) → IsEndpoint e → endpoint_of port (listener_words e) ≡ Some e
endpoint-again port e h =
    ap (λ (z : Option Addr). at_port z (port_part (codes "port = " ++ number_text e.port))) (addr-again e.addr h.addr)
    ∙ ap (λ (z : Option ℕ). at_port (Some e.addr) z) (port-again e.port h.port)

none_such : (p q : ℕ → Bool) → ((b : ℕ) → p b ≡ true → q b ≡ false) → (text : List ℕ) → list_all p text ≡ true → list_any q text ≡ false
none_such p q h [] k = refl
none_such p q h (b ∷ text) k =
    let both = and_parts (p b) (list_all p text) k in
    ap (λ v. v || list_any q text) (h b both.0) ∙ none_such p q h text both.1

quad_no_letter : (b : ℕ) → is_quad_byte b ≡ true → is_ascii_alphabetic b ≡ false
quad_no_letter b h = grind (arith, nat_tests)

-- an address is no interface: it has no letter, or a colon
pub no_interface : (a : Addr) (values : List (List ℕ)) → IsAddr a → is_interface (addr_text a ∷ values) ≡ false
no_interface (Addr.V4 n) values h =
    ap (λ v. v && not (list_any (λ b. b == 58) (ipv4_text n))) (none_such is_quad_byte is_ascii_alphabetic quad_no_letter (ipv4_text n) (bytes-ipv4 n h))
no_interface (Addr.V6 n) values h =
    ap (λ v. list_any is_ascii_alphabetic (ipv6_text n) && not v) (colon-ipv6 n) ∙ and-false (list_any is_ascii_alphabetic (ipv6_text n))

pub hop-again : (e : Endpoint) → IsEndpoint e → hop_of (listener_words e) ≡ Some (Hop.At e)
hop-again e h = ap hop_at (endpoint-again (Some 1080) e h)

-- ---- names

name_by : (b : ℕ) (text : List ℕ) (v : Bool) → is_readable (cond v (Ok (b ∷ text)) (Err AddrFault.BadName)) ≡ true → readable (cond v (Ok (b ∷ text)) (Err AddrFault.BadName)) ≡ Some (b ∷ text)
name_by b text true h = refl
name_by b text false h = absurd (true≢false (sym h))

name-again : (name : List ℕ) → is_name name ≡ true → readable (name_of name) ≡ Some name
name-again [] h = absurd (true≢false (sym h))
name-again (b ∷ text) h = name_by b text (nat_le (length (b ∷ text)) 255 && list_all is_name_byte (b ∷ text)) h

all_names : (users : List (List ℕ)) → AllByRecursion IsUser users → list_all is_name users ≡ true
all_names [] h = refl
all_names (user ∷ users) h = and_from (is_name user) (list_all is_name users) h.0.name' (all_names users h.1)

pub users-again : (user : List ℕ) (users : List (List ℕ)) → AllByRecursion IsUser (user ∷ users) → length (user ∷ users) ≤ 64 → users_of (user ∷ users) ≡ Some (user ∷ users)
users-again user users h k =
    ap (λ v. cond v (Some (user ∷ users)) None)
    (and_from (list_all is_name (user ∷ users)) (nat_le (length (user ∷ users)) 64) (all_names (user ∷ users) h) (le-leb (length (user ∷ users)) 64 k))

not_same : (at b : ℕ) → (b == at) ≡ false → b ≢ at
not_same at b h e = absurd (grind (arith, nat_tests))

lacks_by : (at : ℕ) (name : List ℕ) → list_any (λ b. b == at) name ≡ false → Lacks at name
lacks_by at [] h = tt
lacks_by at (b ∷ name) h =
    let q = or_parts (b == at) (list_any (λ b. b == at) name) h in
    (not_same at b q.0, lacks_by at name q.1)

pub login-again : (l : Login) → IsLogin l → login_of ((l.name ++ 58 ∷ l.password) ∷ []) ≡ Some l
login-again l h =
    ap login_parts (first_cut-cut 58 l.name l.password (lacks_by 58 l.name h.no_colon))
    ∙ (ap (λ (z : Option (List ℕ)). login_with z (readable (name_of l.password))) (name-again l.name h.name)
    ∙ ap (λ (z : Option (List ℕ)). login_with (Some l.name) z) (name-again l.password h.password))
