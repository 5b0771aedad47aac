-- The words of a canonical text are words that are no keys.
use Rattle.std.proofs.Common.{◌≡◌, ℕ, ◌<◌, ◌≤◌, ◌^◌, ◌==◌, Bool, true, false, true≢false, ◌&&◌, ◌||◌, cond, List, [], ◌∷◌, ◌++◌, length, codes, Some, Ok, Err, refl, sym, ap, ◌∙◌, subst, arith}
use Rattle.std.proofs.lemmas.Bool.{and_from, and_parts}
use Rattle.std.proofs.Math.Bool.{and-false, or-true}
use Rattle.std.specs.Prelude.{nat_le}
use Rattle.std.specs.Char.{is_ascii_alphabetic}
use Rattle.std.specs.List.{AllByRecursion, list_all, list_any}
use Rattle.std.proofs.lemmas.List.Folds.{list_all-append}
use Rattle.std.proofs.lemmas.Bool.Decides.{nat_tests}
use Rattle.addr_pattern.specs.declared.endpoint.Endpoint.{Endpoint}
use Rattle.addr_pattern.specs.declared.fault.AddrFault.{AddrFault}
use Rattle.addr_pattern.specs.declared.pattern.Pattern.{Pattern}
use Rattle.addr_pattern.specs.declared.pattern.PortTest.{PortTest}
use Rattle.addr_pattern.specs.AddressText.{addr_text, is_digit, number_of_text, number_text}
use Rattle.addr_pattern.specs.Names.{is_name_byte as is_login_byte}
use Rattle.addr_pattern.specs.PatternText.{host_text}
use Rattle.addr_pattern.specs.ReadAgain.{IsEndpoint, IsPattern, IsPlainText, IsPortTest, is_plain_byte as is_host_text_byte}
use Rattle.addr_pattern.proofs.Bytes.{all-append, all-wider}
use Rattle.addr_pattern.proofs.Inverse.{digits-number, number-inverse}
use Rattle.addr_pattern.proofs.PlainTexts.{plain-addr, plain-host-text}
use Rattle.conf_text.specs.Words.{is_key, is_name, is_key_byte, is_readable, is_some_text}
use Rattle.conf_text.specs.Tokens.{is_word_byte}
use Rattle.conf_text.proofs.Keys.{no_key, no_name, other_end}
use Rattle.socks_grammar.specs.declared.login.Login.{Login}
use Rattle.conf_types.specs.Kept.{IsLogin, IsUser, is_name as is_login_name, is_plain_byte, is_readable as is_readable_name}
use Rattle.conf_text.proofs.Lines.{IsValue, known_value}
use Rattle.conf_model.proofs.Again.Spelled.{listener_words, operator_words, pattern_words, port_words}

-- ---- bytes

two_wider : (p q r : ℕ → Bool) → ((b : ℕ) → p b ≡ true → q b ≡ true → r b ≡ true) → (text : List ℕ) → list_all p text ≡ true → list_all q text ≡ true → list_all r text ≡ true
two_wider p q r h [] k l = refl
two_wider p q r h (b ∷ text) k l =
    let one = and_parts (p b) (list_all p text) k in
    let other = and_parts (q b) (list_all q text) l in
    and_from (r b) (list_all r text) (h b one.0 other.0) (two_wider p q r h text one.1 other.1)

digit_word : (b : ℕ) → is_digit b ≡ true → is_word_byte b ≡ true
digit_word b h = grind (arith, nat_tests)

digit_readable : (b : ℕ) → is_digit b ≡ true → is_readable b ≡ true
digit_readable b h = grind (arith, nat_tests)

host_word : (b : ℕ) → is_host_text_byte b ≡ true → is_word_byte b ≡ true
host_word b h = grind (arith, nat_tests)

host_readable : (b : ℕ) → is_host_text_byte b ≡ true → is_readable b ≡ true
host_readable b h = grind (arith, nat_tests)

login_word : (b : ℕ) → is_login_byte b ≡ true → is_plain_byte b ≡ true → is_word_byte b ≡ true
login_word b h k = grind (arith, nat_tests)

login_readable : (b : ℕ) → is_login_byte b ≡ true → is_readable b ≡ true
login_readable b h = grind (arith, nat_tests)

-- ---- keys

-- a text that isn't empty has a last byte
abbrev pub HasLast : List ℕ → Type 0
HasLast text = (front : List ℕ) × (last : ℕ) × (text ≡ front ++ last ∷ [])

pub has_last : (text : List ℕ) → is_some_text text ≡ true → HasLast text
has_last [] h = absurd (true≢false (sym h))
has_last (b ∷ []) h = ([], b, refl)
has_last (b ∷ c ∷ text) h = let r = has_last (c ∷ text) refl in (b ∷ r.0, r.1, ap (λ (z : List ℕ). b ∷ z) r.2)

colon_by : (b : ℕ) (text : List ℕ) (v : Bool) → (b == 58) ≡ v → list_any (λ b. b == 58) (b ∷ text) ≡ true → (list_any (λ b. b == 58) text ≡ true → list_all is_key_byte text ≡ false) →
    list_all is_key_byte (b ∷ text) ≡ false
colon_by b text true e h more = let q : b ≡ 58 = grind (arith, nat_tests) in ap (λ (z : ℕ). list_all is_key_byte (z ∷ text)) q
colon_by b text false e h more =
    let q : list_any (λ b. b == 58) text ≡ true = subst (λ v. (v || list_any (λ b. b == 58) text) ≡ true) e h in
    ap (λ v. is_key_byte b && v) (more q) ∙ and-false (is_key_byte b)

colon_behind : (text : List ℕ) → list_any (λ b. b == 58) text ≡ true → list_all is_key_byte text ≡ false
colon_behind [] h = absurd (true≢false (sym h))
colon_behind (b ∷ text) h = colon_by b text (b == 58) refl h (colon_behind text)

name_by : (b : ℕ) (text : List ℕ) (v : Bool) → (b == 58) ≡ v → list_any (λ b. b == 58) (b ∷ text) ≡ true → is_name (b ∷ text) ≡ false
name_by b text true e h = let q : b ≡ 58 = grind (arith, nat_tests) in ap (λ (z : ℕ). is_name (z ∷ text)) q
name_by b text false e h =
    let q : list_any (λ b. b == 58) text ≡ true = subst (λ v. (v || list_any (λ b. b == 58) text) ≡ true) e h in
    ap (λ v. is_ascii_alphabetic b && v) (colon_behind text q) ∙ and-false (is_ascii_alphabetic b)

-- no name has a colon
colon_no_name : (text : List ℕ) → list_any (λ b. b == 58) text ≡ true → is_name text ≡ false
colon_no_name [] h = refl
colon_no_name (b ∷ text) h = name_by b text (b == 58) refl h

last_by : (text front : List ℕ) (last : ℕ) (v : Bool) → (last == 58) ≡ v → text ≡ front ++ last ∷ [] → (text ≡ front ++ 58 ∷ [] → list_any (λ b. b == 58) front ≡ true) → is_key text ≡ false
last_by text front last true e k two =
    let q : last ≡ 58 = grind (arith, nat_tests) in
    no_key text front last k (no_name last front (colon_no_name front (two (k ∙ ap (λ (z : ℕ). front ++ z ∷ []) q))))
last_by text front last false e k two = no_key text front last k (ap (λ v. v && is_name front) e)

-- a text that doesn't end in its only colon is no key
pub two_colons : (text : List ℕ) → is_some_text text ≡ true → ((front : List ℕ) → text ≡ front ++ 58 ∷ [] → list_any (λ b. b == 58) front ≡ true) → is_key text ≡ false
two_colons text h two = let r = has_last text h in last_by text r.0 r.1 (r.1 == 58) refl r.2 (two r.0)

-- ---- texts of one kind of bytes

some_text : (text : List ℕ) → 1 ≤ length text → is_some_text text ≡ true
some_text [] h = absurd (omega arith)
some_text (b ∷ text) h = refl

last_such : (p : ℕ → Bool) (front : List ℕ) (last : ℕ) → list_all p (front ++ last ∷ []) ≡ true → p last ≡ true
last_such p front last h = (and_parts (p last) true (and_parts (list_all p front) (list_all p (last ∷ [])) (sym (list_all-append p front (last ∷ [])) ∙ h)).1).0

-- bytes that are no colons are no key
no_colon : (p : ℕ → Bool) → p 58 ≡ false → (text : List ℕ) → is_some_text text ≡ true → list_all p text ≡ true → is_key text ≡ false
no_colon p none text some h =
    let r = has_last text some in
    let such : p r.1 ≡ true = last_such p r.0 r.1 (subst (λ (z : List ℕ). list_all p z ≡ true) r.2 h) in
    no_key text r.0 r.1 r.2 (other_end r.1 r.0 (λ e. true≢false (sym such ∙ (ap p e ∙ none))))

pub host_value : (text : List ℕ) → IsPlainText text → IsValue text
host_value text h = record {
  some = some_text text h.some;
  bytes = all-wider is_host_text_byte is_word_byte host_word text h.plain;
  readable = all-wider is_host_text_byte is_readable host_readable text h.plain;
  no_key = two_colons text (some_text text h.some) h.no_key;
}

-- digits and dashes
abbrev is_range_byte : ℕ → Bool
is_range_byte b = is_digit b || b == 45

range_word : (b : ℕ) → is_range_byte b ≡ true → is_word_byte b ≡ true
range_word b h = grind (arith, nat_tests)

range_readable : (b : ℕ) → is_range_byte b ≡ true → is_readable b ≡ true
range_readable b h = grind (arith, nat_tests)

digit_range : (b : ℕ) → is_digit b ≡ true → is_range_byte b ≡ true
digit_range b h = grind (arith, nat_tests)

range_value : (text : List ℕ) → is_some_text text ≡ true → list_all is_range_byte text ≡ true → IsValue text
range_value text some h = record {
  some = some;
  bytes = all-wider is_range_byte is_word_byte range_word text h;
  readable = all-wider is_range_byte is_readable range_readable text h;
  no_key = no_colon is_range_byte refl text some h;
}

some_read : (limit n : ℕ) (text : List ℕ) → number_of_text limit text ≡ Some n → is_some_text text ≡ true
some_read limit n [] h = cc
some_read limit n (b ∷ text) h = refl

pub some_number : (n : ℕ) → n < 2 ^ 32 → is_some_text (number_text n) ≡ true
some_number n h = some_read 4294967295 n (number_text n) (number-inverse 4294967295 n (omega arith) (omega arith))

number_range : (n : ℕ) → n < 2 ^ 32 → list_all is_range_byte (number_text n) ≡ true
number_range n h = all-wider is_digit is_range_byte digit_range (number_text n) (digits-number n h)

pub number_value : (n : ℕ) → n < 2 ^ 32 → IsValue (number_text n)
number_value n h = range_value (number_text n) (some_number n h) (number_range n h)

some_dash : (front rest : List ℕ) → is_some_text (front ++ 45 ∷ rest) ≡ true
some_dash [] rest = refl
some_dash (b ∷ front) rest = refl

low_high : (low high : ℕ) → low < 2 ^ 32 → high < 2 ^ 32 → IsValue (number_text low ++ 45 ∷ number_text high)
low_high low high h k =
    range_value (number_text low ++ 45 ∷ number_text high) (some_dash (number_text low) (number_text high))
    (all-append is_range_byte (number_text low) (45 ∷ number_text high) (number_range low h) (number_range high k))

-- ---- the words of values

word_port : IsValue (codes "port")
word_port = known_value (codes "port") refl

operator_port : (operator : List ℕ) (n : ℕ) → IsValue operator → n < 65536 → AllByRecursion IsValue (operator_words operator n)
operator_port operator n h k = (word_port, (h, (number_value n (omega arith), tt)))

pub listener_values : (e : Endpoint) → IsEndpoint e → AllByRecursion IsValue (listener_words e)
listener_values e h =
    let small = h.port in
    (host_value (addr_text e.addr) (plain-addr e.addr h.addr), operator_port (codes "=") e.port (known_value (codes "=") refl) small)

port_values : (test : PortTest) → IsPortTest test → AllByRecursion IsValue (port_words test)
port_values PortTest.Any h = tt
port_values (PortTest.Eq n) h = operator_port (codes "=") n (known_value (codes "=") refl) h
port_values (PortTest.Ne n) h = operator_port (codes "!=") n (known_value (codes "!=") refl) h
port_values (PortTest.Ge n) h = operator_port (codes ">=") n (known_value (codes ">=") refl) h
port_values (PortTest.Le n) h = operator_port (codes "<=") n (known_value (codes "<=") refl) h
port_values (PortTest.Gt n) h = operator_port (codes ">") n (known_value (codes ">") refl) h
port_values (PortTest.Lt n) h = operator_port (codes "<") n (known_value (codes "<") refl) h
port_values (PortTest.Range low high) h = let a = h.0 in let b = h.1 in (word_port, (low_high low high (omega (arith, a, b)) (omega (arith, b)), tt))

pub pattern_values : (p : Pattern) → IsPattern p → AllByRecursion IsValue (pattern_words p)
pattern_values p h = (host_value (host_text p.host) (plain-host-text p.host h.host), port_values p.port h.port)

-- ---- names and passwords

by_name : (text : List ℕ) → is_login_name text ≡ true → (is_some_text text ≡ true) × (list_all is_login_byte text ≡ true)
by_name [] h = absurd (true≢false (sym h))
by_name (b ∷ text) h = (refl, (and_parts (nat_le (length (b ∷ text)) 255) (list_all is_login_byte (b ∷ text)) (read (nat_le (length (b ∷ text)) 255 && list_all is_login_byte (b ∷ text)) h)).1)
  where
    read : (v : Bool) → is_readable_name (cond v (Ok (b ∷ text)) (Err AddrFault.BadName)) ≡ true → v ≡ true
    read true k = refl
    read false k = absurd (true≢false (sym k))

pub user_value : (name : List ℕ) → IsUser name → IsValue name
user_value name h =
    let q = by_name name h.name' in
    record {
      some = q.0;
      bytes = two_wider is_login_byte is_plain_byte is_word_byte login_word name q.1 h.plain;
      readable = all-wider is_login_byte is_readable login_readable name q.1;
      no_key = h.no_key;
    }

abbrev pub login_text : Login → List ℕ
login_text l = l.name ++ 58 ∷ l.password

some_colon : (name password : List ℕ) → is_some_text (name ++ 58 ∷ password) ≡ true
some_colon [] password = refl
some_colon (b ∷ name) password = refl

some_none : (text : List ℕ) → is_some_text text ≡ true → text ≡ [] → ⊥
some_none text h e = true≢false (sym h ∙ ap is_some_text e)

-- a password stands behind the colon
past_colon : (name password front : List ℕ) → is_some_text password ≡ true → name ++ 58 ∷ password ≡ front ++ 58 ∷ [] → list_any (λ b. b == 58) front ≡ true
past_colon [] password [] some e = let q : password ≡ [] = cc in absurd (some_none password some q)
past_colon [] password (f ∷ front) some e = let q : 58 ≡ f = cc in ap (λ (z : ℕ). list_any (λ b. b == 58) (z ∷ front)) (sym q)
past_colon (b ∷ name) password [] some e = let q : name ++ 58 ∷ password ≡ [] = cc in absurd (some_none (name ++ 58 ∷ password) (some_colon name password) q)
past_colon (b ∷ name) password (f ∷ front) some e =
    let q : name ++ 58 ∷ password ≡ front ++ 58 ∷ [] = cc in
    ap (λ v. f == 58 || v) (past_colon name password front some q) ∙ or-true (f == 58)

pub login_value : (l : Login) → IsLogin l → IsValue (login_text l)
login_value l h =
    let n = by_name l.name h.name in
    let p = by_name l.password h.password in
    let name = two_wider is_login_byte is_plain_byte is_word_byte login_word l.name n.1 h.plain_name in
    let password = two_wider is_login_byte is_plain_byte is_word_byte login_word l.password p.1 h.plain_password in
    let some = some_colon l.name l.password in
    record {
      some = some;
      bytes = all-append is_word_byte l.name (58 ∷ l.password) name password;
      readable = all-append is_readable l.name (58 ∷ l.password) (all-wider is_login_byte is_readable login_readable l.name n.1) (all-wider is_login_byte is_readable login_readable l.password p.1);
      no_key = two_colons (login_text l) some (λ front e. past_colon l.name l.password front p.0 e);
    }
