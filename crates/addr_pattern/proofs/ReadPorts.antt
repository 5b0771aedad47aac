-- What is written of a port test is read again.
use Rattle.std.proofs.Common.{ℕ, ◌≡◌, ◌≢◌, ◌<◌, ◌≤◌, true, false, ◌==◌, nat_le, ◌⊎◌, inl, inr, Some, None, List, [], ◌∷◌, ◌++◌, length, codes, ap, ◌∙◌, refl, arith, cond}
use Rattle.std.specs.List.{list_all}
use Rattle.std.proofs.lemmas.Bool.{ne_eqb, le-leb, and_parts, leb-true}
use Rattle.addr_pattern.specs.declared.pattern.PortTest.{PortTest}
use Rattle.addr_pattern.specs.declared.port_text.Operator.{Operator}
use Rattle.addr_pattern.specs.AddressText.{is_digit, number_of_text, number_text}
use Rattle.addr_pattern.specs.PatternText.{skip_blanks, trim_end, onto_trimmed, strip_front, service_of, number_or, port_of, test_of, sign_operator, word_operator, either, operator_of, operator_test, range_of, range_cut, bare_test, behind_port, port_read, port_text}
use Rattle.addr_pattern.specs.ReadAgain.{IsPortTest, PortPartReadAgain}
use Rattle.addr_pattern.proofs.Bytes.{lacks-all}
use Rattle.addr_pattern.proofs.Cutting.{first_cut-cut}
use Rattle.addr_pattern.proofs.Inverse.{number-inverse, digits-number}

-- a text of digits, which is read as a port
record IsPort (n : ℕ) (text : List ℕ) : Type 0 where
  pub read : port_of text ≡ Some n
  pub digits : list_all is_digit text ≡ true
  pub some : 1 ≤ length text

number-some : (limit n : ℕ) (text : List ℕ) → number_of_text limit text ≡ Some n → 1 ≤ length text
number-some limit n [] h = cc
number-some limit n (b ∷ bs) h = omega arith

port-number : (n : ℕ) → n < 65536 → IsPort n (number_text n)
port-number n h =
    let read = number-inverse 65535 n (omega arith) (omega (arith, h)) in
    record {
      read = ap (λ o. number_or o (service_of (number_text n))) read;
      digits = digits-number n (omega (arith, h));
      some = number-some 65535 n (number_text n) read;
    }

-- ---- blanks round digits

no_blank : (b : ℕ) → is_digit b ≡ true → (b == 32) ≡ false
no_blank b h = let low = leb-true 48 b (and_parts (nat_le 48 b) (nat_le b 57) h).0 in ne_eqb b 32 (λ e. omega (arith, low, e))

skip-digits : (text : List ℕ) → list_all is_digit text ≡ true → skip_blanks text ≡ text
skip-digits [] h = refl
skip-digits (b ∷ bs) h = ap (λ t. cond t (skip_blanks bs) (b ∷ bs)) (no_blank b (and_parts (is_digit b) (list_all is_digit bs) h).0)

onto-digit : (b : ℕ) (bs : List ℕ) → is_digit b ≡ true → onto_trimmed b bs ≡ b ∷ bs
onto-digit b [] h = ap (λ t. cond t [] (b ∷ [])) (no_blank b h)
onto-digit b (c ∷ bs) h = refl

trim-digits : (text : List ℕ) → list_all is_digit text ≡ true → trim_end text ≡ text
trim-digits [] h = refl
trim-digits (b ∷ bs) h =
    let both = and_parts (is_digit b) (list_all is_digit bs) h in
    ap (onto_trimmed b) (trim-digits bs both.1) ∙ onto-digit b bs both.0

-- ---- one port behind an operator

behind-operator : (op : Operator) (n : ℕ) (text : List ℕ) → IsPort n text → test_of op (port_of (skip_blanks text)) ≡ test_of op (Some n)
behind-operator op n text h = ap (λ t. test_of op (port_of t)) (skip-digits text h.digits) ∙ ap (test_of op) h.read

-- ---- a range

not-front : (f b : ℕ) (fs bs : List ℕ) → b ≢ f → strip_front (f ∷ fs) (b ∷ bs) ≡ None
not-front f b fs bs h = ap (λ t. cond t (strip_front fs bs) None) (ne_eqb b f h)

no-sign : (b : ℕ) (bs : List ℕ) → 48 ≤ b → b ≤ 57 → sign_operator (b ∷ bs) ≡ None
no-sign b bs low high =
    let n61 : (b == 61) ≡ false = ne_eqb b 61 (λ e. omega (arith, e, low, high)) in
    let n33 : (b == 33) ≡ false = ne_eqb b 33 (λ e. omega (arith, e, low, high)) in
    let n62 : (b == 62) ≡ false = ne_eqb b 62 (λ e. omega (arith, e, low, high)) in
    let n60 : (b == 60) ≡ false = ne_eqb b 60 (λ e. omega (arith, e, low, high)) in
    rw n61 (rw n33 (rw n62 (rw n60 (refl))))

no-word : (b : ℕ) (bs : List ℕ) → 48 ≤ b → b ≤ 57 → word_operator (b ∷ bs) ≡ None
no-word b bs low high =
    let n101 : (b == 101) ≡ false = ne_eqb b 101 (λ e. omega (arith, e, low, high)) in
    let n110 : (b == 110) ≡ false = ne_eqb b 110 (λ e. omega (arith, e, low, high)) in
    let n103 : (b == 103) ≡ false = ne_eqb b 103 (λ e. omega (arith, e, low, high)) in
    let n108 : (b == 108) ≡ false = ne_eqb b 108 (λ e. omega (arith, e, low, high)) in
    rw n101 (rw n110 (rw n103 (rw n108 (refl))))

no-operator : (text : List ℕ) → 1 ≤ length text → list_all is_digit text ≡ true → (rest : List ℕ) → operator_of (text ++ rest) ≡ None
no-operator [] some h rest = absurd (omega (arith, some))
no-operator (b ∷ bs) some h rest =
    let digit = and_parts (nat_le 48 b) (nat_le b 57) (and_parts (is_digit b) (list_all is_digit bs) h).0 in
    let low = leb-true 48 b digit.0 in
    let high = leb-true b 57 digit.1 in
    ap (λ o. either o (word_operator (b ∷ (bs ++ rest)))) (no-sign b (bs ++ rest) low high) ∙ no-word b (bs ++ rest) low high

skip-front : (text rest : List ℕ) → 1 ≤ length text → list_all is_digit text ≡ true → skip_blanks (text ++ rest) ≡ text ++ rest
skip-front [] rest some h = absurd (omega (arith, some))
skip-front (b ∷ bs) rest some h = ap (λ t. cond t (skip_blanks (bs ++ rest)) (b ∷ (bs ++ rest))) (no_blank b (and_parts (is_digit b) (list_all is_digit bs) h).0)

bare-range : (low high : ℕ) (front back : List ℕ) → IsPort low front → IsPort high back → low ≤ high → bare_test (front ++ 45 ∷ back) ≡ Some (PortTest.Range low high)
bare-range low high front back f b h =
    ap (range_cut (front ++ 45 ∷ back)) (first_cut-cut 45 front back (lacks-all is_digit 45 front refl f.digits))
    ∙ (ap (λ o. range_of o (port_of (skip_blanks back))) (ap port_of (trim-digits front f.digits) ∙ f.read)
    ∙ (ap (λ o. range_of (Some low) o) (ap port_of (skip-digits back b.digits) ∙ b.read)
    ∙ ap (λ t. cond t (Some (PortTest.Range low high)) None) (le-leb low high h)))

behind-blank : (low high : ℕ) (front back : List ℕ) → IsPort low front → IsPort high back → low ≤ high
    → behind_port (Some (32 ∷ (front ++ 45 ∷ back))) ≡ Some (PortTest.Range low high)
behind-blank low high front back f b h =
    let text = front ++ 45 ∷ back in
    let skipped = skip-front front (45 ∷ back) f.some f.digits in
    ap (operator_test (32 ∷ text)) (ap operator_of skipped ∙ no-operator front f.some f.digits (45 ∷ back))
    ∙ (ap bare_test skipped ∙ bare-range low high front back f b h)

-- ---- the port part

-- no text where each port is taken, else a blank and what is read as the test
abbrev pub IsPortText : PortTest → List ℕ → Type 0
IsPortText test text = ((test ≡ PortTest.Any) × (text ≡ [])) ⊎ ((rest : List ℕ) × (text ≡ 32 ∷ rest) × (port_read rest ≡ Some test))

pub port-inverse : (test : PortTest) → IsPortTest test → IsPortText test (port_text test)
port-inverse PortTest.Any h = inl (refl, refl)
port-inverse (PortTest.Eq n) h = inr (codes "port = " ++ number_text n, refl, behind-operator Operator.Eq n (number_text n) (port-number n h))
port-inverse (PortTest.Ne n) h = inr (codes "port != " ++ number_text n, refl, behind-operator Operator.Ne n (number_text n) (port-number n h))
port-inverse (PortTest.Ge n) h = inr (codes "port >= " ++ number_text n, refl, behind-operator Operator.Ge n (number_text n) (port-number n h))
port-inverse (PortTest.Le n) h = inr (codes "port <= " ++ number_text n, refl, behind-operator Operator.Le n (number_text n) (port-number n h))
port-inverse (PortTest.Gt n) h = inr (codes "port > " ++ number_text n, refl, behind-operator Operator.Gt n (number_text n) (port-number n h))
port-inverse (PortTest.Lt n) h = inr (codes "port < " ++ number_text n, refl, behind-operator Operator.Lt n (number_text n) (port-number n h))
port-inverse (PortTest.Range low high) h =
    inr (codes "port " ++ (number_text low ++ 45 ∷ number_text high), refl, behind-blank low high (number_text low) (number_text high) (port-number low (omega (arith, h.0, h.1))) (port-number high h.1) h.0)

pub port_part-inverse : PortPartReadAgain
port_part-inverse n h =
    let port = port-number n h in
    ap port_of (skip-digits (number_text n) port.digits) ∙ port.read
