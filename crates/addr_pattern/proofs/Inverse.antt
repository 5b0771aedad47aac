-- What is written of an address of IPv4 is read as that address.
use Rattle.std.proofs.Common.{ℕ, ◌≡◌, ◌<◌, ◌≤◌, ◌+◌, ◌*◌, ◌/◌, ◌%◌, ◌^◌, ◌-◌, true, false, ◌==◌, Some, List, [], ◌∷◌, ◌++◌, sym, ap, ◌∙◌, refl, arith, append_assoc, decimal}
use Rattle.std.specs.List.{list_all}
use Rattle.std.proofs.lemmas.Fmt.{decimal_by_steps}
use Rattle.std.proofs.lemmas.Bool.Decides.{nat_tests}
use Rattle.addr_pattern.specs.AddressText.{is_digit, value_of_digits, no_leading_zero, number_of_text, number_text, worth, ipv4_of, ipv4_text}
use Rattle.addr_pattern.specs.Cuts.{Lacks, CutsFirst}
use Rattle.addr_pattern.proofs.Bytes.{all-append}
use Rattle.addr_pattern.proofs.NumberTexts.{number_text-decimal}
use Rattle.addr_pattern.proofs.Numbers.{number-is}
use Rattle.addr_pattern.proofs.Quads.{lacks-number, quad-is}

value-append : (n : ℕ) (ds es : List ℕ) → value_of_digits n (ds ++ es) ≡ value_of_digits (value_of_digits n ds) es
value-append n [] es = refl
value-append n (d ∷ ds) es = value-append (n * 10 + (d - 48)) ds es

digit-is : (n : ℕ) → n < 10 → is_digit (48 + n) ≡ true
digit-is n h = grind (arith, nat_tests)

decimal-value : (n : ℕ) → n < 2 ^ 64 → value_of_digits 0 (decimal n) ≡ n
decimal-value n h = decimal_by_steps (λ m ds. value_of_digits 0 ds ≡ m)
    (λ m small. omega arith)
    (λ m ds big is. value-append 0 ds ((48 + m % 10) ∷ []) ∙ omega (arith, is))
    n h

decimal-digits : (n : ℕ) → n < 2 ^ 64 → list_all is_digit (decimal n) ≡ true
decimal-digits n h = decimal_by_steps (λ m ds. list_all is_digit ds ≡ true)
    (λ m small. rw (digit-is m small) refl)
    (λ m ds big is. all-append is_digit ds ((48 + m % 10) ∷ []) is (rw (digit-is (m % 10) (omega arith)) refl))
    n h

-- a number has no leading zero: its first digit is no zero where there is a second, as it is at least ten then
led-append : (ds : List ℕ) (d : ℕ) → no_leading_zero ds ≡ true → 1 ≤ value_of_digits 0 ds → no_leading_zero (ds ++ d ∷ []) ≡ true
led-append [] d h k = refl
led-append (a ∷ []) d h k = let e : (a == 48) ≡ false = grind (arith, nat_tests, k) in rw e refl
led-append (a ∷ b ∷ ds) d h k = h

decimal-led : (n : ℕ) → n < 2 ^ 64 → no_leading_zero (decimal n) ≡ true
decimal-led n h = (decimal_by_steps (λ m ds. (no_leading_zero ds ≡ true) × (value_of_digits 0 ds ≡ m))
    (λ m small. (refl, omega arith))
    (λ m ds big is. let v = is.1 in (led-append ds (48 + m % 10) is.0 (omega (arith, v)), value-append 0 ds ((48 + m % 10) ∷ []) ∙ omega (arith, v)))
    n h).0

pub digits-number : (n : ℕ) → n < 2 ^ 32 → list_all is_digit (number_text n) ≡ true
digits-number n h = let small : n < 2 ^ 64 = omega arith in ap (list_all is_digit) (number_text-decimal n small) ∙ decimal-digits n small

-- what is written of a number is read as that number
pub number-inverse : (limit n : ℕ) → limit < 2 ^ 32 → n ≤ limit → number_of_text limit (number_text n) ≡ Some n
number-inverse limit n l h =
    let small : n < 2 ^ 64 = omega arith in
    let v = decimal-value n small in
    ap (number_of_text limit) (number_text-decimal n small)
    ∙ (number-is limit (decimal n) l (decimal-led n small) (decimal-digits n small) (omega (arith, v)) ∙ ap (λ m. Some m) v)

number-lacks : (n : ℕ) → n ≤ 255 → Lacks 46 (number_text n)
number-lacks n h = lacks-number 46 255 (number_text n) n refl (number-inverse 255 n (omega arith) h)

-- the address that is written is read
pub ipv4-inverse : (n : ℕ) → n < 2 ^ 32 → ipv4_of (ipv4_text n) ≡ Some n
ipv4-inverse n h =
    let a = n / 16777216 in
    let b = n / 65536 % 256 in
    let c = n / 256 % 256 in
    let d = n % 256 in
    let la : n / 16777216 ≤ 255 = omega arith in
    let lb : n / 65536 % 256 ≤ 255 = omega arith in
    let lc : n / 256 % 256 ≤ 255 = omega arith in
    let ld : n % 256 ≤ 255 = omega arith in
    let r = number_text c ++ 46 ∷ number_text d in
    let s = number_text b ++ 46 ∷ r in
    let text : ipv4_text n ≡ number_text a ++ 46 ∷ s =
    append_assoc (number_text a ++ 46 ∷ number_text b) (46 ∷ number_text c) (46 ∷ number_text d)
    ∙ append_assoc (number_text a) (46 ∷ number_text b) ((46 ∷ number_text c) ++ (46 ∷ number_text d)) in
    let first : CutsFirst 46 (ipv4_text n) (number_text a) s = record { lacks = number-lacks a la; spelled = text } in
    let second : CutsFirst 46 s (number_text b) r = record { lacks = number-lacks b lb; spelled = refl } in
    let third : CutsFirst 46 r (number_text c) (number_text d) = record { lacks = number-lacks c lc; spelled = refl } in
    let is = quad-is _ _ _ _ _ _ _ a b c d first second third (sym (number-inverse 255 a (omega arith) la)) (sym (number-inverse 255 b (omega arith) lb)) (sym (number-inverse 255 c (omega arith) lc)) (sym (number-inverse 255 d (omega arith) ld)) in
    let value : worth 256 0 (a ∷ b ∷ c ∷ d ∷ []) ≡ n = omega arith in
    is ∙ ap (λ m. Some m) value
