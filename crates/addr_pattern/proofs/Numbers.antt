-- Numbers in decimal digits, read and written.
use Rattle.std.proofs.Common.{inl, inr, ℕ, zero, suc, ◌≡◌, ◌<◌, ◌≤◌, ◌+◌, ◌-◌, ◌*◌, ◌/◌, ◌%◌, ◌^◌, true, false, ◌==◌, ◌&&◌, nat_le, Some, None, List, [], ◌∷◌, ◌++◌, drop, get_or, length, length-append, sym, ap, ◌∙◌, refl, arith, cond, not}
use Rattle.std.specs.List.{list_all}
use Rattle.std.proofs.lemmas.Fmt.{decimal_step, decimal_digit, length-decimal-le}
use Rattle.std.proofs.Math.Seq.{drop-cons}
use Rattle.std.proofs.lemmas.Bool.Decides.{nat_tests}
use Rattle.std.proofs.lemmas.Bool.{cases_lt}
use Rattle.std.proofs.Math.Nat.{mul-le-mul_right, pow-succ', mul_assoc}
use Rattle.addr_pattern.specs.AddressText.{is_digit, value_of_digits, no_leading_zero, number_of_text, number_text}
use Rattle.addr_pattern.proofs.NumberTexts.{number_text-decimal}

pub value-more : (n : ℕ) (ds : List ℕ) (i : ℕ) → i < length ds → value_of_digits n (drop i ds) ≡ value_of_digits (n * 10 + (get_or ds i 0 - 48)) (drop (suc i) ds)
value-more n ds i h = rw (drop-cons ds i 0 h) refl

pub digits-more : (ds : List ℕ) (i : ℕ) → i < length ds → is_digit (get_or ds i 0) ≡ true → list_all is_digit (drop i ds) ≡ list_all is_digit (drop (suc i) ds)
digits-more ds i h d = rw (drop-cons ds i 0 h) (rw d refl)

pub no-digits : (ds : List ℕ) (i : ℕ) → i < length ds → is_digit (get_or ds i 0) ≡ false → list_all is_digit (drop i ds) ≡ false
no-digits ds i h d = rw (drop-cons ds i 0 h) (rw d refl)

pub value-grows : (n : ℕ) (ds : List ℕ) → n ≤ value_of_digits n ds
value-grows n [] = omega arith
value-grows n (d ∷ ds) = let h = value-grows (n * 10 + (d - 48)) ds in omega (arith, h)

-- the first digit of several is at least one
led : (d : ℕ) → not (d == 48) ≡ true → is_digit d ≡ true → 1 ≤ d - 48
led d h k = grind (arith, nat_tests)

-- each digit behind a first number makes ten of it
pub value-long : (k n : ℕ) (ds : List ℕ) → k ≤ length ds → n * 10 ^ k ≤ value_of_digits n ds
value-long zero n ds h = let g = value-grows n ds in omega (arith, g)
value-long (suc k) n [] h = absurd (omega arith)
value-long (suc k) n (d ∷ ds) h =
    let more = value-long k (n * 10 + (d - 48)) ds (omega (arith, h)) in
    let grown : (n * 10) * 10 ^ k ≤ (n * 10 + (d - 48)) * 10 ^ k = mul-le-mul_right (10 ^ k) (omega arith) in
    let step : n * 10 ^ suc k ≡ (n * 10) * 10 ^ k = ap (λ (m : ℕ). n * m) (pow-succ' 10 k) ∙ sym (mul_assoc n 10 (10 ^ k)) in
    omega (arith, more, grown, step)

-- a number of more than ten digits is past 2 ^ 32
short : (text : List ℕ) → no_leading_zero text ≡ true → list_all is_digit text ≡ true → value_of_digits 0 text < 2 ^ 32 → length text ≤ 40
short [] h k v = omega arith
short (a ∷ []) h k v = omega arith
short (a ∷ b ∷ ds) h k v = elim (cases_lt 40 (length (a ∷ b ∷ ds))) [ inl more ↦ absurd (past more) | inr fits ↦ fits ]
  where
    past : 40 < length (a ∷ b ∷ ds) → ⊥
    past more =
        let digit : is_digit a ≡ true = grind (arith, k) in
        let one = led a h digit in
        let long = value-long 10 (0 * 10 + (a - 48)) (b ∷ ds) (omega (arith, more)) in
        omega (arith, long, one, v)

pub number-led : (limit : ℕ) (text : List ℕ) → no_leading_zero text ≡ false → number_of_text limit text ≡ None
number-led limit text h = rw h refl

pub number-other : (limit : ℕ) (text : List ℕ) → list_all is_digit text ≡ false → number_of_text limit text ≡ None
number-other limit text h = rw h (elim (no_leading_zero text) as (λ b. cond (b && false && nat_le (length text) 40 && nat_le (value_of_digits 0 text) limit) (Some (value_of_digits 0 text)) None ≡ None) [ true ↦ refl | false ↦ refl ])

pub number-past : (limit : ℕ) (text : List ℕ) → limit < value_of_digits 0 text → number_of_text limit text ≡ None
number-past limit text h =
    let k : nat_le (value_of_digits 0 text) limit ≡ false = grind (arith, nat_tests) in
    rw k (elim (no_leading_zero text && list_all is_digit text && nat_le (length text) 40) as (λ b. cond (b && false) (Some (value_of_digits 0 text)) None ≡ None) [ true ↦ refl | false ↦ refl ])

pub number-is : (limit : ℕ) (text : List ℕ) → limit < 2 ^ 32 → no_leading_zero text ≡ true → list_all is_digit text ≡ true → value_of_digits 0 text ≤ limit → number_of_text limit text ≡ Some (value_of_digits 0 text)
number-is limit text l h k v =
    let s = short text h k (omega arith) in
    let a : nat_le (length text) 40 ≡ true = grind (arith, nat_tests) in
    let b : nat_le (value_of_digits 0 text) limit ≡ true = grind (arith, nat_tests) in
    rw h (rw k (rw a (rw b refl)))

pub number_text-step : (n : ℕ) → n < 2 ^ 64 → 10 ≤ n → number_text n ≡ number_text (n / 10) ++ (48 + n % 10) ∷ []
number_text-step n h k =
    number_text-decimal n h ∙ (decimal_step n k h ∙ ap (λ (z : List ℕ). z ++ (48 + n % 10) ∷ []) (sym (number_text-decimal (n / 10) (omega arith))))

pub number_text-digit : (n : ℕ) → n < 10 → number_text n ≡ (48 + n) ∷ []
number_text-digit n h = number_text-decimal n (omega arith) ∙ decimal_digit n h

pub length-number_text-step : (n : ℕ) → n < 2 ^ 64 → 10 ≤ n → length (number_text n) ≡ length (number_text (n / 10)) + 1
length-number_text-step n h k = ap length (number_text-step n h k) ∙ length-append (number_text (n / 10)) ((48 + n % 10) ∷ [])

pub length-number_text : (n : ℕ) → n < 65536 → length (number_text n) ≤ 5
length-number_text n h = rw (number_text-decimal n (omega arith)) (length-decimal-le 5 n (omega arith) (omega arith) (omega arith))

pub length-number_text-long : (n : ℕ) → n < 2 ^ 32 → length (number_text n) ≤ 10
length-number_text-long n h = rw (number_text-decimal n (omega arith)) (length-decimal-le 10 n (omega arith) (omega arith) (omega arith))
