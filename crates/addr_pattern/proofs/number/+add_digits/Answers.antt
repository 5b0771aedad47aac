use Rattle.std.proofs.Common.{ℕ, ◌≡◌, ◌<◌, ◌≤◌, ◌+◌, ◌%◌, ◌/◌, ◌^◌, List, [], ◌∷◌, ◌++◌, length, length-append, append_assoc, sym, ap, ◌∙◌, arith}
use Rattle.addr_pattern.specs.AddressText.{number_text}
use Rattle.addr_pattern.proofs.Numbers.{number_text-step, number_text-digit, length-number_text-step}
use Rattle.addr_pattern.proofs.number.+add_digits.Goals as goal
use Rattle.addr_pattern.proofs.number.+add_digits.Goals.{then-number-ge10, else-number-ge10}

-- the digit that is put last is the whole of a small number, and the last of a larger one
digits-last : (old out : List ℕ) (n : ℕ) → n < 2 ^ 64 → 10 ≤ n → out ≡ old ++ number_text (n / 10) → out ++ (48 + n % 10) ∷ [] ≡ old ++ number_text n
digits-last old out n h k is =
    ap (λ (xs : List ℕ). xs ++ (48 + n % 10) ∷ []) is
    ∙ (append_assoc old (number_text (n / 10)) ((48 + n % 10) ∷ []) ∙ ap (λ (xs : List ℕ). old ++ xs) (sym (number_text-step n h k)))

digit-alone : (old out : List ℕ) (n : ℕ) → n < 10 → out ≡ old → out ++ (48 + n % 10) ∷ [] ≡ old ++ number_text n
digit-alone old out n h is =
    let same : 48 + n % 10 ≡ 48 + n = omega arith in
    ap (λ (xs : List ℕ). xs ++ (48 + n % 10) ∷ []) is ∙ ap (λ (xs : List ℕ). old ++ xs) (ap (λ (d : ℕ). d ∷ []) same ∙ sym (number_text-digit n h))

room : (old out more : List ℕ) (d : ℕ) → out ++ d ∷ [] ≡ old ++ more → length old + length more ≤ 520 → length out + 1 ≤ 520
room old out more d is h =
    let e = ap length is in
    omega (arith, length-append out (d ∷ []), length-append old more, e)

pub add_digits-requires : goal.add_digits-requires
add_digits-requires t c =
    let more = length-number_text-step c.args.number (omega arith) (omega arith) in
    (omega arith, omega (arith, more, c.requires))

pub add-requires : goal.add-requires
add-requires t c = room c.args.out.now c.if-number-ge10.out (number_text c.args.number) (48 + c.args.number % 10)
    (elim c.if-number-ge10.branch [
      | then-number-ge10 w ↦ digits-last _ _ _ (omega arith) w.if-number-ge10.true (w.out-is ∙ w.add_digits.ensures)
      | else-number-ge10 w ↦ digit-alone _ _ _ w.if-number-ge10.false w.out-is
    ])
    c.requires

pub returns : goal.returns
returns t c =
    c.add.ensures ∙ (elim c.if-number-ge10.branch [
      | then-number-ge10 w ↦ digits-last _ _ _ (omega arith) w.if-number-ge10.true (w.out-is ∙ w.add_digits.ensures)
      | else-number-ge10 w ↦ digit-alone _ _ _ w.if-number-ge10.false w.out-is
    ])
