-- The decimal text of a number is the one that `Display` writes.
use Rattle.std.proofs.Common.{ℕ, zero, suc, ◌≡◌, ◌<◌, ◌≤◌, ◌+◌, ◌%◌, ◌/◌, ◌^◌, ◌∙◌, sym, ap, true, false, List, [], ◌∷◌, ◌++◌, length, arith, append_assoc, append-nil, length-append}
use Rattle.std.specs.Prelude.{nat_lt}
use Rattle.std.specs.Fmt.{decimal}
use Rattle.std.proofs.lemmas.Fmt.{decimal_by_steps, length-decimal-le}
use Rattle.std.proofs.lemmas.Bool.{lt-ltb, le-ltb}
use Rattle.addr_pattern.specs.AddressText.{decimal_onto, number_text}

abbrev IsOnto : ℕ → List ℕ → Type 0
IsOnto n ds = (k : ℕ) (text : List ℕ) → length ds ≤ k → decimal_onto k n text ≡ ds ++ text

below-ten : (n : ℕ) → n < 10 → nat_lt n 10 ≡ true
below-ten n h = lt-ltb n 10 h

not-below-ten : (n : ℕ) → 10 ≤ n → nat_lt n 10 ≡ false
not-below-ten n h = le-ltb n 10 h

one-digit : (n : ℕ) → n < 10 → IsOnto n ((48 + n) ∷ [])
one-digit n h zero text k = absurd (omega (arith, k))
one-digit n h (suc m) text k = ap (λ b. elim b [ true ↦ (48 + n) ∷ text | false ↦ decimal_onto m (n / 10) ((48 + n % 10) ∷ text) ]) (below-ten n h)

more-digits : (n : ℕ) (ds : List ℕ) → 10 ≤ n → IsOnto (n / 10) ds → IsOnto n (ds ++ (48 + n % 10) ∷ [])
more-digits n ds h more zero text k = absurd (omega (arith, k, length-append ds ((48 + n % 10) ∷ [])))
more-digits n ds h more (suc m) text k =
    ap (λ b. elim b [ true ↦ (48 + n) ∷ text | false ↦ decimal_onto m (n / 10) ((48 + n % 10) ∷ text) ]) (not-below-ten n h)
    ∙ (more m ((48 + n % 10) ∷ text) (omega (arith, k, length-append ds ((48 + n % 10) ∷ []))) ∙ sym (append_assoc ds ((48 + n % 10) ∷ []) text))

pub number_text-decimal : (n : ℕ) → n < 2 ^ 64 → number_text n ≡ decimal n
number_text-decimal n h = decimal_by_steps IsOnto one-digit more-digits n h 40 [] short ∙ append-nil (decimal n)
  where
    short : length (decimal n) ≤ 40
    short = let k : length (decimal n) ≤ 20 = length-decimal-le 20 n (omega arith) (omega (arith, h)) h in omega (arith, k)
