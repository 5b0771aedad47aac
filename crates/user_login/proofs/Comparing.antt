-- Bytes that are compared one by one.
use Rattle.std.proofs.Common.{ℕ, ◌≡◌, ◌+◌, ◌<◌, ◌&&◌, ◌==◌, List, [], ◌∷◌, ◌++◌, length, take, get_or, bit_or, bit_xor, bytes_eq, sym, ap, ◌∙◌, arith}
use Rattle.std.proofs.Math.Bool.{and_assoc, and-true}
use Rattle.std.proofs.lemmas.List.{take_more, length-take-le}
use Rattle.std.proofs.lemmas.Nat.{le_or_l, le_or_r, and_le_l, and_le_r}
use Rattle.std.proofs.lemmas.Bool.Decides.{nat_tests}
use Rattle.std.specs.Int.Bits.{xor_self, xor_add_and, or_add_and}

-- a sum of differences is none where each difference is none
pub differing-eq : (d x y : ℕ) → (bit_or d (bit_xor x y) == 0) ≡ ((d == 0) && (x == y))
differing-eq d x y =
    let a = le_or_l d (bit_xor x y) in
    let b = le_or_r d (bit_xor x y) in
    let c = or_add_and d (bit_xor x y) in
    let e = xor_add_and x y in
    let f = and_le_l x y in
    let g = and_le_r x y in
    let h : x ≡ y → bit_xor x y ≡ 0 = λ (k : x ≡ y). ap (λ z. bit_xor z y) k ∙ xor_self y in
    grind (arith, nat_tests, a, b, c, e, f, g, h)

eq-last : (xs ys : List ℕ) (x y : ℕ) → length xs ≡ length ys → bytes_eq (xs ++ x ∷ []) (ys ++ y ∷ []) ≡ (bytes_eq xs ys && (x == y))
eq-last [] [] x y e = and-true (x == y)
eq-last [] (b ∷ ys) x y e = cc
eq-last (a ∷ xs) [] x y e = cc
eq-last (a ∷ xs) (b ∷ ys) x y e =
    ap (λ t. (a == b) && t) (eq-last xs ys x y (omega arith)) ∙ sym (and_assoc (a == b) (bytes_eq xs ys) (x == y))

-- one byte more
pub differing-more : (xs ys : List ℕ) (i d : ℕ) → i < length xs → i < length ys → (d == 0) ≡ bytes_eq (take i xs) (take i ys)
    → (bit_or d (bit_xor (get_or xs i 0) (get_or ys i 0)) == 0) ≡ bytes_eq (take (i + 1) xs) (take (i + 1) ys)
differing-more xs ys i d h k so_far =
    let same : length (take i xs) ≡ length (take i ys) = length-take-le i xs (omega arith) ∙ sym (length-take-le i ys (omega arith)) in
    rw (take_more xs i 0 h) (rw (take_more ys i 0 k) (
    differing-eq d (get_or xs i 0) (get_or ys i 0)
    ∙ (ap (λ t. t && (get_or xs i 0 == get_or ys i 0)) so_far ∙ sym (eq-last (take i xs) (take i ys) (get_or xs i 0) (get_or ys i 0) same))))
