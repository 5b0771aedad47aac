-- The groups of a number, and the longest run of zeros among them.
use Rattle.std.proofs.Common.{ℕ, zero, suc, ◌≡◌, ◌<◌, ◌≤◌, ◌+◌, ◌*◌, ◌/◌, ◌%◌, ◌^◌, true, false, ◌==◌, nat_lt, List, [], ◌∷◌, ◌++◌, take, drop, replicate, length, length-append, subst, ap, ◌∙◌, refl, arith, cond}
use Rattle.std.proofs.lemmas.Bool.{eqb-true}
use Rattle.std.proofs.lemmas.List.{length-replicate}
use Rattle.std.proofs.Math.Nat.{pow-suc, div-lt_iff_lt-mul}
use Rattle.addr_pattern.specs.AddressText.{worth, groups, zeros_at_front, longest_run}
use Rattle.addr_pattern.proofs.Hexadecimal.{Below}

-- ---- groups

pub below-append : (n : ℕ) (xs ys : List ℕ) → Below n xs → Below n ys → Below n (xs ++ ys)
below-append n [] ys h k = k
below-append n (x ∷ xs) ys h k = (h.0, below-append n xs ys h.1 k)

pub below-front : (n : ℕ) (xs ys : List ℕ) → Below n (xs ++ ys) → Below n xs
below-front n [] ys h = tt
below-front n (x ∷ xs) ys h = (h.0, below-front n xs ys h.1)

pub below-back : (n : ℕ) (xs ys : List ℕ) → Below n (xs ++ ys) → Below n ys
below-back n [] ys h = h
below-back n (x ∷ xs) ys h = below-back n xs ys h.1

worth-append : (base n : ℕ) (xs ys : List ℕ) → worth base n (xs ++ ys) ≡ worth base (worth base n xs) ys
worth-append base n [] ys = refl
worth-append base n (x ∷ xs) ys = worth-append base (n * base + x) xs ys

pub groups-below : (k n : ℕ) → Below 65536 (groups k n)
groups-below zero n = tt
groups-below (suc k) n = below-append 65536 (groups k (n / 65536)) (n % 65536 ∷ []) (groups-below k (n / 65536)) (omega arith, tt)

pub length-groups : (k n : ℕ) → length (groups k n) ≡ k
length-groups zero n = refl
length-groups (suc k) n =
    let e = length-append (groups k (n / 65536)) (n % 65536 ∷ []) in
    let h = length-groups k (n / 65536) in
    omega (arith, e, h)

pub worth-groups : (k n : ℕ) → n < 65536 ^ k → worth 65536 0 (groups k n) ≡ n
worth-groups zero n h = omega (arith, h)
worth-groups (suc k) n h =
    let small : n / 65536 < 65536 ^ k = (div-lt_iff_lt-mul {k = 65536} {x = n} {y = 65536 ^ k} (omega arith)).1 (omega (arith, h, pow-suc 65536 k)) in
    let more : worth 65536 0 (groups k (n / 65536)) ≡ n / 65536 = worth-groups k (n / 65536) small in
    worth-append 65536 0 (groups k (n / 65536)) (n % 65536 ∷ []) ∙ omega (arith, more)

-- ---- runs of zeros

-- so many zeros at a place of the list
pub record HasZeros (gs : List ℕ) (at count : ℕ) : Type 0 where
  pub spelled : gs ≡ take at gs ++ (replicate count 0 ++ drop (at + count) gs)
  pub within : at + count ≤ length gs

zeros-front : (gs : List ℕ) → gs ≡ replicate (zeros_at_front gs) 0 ++ drop (zeros_at_front gs) gs
zeros-front [] = refl
zeros-front (g ∷ gs) = elim (g == 0) as (λ b. (g == 0) ≡ b → g ∷ gs ≡ replicate (cond b (suc (zeros_at_front gs)) 0) 0 ++ drop (cond b (suc (zeros_at_front gs)) 0) (g ∷ gs)) [
  | true ↦ λ e. ap (λ (x : ℕ). x ∷ gs) (eqb-true g 0 e) ∙ ap (λ (xs : List ℕ). 0 ∷ xs) (zeros-front gs)
  | false ↦ λ e. refl
] refl

zeros-within : (gs : List ℕ) → zeros_at_front gs ≤ length gs
zeros-within [] = omega arith
zeros-within (g ∷ gs) = let h = zeros-within gs in elim (g == 0) as (λ b. cond b (suc (zeros_at_front gs)) 0 ≤ length (g ∷ gs)) [ true ↦ omega (arith, h) | false ↦ omega arith ]

here : (gs : List ℕ) → HasZeros gs 0 (zeros_at_front gs)
here gs =
    let e : zeros_at_front gs ≡ 0 + zeros_at_front gs = omega arith in
    let h = zeros-within gs in
    record {
      spelled = zeros-front gs ∙ ap (λ (n : ℕ). replicate (zeros_at_front gs) 0 ++ drop n gs) e;
      within = omega (arith, h);
    }

behind : (g at count : ℕ) (gs : List ℕ) → HasZeros gs at count → HasZeros (g ∷ gs) (at + 1) count
behind g at count gs h =
    let e : suc at ≡ at + 1 = omega arith in
    let f : suc (at + count) ≡ at + 1 + count = omega arith in
    record {
      spelled = ap (λ (xs : List ℕ). g ∷ xs) h.spelled
          ∙ (ap (λ (n : ℕ). take n (g ∷ gs) ++ (replicate count 0 ++ drop (suc (at + count)) (g ∷ gs))) e
          ∙ ap (λ (n : ℕ). take (at + 1) (g ∷ gs) ++ (replicate count 0 ++ drop n (g ∷ gs))) f);
      within = omega (arith, h.within);
    }

abbrev pub IsRun : List ℕ → ℕ × ℕ → Type 0
IsRun gs run = HasZeros gs run.0 run.1

pub longest_run-zeros : (gs : List ℕ) → IsRun gs (longest_run gs)
longest_run-zeros [] = record { spelled = refl; within = omega arith }
longest_run-zeros (g ∷ gs) =
    elim (nat_lt (zeros_at_front (g ∷ gs)) (longest_run gs).1)
    as (λ b. IsRun (g ∷ gs) (cond {A = ℕ × ℕ} b ((longest_run gs).0 + 1, (longest_run gs).1) (0, zeros_at_front (g ∷ gs)))) [
      | true ↦ behind g (longest_run gs).0 (longest_run gs).1 gs (longest_run-zeros gs)
      | false ↦ here (g ∷ gs)
    ]

-- what stands before the zeros, they, and what stands behind them are the whole
pub length-run : (gs : List ℕ) (at count : ℕ) → HasZeros gs at count → length (take at gs) + (count + length (drop (at + count) gs)) ≡ length gs
length-run gs at count h =
    let whole = ap length h.spelled in
    let outer = length-append (take at gs) (replicate count 0 ++ drop (at + count) gs) in
    let inner = length-append (replicate count 0) (drop (at + count) gs) in
    let zeros = length-replicate {A = ℕ} count 0 in
    omega (arith, whole, outer, inner, zeros)

pub below-before : (n : ℕ) (gs : List ℕ) (at count : ℕ) → HasZeros gs at count → Below n gs → Below n (take at gs)
below-before n gs at count h b = below-front n (take at gs) (replicate count 0 ++ drop (at + count) gs) (subst (Below n) h.spelled b)

pub below-behind : (n : ℕ) (gs : List ℕ) (at count : ℕ) → HasZeros gs at count → Below n gs → Below n (drop (at + count) gs)
below-behind n gs at count h b =
    below-back n (replicate count 0) (drop (at + count) gs) (below-back n (take at gs) (replicate count 0 ++ drop (at + count) gs) (subst (Below n) h.spelled b))
