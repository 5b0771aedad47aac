-- What is written of an address of IPv6 is read as that address.
use Rattle.std.proofs.Common.{ℕ, suc, ◌≡◌, ◌<◌, ◌≤◌, ◌+◌, ◌-◌, ◌^◌, true, false, ◌==◌, ◌||◌, nat_lt, Some, None, option_map, List, [], ◌∷◌, ◌++◌, take, drop, replicate, length, append_assoc, sym, ap, ◌∙◌, refl, arith, cond}
use Rattle.std.specs.List.{list_any, list_all}
use Rattle.std.proofs.lemmas.Bool.{lt-ltb, ltb-false, eq-eqb}
use Rattle.addr_pattern.specs.AddressText.{worth, groups, groups_of, whole_groups, filled, group_text, joined, longest_run, text_with_run, ipv6_of, ipv6_text}
use Rattle.addr_pattern.proofs.Bytes.{all-append}
use Rattle.addr_pattern.proofs.Gaps.{ipv6-whole, ipv6-gap}
use Rattle.addr_pattern.proofs.Hexadecimal.{Below}
use Rattle.addr_pattern.proofs.Joined.{is_six_byte, bytes-joined, dots-joined, groups_of-joined, no_gap-joined, gap-between}
use Rattle.addr_pattern.proofs.GroupNumbers.{IsRun, HasZeros, longest_run-zeros, length-run, below-before, below-behind, groups-below, length-groups, worth-groups}

-- ---- reading

plain-inverse : (gs : List ℕ) → Below 65536 gs → length gs ≡ 8 → ipv6_of (joined gs) ≡ Some (worth 65536 0 gs)
plain-inverse gs h l =
    ipv6-whole (joined gs) (no_gap-joined gs h)
    ∙ (ap (λ o. option_map (worth 65536 0) (whole_groups o)) (groups_of-joined gs h)
    ∙ ap (λ b. option_map (worth 65536 0) (cond b (Some gs) None)) (eq-eqb (length gs) 8 l))

-- as many zeros are filled in as stand in the run
filled-run : (gs xs ys : List ℕ) (count : ℕ) → gs ≡ xs ++ (replicate count 0 ++ ys) → length xs + (count + length ys) ≡ 8 → 1 ≤ count → filled (Some xs) (Some ys) ≡ Some gs
filled-run gs xs ys count e l some =
    let less : length xs + length ys < 8 = omega (arith, l, some) in
    let zeros : 8 - (length xs + length ys) ≡ count = omega (arith, l) in
    ap (λ b. cond b (Some (xs ++ replicate (8 - (length xs + length ys)) 0 ++ ys)) None) (lt-ltb (length xs + length ys) 8 less)
    ∙ (ap (λ (n : ℕ). Some (xs ++ replicate n 0 ++ ys)) zeros
    ∙ ap (λ (zs : List ℕ). Some zs) (append_assoc xs (replicate count 0) ys ∙ sym e))

run-inverse : (gs : List ℕ) (at count : ℕ) → HasZeros gs at count → 2 ≤ count → Below 65536 gs → length gs ≡ 8
    → ipv6_of (joined (take at gs) ++ 58 ∷ 58 ∷ joined (drop (at + count) gs)) ≡ Some (worth 65536 0 gs)
run-inverse gs at count zeros some h l =
    let xs = take at gs in
    let ys = drop (at + count) gs in
    let before = below-before 65536 gs at count zeros h in
    let after = below-behind 65536 gs at count zeros h in
    ipv6-gap (joined xs ++ 58 ∷ 58 ∷ joined ys) (joined xs) (joined ys) (gap-between xs ys before) (dots-joined xs before)
    ∙ (ap (λ o. option_map (worth 65536 0) (filled o (groups_of (joined ys)))) (groups_of-joined xs before)
    ∙ (ap (λ o. option_map (worth 65536 0) (filled (Some xs) o)) (groups_of-joined ys after)
    ∙ ap (option_map (worth 65536 0)) (filled-run gs xs ys count zeros.spelled (length-run gs at count zeros ∙ l) (omega (arith, some)))))

text-inverse : (gs : List ℕ) (run : ℕ × ℕ) → IsRun gs run → Below 65536 gs → length gs ≡ 8 → ipv6_of (text_with_run gs run) ≡ Some (worth 65536 0 gs)
text-inverse gs run zeros h l =
    elim (nat_lt run.1 2)
    as (λ b. nat_lt run.1 2 ≡ b → ipv6_of (cond b (joined gs) (joined (take run.0 gs) ++ 58 ∷ 58 ∷ joined (drop (run.0 + run.1) gs))) ≡ Some (worth 65536 0 gs)) [
      | true ↦ λ e. plain-inverse gs h l
      | false ↦ λ e. run-inverse gs run.0 run.1 zeros (ltb-false run.1 2 e) h l
    ] refl

pub ipv6-inverse : (n : ℕ) → n < 2 ^ 128 → ipv6_of (ipv6_text n) ≡ Some n
ipv6-inverse n h =
    text-inverse (groups 8 n) (longest_run (groups 8 n)) (longest_run-zeros (groups 8 n)) (groups-below 8 n) (length-groups 8 n)
    ∙ ap (λ (m : ℕ). Some m) (worth-groups 8 n h)

-- ---- the bytes

bytes-run : (gs : List ℕ) (run : ℕ × ℕ) → IsRun gs run → Below 65536 gs → list_all is_six_byte (text_with_run gs run) ≡ true
bytes-run gs run zeros h =
    elim (nat_lt run.1 2) as (λ b. list_all is_six_byte (cond b (joined gs) (joined (take run.0 gs) ++ 58 ∷ 58 ∷ joined (drop (run.0 + run.1) gs))) ≡ true) [
      | true ↦ bytes-joined gs h
      | false ↦ all-append is_six_byte (joined (take run.0 gs)) (58 ∷ 58 ∷ joined (drop (run.0 + run.1) gs)) (bytes-joined (take run.0 gs) (below-before 65536 gs run.0 run.1 zeros h)) (bytes-joined (drop (run.0 + run.1) gs) (below-behind 65536 gs run.0 run.1 zeros h))
    ]

pub bytes-ipv6 : (n : ℕ) → list_all is_six_byte (ipv6_text n) ≡ true
bytes-ipv6 n = bytes-run (groups 8 n) (longest_run (groups 8 n)) (longest_run-zeros (groups 8 n)) (groups-below 8 n)

-- ---- the colons

abbrev pub colons : List ℕ → ℕ
colons [] = 0
colons (b ∷ bs) = cond (b == 58) (suc (colons bs)) (colons bs)

pub colons-append : (xs ys : List ℕ) → colons (xs ++ ys) ≡ colons xs + colons ys
colons-append [] ys = omega arith
colons-append (x ∷ xs) ys =
    let h = colons-append xs ys in
    elim (x == 58) as (λ b. cond b (suc (colons (xs ++ ys))) (colons (xs ++ ys)) ≡ cond b (suc (colons xs)) (colons xs) + colons ys) [ true ↦ omega (arith, h) | false ↦ h ]

pub colons-any : (xs : List ℕ) → 1 ≤ colons xs → list_any (λ b. b == 58) xs ≡ true
colons-any [] h = absurd (omega (arith, h))
colons-any (x ∷ xs) h = elim (x == 58) as (λ b. 1 ≤ cond b (suc (colons xs)) (colons xs) → (b || list_any (λ c. c == 58) xs) ≡ true) [ true ↦ λ k. refl | false ↦ λ k. colons-any xs k ] h

colons-joined : (gs : List ℕ) → length gs ≤ colons (joined gs) + 1
colons-joined [] = omega arith
colons-joined (g ∷ []) = omega arith
colons-joined (g ∷ x ∷ gs) =
    let more = colons-joined (x ∷ gs) in
    let e = colons-append (group_text g) (58 ∷ joined (x ∷ gs)) in
    omega (arith, more, e)

colons-run : (gs : List ℕ) (run : ℕ × ℕ) → length gs ≡ 8 → 2 ≤ colons (text_with_run gs run)
colons-run gs run l =
    elim (nat_lt run.1 2) as (λ b. 2 ≤ colons (cond b (joined gs) (joined (take run.0 gs) ++ 58 ∷ 58 ∷ joined (drop (run.0 + run.1) gs)))) [
      | true ↦ omega (arith, colons-joined gs, l)
      | false ↦ omega (arith, colons-append (joined (take run.0 gs)) (58 ∷ 58 ∷ joined (drop (run.0 + run.1) gs)))
    ]

pub colons-ipv6 : (n : ℕ) → 2 ≤ colons (ipv6_text n)
colons-ipv6 n = colons-run (groups 8 n) (longest_run (groups 8 n)) (length-groups 8 n)
