-- Texts of IPv6: what stands before and behind `::`, and the groups between the colons.
use Rattle.std.proofs.Common.{ℕ, suc, ◌≡◌, ◌≤◌, ◌<◌, ◌+◌, Bool, true, false, ◌==◌, ◌&&◌, nat_le, nat_lt, inl, inr, Option, Some, None, option_map, List, [], ◌∷◌, ◌++◌, take, drop, get_or, length, length-append, length-drop, sym, ap, ◌∙◌, refl, arith, cond, append_assoc, append-nil}
use Rattle.std.specs.List.{list_any}
use Rattle.std.proofs.Math.Seq.{drop-cons}
use Rattle.std.proofs.lemmas.List.{take_more}
use Rattle.std.proofs.lemmas.Bool.Decides.{nat_tests}
use Rattle.addr_pattern.specs.AddressText.{hex_value, map_bytes, all_of, worth, cut_at_gap, push_front, parts, group_of, groups_of, groups_of_parts, both, filled, whole_groups, ipv6_cut, ipv6_of}
use Rattle.addr_pattern.specs.Cuts.{CutsFirst}
use Rattle.addr_pattern.specs.Groups.{at_most_eight, groups_onto}
use Rattle.addr_pattern.proofs.Cutting.{parts-lacks}
use Rattle.addr_pattern.proofs.Quads.{lacks_or_cut, parts-first}

abbrev pub behind_front : List ℕ → Option (List ℕ × List ℕ) → Option (List ℕ × List ℕ)
behind_front front None = None
behind_front front (Some x) = Some (front ++ x.0, x.1)

abbrev pub digits_from : ℕ → List ℕ → Option ℕ
digits_from n text = option_map (worth 16 n) (all_of (map_bytes hex_value text))

-- ---- the first `::`

behind_front-push : (xs : List ℕ) (x : ℕ) (o : Option (List ℕ × List ℕ)) → behind_front (xs ++ x ∷ []) o ≡ behind_front xs (push_front x o)
behind_front-push xs x None = refl
behind_front-push xs x (Some y) = ap (λ z. Some (z, y.1)) (append_assoc xs (x ∷ []) y.0)

abbrev gap_at : List ℕ → ℕ → Bool
gap_at text at = get_or text at 0 == 58 && get_or text (at + 1) 0 == 58

two-behind : (text : List ℕ) (at : ℕ) → at + 1 < length text → drop at text ≡ get_or text at 0 ∷ get_or text (at + 1) 0 ∷ drop (at + 2) text
two-behind text at h =
    let a = drop-cons text at 0 (omega arith) in
    let b = drop-cons text (suc at) 0 (omega arith) in
    let e : suc at ≡ at + 1 = omega arith in
    let f : suc (suc at) ≡ at + 2 = omega arith in
    a ∙ ap (λ z. get_or text at 0 ∷ z) (b ∙ (ap (λ n. get_or text n 0 ∷ drop (suc (suc at)) text) e ∙ ap (λ n. get_or text (at + 1) 0 ∷ drop n text) f))

pub gap-more : (text : List ℕ) (at : ℕ) → at + 1 < length text → gap_at text at ≡ false
    → behind_front (take at text) (cut_at_gap (drop at text)) ≡ behind_front (take (at + 1) text) (cut_at_gap (drop (at + 1) text))
gap-more text at h apart =
    let x = get_or text at 0 in
    let y = get_or text (at + 1) 0 in
    let rest = drop (at + 2) text in
    let here : cut_at_gap (drop at text) ≡ push_front x (cut_at_gap (y ∷ rest)) =
    ap cut_at_gap (two-behind text at h) ∙ ap (λ b. cond b (Some ([], rest)) (push_front x (cut_at_gap (y ∷ rest)))) apart in
    let e : suc (at + 1) ≡ at + 2 = omega arith in
    let next : drop (at + 1) text ≡ y ∷ rest = drop-cons text (at + 1) 0 h ∙ ap (λ n. y ∷ drop n text) e in
    ap (behind_front (take at text)) here
    ∙ (sym (behind_front-push (take at text) x (cut_at_gap (y ∷ rest)))
    ∙ (ap (λ z. behind_front z (cut_at_gap (y ∷ rest))) (sym (take_more text at 0 (omega arith)))
    ∙ ap (λ z. behind_front (take (at + 1) text) (cut_at_gap z)) (sym next)))

pub gap-found : (text : List ℕ) (at : ℕ) → at + 1 < length text → gap_at text at ≡ true
    → behind_front (take at text) (cut_at_gap (drop at text)) ≡ Some (take at text, drop (at + 2) text)
gap-found text at h here =
    let x = get_or text at 0 in
    let y = get_or text (at + 1) 0 in
    let rest = drop (at + 2) text in
    ap (λ z. behind_front (take at text) (cut_at_gap z)) (two-behind text at h)
    ∙ (ap (λ b. behind_front (take at text) (cond b (Some ([], rest)) (push_front x (cut_at_gap (y ∷ rest))))) here
    ∙ ap (λ z. Some (z, rest)) (append-nil (take at text)))

no-gap : (xs : List ℕ) → length xs ≤ 1 → cut_at_gap xs ≡ None
no-gap [] h = refl
no-gap (x ∷ []) h = refl
no-gap (x ∷ y ∷ xs) h = absurd (omega (arith, h))

pub gap-none : (text : List ℕ) (at : ℕ) → length text ≤ at + 1 → behind_front (take at text) (cut_at_gap (drop at text)) ≡ None
gap-none text at h =
    let e = length-drop at text in
    ap (behind_front (take at text)) (no-gap (drop at text) (omega (arith, e)))

-- ---- groups between colons

pub some_parts : (at : ℕ) (text : List ℕ) → (p : List ℕ) × (ps : List (List ℕ)) × (parts at text ≡ p ∷ ps)
some_parts at text = elim (lacks_or_cut at text) [
  | inl h ↦ (text, [], parts-lacks at text h)
  | inr h ↦ (h.0, parts at h.1, parts-first at text h.0 h.1 h.2)
]

pub groups-first : (text p r : List ℕ) → CutsFirst 58 text p r → groups_of_parts (parts 58 text) ≡ both (option_map (λ g. g ∷ []) (group_of p)) (groups_of_parts (parts 58 r))
groups-first text p r h =
    let m = some_parts 58 r in
    ap groups_of_parts (parts-first 58 text p r h ∙ ap (λ ps. p ∷ ps) m.2)
    ∙ ap (λ ps. both (option_map (λ g. g ∷ []) (group_of p)) (groups_of_parts ps)) (sym m.2)

pub onto-none : (gs : List ℕ) (o : Option (List ℕ)) → groups_onto gs (both None o) ≡ None
onto-none gs None = refl
onto-none gs (Some ys) = refl

pub onto-one : (gs : List ℕ) (g : ℕ) (o : Option (List ℕ)) → groups_onto gs (both (Some (g ∷ [])) o) ≡ groups_onto (gs ++ g ∷ []) o
onto-one gs g None = refl
onto-one gs g (Some ys) = ap (λ z. at_most_eight (Some z)) (sym (append_assoc gs (g ∷ []) ys))

past-eight : (xs : List ℕ) → at_most_eight (Some xs) ≡ None → nat_le (length xs) 8 ≡ false
past-eight xs h = elim (nat_le (length xs) 8) as (λ b. cond b (Some xs) None ≡ None → b ≡ false) [ true ↦ λ e. cc | false ↦ λ e. refl ] h

pub onto-full : (gs : List ℕ) (o : Option (List ℕ)) → at_most_eight (Some gs) ≡ None → groups_onto gs o ≡ None
onto-full gs None h = refl
onto-full gs (Some ys) h =
    let n = past-eight gs h in
    let l = length-append gs ys in
    let e : nat_le (length (gs ++ ys)) 8 ≡ false = grind (arith, nat_tests, n, l) in
    rw e refl

pub onto-nil : (o : Option (List ℕ)) → groups_onto [] o ≡ at_most_eight o
onto-nil None = refl
onto-nil (Some ys) = refl

pub groups_of-some : (text : List ℕ) → 0 < length text → groups_of text ≡ groups_of_parts (parts 58 text)
groups_of-some [] h = absurd (omega (arith, h))
groups_of-some (b ∷ bs) h = refl

-- ---- the whole address

pub eight-some : (o : Option (List ℕ)) (xs : List ℕ) → at_most_eight o ≡ Some xs → o ≡ Some xs
eight-some None xs h = cc
eight-some (Some ys) xs h = elim (nat_le (length ys) 8) as (λ b. cond b (Some ys) None ≡ Some xs → Some ys ≡ Some xs) [ true ↦ λ e. e | false ↦ λ e. cc ] h

pub eight-none : (o : Option (List ℕ)) → at_most_eight o ≡ None → whole_groups o ≡ None
eight-none None h = refl
eight-none (Some ys) h =
    let n = past-eight ys h in
    let e : (length ys == 8) ≡ false = grind (arith, nat_tests, n) in
    rw e refl

pub eight-left : (o p : Option (List ℕ)) → at_most_eight o ≡ None → filled o p ≡ None
eight-left None p h = refl
eight-left (Some ys) None h = refl
eight-left (Some ys) (Some zs) h =
    let n = past-eight ys h in
    let e : nat_lt (length ys + length zs) 8 ≡ false = grind (arith, nat_tests, n) in
    rw e refl

pub eight-right : (o p : Option (List ℕ)) → at_most_eight p ≡ None → filled o p ≡ None
eight-right None p h = refl
eight-right (Some ys) None h = refl
eight-right (Some ys) (Some zs) h =
    let n = past-eight zs h in
    let e : nat_lt (length ys + length zs) 8 ≡ false = grind (arith, nat_tests, n) in
    rw e refl

pub ipv6-whole : (text : List ℕ) → cut_at_gap text ≡ None → ipv6_of text ≡ option_map (worth 65536 0) (whole_groups (groups_of text))
ipv6-whole text h = ap (λ x. option_map (worth 65536 0) (ipv6_cut text x)) h

pub ipv6-gap : (text front back : List ℕ) → cut_at_gap text ≡ Some (front, back) → list_any (λ b. b == 46) front ≡ false
    → ipv6_of text ≡ option_map (worth 65536 0) (filled (groups_of front) (groups_of back))
ipv6-gap text front back h plain =
    ap (λ x. option_map (worth 65536 0) (ipv6_cut text x)) h
    ∙ ap (λ b. option_map (worth 65536 0) (filled (cond b None (groups_of front)) (groups_of back))) plain

pub eight-is : (xs ys : List ℕ) → at_most_eight (Some xs) ≡ Some ys → ys ≡ xs
eight-is xs ys h = let e = eight-some (Some xs) ys h in cc
