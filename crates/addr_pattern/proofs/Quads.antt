-- Texts of four numbers with dots between them.
use Rattle.std.proofs.Common.{ℕ, ◌≡◌, ◌≢◌, ◌≤◌, true, false, ◌==◌, ◌⊎◌, inl, inr, Option, Some, None, MatchOption, option_map, option_and_then, List, [], ◌∷◌, length, sym, ap, ◌∙◌, refl, arith}
use Rattle.std.specs.List.{list_all}
use Rattle.std.proofs.lemmas.Bool.Decides.{nat_tests}
use Rattle.addr_pattern.specs.AddressText.{is_digit, number_of_text, parts, map_parts, all_of, worth, ipv4_of, ipv4_of_octets}
use Rattle.addr_pattern.specs.Cuts.{Lacks, CutsFirst}
use Rattle.addr_pattern.proofs.Bytes.{lacks-all}
use Rattle.addr_pattern.proofs.Cutting.{parts-lacks, parts-cut}
use Rattle.addr_pattern.proofs.Numbers.{number-other}

-- a text lacks a byte, or is cut at the first
pub lacks_or_cut : (at : ℕ) (text : List ℕ) → Lacks at text ⊎ ((front : List ℕ) × (rest : List ℕ) × CutsFirst at text front rest)
lacks_or_cut at [] = inl tt
lacks_or_cut at (x ∷ xs) = elim (x == at) as (λ b. (x == at) ≡ b → Lacks at (x ∷ xs) ⊎ ((front : List ℕ) × (rest : List ℕ) × CutsFirst at (x ∷ xs) front rest)) [
  | true ↦ λ e. let q : x ≡ at = grind (arith, nat_tests, e) in inr ([], xs, record { lacks = tt; spelled = ap (λ z. z ∷ xs) q })
  | false ↦ λ e. let q : x ≢ at = (λ s. grind (arith, nat_tests, e, s)) in elim (lacks_or_cut at xs) [
    | inl h ↦ inl (q, h)
    | inr h ↦ let k = h.2 in inr (x ∷ h.0, h.1, record { lacks = (q, k.lacks); spelled = ap (λ zs. x ∷ zs) k.spelled })
  ]
] refl

pub parts-first : (at : ℕ) (text front rest : List ℕ) → CutsFirst at text front rest → parts at text ≡ front ∷ parts at rest
parts-first at text front rest h = ap (parts at) h.spelled ∙ parts-cut at front rest h.lacks

pub some_part : (at : ℕ) (text : List ℕ) → 1 ≤ length (parts at text)
some_part at text = elim (lacks_or_cut at text) [
  | inl h ↦ (rw (parts-lacks at text h) (omega arith))
  | inr h ↦ (rw (parts-first at text h.0 h.1 h.2) (omega arith))
]

length-map_parts : (f : List ℕ → Option ℕ) (ps : List (List ℕ)) → length (map_parts f ps) ≡ length ps
length-map_parts f [] = refl
length-map_parts f (p ∷ ps) = let h = length-map_parts f ps in omega (arith, h)

-- as many numbers as parts
length-all_of : (xs : List (Option ℕ)) → MatchOption (all_of xs) (Unit {0}) (λ ys. length ys ≡ length xs)
length-all_of [] = refl
length-all_of (None ∷ xs) = tt
length-all_of (Some x ∷ xs) =
    elim (all_of xs) as (λ o. MatchOption o (Unit {0}) (λ ys. length ys ≡ length xs) → MatchOption (option_map (λ ys. x ∷ ys) o) (Unit {0}) (λ ys. length ys ≡ length (Some x ∷ xs))) [
      | None ↦ λ h. tt
      | Some ys ↦ λ h. omega (arith, h)
    ] (length-all_of xs)

not-four : (xs : List (Option ℕ)) → length xs ≢ 4 → option_and_then ipv4_of_octets (all_of xs) ≡ None
not-four xs ne =
    elim (all_of xs) as (λ o. MatchOption o (Unit {0}) (λ ys. length ys ≡ length xs) → option_and_then ipv4_of_octets o ≡ None) [
      | None ↦ λ h. refl
      | Some ys ↦ λ h. let q : length ys ≢ 4 = (λ s. ne (sym h ∙ s)) in let e : (length ys == 4) ≡ false = grind (arith, nat_tests, q) in rw e refl
    ] (length-all_of xs)

quad-other : (text : List ℕ) → length (parts 46 text) ≢ 4 → ipv4_of text ≡ None
quad-other text ne = not-four (map_parts (number_of_text 255) (parts 46 text)) (λ e. ne (sym (length-map_parts (number_of_text 255) (parts 46 text)) ∙ e))

pub quad-one : (text : List ℕ) → Lacks 46 text → ipv4_of text ≡ None
quad-one text h = let e = ap length (parts-lacks 46 text h) in quad-other text (λ q. omega (arith, e, q))

pub quad-two : (text a r : List ℕ) → CutsFirst 46 text a r → Lacks 46 r → ipv4_of text ≡ None
quad-two text a r h k =
    let e = ap length (parts-first 46 text a r h) in
    let f = ap length (parts-lacks 46 r k) in
    quad-other text (λ q. omega (arith, e, f, q))

pub quad-three : (text a r b s : List ℕ) → CutsFirst 46 text a r → CutsFirst 46 r b s → Lacks 46 s → ipv4_of text ≡ None
quad-three text a r b s h k l =
    let e = ap length (parts-first 46 text a r h) in
    let f = ap length (parts-first 46 r b s k) in
    let g = ap length (parts-lacks 46 s l) in
    quad-other text (λ q. omega (arith, e, f, g, q))

-- numbers have no dot
pub lacks-number : (at limit : ℕ) (text : List ℕ) (n : ℕ) → is_digit at ≡ false → number_of_text limit text ≡ Some n → Lacks at text
lacks-number at limit text n d h =
    elim (list_all is_digit text) as (λ b. list_all is_digit text ≡ b → Lacks at text) [
      | true ↦ λ e. lacks-all is_digit at text d e
      | false ↦ λ e. let q = number-other limit text e in cc (q, h)
    ] refl

-- a text with three dots at least
four : (text a r b s c d : List ℕ) → CutsFirst 46 text a r → CutsFirst 46 r b s → CutsFirst 46 s c d → parts 46 text ≡ a ∷ b ∷ c ∷ parts 46 d
four text a r b s c d h k l =
    parts-first 46 text a r h ∙ ap (λ ps. a ∷ ps) (parts-first 46 r b s k ∙ ap (λ ps. b ∷ ps) (parts-first 46 s c d l))

abbrev quad : List (Option ℕ) → Option ℕ
quad xs = option_and_then ipv4_of_octets (all_of xs)

pub quad-first : (text a r b s c d : List ℕ) → CutsFirst 46 text a r → CutsFirst 46 r b s → CutsFirst 46 s c d → number_of_text 255 a ≡ None → ipv4_of text ≡ None
quad-first text a r b s c d h k l e =
    ap (λ ps. quad (map_parts (number_of_text 255) ps)) (four text a r b s c d h k l)
    ∙ ap (λ o. quad (o ∷ map_parts (number_of_text 255) (b ∷ c ∷ parts 46 d))) e

pub quad-second : (text a r b s c d : List ℕ) (x : ℕ) → CutsFirst 46 text a r → CutsFirst 46 r b s → CutsFirst 46 s c d → Some x ≡ number_of_text 255 a → number_of_text 255 b ≡ None → ipv4_of text ≡ None
quad-second text a r b s c d x h k l e f =
    ap (λ ps. quad (map_parts (number_of_text 255) ps)) (four text a r b s c d h k l)
    ∙ (ap (λ o. quad (o ∷ map_parts (number_of_text 255) (b ∷ c ∷ parts 46 d))) (sym e)
    ∙ ap (λ o. quad (Some x ∷ o ∷ map_parts (number_of_text 255) (c ∷ parts 46 d))) f)

pub quad-third : (text a r b s c d : List ℕ) (x y : ℕ) → CutsFirst 46 text a r → CutsFirst 46 r b s → CutsFirst 46 s c d → Some x ≡ number_of_text 255 a → Some y ≡ number_of_text 255 b → number_of_text 255 c ≡ None → ipv4_of text ≡ None
quad-third text a r b s c d x y h k l e f g =
    ap (λ ps. quad (map_parts (number_of_text 255) ps)) (four text a r b s c d h k l)
    ∙ (ap (λ o. quad (o ∷ map_parts (number_of_text 255) (b ∷ c ∷ parts 46 d))) (sym e)
    ∙ (ap (λ o. quad (Some x ∷ o ∷ map_parts (number_of_text 255) (c ∷ parts 46 d))) (sym f)
    ∙ ap (λ o. quad (Some x ∷ Some y ∷ o ∷ map_parts (number_of_text 255) (parts 46 d))) g))

quad-numbers : (text a r b s c d : List ℕ) (x y z : ℕ) → CutsFirst 46 text a r → CutsFirst 46 r b s → CutsFirst 46 s c d → Some x ≡ number_of_text 255 a → Some y ≡ number_of_text 255 b → Some z ≡ number_of_text 255 c
    → ipv4_of text ≡ quad (Some x ∷ Some y ∷ Some z ∷ map_parts (number_of_text 255) (parts 46 d))
quad-numbers text a r b s c d x y z h k l e f g =
    ap (λ ps. quad (map_parts (number_of_text 255) ps)) (four text a r b s c d h k l)
    ∙ (ap (λ o. quad (o ∷ map_parts (number_of_text 255) (b ∷ c ∷ parts 46 d))) (sym e)
    ∙ (ap (λ o. quad (Some x ∷ o ∷ map_parts (number_of_text 255) (c ∷ parts 46 d))) (sym f)
    ∙ ap (λ o. quad (Some x ∷ Some y ∷ o ∷ map_parts (number_of_text 255) (parts 46 d))) (sym g)))

pub quad-fourth : (text a r b s c d : List ℕ) (x y z : ℕ) → CutsFirst 46 text a r → CutsFirst 46 r b s → CutsFirst 46 s c d → Some x ≡ number_of_text 255 a → Some y ≡ number_of_text 255 b → Some z ≡ number_of_text 255 c
    → number_of_text 255 d ≡ None → ipv4_of text ≡ None
quad-fourth text a r b s c d x y z h k l e f g n = elim (lacks_or_cut 46 d) [
  | inl m ↦ quad-numbers text a r b s c d x y z h k l e f g
      ∙ (ap (λ ps. quad (Some x ∷ Some y ∷ Some z ∷ map_parts (number_of_text 255) ps)) (parts-lacks 46 d m)
      ∙ ap (λ o. quad (Some x ∷ Some y ∷ Some z ∷ o ∷ [])) n)
  | inr m ↦
      let p = ap length (four text a r b s c d h k l) in
      let q = ap length (parts-first 46 d m.0 m.1 m.2) in
      let w = some_part 46 m.1 in
      quad-other text (λ v. omega (arith, p, q, w, v))
]

pub quad-is : (text a r b s c d : List ℕ) (x y z w : ℕ) → CutsFirst 46 text a r → CutsFirst 46 r b s → CutsFirst 46 s c d → Some x ≡ number_of_text 255 a → Some y ≡ number_of_text 255 b → Some z ≡ number_of_text 255 c
    → Some w ≡ number_of_text 255 d → ipv4_of text ≡ Some (worth 256 0 (x ∷ y ∷ z ∷ w ∷ []))
quad-is text a r b s c d x y z w h k l e f g n =
    quad-numbers text a r b s c d x y z h k l e f g
    ∙ (ap (λ ps. quad (Some x ∷ Some y ∷ Some z ∷ map_parts (number_of_text 255) ps)) (parts-lacks 46 d (lacks-number 46 255 d w refl (sym n)))
    ∙ ap (λ o. quad (Some x ∷ Some y ∷ Some z ∷ o ∷ [])) (sym n))
