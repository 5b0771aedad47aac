-- Groups in hexadecimal digits, written and read again.
use Rattle.std.proofs.Common.{ℕ, suc, ◌≡◌, ◌<◌, ◌≤◌, ◌+◌, ◌-◌, ◌/◌, ◌%◌, Bool, true, false, ◌&&◌, ◌||◌, nat_le, inl, inr, Some, None, option_map, List, [], ◌∷◌, map, length, ap, ◌∙◌, refl, arith, cond}
use Rattle.std.specs.List.{list_all}
use Rattle.std.proofs.lemmas.Bool.{cases_lt, lt-ltb, le-ltb, le-leb, and_from}
use Rattle.std.proofs.lemmas.List.{length-map}
use Rattle.std.proofs.lemmas.Bool.Decides.{nat_tests}
use Rattle.addr_pattern.specs.AddressText.{is_digit, hex_digit, hex_value, hex_onto, map_bytes, all_of, worth, group_of, group_text}
use Rattle.addr_pattern.proofs.Bytes.{all-cons}

abbrev pub is_hex : ℕ → Bool
is_hex b = is_digit b || nat_le 97 b && nat_le b 102

-- each number is below the first
abbrev pub Below : ℕ → List ℕ → Type 0
Below n [] = Unit {0}
Below n (x ∷ xs) = (x < n) × Below n xs

hex_digit-small : (d : ℕ) → d < 10 → hex_digit d ≡ 48 + d
hex_digit-small d h = rw (lt-ltb d 10 h) refl

hex_digit-large : (d : ℕ) → 10 ≤ d → hex_digit d ≡ 87 + d
hex_digit-large d h = rw (le-ltb d 10 h) refl

value-of-small : (b d : ℕ) → b ≡ 48 + d → d < 10 → hex_value b ≡ Some d
value-of-small b d e h =
    let digit : is_digit b ≡ true = grind (arith, nat_tests) in
    let value : b - 48 ≡ d = omega arith in
    rw digit (ap (λ (n : ℕ). Some n) value)

value-of-large : (b d : ℕ) → b ≡ 87 + d → 10 ≤ d → d < 16 → hex_value b ≡ Some d
value-of-large b d e h k =
    let digit : is_digit b ≡ false = grind (arith, nat_tests) in
    let letter : (nat_le 97 b && nat_le b 102) ≡ true = grind (arith, nat_tests) in
    let value : b - 87 ≡ d = omega arith in
    rw digit (rw letter (ap (λ (n : ℕ). Some n) value))

pub hex_value-digit : (d : ℕ) → d < 16 → hex_value (hex_digit d) ≡ Some d
hex_value-digit d h = elim (cases_lt d 10) [
  | inl small ↦ value-of-small (hex_digit d) d (hex_digit-small d small) small
  | inr large ↦ value-of-large (hex_digit d) d (hex_digit-large d large) large h
]

is_hex-small : (b d : ℕ) → b ≡ 48 + d → d < 10 → is_hex b ≡ true
is_hex-small b d e h = grind (arith, nat_tests)

is_hex-large : (b d : ℕ) → b ≡ 87 + d → 10 ≤ d → d < 16 → is_hex b ≡ true
is_hex-large b d e h k = grind (arith, nat_tests)

pub is_hex-digit : (d : ℕ) → d < 16 → is_hex (hex_digit d) ≡ true
is_hex-digit d h = elim (cases_lt d 10) [
  | inl small ↦ is_hex-small (hex_digit d) d (hex_digit-small d small) small
  | inr large ↦ is_hex-large (hex_digit d) d (hex_digit-large d large) large h
]

-- ---- digits in a row

abbrev hex_digits : List ℕ → List ℕ
hex_digits ds = map hex_digit ds

digits-read : (ds : List ℕ) → Below 16 ds → all_of (map_bytes hex_value (hex_digits ds)) ≡ Some ds
digits-read [] h = refl
digits-read (d ∷ ds) h =
    ap (λ o. all_of (o ∷ map_bytes hex_value (hex_digits ds))) (hex_value-digit d h.0)
    ∙ ap (option_map (λ (ys : List ℕ). d ∷ ys)) (digits-read ds h.1)

digits-hex : (ds : List ℕ) → Below 16 ds → list_all is_hex (hex_digits ds) ≡ true
digits-hex [] h = refl
digits-hex (d ∷ ds) h = all-cons is_hex (hex_digit d) (hex_digits ds) (is_hex-digit d h.0) (digits-hex ds h.1)

-- a text of one to four digits, which is read as the number
pub record IsGroupText (g : ℕ) (text : List ℕ) : Type 0 where
  pub read : group_of text ≡ Some g
  pub hex : list_all is_hex text ≡ true
  pub some : 1 ≤ length text

group-digits : (g : ℕ) (ds text : List ℕ) → text ≡ hex_digits ds → 1 ≤ length ds → length ds ≤ 4 → Below 16 ds → worth 16 0 ds ≡ g → IsGroupText g text
group-digits g ds text e some few h is =
    let l = ap length e ∙ length-map ds hex_digit in
    let low = le-leb 1 (length text) (omega (arith, l, some)) in
    let high = le-leb (length text) 4 (omega (arith, l, few)) in
    record {
      read = ap (λ b. cond b (option_map (worth 16 0) (all_of (map_bytes hex_value text))) None) (and_from (nat_le 1 (length text)) (nat_le (length text) 4) low high)
          ∙ (ap (λ (t : List ℕ). option_map (worth 16 0) (all_of (map_bytes hex_value t))) e
          ∙ (ap (option_map (worth 16 0)) (digits-read ds h) ∙ ap (λ (n : ℕ). Some n) is));
      hex = ap (list_all is_hex) e ∙ digits-hex ds h;
      some = omega (arith, l, some);
    }

onto-last : (k n : ℕ) (text : List ℕ) → n < 16 → hex_onto (suc k) n text ≡ hex_digit n ∷ text
onto-last k n text h = ap (λ b. elim b [ true ↦ hex_digit n ∷ text | false ↦ hex_onto k (n / 16) (hex_digit (n % 16) ∷ text) ]) (lt-ltb n 16 h)

onto-more : (k n : ℕ) (text : List ℕ) → 16 ≤ n → hex_onto (suc k) n text ≡ hex_onto k (n / 16) (hex_digit (n % 16) ∷ text)
onto-more k n text h = ap (λ b. elim b [ true ↦ hex_digit n ∷ text | false ↦ hex_onto k (n / 16) (hex_digit (n % 16) ∷ text) ]) (le-ltb n 16 h)

-- what is written of a group is read as that group
pub group-inverse : (g : ℕ) → g < 65536 → IsGroupText g (group_text g)
group-inverse g h =
    let a = g / 16 / 16 / 16 in
    let b = g / 16 / 16 in
    let c = g / 16 in
    elim (cases_lt g 16) [
      | inl one ↦ group-digits g (g ∷ []) (group_text g) (onto-last 3 g [] one) (omega arith) (omega arith) (one, tt) (omega arith)
      | inr more ↦ elim (cases_lt (g / 16) 16) [
        | inl two ↦ group-digits g (c ∷ g % 16 ∷ []) (group_text g) (onto-more 3 g _ more ∙ onto-last 2 c _ two) (omega arith) (omega arith) (two, (omega arith, tt)) (omega arith)
        | inr larger ↦ elim (cases_lt (g / 16 / 16) 16) [
          | inl three ↦ group-digits g (b ∷ c % 16 ∷ g % 16 ∷ []) (group_text g) (onto-more 3 g _ more ∙ (onto-more 2 c _ larger ∙ onto-last 1 b _ three))
              (omega arith) (omega arith) (three, (omega arith, (omega arith, tt))) (omega arith)
          | inr four ↦ group-digits g (a ∷ b % 16 ∷ c % 16 ∷ g % 16 ∷ []) (group_text g) (onto-more 3 g _ more ∙ (onto-more 2 c _ larger ∙ (onto-more 1 b _ four ∙ onto-last 0 a _ (omega arith))))
              (omega arith) (omega arith) (omega arith, (omega arith, (omega arith, (omega arith, tt)))) (omega arith)
        ]
      ]
    ]
