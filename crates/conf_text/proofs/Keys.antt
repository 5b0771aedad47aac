-- The word that a piece is.
use Rattle.std.proofs.Common.{◌≡◌, ℕ, ◌-◌, ◌==◌, Bool, true, false, true≢false, ◌&&◌, cond, List, [], ◌∷◌, ◌++◌, length, take, refl, sym, ap, ◌∙◌, subst, arith, length-append}
use Rattle.std.specs.List.{list_all}
use Rattle.std.proofs.lemmas.Bool.Decides.{nat_tests}
use Rattle.std.proofs.lemmas.List.{get_or_push, nil_from_length}
use Rattle.std.proofs.Math.Seq.{take-append_seam}
use Rattle.conf_text.specs.Words.{Open, Close, Key, Value, is_name, is_key, is_byte, name_of, word_of}
use Rattle.conf_text.specs.Tokens.{is_word_byte}

pub open_word : (n : ℕ) → word_of n (123 ∷ []) ≡ Open n
unfolding word_of
open_word n = refl

pub close_word : (n : ℕ) → word_of n (125 ∷ []) ≡ Close n
unfolding word_of
close_word n = refl

no_brace : (c : ℕ) (piece : List ℕ) → is_word_byte c ≡ false → list_all is_word_byte piece ≡ true → is_byte c piece ≡ false
no_brace c [] k h = refl
no_brace c (b ∷ []) k h = by_test (b == c) refl
  where
    by_test : (v : Bool) → (b == c) ≡ v → (b == c) ≡ false
    by_test false e = e
    by_test true e =
        let q : b ≡ c = grind (arith, nat_tests) in
        let p : is_word_byte b ≡ false = subst (λ (z : ℕ). is_word_byte z ≡ false) (sym q) k in
        absurd (true≢false (sym h ∙ ap (λ v. v && true) p))
no_brace c (b ∷ d ∷ piece) k h = refl

word_is : (n : ℕ) (piece : List ℕ) → list_all is_word_byte piece ≡ true → word_of n piece ≡ cond (is_key piece) (Key n (name_of piece)) (Value n piece)
unfolding word_of
word_is n piece h =
    ap (λ v. cond v (Open n) (cond (is_byte 125 piece) (Close n) (cond (is_key piece) (Key n (name_of piece)) (Value n piece)))) (no_brace 123 piece refl h)
    ∙ ap (λ v. cond v (Close n) (cond (is_key piece) (Key n (name_of piece)) (Value n piece))) (no_brace 125 piece refl h)

last_place : (name : List ℕ) (b : ℕ) → length (name ++ b ∷ []) - 1 ≡ length name
last_place name b = omega (arith, length-append name (b ∷ []))

name_is : (name : List ℕ) (b : ℕ) → name_of (name ++ b ∷ []) ≡ name
name_is name b = ap (λ (k : ℕ). take k (name ++ b ∷ [])) (last_place name b) ∙ take-append_seam name (b ∷ [])

key_is : (name : List ℕ) (b : ℕ) → is_key (name ++ b ∷ []) ≡ (b == 58 && is_name name)
key_is name b =
    ap (λ (z : ℕ). z == 58 && is_name (name_of (name ++ b ∷ []))) (get_or_push name b 0 (length (name ++ b ∷ []) - 1) (sym (last_place name b)))
    ∙ ap (λ (z : List ℕ). b == 58 && is_name z) (name_is name b)

pub key_word : (n : ℕ) (piece name : List ℕ) → list_all is_word_byte piece ≡ true → piece ≡ name ++ 58 ∷ [] → is_name name ≡ true → Key n name ≡ word_of n piece
key_word n piece name h e k =
    let key : is_key piece ≡ true = ap is_key e ∙ (key_is name 58 ∙ k) in
    let at : name_of piece ≡ name = ap name_of e ∙ name_is name 58 in
    sym (word_is n piece h ∙ (ap (λ v. cond v (Key n (name_of piece)) (Value n piece)) key ∙ ap (Key n) at))

-- a piece is a value where it is empty, ends otherwise, or has no name before its end
pub value_word : (n : ℕ) (piece : List ℕ) → list_all is_word_byte piece ≡ true → is_key piece ≡ false → Value n piece ≡ word_of n piece
value_word n piece h k = sym (word_is n piece h ∙ ap (λ v. cond v (Key n (name_of piece)) (Value n piece)) k)

pub no_key : (piece name : List ℕ) (b : ℕ) → piece ≡ name ++ b ∷ [] → (b == 58 && is_name name) ≡ false → is_key piece ≡ false
no_key piece name b e k = ap is_key e ∙ (key_is name b ∙ k)

pub other_end : (b : ℕ) (name : List ℕ) → (b ≡ 58 → ⊥) → (b == 58 && is_name name) ≡ false
other_end b name h = by_test (b == 58) refl
  where
    by_test : (v : Bool) → (b == 58) ≡ v → (b == 58 && is_name name) ≡ false
    by_test false e = ap (λ v. v && is_name name) e
    by_test true e = let q : b ≡ 58 = grind (arith, nat_tests) in absurd (h q)

pub no_name : (b : ℕ) (name : List ℕ) → is_name name ≡ false → (b == 58 && is_name name) ≡ false
no_name b name h = ap (λ v. b == 58 && v) h ∙ and_false (b == 58)
  where
    and_false : (v : Bool) → (v && false) ≡ false
    and_false true = refl
    and_false false = refl

pub empty_is_value : (piece : List ℕ) → length piece ≡ 0 → is_key piece ≡ false
empty_is_value piece h = ap is_key (nil_from_length piece h)
