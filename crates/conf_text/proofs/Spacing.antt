-- What the pieces of a line are, byte by byte.
use Rattle.std.proofs.Common.{◌≡◌, ℕ, Bool, true, false, true≢false, not, cond, ◌||◌, ◌&&◌, List, [], ◌∷◌, ◌++◌, refl, sym, ap, ◌∙◌, arith}
use Rattle.std.specs.List.{slice_split, onto_first, take_while, filter, list_all}
use Rattle.std.proofs.lemmas.List.Sums.{take_while-cons}
use Rattle.std.proofs.lemmas.List.Splits.{slice_split-cons_yes, slice_split-cons_no}
use Rattle.std.proofs.lemmas.Bool.Decides.{nat_tests}
use Rattle.std.proofs.lemmas.List.{append-nil}
use Rattle.conf_text.specs.Words.{is_line_end, is_hash, is_blank, is_brace, said, spaced, is_some_text, pieces}
use Rattle.conf_text.specs.Tokens.{is_word_byte}

-- a text has a first part
pub split_parts : (p : ℕ → Bool) (bs : List ℕ) → (part : List ℕ) × (more : List (List ℕ)) × (slice_split p bs ≡ part ∷ more)
split_parts p [] = ([], [], refl)
split_parts p (b ∷ bs) =
    let r = split_parts p bs in
    elim (p b) as (λ v. (part : List ℕ) × (more : List (List ℕ)) × (cond v ([] ∷ slice_split p bs) (onto_first b (slice_split p bs)) ≡ part ∷ more))
    [ true ↦ ([], slice_split p bs, refl) | false ↦ (b ∷ r.0, r.1, ap (onto_first b) r.2) ]

pub said_hash : (b : ℕ) (line : List ℕ) → is_hash b ≡ true → said (b ∷ line) ≡ []
unfolding said
said_hash b line h =
    take_while-cons (λ x. not (is_hash x)) b line ∙ ap (λ v. cond (not v) (b ∷ take_while (λ x. not (is_hash x)) line) []) h

pub said_other : (b : ℕ) (line : List ℕ) → is_hash b ≡ false → said (b ∷ line) ≡ b ∷ said line
unfolding said
said_other b line h =
    take_while-cons (λ x. not (is_hash x)) b line ∙ ap (λ v. cond (not v) (b ∷ take_while (λ x. not (is_hash x)) line) []) h

-- what stands between blanks, empty parts too
abbrev pub parts : List ℕ → List (List ℕ)
parts line = slice_split is_blank (spaced (said line))

spaced_other : (b : ℕ) (line : List ℕ) → is_brace b ≡ false → spaced (b ∷ line) ≡ b ∷ spaced line
spaced_other b line h = ap (λ v. cond v (32 ∷ b ∷ 32 ∷ []) (b ∷ []) ++ spaced line) h

spaced_brace : (b : ℕ) (line : List ℕ) → is_brace b ≡ true → spaced (b ∷ line) ≡ 32 ∷ b ∷ 32 ∷ spaced line
spaced_brace b line h = ap (λ v. cond v (32 ∷ b ∷ 32 ∷ []) (b ∷ []) ++ spaced line) h

pub parts_hash : (b : ℕ) (line : List ℕ) → is_hash b ≡ true → parts (b ∷ line) ≡ [] ∷ []
parts_hash b line h = ap (λ z. slice_split is_blank (spaced z)) (said_hash b line h)

pub parts_blank : (b : ℕ) (line : List ℕ) → is_hash b ≡ false → is_brace b ≡ false → is_blank b ≡ true → parts (b ∷ line) ≡ [] ∷ parts line
parts_blank b line h k l =
    ap (λ z. slice_split is_blank (spaced z)) (said_other b line h)
    ∙ (ap (slice_split is_blank) (spaced_other b (said line) k) ∙ slice_split-cons_yes is_blank b (spaced (said line)) l)

pub parts_brace : (b : ℕ) (line : List ℕ) → is_hash b ≡ false → is_brace b ≡ true → is_blank b ≡ false → parts (b ∷ line) ≡ [] ∷ (b ∷ []) ∷ parts line
parts_brace b line h k l =
    ap (λ z. slice_split is_blank (spaced z)) (said_other b line h)
    ∙ (ap (slice_split is_blank) (spaced_brace b (said line) k)
    ∙ ap (λ z. [] ∷ z) (slice_split-cons_no is_blank b (32 ∷ spaced (said line)) l))

pub parts_word : (b : ℕ) (line : List ℕ) → is_hash b ≡ false → is_brace b ≡ false → is_blank b ≡ false → parts (b ∷ line) ≡ onto_first b (parts line)
parts_word b line h k l =
    ap (λ z. slice_split is_blank (spaced z)) (said_other b line h)
    ∙ (ap (slice_split is_blank) (spaced_other b (said line) k) ∙ slice_split-cons_no is_blank b (spaced (said line)) l)

pub pieces_none : pieces [] ≡ []
unfolding pieces said
pieces_none = refl

pub pieces_hash : (b : ℕ) (line : List ℕ) → is_hash b ≡ true → pieces (b ∷ line) ≡ []
unfolding pieces
pieces_hash b line h = ap (filter is_some_text) (parts_hash b line h)

pub pieces_blank : (b : ℕ) (line : List ℕ) → is_hash b ≡ false → is_brace b ≡ false → is_blank b ≡ true → pieces (b ∷ line) ≡ pieces line
unfolding pieces
pieces_blank b line h k l = ap (filter is_some_text) (parts_blank b line h k l)

pub pieces_brace : (b : ℕ) (line : List ℕ) → is_hash b ≡ false → is_brace b ≡ true → is_blank b ≡ false → pieces (b ∷ line) ≡ (b ∷ []) ∷ pieces line
unfolding pieces
pieces_brace b line h k l = ap (filter is_some_text) (parts_brace b line h k l)

-- what a word's byte is not
pub word_byte_is : (b : ℕ) → is_word_byte b ≡ true → (is_line_end b ≡ false) × (is_hash b ≡ false) × (is_blank b ≡ false) × (is_brace b ≡ false)
word_byte_is b h = (bools (is_line_end b) (is_hash b) (is_blank b) (is_brace b) h)
  where
    bools : (u v w x : Bool) → not (u || v || w || x) ≡ true → (u ≡ false) × (v ≡ false) × (w ≡ false) × (x ≡ false)
    bools false false false false h = (refl, refl, refl, refl)
    bools true v w x h = absurd (true≢false (sym h))
    bools false true w x h = absurd (true≢false (sym h))
    bools false false true x h = absurd (true≢false (sym h))
    bools false false false true h = absurd (true≢false (sym h))

-- a word stands before what follows in its line
parts_front : (word line part : List ℕ) (more : List (List ℕ)) → list_all is_word_byte word ≡ true → parts line ≡ part ∷ more → parts (word ++ line) ≡ (word ++ part) ∷ more
parts_front [] line part more h e = e
parts_front (b ∷ word) line part more h e =
    let both = and_both (is_word_byte b) (list_all is_word_byte word) h in
    let q = word_byte_is b both.0 in
    parts_word b (word ++ line) q.1 q.3 q.2 ∙ ap (onto_first b) (parts_front word line part more both.1 e)
  where
    and_both : (u v : Bool) → (u && v) ≡ true → (u ≡ true) × (v ≡ true)
    and_both true true h = (refl, refl)
    and_both true false h = absurd (true≢false (sym h))
    and_both false v h = absurd (true≢false (sym h))

-- no byte of a word stands first in the line
abbrev pub EndsWord : List ℕ → Type 0
EndsWord [] = Unit {0}
EndsWord (b ∷ line) = (is_hash b || is_blank b || is_brace b) ≡ true

pub blank_no_brace : (b : ℕ) → is_blank b ≡ true → is_brace b ≡ false
blank_no_brace b h = grind (arith, nat_tests)

behind_by : (b : ℕ) (line : List ℕ) (u v w : Bool) → is_hash b ≡ u → is_blank b ≡ v → is_brace b ≡ w → (u || v || w) ≡ true → (more : List (List ℕ)) × (parts (b ∷ line) ≡ [] ∷ more)
behind_by b line true v w p q r h = ([], parts_hash b line p)
behind_by b line false true w p q r h = (parts line, parts_blank b line p (blank_no_brace b q) q)
behind_by b line false false true p q r h = ((b ∷ []) ∷ parts line, parts_brace b line p r q)
behind_by b line false false false p q r h = absurd (true≢false (sym h))

parts_behind : (line : List ℕ) → EndsWord line → (more : List (List ℕ)) × (parts line ≡ [] ∷ more)
unfolding said
parts_behind [] h = ([], refl)
parts_behind (b ∷ line) h = behind_by b line (is_hash b) (is_blank b) (is_brace b) refl refl refl h

pub pieces_word : (b : ℕ) (word line : List ℕ) → list_all is_word_byte (b ∷ word) ≡ true → EndsWord line → pieces ((b ∷ word) ++ line) ≡ (b ∷ word) ∷ pieces line
unfolding pieces
pieces_word b word line h k =
    let r = parts_behind line k in
    ap (filter is_some_text) (parts_front (b ∷ word) line [] r.0 h r.1)
    ∙ (ap (λ (z : List ℕ). (b ∷ z) ∷ filter is_some_text r.0) (append-nil word)
    ∙ ap (λ (z : List (List ℕ)). (b ∷ word) ∷ z) (sym (ap (filter is_some_text) r.1)))
