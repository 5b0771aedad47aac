-- What is left to read, byte by byte.
use Rattle.std.proofs.Common.{◌≡◌, ℕ, ◌+◌, Bool, true, false, true≢false, ◌||◌, ◌&&◌, not, ◌<◌, ◌≤◌, length, get_or, take, drop, zero, suc, add-one, drop-cons, cond, List, [], ◌∷◌, ◌++◌, map, Option, Some, None, ◌⊎◌, inl, inr, refl, sym, ap, ◌∙◌, subst, arith}
use Rattle.std.specs.List.{onto_first, list_all}
use Rattle.std.proofs.lemmas.Bool.Decides.{nat_tests}
use Rattle.std.proofs.lemmas.List.{nil_from_length, drop_all, take-append-drop}
use Rattle.std.proofs.lemmas.List.Splits.{slice_split-cons_yes, slice_split-cons_no}
use Rattle.conf_text.specs.Words.{Word, is_line_end, is_hash, is_blank, is_brace, is_readable, lines, said, word_of, words_of_lines, words_from, first_unreadable, unreadable_from}
use Rattle.conf_text.specs.Tokens.{is_word_byte, has_word_byte, IsAtWord}
use Rattle.conf_text.proofs.Spacing.{split_parts, said_hash, said_other, pieces_none, pieces_hash, pieces_blank, pieces_brace, pieces_word, word_byte_is, EndsWord}

abbrev pub behind_first : List (List ℕ) → List (List ℕ)
behind_first [] = []
behind_first (line ∷ more) = more

-- the words of a text of which the first line begins in a comment or not
unfoldable pub words_in : ℕ → Bool → List ℕ → List Word
words_in n false text = words_of_lines n (lines text)
words_in n true text = words_of_lines (n + 1) (behind_first (lines text))

-- the same for the first line that isn't readable
unfoldable pub unreadable_in : ℕ → Bool → List ℕ → Option ℕ
unreadable_in n false text = first_unreadable n (lines text)
unreadable_in n true text = first_unreadable (n + 1) (behind_first (lines text))

pub words_in_start : (n : ℕ) (text : List ℕ) → words_in n false text ≡ words_from n text
unfolding words_in words_from
words_in_start n text = refl

lines_end : (b : ℕ) (text : List ℕ) → is_line_end b ≡ true → lines (b ∷ text) ≡ [] ∷ lines text
unfolding lines
lines_end b text h = slice_split-cons_yes is_line_end b text h

lines_none : lines [] ≡ [] ∷ []
unfolding lines
lines_none = refl

-- the first line, and what is behind it
first_line : (text : List ℕ) → (line : List ℕ) × (more : List (List ℕ)) × (lines text ≡ line ∷ more)
unfolding lines
first_line text = split_parts is_line_end text

lines_other : (b : ℕ) (text line : List ℕ) (more : List (List ℕ)) → is_line_end b ≡ false → lines text ≡ line ∷ more → lines (b ∷ text) ≡ (b ∷ line) ∷ more
unfolding lines
lines_other b text line more h e = slice_split-cons_no is_line_end b text h ∙ ap (onto_first b) e

-- the words of a first line and of those behind it
abbrev both : ℕ → List (List ℕ) → List (List ℕ) → List Word
both n said_pieces more = map (word_of n) said_pieces ++ words_of_lines (n + 1) more

pub words_end : (n : ℕ) (comment : Bool) (b : ℕ) (text : List ℕ) → is_line_end b ≡ true → words_in n comment (b ∷ text) ≡ words_in (n + 1) false text
unfolding words_in
words_end n false b text h = ap (words_of_lines n) (lines_end b text h) ∙ ap (λ z. both n z (lines text)) pieces_none
words_end n true b text h = ap (λ z. words_of_lines (n + 1) (behind_first z)) (lines_end b text h)

pub words_hash : (n : ℕ) (comment : Bool) (b : ℕ) (text : List ℕ) → is_line_end b ≡ false → is_hash b ≡ true → words_in n comment (b ∷ text) ≡ words_in n true text
unfolding words_in
words_hash n comment b text h k = by_comment comment
  where
    r : (line : List ℕ) × (more : List (List ℕ)) × (lines text ≡ line ∷ more)
    r = first_line text

    by_comment : (c : Bool) → words_in n c (b ∷ text) ≡ words_in n true text
    by_comment false =
        ap (words_of_lines n) (lines_other b text r.0 r.1 h r.2)
        ∙ (ap (λ z. both n z r.1) (pieces_hash b r.0 k) ∙ ap (λ z. words_of_lines (n + 1) (behind_first z)) (sym r.2))
    by_comment true =
        ap (λ z. words_of_lines (n + 1) (behind_first z)) (lines_other b text r.0 r.1 h r.2 ∙ refl)
        ∙ ap (λ z. words_of_lines (n + 1) (behind_first z)) (sym r.2)

pub words_comment : (n : ℕ) (b : ℕ) (text : List ℕ) → is_line_end b ≡ false → words_in n true (b ∷ text) ≡ words_in n true text
unfolding words_in
words_comment n b text h =
    let r = first_line text in
    ap (λ z. words_of_lines (n + 1) (behind_first z)) (lines_other b text r.0 r.1 h r.2)
    ∙ ap (λ z. words_of_lines (n + 1) (behind_first z)) (sym r.2)

pub words_blank : (n : ℕ) (comment : Bool) (b : ℕ) (text : List ℕ) →
    is_line_end b ≡ false → is_hash b ≡ false → is_brace b ≡ false → is_blank b ≡ true → words_in n comment (b ∷ text) ≡ words_in n comment text
unfolding words_in
words_blank n true b text h i j k = words_comment n b text h
words_blank n false b text h i j k =
    let r = first_line text in
    ap (words_of_lines n) (lines_other b text r.0 r.1 h r.2)
    ∙ (ap (λ z. both n z r.1) (pieces_blank b r.0 i j k) ∙ ap (words_of_lines n) (sym r.2))

pub words_none : (n : ℕ) (comment : Bool) → words_in n comment [] ≡ []
unfolding words_in lines
words_none n false = ap (λ z. both n z []) pieces_none
words_none n true = refl

-- a brace is a word
pub words_brace : (n b : ℕ) (text : List ℕ) → is_brace b ≡ true → words_from n (b ∷ text) ≡ word_of n (b ∷ []) ∷ words_from n text
unfolding words_from
words_brace n b text k =
    let r = first_line text in
    let p : is_line_end b ≡ false = grind (arith, nat_tests) in
    let q : is_hash b ≡ false = grind (arith, nat_tests) in
    let s : is_blank b ≡ false = grind (arith, nat_tests) in
    ap (words_of_lines n) (lines_other b text r.0 r.1 p r.2)
    ∙ (ap (λ z. both n z r.1) (pieces_brace b r.0 q k s) ∙ ap (λ z. word_of n (b ∷ []) ∷ words_of_lines n z) (sym r.2))

lines_front : (word text line : List ℕ) (more : List (List ℕ)) → list_all is_word_byte word ≡ true → lines text ≡ line ∷ more → lines (word ++ text) ≡ (word ++ line) ∷ more
lines_front [] text line more h e = e
lines_front (b ∷ word) text line more h e =
    let q = and_parts (is_word_byte b) (list_all is_word_byte word) h in
    lines_other b (word ++ text) (word ++ line) more (word_byte_is b q.0).0 (lines_front word text line more q.1 e)
  where
    and_parts : (u v : Bool) → (u && v) ≡ true → (u ≡ true) × (v ≡ true)
    and_parts true true h = (refl, refl)
    and_parts true false h = absurd (true≢false (sym h))
    and_parts false v h = absurd (true≢false (sym h))

-- where no byte of a word stands first in a text, none does in its first line
ends_word : (text line : List ℕ) (more : List (List ℕ)) → has_word_byte text ≡ false → lines text ≡ line ∷ more → EndsWord line
ends_word [] line more h e = let q : [] ≡ line = cc (e, lines_none) in subst EndsWord q tt
ends_word (b ∷ text) line more h e = by_end (is_line_end b) refl
  where
    bools : (v w x : Bool) → not (false || v || w || x) ≡ false → (v || w || x) ≡ true
    bools true w x h = refl
    bools false true x h = refl
    bools false false true h = refl
    bools false false false h = absurd (true≢false h)

    by_end : (u : Bool) → is_line_end b ≡ u → EndsWord line
    by_end true p = let q : [] ≡ line = cc (e, lines_end b text p) in subst EndsWord q tt
    by_end false p =
        let r = first_line text in
        let q : b ∷ r.0 ≡ line = cc (e, lines_other b text r.0 r.1 p r.2) in
        subst EndsWord q (bools (is_hash b) (is_blank b) (is_brace b) (subst (λ v. not (v || is_hash b || is_blank b || is_brace b) ≡ false) p h))

-- bytes up to the end of a word are a word
pub words_word : (n b : ℕ) (word text : List ℕ) → list_all is_word_byte (b ∷ word) ≡ true → has_word_byte text ≡ false →
    words_from n ((b ∷ word) ++ text) ≡ word_of n (b ∷ word) ∷ words_from n text
unfolding words_from
words_word n b word text h k =
    let r = first_line text in
    ap (words_of_lines n) (lines_front (b ∷ word) text r.0 r.1 h r.2)
    ∙ (ap (λ z. both n z r.1) (pieces_word b word r.0 h (ends_word text r.0 r.1 k r.2)) ∙ ap (λ z. word_of n (b ∷ word) ∷ words_of_lines n z) (sym r.2))

pub drop_at : (xs : List ℕ) (i : ℕ) → i < length xs → drop i xs ≡ get_or xs i 0 ∷ drop (i + 1) xs
drop_at xs i h = rw add-one (drop-cons xs i 0 h)

pub words_at : (seen : List Word) (n : ℕ) (comment : Bool) (xs : List ℕ) (i : ℕ) → seen ≡ words_in n comment (drop i xs) → i < length xs →
    seen ≡ words_in n comment (get_or xs i 0 ∷ drop (i + 1) xs)
words_at seen n comment xs i same h = same ∙ ap (words_in n comment) (drop_at xs i h)

pub words_past : (n : ℕ) (comment : Bool) (xs : List ℕ) (i : ℕ) → length xs ≤ i → words_in n comment (drop i xs) ≡ []
words_past n comment xs i h = ap (words_in n comment) (drop_all i xs h) ∙ words_none n comment

-- the word that ends where the first byte stands that is none of a word
pub words_cut : (n b : ℕ) (text : List ℕ) (len : ℕ) → is_word_byte b ≡ true → list_all is_word_byte (take len (b ∷ text)) ≡ true → has_word_byte (drop len (b ∷ text)) ≡ false →
    (words_from n (b ∷ text) ≡ word_of n (take len (b ∷ text)) ∷ words_from n (drop len (b ∷ text))) × (0 < len)
words_cut n b text zero here h k = absurd (true≢false (sym here ∙ k))
words_cut n b text (suc len) here h k =
    (ap (λ (z : List ℕ). words_from n (b ∷ z)) (sym (take-append-drop len text)) ∙ words_word n b (take len text) (drop len text) h k, omega arith)

-- how far a text is readable, byte by byte
pub unreadable_start : (n : ℕ) (text : List ℕ) → unreadable_in n false text ≡ unreadable_from n text
unfolding unreadable_in unreadable_from
unreadable_start n text = refl

abbrev checked : ℕ → List ℕ → List (List ℕ) → Option ℕ
checked n saying more = cond (list_all is_readable saying) (first_unreadable (n + 1) more) (Some n)

said_none : said [] ≡ []
unfolding said
said_none = refl

pub unreadable_end : (n : ℕ) (comment : Bool) (b : ℕ) (text : List ℕ) → is_line_end b ≡ true → unreadable_in n comment (b ∷ text) ≡ unreadable_in (n + 1) false text
unfolding unreadable_in
unreadable_end n false b text h = ap (first_unreadable n) (lines_end b text h) ∙ ap (λ z. checked n z (lines text)) said_none
unreadable_end n true b text h = ap (λ z. first_unreadable (n + 1) (behind_first z)) (lines_end b text h)

pub unreadable_comment : (n : ℕ) (b : ℕ) (text : List ℕ) → is_line_end b ≡ false → unreadable_in n true (b ∷ text) ≡ unreadable_in n true text
unfolding unreadable_in
unreadable_comment n b text h =
    let r = first_line text in
    ap (λ z. first_unreadable (n + 1) (behind_first z)) (lines_other b text r.0 r.1 h r.2)
    ∙ ap (λ z. first_unreadable (n + 1) (behind_first z)) (sym r.2)

pub unreadable_hash : (n : ℕ) (comment : Bool) (b : ℕ) (text : List ℕ) → is_line_end b ≡ false → is_hash b ≡ true → unreadable_in n comment (b ∷ text) ≡ unreadable_in n true text
unfolding unreadable_in
unreadable_hash n true b text h k = unreadable_comment n b text h
unreadable_hash n false b text h k =
    let r = first_line text in
    ap (first_unreadable n) (lines_other b text r.0 r.1 h r.2)
    ∙ (ap (λ z. checked n z r.1) (said_hash b r.0 k) ∙ ap (λ z. first_unreadable (n + 1) (behind_first z)) (sym r.2))

pub unreadable_good : (n : ℕ) (comment : Bool) (b : ℕ) (text : List ℕ) → is_line_end b ≡ false → is_hash b ≡ false → is_readable b ≡ true →
    unreadable_in n comment (b ∷ text) ≡ unreadable_in n comment text
unfolding unreadable_in
unreadable_good n true b text h i k = unreadable_comment n b text h
unreadable_good n false b text h i k =
    let r = first_line text in
    ap (first_unreadable n) (lines_other b text r.0 r.1 h r.2)
    ∙ (ap (λ z. checked n z r.1) (said_other b r.0 i)
    ∙ (ap (λ v. cond (v && list_all is_readable (said r.0)) (first_unreadable (n + 1) r.1) (Some n)) k ∙ ap (first_unreadable n) (sym r.2)))

pub unreadable_bad : (n : ℕ) (b : ℕ) (text : List ℕ) → is_line_end b ≡ false → is_hash b ≡ false → is_readable b ≡ false → unreadable_in n false (b ∷ text) ≡ Some n
unfolding unreadable_in
unreadable_bad n b text h i k =
    let r = first_line text in
    ap (first_unreadable n) (lines_other b text r.0 r.1 h r.2)
    ∙ (ap (λ z. checked n z r.1) (said_other b r.0 i) ∙ ap (λ v. cond (v && list_all is_readable (said r.0)) (first_unreadable (n + 1) r.1) (Some n)) k)

pub unreadable_none : (n : ℕ) (comment : Bool) → unreadable_in n comment [] ≡ None
unfolding unreadable_in lines
unreadable_none n false = ap (λ z. checked n z []) said_none
unreadable_none n true = refl

pub unreadable_at : (found : Option ℕ) (n : ℕ) (comment : Bool) (xs : List ℕ) (i : ℕ) → found ≡ unreadable_in n comment (drop i xs) → i < length xs →
    found ≡ unreadable_in n comment (get_or xs i 0 ∷ drop (i + 1) xs)
unreadable_at found n comment xs i same h = same ∙ ap (unreadable_in n comment) (drop_at xs i h)

pub unreadable_past : (n : ℕ) (comment : Bool) (xs : List ℕ) (i : ℕ) → length xs ≤ i → unreadable_in n comment (drop i xs) ≡ None
unreadable_past n comment xs i h = ap (unreadable_in n comment) (drop_all i xs h) ∙ unreadable_none n comment

pub words_from_none : (n : ℕ) (text : List ℕ) → length text ≡ 0 → words_from n text ≡ []
words_from_none n text h = ap (words_from n) (nil_from_length text h) ∙ (sym (words_in_start n []) ∙ words_none n false)

at_word : (b : ℕ) → (is_line_end b || is_hash b || is_blank b) ≡ false → (b ≡ 123 → ⊥) → (b ≡ 125 → ⊥) → is_word_byte b ≡ true
at_word b h p q = by_brace (is_brace b) refl
  where
    by_brace : (v : Bool) → is_brace b ≡ v → is_word_byte b ≡ true
    by_brace false e = ap (λ u. not (u || is_brace b)) h ∙ ap not e
    by_brace true e = absurd (which (grind (arith, nat_tests)))
      where
        which : (b ≡ 123) ⊎ (b ≡ 125) → ⊥
        which (inl r) = p r
        which (inr r) = q r

-- the word at the front of a text that begins with one
pub first_cut : (n : ℕ) (rest : List ℕ) (b : ℕ) (behind : List ℕ) (len : ℕ) → rest ≡ b ∷ behind → (b ≡ 123 → ⊥) → (b ≡ 125 → ⊥) → IsAtWord rest →
    list_all is_word_byte (take len rest) ≡ true → has_word_byte (drop len rest) ≡ false →
    (words_from n rest ≡ word_of n (take len rest) ∷ words_from n (drop len rest)) × (0 < len)
first_cut n rest b behind len e p q at word whole =
    let cut : IsAtWord (b ∷ behind) → list_all is_word_byte (take len (b ∷ behind)) ≡ true → has_word_byte (drop len (b ∷ behind)) ≡ false →
    (words_from n (b ∷ behind) ≡ word_of n (take len (b ∷ behind)) ∷ words_from n (drop len (b ∷ behind))) × (0 < len)
    = λ here w h. words_cut n b behind len (at_word b here p q) w h in
    subst (λ (z : List ℕ). IsAtWord z → list_all is_word_byte (take len z) ≡ true → has_word_byte (drop len z) ≡ false →
    (words_from n z ≡ word_of n (take len z) ∷ words_from n (drop len z)) × (0 < len)) (sym e) cut at word whole
