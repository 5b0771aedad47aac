-- The words of lines that follow one another.
use Rattle.std.proofs.Common.{◌≡◌, ℕ, ◌+◌, Bool, true, false, true≢false, ◌&&◌, not, cond, List, [], ◌∷◌, ◌++◌, map, Some, None, refl, sym, ap, ◌∙◌, arith, append_assoc, append-nil}
use Rattle.std.proofs.lemmas.Bool.{and_from, and_parts}
use Rattle.std.specs.List.{AllByRecursion, onto_first, list_all, join_with_byte}
use Rattle.std.proofs.lemmas.List.Splits.{slice_split-cons_yes, slice_split-cons_no}
use Rattle.std.proofs.lemmas.List.{map-append}
use Rattle.std.proofs.lemmas.List.Folds.{list_all-append}
use Rattle.std.proofs.lemmas.Bool.Decides.{nat_tests}
use Rattle.conf_text.specs.Words.{Word, Open, Close, Key, Value, is_line_end, is_hash, is_readable, is_some_text, is_name, is_key, lines, said, pieces, word_of, words_of_lines, words_from, first_unreadable, unreadable_from}
use Rattle.conf_text.specs.Tokens.{is_word_byte}
use Rattle.conf_text.proofs.Keys.{open_word, close_word, key_word, value_word}
use Rattle.conf_text.proofs.Spacing.{EndsWord, said_hash, said_other, pieces_none, pieces_blank, pieces_brace, pieces_word}

-- lines, each with its end
abbrev pub text_of : List (List ℕ) → List ℕ
text_of [] = []
text_of (line ∷ lines) = line ++ 10 ∷ text_of lines

-- ---- lines

no_end : (b : ℕ) → is_readable b ≡ true → is_line_end b ≡ false
no_end b h = grind (arith, nat_tests)

-- the first line ends at the first line's end
lines_front : (line text : List ℕ) → list_all is_readable line ≡ true → lines (line ++ 10 ∷ text) ≡ line ∷ lines text
unfolding lines
lines_front [] text h = slice_split-cons_yes is_line_end 10 text refl
lines_front (b ∷ line) text h =
    let q = and_parts (is_readable b) (list_all is_readable line) h in
    slice_split-cons_no is_line_end b (line ++ 10 ∷ text) (no_end b q.0) ∙ ap (onto_first b) (lines_front line text q.1)

lines_none : lines [] ≡ [] ∷ []
unfolding lines
lines_none = refl

readable_by_hash : (b : ℕ) (line : List ℕ) (v : Bool) → is_hash b ≡ v → is_readable b ≡ true → list_all is_readable (said line) ≡ true → list_all is_readable (said (b ∷ line)) ≡ true
readable_by_hash b line true e h k = ap (list_all is_readable) (said_hash b line e)
readable_by_hash b line false e h k = ap (list_all is_readable) (said_other b line e) ∙ and_from (is_readable b) (list_all is_readable (said line)) h k

said_readable : (line : List ℕ) → list_all is_readable line ≡ true → list_all is_readable (said line) ≡ true
unfolding said
said_readable [] h = refl
said_readable (b ∷ line) h =
    let q = and_parts (is_readable b) (list_all is_readable line) h in
    readable_by_hash b line (is_hash b) refl q.0 (said_readable line q.1)

words_first : (n : ℕ) (line text : List ℕ) → list_all is_readable line ≡ true → words_from n (line ++ 10 ∷ text) ≡ map (word_of n) (pieces line) ++ words_from (n + 1) text
unfolding words_from
words_first n line text h = ap (words_of_lines n) (lines_front line text h)

unreadable_first : (n : ℕ) (line text : List ℕ) → list_all is_readable line ≡ true → unreadable_from n (line ++ 10 ∷ text) ≡ unreadable_from (n + 1) text
unfolding unreadable_from
unreadable_first n line text h =
    ap (first_unreadable n) (lines_front line text h) ∙ ap (λ v. cond v (first_unreadable (n + 1) (lines text)) (Some n)) (said_readable line h)

-- a line of readable bytes
pub record IsLine (line : List ℕ) : Type 0 where
  pub readable : list_all is_readable line ≡ true

no_words : (n : ℕ) → words_from n [] ≡ []
unfolding words_from
no_words n = ap (words_of_lines n) lines_none ∙ ap (λ (z : List (List ℕ)). map (word_of n) z ++ []) pieces_none

none_unreadable : (n : ℕ) → unreadable_from n [] ≡ None
unfolding unreadable_from said
none_unreadable n = ap (first_unreadable n) lines_none

-- the words of a text of lines are those of the lines
pub words_of_text : (n : ℕ) (ls : List (List ℕ)) → AllByRecursion IsLine ls → words_from n (text_of ls) ≡ words_of_lines n ls
words_of_text n [] h = no_words n
words_of_text n (line ∷ ls) h = words_first n line (text_of ls) h.0.readable ∙ ap (λ (z : List Word). map (word_of n) (pieces line) ++ z) (words_of_text (n + 1) ls h.1)

pub text_readable : (n : ℕ) (ls : List (List ℕ)) → AllByRecursion IsLine ls → unreadable_from n (text_of ls) ≡ None
text_readable n [] h = none_unreadable n
text_readable n (line ∷ ls) h = unreadable_first n line (text_of ls) h.0.readable ∙ text_readable (n + 1) ls h.1

-- ---- words

-- a word that is no key
pub record IsValue (word : List ℕ) : Type 0 where
  pub some : is_some_text word ≡ true
  pub bytes : list_all is_word_byte word ≡ true
  pub readable : list_all is_readable word ≡ true
  pub no_key : is_key word ≡ false

-- a word that is a key before a colon
pub record IsKeyName (key : List ℕ) : Type 0 where
  pub bytes : list_all is_word_byte key ≡ true
  pub readable : list_all is_readable key ≡ true
  pub name : is_name key ≡ true

-- a word that is known is tested as it stands
pub known_value : (word : List ℕ) → (is_some_text word && list_all is_word_byte word && list_all is_readable word && not (is_key word)) ≡ true → IsValue word
known_value word h =
    let q = and_parts (is_some_text word && list_all is_word_byte word && list_all is_readable word) (not (is_key word)) h in
    let r = and_parts (is_some_text word && list_all is_word_byte word) (list_all is_readable word) q.0 in
    let s = and_parts (is_some_text word) (list_all is_word_byte word) r.0 in
    record { some = s.0; bytes = s.1; readable = r.1; no_key = not_true (is_key word) q.1 }
  where
    not_true : (v : Bool) → not v ≡ true → v ≡ false
    not_true false k = refl
    not_true true k = absurd (true≢false (sym k))

pub known_key : (key : List ℕ) → (list_all is_word_byte key && list_all is_readable key && is_name key) ≡ true → IsKeyName key
known_key key h =
    let q = and_parts (list_all is_word_byte key && list_all is_readable key) (is_name key) h in
    let r = and_parts (list_all is_word_byte key) (list_all is_readable key) q.0 in
    record { bytes = r.0; readable = r.1; name = q.1 }

pieces_one : (word rest : List ℕ) → is_some_text word ≡ true → list_all is_word_byte word ≡ true → EndsWord rest → pieces (word ++ rest) ≡ word ∷ pieces rest
pieces_one [] rest some h k = absurd (true≢false (sym some))
pieces_one (b ∷ word) rest some h k = pieces_word b word rest h k

-- words with a blank between each two are the pieces before what ends them
pieces_words : (words : List (List ℕ)) (rest : List ℕ) → AllByRecursion IsValue words → EndsWord rest → pieces (join_with_byte 32 words ++ rest) ≡ words ++ pieces rest
pieces_words [] rest h k = refl
pieces_words (word ∷ []) rest h k = pieces_one word rest h.0.some h.0.bytes k
pieces_words (word ∷ next ∷ words) rest h k =
    let more = join_with_byte 32 (next ∷ words) ++ rest in
    ap pieces (append_assoc word (32 ∷ join_with_byte 32 (next ∷ words)) rest)
    ∙ (pieces_one word (32 ∷ more) h.0.some h.0.bytes refl
    ∙ ap (λ (z : List (List ℕ)). word ∷ z) (pieces_blank 32 more refl refl refl ∙ pieces_words (next ∷ words) rest h.1 k))

words_are_values : (n : ℕ) (words : List (List ℕ)) → AllByRecursion IsValue words → map (word_of n) words ≡ map (Value n) words
words_are_values n [] h = refl
words_are_values n (word ∷ words) h =
    let a : word_of n word ≡ Value n word = sym (value_word n word h.0.bytes h.0.no_key) in
    let b : map (word_of n) words ≡ map (Value n) words = words_are_values n words h.1 in
    cc

-- `key: value ..`
abbrev pub entry : List ℕ → List ℕ → List ℕ
entry key value = key ++ 58 ∷ 32 ∷ value

key_piece : (key : List ℕ) → IsKeyName key → (is_some_text (key ++ 58 ∷ []) ≡ true) × (list_all is_word_byte (key ++ 58 ∷ []) ≡ true)
key_piece [] h = absurd (true≢false (sym h.name))
key_piece (b ∷ key) h = (refl, list_all-append is_word_byte (b ∷ key) (58 ∷ []) ∙ and_from (list_all is_word_byte (b ∷ key)) true h.bytes refl)

pub words_of_entry : (n : ℕ) (key : List ℕ) (values : List (List ℕ)) → IsKeyName key → AllByRecursion IsValue values →
    map (word_of n) (pieces (entry key (join_with_byte 32 values))) ≡ Key n key ∷ map (Value n) values
words_of_entry n key values h k =
    let value = join_with_byte 32 values in
    let piece = key_piece key h in
    let behind : pieces (32 ∷ value) ≡ values = pieces_blank 32 value refl refl refl ∙ (ap pieces (sym (append-nil value)) ∙ (pieces_words values [] k tt ∙ (ap (λ (z : List (List ℕ)). values ++ z) pieces_none ∙ append-nil values))) in
    let all : pieces (entry key value) ≡ (key ++ 58 ∷ []) ∷ values =
    ap pieces (sym (append_assoc key (58 ∷ []) (32 ∷ value))) ∙ (pieces_one (key ++ 58 ∷ []) (32 ∷ value) piece.0 piece.1 refl ∙ ap (λ (z : List (List ℕ)). (key ++ 58 ∷ []) ∷ z) behind) in
    let first : word_of n (key ++ 58 ∷ []) ≡ Key n key = sym (key_word n (key ++ 58 ∷ []) key piece.1 refl h.name) in
    let others : map (word_of n) values ≡ map (Value n) values = words_are_values n values k in
    ap (map (word_of n)) all ∙ cc

-- two blanks before an entry are none of its words
pub pieces_inner : (line : List ℕ) → pieces (32 ∷ 32 ∷ line) ≡ pieces line
pieces_inner line = pieces_blank 32 (32 ∷ line) refl refl refl ∙ pieces_blank 32 line refl refl refl

pub words_of_head : (n : ℕ) (words : List (List ℕ)) → AllByRecursion IsValue words → map (word_of n) (pieces (join_with_byte 32 words ++ 32 ∷ 123 ∷ [])) ≡ map (Value n) words ++ Open n ∷ []
words_of_head n words h =
    let brace : pieces (32 ∷ 123 ∷ []) ≡ (123 ∷ []) ∷ [] = pieces_blank 32 (123 ∷ []) refl refl refl ∙ (pieces_brace 123 [] refl refl refl ∙ ap (λ (z : List (List ℕ)). (123 ∷ []) ∷ z) pieces_none) in
    ap (map (word_of n)) (pieces_words words (32 ∷ 123 ∷ []) h refl ∙ ap (λ (z : List (List ℕ)). words ++ z) brace)
    ∙ (map-append (word_of n) words ((123 ∷ []) ∷ [])
    ∙ (ap (λ (z : List Word). z ++ word_of n (123 ∷ []) ∷ []) (words_are_values n words h) ∙ ap (λ (z : Word). map (Value n) words ++ z ∷ []) (open_word n)))

pub words_of_end : (n : ℕ) → map (word_of n) (pieces (125 ∷ [])) ≡ Close n ∷ []
words_of_end n = ap (map (word_of n)) (pieces_brace 125 [] refl refl refl ∙ ap (λ (z : List (List ℕ)). (125 ∷ []) ∷ z) pieces_none) ∙ ap (λ (z : Word). z ∷ []) (close_word n)

-- ---- lines of words

words_readable : (words : List (List ℕ)) → AllByRecursion IsValue words → list_all is_readable (join_with_byte 32 words) ≡ true
words_readable [] h = refl
words_readable (word ∷ []) h = h.0.readable
words_readable (word ∷ next ∷ words) h =
    list_all-append is_readable word (32 ∷ join_with_byte 32 (next ∷ words))
    ∙ and_from (list_all is_readable word) (list_all is_readable (join_with_byte 32 (next ∷ words))) h.0.readable (words_readable (next ∷ words) h.1)

pub entry_line : (key : List ℕ) (values : List (List ℕ)) → IsKeyName key → AllByRecursion IsValue values → IsLine (entry key (join_with_byte 32 values))
entry_line key values h k = record {
  readable = list_all-append is_readable key (58 ∷ 32 ∷ join_with_byte 32 values)
      ∙ and_from (list_all is_readable key) (list_all is_readable (join_with_byte 32 values)) h.readable (words_readable values k);
}

pub head_line : (words : List (List ℕ)) → AllByRecursion IsValue words → IsLine (join_with_byte 32 words ++ 32 ∷ 123 ∷ [])
head_line words h = record {
  readable = list_all-append is_readable (join_with_byte 32 words) (32 ∷ 123 ∷ [])
      ∙ and_from (list_all is_readable (join_with_byte 32 words)) true (words_readable words h) refl;
}
