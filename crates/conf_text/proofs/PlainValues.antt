-- The values of a text are plain words: none has a `#` or a brace, or is a key.
use Rattle.std.proofs.Common.{◌≡◌, ℕ, ◌+◌, ◌==◌, Bool, true, false, true≢false, not, cond, ◌||◌, ◌⊎◌, inl, inr, List, [], ◌∷◌, ◌++◌, map, Option, Some, None, refl, sym, ap, ◌∙◌, subst}
use Rattle.std.specs.List.{AllByRecursion, filter, list_all, onto_first}
use Rattle.std.proofs.lemmas.Bool.{and_from, or_from}
use Rattle.conf_text.specs.declared.statement.Entry.{Entry}
use Rattle.conf_text.specs.declared.statement.Statement.{Statement}
use Rattle.conf_text.specs.Words.{Word, Open, Close, Key, Value, is_blank, is_brace, is_byte, is_hash, is_key, is_some_text, lines, name_of, pieces, said, word_of, words_from, words_of_lines}
use Rattle.conf_text.specs.Statements.{AreStatements, Closed, Entered, Entries, Said, Statements, Values}
use Rattle.conf_text.proofs.Spacing.{parts, parts_blank, parts_brace, parts_hash, parts_word, blank_no_brace}

-- a comment would begin at `#`, and a brace is a word of its own
abbrev pub is_plain_byte : ℕ → Bool
is_plain_byte b = not (is_hash b || is_brace b)

pub record IsPlainWord (text : List ℕ) : Type 0 where
  pub bytes : list_all is_plain_byte text ≡ true
  pub no_key : is_key text ≡ false

abbrev pub HasPlainText : Word → Type 0
HasPlainText (Value n text) = IsPlainWord text
HasPlainText _ = Unit {0}

-- ---- the pieces of a line

-- a brace, or plain bytes
abbrev IsPiece : List ℕ → Type 0
IsPiece piece = (list_all is_plain_byte piece ≡ true) ⊎ ((b : ℕ) × (piece ≡ b ∷ []) × (is_brace b ≡ true))

-- pieces of which the first is no brace
abbrev ArePieces : List (List ℕ) → Type 0
ArePieces [] = Unit {0}
ArePieces (piece ∷ more) = (list_all is_plain_byte piece ≡ true) × AllByRecursion IsPiece more

each_piece : (ps : List (List ℕ)) → ArePieces ps → AllByRecursion IsPiece ps
each_piece [] h = tt
each_piece (p ∷ ps) h = (inl h.0, h.1)

onto_piece : (b : ℕ) (ps : List (List ℕ)) → is_plain_byte b ≡ true → ArePieces ps → ArePieces (onto_first b ps)
onto_piece b [] h k = (and_from (is_plain_byte b) true h refl, tt)
onto_piece b (p ∷ ps) h k = (and_from (is_plain_byte b) (list_all is_plain_byte p) h k.0, k.1)

parts_by : (b : ℕ) (line : List ℕ) (u v w : Bool) → is_hash b ≡ u → is_blank b ≡ v → is_brace b ≡ w → ArePieces (parts line) → ArePieces (parts (b ∷ line))
parts_by b line true v w p q r h = subst ArePieces (sym (parts_hash b line p)) (refl, tt)
parts_by b line false true w p q r h = subst ArePieces (sym (parts_blank b line p (blank_no_brace b q) q)) (refl, each_piece (parts line) h)
parts_by b line false false true p q r h = subst ArePieces (sym (parts_brace b line p r q)) (refl, (inr (b, refl, r), each_piece (parts line) h))
parts_by b line false false false p q r h =
    subst ArePieces (sym (parts_word b line p r q)) (onto_piece b (parts line) (ap not (or_from (is_hash b) (is_brace b) p r)) h)

parts_are : (line : List ℕ) → ArePieces (parts line)
unfolding said
parts_are [] = (refl, tt)
parts_are (b ∷ line) = parts_by b line (is_hash b) (is_blank b) (is_brace b) refl refl refl (parts_are line)

filtered : {A : Type 0} (P : A → Type 0) (test : A → Bool) (xs : List A) → AllByRecursion P xs → AllByRecursion P (filter test xs)
filtered P test [] h = tt
filtered P test (x ∷ xs) h = elim (test x) as (λ b. AllByRecursion P (cond b (x ∷ filter test xs) (filter test xs))) [
  | true ↦ (h.0, filtered P test xs h.1)
  | false ↦ filtered P test xs h.1
]

pieces_are : (line : List ℕ) → AllByRecursion IsPiece (pieces line)
unfolding pieces
pieces_are line = filtered IsPiece is_some_text (parts line) (each_piece (parts line) (parts_are line))

-- ---- the words of a text

-- a piece that is no brace is plain
plain_piece : (piece : List ℕ) → IsPiece piece → is_byte 123 piece ≡ false → is_byte 125 piece ≡ false → list_all is_plain_byte piece ≡ true
plain_piece piece (inl h) p q = h
plain_piece piece (inr h) p q =
    let opens : (h.0 == 123) ≡ false = sym (ap (is_byte 123) h.1) ∙ p in
    let closes : (h.0 == 125) ≡ false = sym (ap (is_byte 125) h.1) ∙ q in
    absurd (true≢false (sym h.2 ∙ or_from (h.0 == 123) (h.0 == 125) opens closes))

word_by : (n : ℕ) (piece : List ℕ) (u v w : Bool) → IsPiece piece → is_byte 123 piece ≡ u → is_byte 125 piece ≡ v → is_key piece ≡ w →
    HasPlainText (cond u (Open n) (cond v (Close n) (cond w (Key n (name_of piece)) (Value n piece))))
word_by n piece true v w h p q r = tt
word_by n piece false true w h p q r = tt
word_by n piece false false true h p q r = tt
word_by n piece false false false h p q r = record { bytes = plain_piece piece h p q; no_key = r }

plain_word : (n : ℕ) (piece : List ℕ) → IsPiece piece → HasPlainText (word_of n piece)
unfolding word_of
plain_word n piece h = word_by n piece (is_byte 123 piece) (is_byte 125 piece) (is_key piece) h refl refl refl

both : (n : ℕ) (ps : List (List ℕ)) (more : List Word) → AllByRecursion IsPiece ps → AllByRecursion HasPlainText more → AllByRecursion HasPlainText (map (word_of n) ps ++ more)
both n [] more h k = k
both n (p ∷ ps) more h k = (plain_word n p h.0, both n ps more h.1 k)

line_words_plain : (n : ℕ) (ls : List (List ℕ)) → AllByRecursion HasPlainText (words_of_lines n ls)
line_words_plain n [] = tt
line_words_plain n (line ∷ ls) = both n (pieces line) (words_of_lines (n + 1) ls) (pieces_are line) (line_words_plain (n + 1) ls)

words_plain : (n : ℕ) (text : List ℕ) → AllByRecursion HasPlainText (words_from n text)
unfolding words_from
words_plain n text = line_words_plain n (lines text)

-- ---- the values of statements

abbrev pub HasPlainValues : Entry → Type 0
HasPlainValues e = AllByRecursion IsPlainWord e.values

abbrev pub IsPlainBlock : Option (List Entry) → Type 0
IsPlainBlock None = Unit {0}
IsPlainBlock (Some entries) = AllByRecursion HasPlainValues entries

abbrev pub IsPlainStatement : Statement → Type 0
IsPlainStatement s = AllByRecursion IsPlainWord s.values × IsPlainBlock s.block

abbrev ArePlain : List Word → Type 0
ArePlain words = AllByRecursion HasPlainText words

behind_plain : (words behind : List Word) (w : Word) → words ≡ w ∷ behind → ArePlain words → HasPlainText w × ArePlain behind
behind_plain words behind w e h = subst ArePlain e h

values_plain : (reach : Option ℕ) (words : List Word) (texts : List (List ℕ)) (rest : List Word) → Values reach words texts rest → ArePlain words →
    AllByRecursion IsPlainWord texts × ArePlain rest
values_plain reach words [] rest h k = (tt, subst ArePlain (sym h.0) k)
values_plain reach words (text ∷ texts) rest h k =
    let q = behind_plain words h.1 (Value h.0 text) h.2 k in
    let r = values_plain reach h.1 texts rest h.4 q.1 in
    ((q.0, r.0), r.1)

entered_plain : (reach : Option ℕ) (words : List Word) (line : ℕ) (key : List ℕ) (values : List (List ℕ)) (rest : List Word) →
    Entered reach words line key values rest → ArePlain words → AllByRecursion IsPlainWord values × ArePlain rest
entered_plain reach words line key values rest h k = values_plain reach h.0 values rest h.2 (behind_plain words h.0 (Key line key) h.1 k).1

entries_plain : (words : List Word) (es : List Entry) (rest : List Word) → Entries words es rest → ArePlain words → AllByRecursion HasPlainValues es × ArePlain rest
entries_plain words [] rest h k = (tt, subst ArePlain (sym h) k)
entries_plain words (e ∷ es) rest h k =
    let q = entered_plain None words e.line e.key e.values h.0 h.1 k in
    let r = entries_plain h.0 es rest h.2 q.1 in
    ((q.0, r.0), r.1)

closed_plain : (words : List Word) (line : ℕ) (key : List ℕ) (es : List Entry) (rest : List Word) → Closed words line key es rest → ArePlain words →
    AllByRecursion HasPlainValues es × ArePlain rest
closed_plain words line key es rest h k =
    let head = behind_plain words h.opens.behind (Value line h.opens.first) h.opens.begins k in
    let inside = values_plain None h.opens.behind h.opens.others (Open h.at ∷ h.inside) h.opens.goes_on head.1 in
    let q = entries_plain h.inside es (Close h.end ∷ rest) h.entered inside.1.1 in
    (q.0, q.1.1)

said_plain : (words : List Word) (line : ℕ) (key : List ℕ) (values : List (List ℕ)) (block : Option (List Entry)) (rest : List Word) →
    Said words line key values block rest → ArePlain words → AllByRecursion IsPlainWord values × IsPlainBlock block × ArePlain rest
said_plain words line key values None rest h k = let q = entered_plain (Some line) words line key values rest h k in (q.0, tt, q.1)
said_plain words line key values (Some es) rest h k =
    let q = closed_plain words line key es rest h.1 k in
    (subst (AllByRecursion IsPlainWord) (sym h.0) tt, q.0, q.1)

statements_plain : (words : List Word) (ss : List Statement) (rest : List Word) → Statements words ss rest → ArePlain words → AllByRecursion IsPlainStatement ss
statements_plain words [] rest h k = tt
statements_plain words (s ∷ ss) rest h k =
    let q = said_plain words s.line s.key s.values s.block h.0 h.1 k in
    ((q.0, q.1), statements_plain h.0 ss rest h.2 q.2)

pub are_plain : (text : List ℕ) (ss : List Statement) → AreStatements text ss → AllByRecursion IsPlainStatement ss
are_plain text ss h = statements_plain (words_from 1 text) ss [] h.said (words_plain 1 text)
