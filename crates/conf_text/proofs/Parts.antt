-- Statements as they are spelled line by line, and that the lines' words are these statements.
use Rattle.std.proofs.Common.{◌≡◌, ℕ, ◌+◌, ◌==◌, ◌≤◌, true, false, List, [], ◌∷◌, ◌++◌, length, map, Option, Some, None, refl, sym, ap, ◌∙◌, subst, arith, append_assoc}
use Rattle.std.specs.List.{AllByRecursion, flat_map, join_with_byte}
use Rattle.std.proofs.lemmas.Bool.Decides.{nat_tests}
use Rattle.conf_text.specs.declared.statement.Entry.{Entry}
use Rattle.conf_text.specs.declared.statement.Statement.{Statement}
use Rattle.conf_text.specs.Words.{Word, Open, Close, Key, Value, pieces, word_of, words_of_lines}
use Rattle.conf_text.specs.Statements.{is_in_reach, has_value, Values, Entries, Headed, Closed, Statements, longest, AreStatements}
use Rattle.conf_text.proofs.Lines.{IsKeyName, IsLine, IsValue, entry, entry_line, head_line, pieces_inner, text_of, text_readable, words_of_end, words_of_entry, words_of_head, words_of_text}

-- a key and its values
pub record Item : Type 0 where
  pub key : List ℕ
  pub values : List (List ℕ)

-- an entry at the top; or a block: the words of its key, and its entries
pub data Part : Type 0 where
  Top : Item → Part
  Block : List (List ℕ) → List Item → Part

-- ---- how they are spelled

abbrev pub item_line : Item → List ℕ
item_line i = entry i.key (join_with_byte 32 i.values)

-- an entry of a block stands behind two blanks
abbrev pub inner_line : Item → List ℕ
inner_line i = 32 ∷ 32 ∷ item_line i

abbrev pub head_of : List (List ℕ) → List ℕ
head_of words = join_with_byte 32 words ++ 32 ∷ 123 ∷ []

abbrev pub part_lines : Part → List (List ℕ)
part_lines (Top i) = item_line i ∷ []
part_lines (Block words items) = head_of words ∷ map inner_line items ++ (125 ∷ []) ∷ []

abbrev pub lines_of : List Part → List (List ℕ)
lines_of parts = flat_map part_lines parts

-- ---- the statements that they are, each with its line

abbrev pub entries_at : ℕ → List Item → List Entry
entries_at n [] = []
entries_at n (i ∷ items) = (record { line = n; key = i.key; values = i.values }) ∷ entries_at (n + 1) items

-- the line behind so many entries
abbrev pub behind : ℕ → List Item → ℕ
behind n [] = n
behind n (i ∷ items) = behind (n + 1) items

abbrev pub statement_at : ℕ → Part → Statement
statement_at n (Top i) = record { line = n; key = i.key; values = i.values; block = None }
statement_at n (Block words items) = record { line = n; key = join_with_byte 32 words; values = []; block = Some (entries_at (n + 1) items) }

abbrev pub line_behind : ℕ → Part → ℕ
line_behind n (Top i) = n + 1
line_behind n (Block words items) = behind (n + 1) items + 1

abbrev pub statements_at : ℕ → List Part → List Statement
statements_at n [] = []
statements_at n (p ∷ parts) = statement_at n p ∷ statements_at (line_behind n p) parts

-- ---- which are read again

pub record IsItem (i : Item) : Type 0 where
  pub key' : IsKeyName i.key
  pub values' : AllByRecursion IsValue i.values

-- the words of a block's key, of which there is one
abbrev pub IsHead : List (List ℕ) → Type 0
IsHead [] = ⊥
IsHead (word ∷ words) = IsValue word × AllByRecursion IsValue words

abbrev pub IsPart : Part → Type 0
IsPart (Top i) = IsItem i
IsPart (Block words items) = IsHead words × AllByRecursion IsItem items

-- ---- words

values_here : (reach : Option ℕ) (n : ℕ) (texts : List (List ℕ)) (rest : List Word) → is_in_reach reach n ≡ true → has_value reach rest ≡ false →
    Values reach (map (Value n) texts ++ rest) texts rest
values_here reach n [] rest h k = (refl, k)
values_here reach n (text ∷ texts) rest h k = (n, map (Value n) texts ++ rest, refl, h, values_here reach n texts rest h k)

item_words : (n : ℕ) (i : Item) → IsItem i → map (word_of n) (pieces (item_line i)) ≡ Key n i.key ∷ map (Value n) i.values
item_words n i h = words_of_entry n i.key i.values h.key' h.values'

inner_words : (n : ℕ) (i : Item) → IsItem i → map (word_of n) (pieces (inner_line i)) ≡ Key n i.key ∷ map (Value n) i.values
inner_words n i h = ap (map (word_of n)) (pieces_inner (item_line i)) ∙ item_words n i h

-- the words of a line and of those behind it
abbrev first_words : ℕ → List ℕ → List (List ℕ) → List Word
first_words n line more = map (word_of n) (pieces line) ++ words_of_lines (n + 1) more

item_first : (n : ℕ) (i : Item) (more : List (List ℕ)) → IsItem i → words_of_lines n (item_line i ∷ more) ≡ Key n i.key ∷ map (Value n) i.values ++ words_of_lines (n + 1) more
item_first n i more h = ap (λ (z : List Word). z ++ words_of_lines (n + 1) more) (item_words n i h)

inner_first : (n : ℕ) (i : Item) (more : List (List ℕ)) → IsItem i → words_of_lines n (inner_line i ∷ more) ≡ Key n i.key ∷ map (Value n) i.values ++ words_of_lines (n + 1) more
inner_first n i more h = ap (λ (z : List Word). z ++ words_of_lines (n + 1) more) (inner_words n i h)

end_first : (n : ℕ) (more : List (List ℕ)) → words_of_lines n ((125 ∷ []) ∷ more) ≡ Close n ∷ words_of_lines (n + 1) more
end_first n more = ap (λ (z : List Word). z ++ words_of_lines (n + 1) more) (words_of_end n)

head_values : (words : List (List ℕ)) → IsHead words → AllByRecursion IsValue words
head_values [] h = absurd h
head_values (word ∷ words) h = h

-- no value stands where an entry or the end of the block does
no_value_inside : (n : ℕ) (items : List Item) (more : List (List ℕ)) → AllByRecursion IsItem items → has_value None (words_of_lines n (map inner_line items ++ (125 ∷ []) ∷ more)) ≡ false
no_value_inside n [] more h = ap (has_value None) (end_first n more)
no_value_inside n (i ∷ items) more h = ap (has_value None) (inner_first n i (map inner_line items ++ (125 ∷ []) ∷ more) h.0)

entries_here : (n : ℕ) (items : List Item) (more : List (List ℕ)) → AllByRecursion IsItem items →
    Entries (words_of_lines n (map inner_line items ++ (125 ∷ []) ∷ more)) (entries_at n items) (Close (behind n items) ∷ words_of_lines (behind n items + 1) more)
entries_here n [] more h = sym (end_first n more)
entries_here n (i ∷ items) more h =
    let lines = map inner_line items ++ (125 ∷ []) ∷ more in
    let rest = words_of_lines (n + 1) lines in (
      rest,
      (map (Value n) i.values ++ rest, inner_first n i lines h.0, values_here None n i.values rest refl (no_value_inside (n + 1) items more h.1)),
      entries_here (n + 1) items more h.1,
    )

-- a block's lines, and those behind it
abbrev block_onto : List (List ℕ) → List Item → List (List ℕ) → List (List ℕ)
block_onto words items more = head_of words ∷ map inner_line items ++ (125 ∷ []) ∷ more

block_lines : (words : List (List ℕ)) (items : List Item) (more : List (List ℕ)) → part_lines (Block words items) ++ more ≡ block_onto words items more
block_lines words items more = ap (λ (z : List (List ℕ)). head_of words ∷ z) (append_assoc (map inner_line items) ((125 ∷ []) ∷ []) more)

head_first : (n : ℕ) (words more : List (List ℕ)) → IsHead words → words_of_lines n (head_of words ∷ more) ≡ map (Value n) words ++ Open n ∷ words_of_lines (n + 1) more
head_first n words more h =
    ap (λ (z : List Word). z ++ words_of_lines (n + 1) more) (words_of_head n words (head_values words h))
    ∙ append_assoc (map (Value n) words) (Open n ∷ []) (words_of_lines (n + 1) more)

headed : (n : ℕ) (words : List (List ℕ)) (inside : List Word) → IsHead words → Headed (map (Value n) words ++ Open n ∷ inside) n (join_with_byte 32 words) (Open n ∷ inside)
headed n [] inside h = absurd h
headed n (word ∷ words) inside h = record {
  first = word;
  others = words;
  behind = map (Value n) words ++ Open n ∷ inside;
  begins = refl;
  goes_on = values_here None n words (Open n ∷ inside) refl refl;
  joined = refl;
}

closed : (n : ℕ) (words : List (List ℕ)) (items : List Item) (more : List (List ℕ)) → IsHead words → AllByRecursion IsItem items →
    Closed (words_of_lines n (block_onto words items more)) n (join_with_byte 32 words) (entries_at (n + 1) items) (words_of_lines (behind (n + 1) items + 1) more)
closed n words items more h k =
    let lines = map inner_line items ++ (125 ∷ []) ∷ more in
    let inside = words_of_lines (n + 1) lines in
    record {
      at = n;
      inside = inside;
      end = behind (n + 1) items;
      opens = subst (λ (z : List Word). Headed z n (join_with_byte 32 words) (Open n ∷ inside)) (sym (head_first n words lines h)) (headed n words inside h);
      entered = entries_here (n + 1) items more k;
    }

later : (n : ℕ) → (n + 1 == n) ≡ false
later n = grind (arith, nat_tests)

other_line : (n : ℕ) (words : List (List ℕ)) (rest : List Word) → IsHead words → has_value (Some n) (map (Value (n + 1)) words ++ rest) ≡ false
other_line n [] rest h = absurd h
other_line n (word ∷ words) rest h = later n

-- the values of an entry at the top end with its line
no_value_behind : (n : ℕ) (parts : List Part) → AllByRecursion IsPart parts → has_value (Some n) (words_of_lines (n + 1) (lines_of parts)) ≡ false
no_value_behind n [] h = refl
no_value_behind n (Top i ∷ parts) h = ap (has_value (Some n)) (item_first (n + 1) i (lines_of parts) h.0)
no_value_behind n (Block words items ∷ parts) h =
    let more = map inner_line items ++ (125 ∷ []) ∷ lines_of parts in
    ap (has_value (Some n)) (ap (words_of_lines (n + 1)) (block_lines words items (lines_of parts)) ∙ head_first (n + 1) words more h.0.0)
    ∙ other_line n words (Open (n + 1) ∷ words_of_lines (n + 1 + 1) more) h.0.0

this_line : (n : ℕ) → (n == n) ≡ true
this_line n = grind (arith, nat_tests)

-- the words of the lines are the statements
pub statements_here : (n : ℕ) (parts : List Part) → AllByRecursion IsPart parts → Statements (words_of_lines n (lines_of parts)) (statements_at n parts) []
statements_here n [] h = refl
statements_here n (Top i ∷ parts) h =
    let rest = words_of_lines (n + 1) (lines_of parts) in (
      rest,
      (map (Value n) i.values ++ rest, item_first n i (lines_of parts) h.0, values_here (Some n) n i.values rest (this_line n) (no_value_behind n parts h.1)),
      statements_here (n + 1) parts h.1,
    )
statements_here n (Block words items ∷ parts) h =
    let rest = words_of_lines (behind (n + 1) items + 1) (lines_of parts) in
    let is = closed n words items (lines_of parts) h.0.0 h.0.1 in (
      rest,
      (refl, subst (λ (z : List (List ℕ)). Closed (words_of_lines n z) n (join_with_byte 32 words) (entries_at (n + 1) items) rest) (sym (block_lines words items (lines_of parts))) is),
      statements_here (behind (n + 1) items + 1) parts h.1,
    )

-- ---- lines

inner_is_line : (i : Item) → IsItem i → IsLine (inner_line i)
inner_is_line i h = let k = entry_line i.key i.values h.key' h.values' in record { readable = k.readable }

inner_lines : (items : List Item) (more : List (List ℕ)) → AllByRecursion IsItem items → AllByRecursion IsLine more → AllByRecursion IsLine (map inner_line items ++ more)
inner_lines [] more h k = k
inner_lines (i ∷ items) more h k = (inner_is_line i h.0, inner_lines items more h.1 k)

are_lines : (parts : List Part) → AllByRecursion IsPart parts → AllByRecursion IsLine (lines_of parts)
are_lines [] h = tt
are_lines (Top i ∷ parts) h = (entry_line i.key i.values h.0.key' h.0.values', are_lines parts h.1)
are_lines (Block words items ∷ parts) h =
    subst (AllByRecursion IsLine) (sym (block_lines words items (lines_of parts)))
    (head_line words (head_values words h.0.0), inner_lines items ((125 ∷ []) ∷ lines_of parts) h.0.1 (record { readable = refl }, are_lines parts h.1))

-- the text of the lines is the statements
pub are_statements : (parts : List Part) → AllByRecursion IsPart parts → length (text_of (lines_of parts)) ≤ longest → AreStatements (text_of (lines_of parts)) (statements_at 1 parts)
are_statements parts h small =
    let lines = are_lines parts h in
    record {
      plain = record { small = small; readable = text_readable 1 (lines_of parts) lines };
      said = subst (λ (z : List Word). Statements z (statements_at 1 parts) []) (sym (words_of_text 1 (lines_of parts) lines)) (statements_here 1 parts h);
    }
