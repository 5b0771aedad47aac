-- The words of a configuration's text, each with its line.
use Rattle.std.specs.Prelude.{ℕ, ◌+◌, ◌-◌, ◌==◌, nat_le, Bool, true, false, ◌&&◌, ◌||◌, if◌then◌else◌, List, [], ◌∷◌, ◌++◌, length, take, map, slice_index, Option, Some, None}
use Rattle.std.specs.Char.{is_ascii_alphabetic, is_ascii_alphanumeric}
use Rattle.std.specs.List.{slice_split, before_first, list_all, filter, flat_map}

abbrev pub is_line_end : ℕ → Bool
is_line_end b = b == 10

-- `#`
abbrev pub is_hash : ℕ → Bool
is_hash b = b == 35

-- a blank, a tab or a CR
abbrev pub is_blank : ℕ → Bool
is_blank b = b == 32 || b == 9 || b == 13

-- `{` and `}`
abbrev pub is_brace : ℕ → Bool
is_brace b = b == 123 || b == 125

-- a letter, a digit, a dot or a dash
abbrev pub is_key_byte : ℕ → Bool
is_key_byte b = is_ascii_alphanumeric b || b == 46 || b == 45

-- a tab, a CR, or a byte from the blank to `~`
abbrev pub is_readable : ℕ → Bool
is_readable b = b == 9 || b == 13 || (nat_le 32 b && nat_le b 126)

-- the lines of a text, without their ends
unfoldable pub lines : List ℕ → List (List ℕ)
lines text = slice_split is_line_end text

-- what a line says: what stands before its first `#`
unfoldable pub said : List ℕ → List ℕ
said line = before_first is_hash line

-- with a blank before and behind each brace
abbrev pub spaced : List ℕ → List ℕ
spaced line = flat_map (λ b. if is_brace b then 32 ∷ b ∷ 32 ∷ [] else b ∷ []) line

abbrev pub is_some_text : List ℕ → Bool
is_some_text [] = false
is_some_text (b ∷ bs) = true

-- what stands between the blanks of a line
unfoldable pub pieces : List ℕ → List (List ℕ)
pieces line = filter is_some_text (slice_split is_blank (spaced (said line)))

-- a letter, and then letters, digits, dots and dashes
abbrev pub is_name : List ℕ → Bool
is_name [] = false
is_name (b ∷ bs) = is_ascii_alphabetic b && list_all is_key_byte bs

-- a piece without its last byte
abbrev pub name_of : List ℕ → List ℕ
name_of piece = take (length piece - 1) piece

-- a name, and a colon behind it
abbrev pub is_key : List ℕ → Bool
is_key piece = slice_index piece (length piece - 1) == 58 && is_name (name_of piece)

-- the piece is this one byte
abbrev pub is_byte : ℕ → List ℕ → Bool
is_byte c (b ∷ []) = b == c
is_byte c _ = false

-- a word: a brace, a key without its colon, or any other piece, with the number of its line
pub data Word : Type 0 where
  Open : ℕ → Word
  Close : ℕ → Word
  Key : ℕ → List ℕ → Word
  Value : ℕ → List ℕ → Word

unfoldable pub word_of : ℕ → List ℕ → Word
word_of n piece =
    if is_byte 123 piece then Open n
    else (if is_byte 125 piece then Close n
    else (if is_key piece then Key n (name_of piece) else Value n piece))

-- the words of lines, of which the first has this number
abbrev pub words_of_lines : ℕ → List (List ℕ) → List Word
words_of_lines n [] = []
words_of_lines n (line ∷ more) = map (word_of n) (pieces line) ++ words_of_lines (n + 1) more

-- the words of a text, of which the first line has this number
unfoldable pub words_from : ℕ → List ℕ → List Word
words_from n text = words_of_lines n (lines text)

-- the number of the first line that says a byte which isn't readable
abbrev pub first_unreadable : ℕ → List (List ℕ) → Option ℕ
first_unreadable n [] = None
first_unreadable n (line ∷ more) = if list_all is_readable (said line) then first_unreadable (n + 1) more else Some n

-- the same of a text, of which the first line has this number
unfoldable pub unreadable_from : ℕ → List ℕ → Option ℕ
unreadable_from n text = first_unreadable n (lines text)
