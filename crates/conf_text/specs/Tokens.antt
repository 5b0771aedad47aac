-- What the reader has before it, as words.
use Rattle.std.specs.Prelude.{◌≡◌, ◌<◌, ◌||◌, ℕ, Bool, false, not, List, [], ◌∷◌, length, Option, Some, None}
use Rattle.conf_text.specs.declared.token.Token.{Token}
use Rattle.conf_text.specs.declared.cursor.Cursor.{Cursor}
use Rattle.conf_text.specs.Words.{Word, Open, Close, Key, Value, is_line_end, is_hash, is_blank, is_brace, words_from}

abbrev pub seen : Token → Word
seen (Token.Open n) = Open n
seen (Token.Close n) = Close n
seen (Token.Key n name) = Key n name.now
seen (Token.Value n text) = Value n text.now

-- the words that are still to be read
abbrev pub left : Cursor → List Word
left c = words_from c.line c.rest.now

-- a byte of a word that is no brace
abbrev pub is_word_byte : ℕ → Bool
is_word_byte b = not (is_line_end b || is_hash b || is_blank b || is_brace b)

abbrev pub has_word_byte : List ℕ → Bool
has_word_byte [] = false
has_word_byte (b ∷ bs) = is_word_byte b

-- a brace or a byte of a word stands first, or nothing
abbrev pub IsAtWord : List ℕ → Type 0
IsAtWord [] = Unit {0}
IsAtWord (b ∷ bs) = (is_line_end b || is_hash b || is_blank b) ≡ false

-- the first of the words, and the place behind it; or there is none
abbrev pub FirstOf : Cursor → Option (Token × Cursor) → Type 0
FirstOf c None = left c ≡ []
FirstOf c (Some p) = (left c ≡ seen p.0 ∷ left p.1) × (length p.1.rest.now < length c.rest.now)
