-- Words that stand behind other words, and the pieces of a line.
use Rattle.std.specs.Prelude.{ℕ, List, [], ◌∷◌, ◌++◌}
use Rattle.addr_pattern.specs.AddressText.{number_text, hex_byte}

-- the digits of a number
unfoldable pub digits : ℕ → List ℕ
digits n = number_text n

-- words, each behind a blank
abbrev pub blanked : List (List ℕ) → List ℕ
blanked [] = []
blanked (w ∷ ws) = 32 ∷ (w ++ blanked ws)

-- numbers, each behind a blank
abbrev pub blanked_numbers : List ℕ → List ℕ
blanked_numbers [] = []
blanked_numbers (n ∷ ns) = 32 ∷ (digits n ++ blanked_numbers ns)

-- a line of a word and numbers
abbrev pub counted_line : List ℕ → List ℕ → List ℕ
counted_line word numbers = word ++ (blanked_numbers numbers ++ 10 ∷ [])

-- the two digits of a byte
unfoldable pub hex_pair : ℕ → List ℕ
hex_pair b = hex_byte b
