-- The numbers of the command line.
use Rattle.std.specs.Prelude.{ℕ, ◌≡◌, ◌≤◌, List}
use Rattle.std.specs.Str.Parse.{IsNumeral, digits_value, without_leading_plus}

-- the word writes the number, from 1 to the most, in decimal digits; a plus may stand first
pub record IsSize (most : ℕ) (word : List ℕ) (n : ℕ) : Type 0 where
  pub numeral : IsNumeral 10 (without_leading_plus word)
  pub value : n ≡ digits_value 10 (without_leading_plus word)
  pub least : 1 ≤ n
  pub within : n ≤ most
