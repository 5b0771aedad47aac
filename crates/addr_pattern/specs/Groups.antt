-- Groups of an address of IPv6, as they are read one by one.
use Rattle.std.specs.Prelude.{ℕ, Option, Some, None, nat_le, if◌then◌else◌, List, length, ◌++◌}

abbrev pub at_most_eight : Option (List ℕ) → Option (List ℕ)
at_most_eight None = None
at_most_eight (Some xs) = if nat_le (length xs) 8 then Some xs else None

-- groups, and others behind them
abbrev pub groups_onto : List ℕ → Option (List ℕ) → Option (List ℕ)
groups_onto xs None = None
groups_onto xs (Some ys) = at_most_eight (Some (xs ++ ys))
