-- The configurations that were published, in their order.
use Rattle.std.specs.Prelude.{◌≡◌, ℕ, ◌-◌, ◌<◌, ◌≤◌, List, ◌++◌, length, slice_get, Some}
use Rattle.conf_types.specs.declared.entries.Entries.{Entries}

-- the second list begins with the first
abbrev pub IsPrefixOf : List Entries → List Entries → Type 0
IsPrefixOf part whole = (rest : List Entries) × (whole ≡ part ++ rest)

-- the configuration is the one of this number, counted from 1
abbrev pub IsAt : List Entries → ℕ → Entries → Type 0
IsAt configs number config = (0 < number) × (number ≤ length configs) × (slice_get configs (number - 1) ≡ Some config)
