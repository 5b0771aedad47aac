-- What each seat knows of the published list: a seat of the two copies that readers see, or of the table that has what is told.
use Rattle.std.specs.Prelude.{◌≡◌, ℕ, ◌-◌, ◌<◌, true, false, List, [], ◌∷◌, ◌++◌, length, slice_get, Some}
use mathlib.Core.Option.{some}
use lib.ListN.{get_elem?}
use Rattle.atomic_table.specs.Table.{Me, Step}
use Rattle.published.specs.declared.knows.Knows.{Knows}
use Rattle.conf_types.specs.declared.entries.Entries.{Entries}
use Rattle.published.specs.Lists.{IsPrefixOf}

-- a seat that knows so much, and doesn't extend the list
abbrev pub reader_of : List Entries → Knows
reader_of configs = record { configs = configs; heard = []; extends = false }

-- the seat that extends the list, and knows it whole
abbrev pub owner_of : List Entries → Knows
owner_of configs = record { configs = configs; heard = []; extends = true }

-- what a seat knows is a beginning of the list. A seat that extends it is the owner's, and knows it whole
pub record FitsIn (configs : List Entries) (owner seat : ℕ) (knows : Knows) : Type 0 where
  pub known : IsPrefixOf knows.configs configs
  pub heard : IsPrefixOf knows.heard configs
  pub whole : knows.extends ≡ true → (seat ≡ owner) × (knows.configs ≡ configs)

abbrev pub EachFits : List Entries → ℕ → List Knows → Type 0
EachFits configs owner views = (seat : ℕ) (knows : Knows) → get_elem? views seat ≡ some knows → FitsIn configs owner seat knows

-- ---- the copies that readers see

-- there is one list, and what is shown is the last of it. Number 0 is shown before the first, when no seat extends the list
pub record ShowsLast (number : ℕ) (config : Entries) (views : List Knows) : Type 0 where
  pub configs : List Entries
  pub owner : ℕ
  pub counted : number ≡ length configs
  pub last : 0 < number → slice_get configs (number - 1) ≡ Some config
  pub unowned : number ≡ 0 → (seat : ℕ) (knows : Knows) → get_elem? views seat ≡ some knows → knows.extends ≡ false
  pub fits : EachFits configs owner views

-- the first configuration is shown, and this seat extends the list from now on
abbrev pub Begins : Entries → Knows → Type 0
Begins config after = after ≡ owner_of (config ∷ [])

abbrev pub Extends : Knows → Entries → Knows → Type 0
Extends before config after = after ≡ owner_of (before.configs ++ config ∷ [])

-- the seat finds the last of the list, and knows the list then
pub record Sees (before : Knows) (number : ℕ) (config : Entries) (after : Knows) : Type 0 where
  pub grown : IsPrefixOf before.configs after.configs
  pub counted : number ≡ length after.configs
  pub last : 0 < number → slice_get after.configs (number - 1) ≡ Some config

-- ---- the table

pub record HasOneList (views : List Knows) : Type 0 where
  pub configs : List Entries
  pub owner : ℕ
  pub fits : EachFits configs owner views

-- what the step says is added at the end of the list
abbrev pub AddsSaid : Step Entries → Me Entries Knows → ℕ → Me Entries Knows → Type 0
AddsSaid step me found after =
    (after.1 ≡ me.1) × ((config : Entries) → step.said ≡ some config → after.0 ≡ owner_of (me.0.configs ++ config ∷ []))

-- a seat that heard of another's list
abbrev pub hearing : Knows → Knows → Knows
hearing mine theirs = record { configs = mine.configs; heard = theirs.configs; extends = mine.extends }

-- the seat knows the list as it is now; it begins with what the seat knew, and with what it heard
abbrev pub CatchesUp : Step Entries → Me Entries Knows → ℕ → Me Entries Knows → Type 0
CatchesUp step me found after =
    (after.1 ≡ me.1) × (after.0.heard ≡ []) × (after.0.extends ≡ me.0.extends)
    × IsPrefixOf me.0.configs after.0.configs × IsPrefixOf me.0.heard after.0.configs
