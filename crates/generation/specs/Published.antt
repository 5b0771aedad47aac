-- Configurations that are published one after the other, and numbered from 1.
use Rattle.std.specs.Prelude.{◌≡◌, ◌<◌, ◌≤◌, ℕ, suc, Option, Some, None, List, [], ◌∷◌, ◌++◌, length, map, slice_get}
use Rattle.std.specs.Arc.{arc_value}
use Rattle.conf_types.specs.declared.entries.Entries.{Entries}
use Rattle.rule_list.specs.Rules.{numbered}
use Rattle.generation.specs.declared.snap.Snap.{Snap}

-- what was published so far, in its order, and the number that was seen last
pub record Generations : Type 0 where
  pub configs : List Entries
  pub seen : ℕ

abbrev pub none_published : Generations
none_published = record { configs = []; seen = 0 }

-- one more is published, and nothing is seen by that
abbrev pub with_config : Generations → Entries → Generations
with_config g config = record g { configs = g.configs ++ config ∷ [] }

-- the number of one that was published, where that is told
abbrev pub IsPublished : Option (List Entries) → ℕ → Type 0
IsPublished None number = 0 < number
IsPublished (Some configs) number = (0 < number) × (number ≤ length configs)

-- where it is told what was published, the snapshot holds the configuration of that number
abbrev pub HoldsPublished : Option (List Entries) → ℕ → Entries → Type 0
HoldsPublished None number config = Unit {0}
HoldsPublished (Some configs) number config = numbered configs number ≡ Some config

-- a snapshot of the configuration of this number
pub record IsSnap (published : Option (List Entries)) (number : ℕ) (snap : Snap) : Type 0 where
  pub number' : snap.number ≡ number
  pub config' : HoldsPublished published number (arc_value snap.config)

-- ---- snapshots in a list

abbrev pub configs_of : List Snap → List Entries
configs_of snaps = map (λ (s : Snap). arc_value s.config) snaps

-- each has the number of its place, from 1
abbrev pub AreNumbered : List Snap → Type 0
AreNumbered snaps = (k : ℕ) (s : Snap) → slice_get snaps k ≡ Some s → s.number ≡ suc k
