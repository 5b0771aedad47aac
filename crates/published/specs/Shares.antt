-- Snapshots that share one configuration.
use Rattle.std.specs.Prelude.{◌≡◌, ℕ}
use Rattle.std.specs.Arc.{arc_value}
use Rattle.conf_types.specs.declared.entries.Entries.{Entries}
use Rattle.generation.specs.declared.snap.Snap.{Snap}

pub record IsShareOf (number : ℕ) (config : Entries) (snap : Snap) : Type 0 where
  pub number' : snap.number ≡ number
  pub config' : arc_value snap.config ≡ config
