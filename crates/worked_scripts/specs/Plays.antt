-- When a run gives what is wanted.
use Rattle.std.specs.Prelude.{◌≡◌}
use Rattle.worked_scripts.specs.declared.play.Outcome.{Outcome}
use Rattle.worked_scripts.specs.declared.play.Wanted.{Wanted}

-- it ends with the wanted status, and both outputs have what is wanted
pub record Gives (outcome : Outcome) (wanted : Wanted) : Type 0 where
  pub status : outcome.status ≡ wanted.status
  pub output : outcome.output.taken ≡ wanted.output.now
  pub error : outcome.error.taken ≡ wanted.error.now
