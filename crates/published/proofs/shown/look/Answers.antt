use Rattle.published.proofs.Steps.{sees}
use Rattle.published.proofs.shown.look.Goals as goal

pub enter_as-requires : goal.enter_as-requires
enter_as-requires c x = sees _ _ _ _
