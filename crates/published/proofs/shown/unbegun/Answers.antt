use Rattle.published.proofs.Steps.{unbegun}
use Rattle.published.proofs.shown.unbegun.Goals as goal

pub new-requires-clause-rule : goal.new-requires-clause-rule
new-requires-clause-rule c = unbegun _
