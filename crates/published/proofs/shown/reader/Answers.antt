use Rattle.published.proofs.Steps.{admits, forks, merges}
use Rattle.published.proofs.shown.reader.Goals as goal

pub reader-requires : goal.reader-requires
reader-requires c x = admits _ _

pub tell-requires : goal.tell-requires
tell-requires c x = forks _ _ _ _

pub learn-requires-clause-rule : goal.learn-requires-clause-rule
learn-requires-clause-rule c x = merges _ _ _ _ _ _
