use Rattle.replay_run.specs.Shown.{ends_shown}
use Rattle.replay_run.proofs.lines.show_ends.Goals as goal

pub returns : goal.returns
unfolding ends_shown
returns c = c.add_ends.ensures
