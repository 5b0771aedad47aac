use Rattle.replay_run.specs.Shown.{see_shown}
use Rattle.replay_run.proofs.lines.show_see.Goals as goal

pub returns : goal.returns
unfolding see_shown
returns c = c.add_see.ensures
