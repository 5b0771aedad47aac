use Rattle.replay_run.specs.Shown.{open_shown}
use Rattle.replay_run.proofs.lines.show_open.Goals as goal

pub returns : goal.returns
unfolding open_shown
returns c = c.add_open.ensures
