use Rattle.replay_run.specs.Shown.{close_shown}
use Rattle.replay_run.proofs.lines.show_close.Goals as goal

pub returns : goal.returns
unfolding close_shown
returns c = c.add_close.ensures
