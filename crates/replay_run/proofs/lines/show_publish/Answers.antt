use Rattle.replay_run.specs.Shown.{publish_shown}
use Rattle.replay_run.proofs.lines.show_publish.Goals as goal

pub returns : goal.returns
unfolding publish_shown
returns c = c.add_publish.ensures
