use Rattle.replay_run.specs.Shown.{turn_shown}
use Rattle.replay_run.proofs.lines.show_turn.Goals as goal

pub returns : goal.returns
unfolding turn_shown
returns c = c.add_turn.ensures
