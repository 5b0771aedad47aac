use Rattle.replay_run.proofs.Happening.{moves}
use Rattle.replay_run.proofs.state.Replay.now.Goals as goal

pub returns : goal.returns
returns c = λ users. moves users c.args.now c.args.self.now
