use Rattle.replay_script.proofs.Deciding.{scripts_agree}
use Rattle.replay_script.proofs.laws.one_reading.Goals as goal

pub returns : goal.returns
returns c = scripts_agree
