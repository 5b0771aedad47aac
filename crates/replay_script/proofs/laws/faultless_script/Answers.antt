use Rattle.replay_script.proofs.Deciding.{script_faultless}
use Rattle.replay_script.proofs.laws.faultless_script.Goals as goal

pub returns : goal.returns
returns c = script_faultless
