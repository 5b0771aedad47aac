use Rattle.replay_script.proofs.Deciding.{one_fault}
use Rattle.replay_script.proofs.laws.one_fault.Goals as goal

pub returns : goal.returns
returns c = one_fault
