use Rattle.conf_text.proofs.Deciding.{one_fault}
use Rattle.conf_text.proofs.laws.one_fault.Goals as goal

pub returns : goal.returns
returns c = one_fault
