use Rattle.socks_machine.proofs.laws.talking.Goals as goal
use Rattle.socks_machine.proofs.PhaseLaws.{talk}

pub returns : goal.returns
returns c = talk
