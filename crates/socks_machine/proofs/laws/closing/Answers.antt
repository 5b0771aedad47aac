use Rattle.socks_machine.proofs.laws.closing.Goals as goal
use Rattle.socks_machine.proofs.PhaseActLaws.{closing}

pub returns : goal.returns
returns c = closing
