use Rattle.socks_machine.proofs.laws.dialling.Goals as goal
use Rattle.socks_machine.proofs.PhaseActLaws.{dialling}

pub returns : goal.returns
returns c = dialling
