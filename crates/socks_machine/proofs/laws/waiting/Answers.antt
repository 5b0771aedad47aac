use Rattle.socks_machine.proofs.laws.waiting.Goals as goal
use Rattle.socks_machine.proofs.PhaseActLaws.{waiting}

pub returns : goal.returns
returns c = waiting
