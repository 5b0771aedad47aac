use Rattle.socks_machine.proofs.laws.refusing.Goals as goal
use Rattle.socks_machine.proofs.PhaseActLaws.{refusing}

pub returns : goal.returns
returns c = refusing
