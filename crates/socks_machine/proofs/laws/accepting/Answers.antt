use Rattle.socks_machine.proofs.laws.accepting.Goals as goal
use Rattle.socks_machine.proofs.PhaseActLaws.{accepting}

pub returns : goal.returns
returns c = accepting
