use Rattle.socks_machine.proofs.laws.going_on.Goals as goal
use Rattle.socks_machine.proofs.PhaseActLaws.{going-on}

pub returns : goal.returns
returns c = going-on
