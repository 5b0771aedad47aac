use Rattle.socks_machine.proofs.laws.seeking.Goals as goal
use Rattle.socks_machine.proofs.PhaseActLaws.{seeking}

pub returns : goal.returns
returns c = seeking
