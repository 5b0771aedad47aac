use Rattle.socks_machine.proofs.laws.shutting_target.Goals as goal
use Rattle.socks_machine.proofs.PhaseActLaws.{shutting-target}

pub returns : goal.returns
returns c = shutting-target
