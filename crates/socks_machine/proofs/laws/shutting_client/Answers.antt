use Rattle.socks_machine.proofs.laws.shutting_client.Goals as goal
use Rattle.socks_machine.proofs.PhaseActLaws.{shutting-client}

pub returns : goal.returns
returns c = shutting-client
