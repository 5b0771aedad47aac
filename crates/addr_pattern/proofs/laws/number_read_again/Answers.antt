use Rattle.addr_pattern.proofs.ReadAddresses.{number-again}
use Rattle.addr_pattern.proofs.laws.number_read_again.Goals as goal

pub returns : goal.returns
returns c = number-again
