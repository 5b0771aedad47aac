use Rattle.addr_pattern.proofs.ReadAddresses.{addr-inverse}
use Rattle.addr_pattern.proofs.laws.addr_read_again.Goals as goal

pub returns : goal.returns
returns c = addr-inverse
