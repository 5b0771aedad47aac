use Rattle.addr_pattern.proofs.ReadAddresses.{endpoint-inverse}
use Rattle.addr_pattern.proofs.laws.endpoint_read_again.Goals as goal

pub returns : goal.returns
returns c = endpoint-inverse
