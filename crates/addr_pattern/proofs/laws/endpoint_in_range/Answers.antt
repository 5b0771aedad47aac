use Rattle.addr_pattern.proofs.InRange.{endpoint-in_range}
use Rattle.addr_pattern.proofs.laws.endpoint_in_range.Goals as goal

pub returns : goal.returns
returns c = endpoint-in_range
