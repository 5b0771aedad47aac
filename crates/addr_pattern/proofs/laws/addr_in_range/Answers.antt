use Rattle.addr_pattern.proofs.InRange.{addr-in_range}
use Rattle.addr_pattern.proofs.laws.addr_in_range.Goals as goal

pub returns : goal.returns
returns c = addr-in_range
