use Rattle.addr_pattern.proofs.PatternsInRange.{port_part-in_range}
use Rattle.addr_pattern.proofs.laws.port_part_in_range.Goals as goal

pub returns : goal.returns
returns c = port_part-in_range
