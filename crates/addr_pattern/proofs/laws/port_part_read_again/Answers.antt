use Rattle.addr_pattern.proofs.ReadPorts.{port_part-inverse}
use Rattle.addr_pattern.proofs.laws.port_part_read_again.Goals as goal

pub returns : goal.returns
returns c = port_part-inverse
