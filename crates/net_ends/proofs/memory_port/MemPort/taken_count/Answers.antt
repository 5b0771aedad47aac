use Rattle.std.proofs.Common.{arith}
use Rattle.net_ends.proofs.Datagrams.{length-cut}
use Rattle.net_ends.proofs.memory_port.MemPort.taken_count.Goals as goal

pub returns : goal.returns
returns c = grind (arith, length-cut)
