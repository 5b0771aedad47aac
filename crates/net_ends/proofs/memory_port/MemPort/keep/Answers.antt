use Rattle.std.proofs.Common.{arith}
use Rattle.net_ends.proofs.Datagrams.{cut-more, total-more}
use Rattle.net_ends.proofs.memory_port.MemPort.keep.Goals as goal

pub invariant_of-self : goal.invariant_of-self
invariant_of-self c = grind (arith, total-more)

pub returns : goal.returns
returns c = grind (arith, cut-more)
