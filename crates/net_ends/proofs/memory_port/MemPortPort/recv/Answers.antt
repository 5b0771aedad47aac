use Rattle.net_ends.proofs.Datagrams.{prefix-given}
use Rattle.net_ends.proofs.memory_port.MemPortPort.recv.Goals as goal

pub returns-in-Some-clause-arrived : goal.returns-in-Some-clause-arrived
returns-in-Some-clause-arrived c = λ arrived given is_arrived is_given. prefix-given _ c.self.inside.arrived arrived given is_arrived is_given
