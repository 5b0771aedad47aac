use Rattle.std.proofs.Common.{ap, ◌∙◌}
use Rattle.udp_relay.proofs.Hosts.{found, text-found}
use Rattle.udp_relay.proofs.client.named_addr.Goals as goal

pub returns-in-Ok : goal.returns-in-Ok
returns-in-Ok c = ap found c.in-Ok.ensures ∙ text-found c.args.name.now

pub returns-in-Err : goal.returns-in-Err
returns-in-Err c = ap found c.in-Err.ensures ∙ text-found c.args.name.now
