use Rattle.handshake_core.proofs.Named.{host-meant}
use Rattle.handshake_core.proofs.asked.host_at.Goals as goal

pub unreachable-requires : goal.unreachable-requires
unreachable-requires c = let h = host-meant _ c.requires.named in let e = c.in-Err.ensures in cc

pub returns : goal.returns
returns c = let h = host-meant _ c.requires.named in let e = c.in-Ok.ensures in cc
