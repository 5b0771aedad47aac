use Rattle.handshake_core.proofs.Asking.{all-bytes, name-at4}
use Rattle.handshake_core.proofs.asked.read_asked4.Goals as goal

pub host4-host-requires : goal.host4-host-requires
host4-host-requires c = name-at4 c.args.bytes.now c.in-Whole.value c.in-Whole.len (all-bytes c.args.bytes.now c.type_inv.bytes) c.in-Whole.ensures
