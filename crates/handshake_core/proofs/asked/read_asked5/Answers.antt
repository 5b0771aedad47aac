use Rattle.handshake_core.proofs.Asking.{all-bytes, name-at5}
use Rattle.handshake_core.proofs.asked.read_asked5.Goals as goal

pub host5-requires : goal.host5-requires
host5-requires c = name-at5 c.args.bytes.now c.in-Whole.value c.in-Whole.len (all-bytes c.args.bytes.now c.type_inv.bytes) c.in-Whole.ensures
