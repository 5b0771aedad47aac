use Rattle.handshake_core.proofs.Asking.{all-bytes}
use Rattle.handshake_core.proofs.hear.are_bytes.Goals as goal

pub returns : goal.returns
returns c = all-bytes c.args.bytes.now c.type_inv.bytes
