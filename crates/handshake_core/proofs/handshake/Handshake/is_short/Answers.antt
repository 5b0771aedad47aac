use Rattle.std.proofs.Common.{◌≤◌, length, sym, subst}
use Rattle.handshake_core.specs.Due.{Client, IsOpen}
use Rattle.handshake_core.specs.Readers.{AllBytes}
use Rattle.handshake_core.proofs.Entering.{short-bytes}
use Rattle.handshake_core.proofs.handshake.Handshake.is_short.Goals as goal

pub returns : goal.returns
returns c =
    subst (λ (z : Client). length z.bytes ≤ 1289) c.self.view_is
    (short-bytes c.args.users.now c.self.inside.state c.self.invariant.0 (subst (IsOpen c.args.users.now) (sym c.self.view_is) c.requires)
    (subst AllBytes c.as_slice.ensures c.are_bytes.ensures) (subst AllBytes c.as_slice-2.ensures c.are_bytes-2.ensures) (subst AllBytes c.as_slice-3.ensures c.are_bytes-3.ensures))
