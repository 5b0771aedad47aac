use Rattle.std.proofs.Common.{ℕ, List, subst}
use Rattle.handshake_core.specs.Readers.{AllBytes}
use Rattle.handshake_core.proofs.Entering.{passes-heard, room, wants}
use Rattle.handshake_core.proofs.Running.{run-byte, stays-now}
use Rattle.handshake_core.proofs.take.take.Goals as goal

pub add-requires : goal.add-requires
add-requires c = room c.args.users.now c.args.state.now c.requires.stands c.requires.open (subst (λ (x : List ℕ). AllBytes x) c.as_slice.ensures c.are_bytes.ensures)

pub returns-then-takes-clause-heard : goal.returns-then-takes-clause-heard
returns-then-takes-clause-heard c =
    let t = run-byte c.args.run.now c.args.byte c.takes.result c.if-takes.true c.takes.ensures.taken in
    passes-heard c.args.methods.now c.args.users.now c.args.state.now c.args.byte c.add.new.self c.add.ensures c.requires.stands c.requires.open
    (stays-now c.args.state.now.stage c.args.state.now.message c.args.run.now c.args.byte c.requires.run t.0 t.1)

pub behind-requires : goal.behind-requires
behind-requires c = wants c.args.users.now c.hear.new.state c.hear.ensures.stands' c.in-Need.ensures.goes_on
