use Rattle.std.proofs.Common.{ℕ, List, subst}
use Rattle.handshake_core.specs.Readers.{AllBytes}
use Rattle.handshake_core.proofs.Entering.{at-first, at-login, at-request, room, request-room, byte-heard}
use Rattle.handshake_core.proofs.hear.hear.Goals as goal

pub add-requires : goal.add-requires
add-requires c = room c.args.users.now c.args.state.now c.requires.stands c.requires.open (subst (λ (x : List ℕ). AllBytes x) c.as_slice-3.ensures c.are_bytes-3.ensures)

pub hear_first-requires-clause-at : goal.hear_first-requires-clause-at
hear_first-requires-clause-at c = at-first c.args.state.now c.args.byte c.add.new.self c.requires.stands c.in-First.is c.add.ensures

pub hear_login-requires : goal.hear_login-requires
hear_login-requires c = at-login c.args.state.now c.args.byte c.add.new.self c.requires.stands c.in-Login.is c.add.ensures

pub hear5-requires : goal.hear5-requires
hear5-requires c =
    request-room c.args.users.now c.args.state.now c.requires.stands c.in-Request.is c.requires.open
    (subst (λ (x : List ℕ). AllBytes x) c.as_slice.ensures c.are_bytes.ensures) (subst (λ (x : List ℕ). AllBytes x) c.as_slice-2.ensures c.are_bytes-2.ensures)

pub returns-in-First : goal.returns-in-First
returns-in-First c = byte-heard c.args.methods.now c.args.users.now c.args.state.now c.hear_first.new.state c.args.byte c.add.new.self c.hear_first.result c.add.ensures (c.hear_first.ensures c.args.users.now)

pub returns-in-Login : goal.returns-in-Login
returns-in-Login c = byte-heard c.args.methods.now c.args.users.now c.args.state.now c.hear_login.new.state c.args.byte c.add.new.self c.hear_login.result c.add.ensures (c.hear_login.ensures c.args.methods.now)

pub returns-in-Request : goal.returns-in-Request
returns-in-Request c = byte-heard c.args.methods.now c.args.users.now c.args.state.now c.hear5.new.state c.args.byte c.add.new.self c.hear5.result c.add.ensures
    (c.hear5.ensures c.args.methods.now c.args.users.now (at-request c.args.users.now c.args.state.now c.args.byte c.add.new.self c.requires.stands c.in-Request.is c.requires.open c.add.ensures))
