use Rattle.std.proofs.Common.{arith}
use Rattle.handshake_core.proofs.Asking.{all-bytes}
use Rattle.handshake_core.proofs.Whole.{request-place, request-found, request-unfound}
use Rattle.handshake_core.proofs.split.whole_at.Goals as goal

pub overflow_add-at : goal.overflow_add-at
overflow_add-at c =
    let p = request-place c.args.bytes.now c.args.at c.in-Whole.value c.in-Whole.len (all-bytes c.args.bytes.now c.type_inv.bytes) c.in-Whole.ensures in
    let r = c.requires in
    omega (arith, p, r)

pub returns-in-Whole : goal.returns-in-Whole
returns-in-Whole c =
    let e = request-found c.args.method c.args.user c.args.bytes.now c.args.at c.in-Whole.value c.in-Whole.len c.in-Whole.ensures in
    rw c.request.ensures e

pub returns-in_default : goal.returns-in_default
returns-in_default c = request-unfound c.args.method c.args.user c.args.bytes.now c.args.at c.read_asked5.result c.read_asked5.ensures c.in_default.not-Whole
