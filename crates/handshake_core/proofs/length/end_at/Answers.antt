use Rattle.std.proofs.Common.{arith}
use Rattle.handshake_core.proofs.Asking.{all-bytes}
use Rattle.handshake_core.proofs.Whole.{request-place, request-ends, request-ends-nowhere}
use Rattle.handshake_core.proofs.length.end_at.Goals as goal

pub overflow_add-result : goal.overflow_add-result
overflow_add-result c =
    let p = request-place c.args.bytes.now c.args.at c.in-Whole.value c.in-Whole.len (all-bytes c.args.bytes.now c.type_inv.bytes) c.in-Whole.ensures in
    let r = c.requires in
    omega (arith, p, r)

pub returns-in-Whole : goal.returns-in-Whole
returns-in-Whole c = request-ends c.args.bytes.now c.args.at c.in-Whole.value c.in-Whole.len c.in-Whole.ensures

pub returns-in_default : goal.returns-in_default
returns-in_default c = request-ends-nowhere c.args.bytes.now c.args.at c.read_asked5.result c.read_asked5.ensures c.in_default.not-Whole
