use Rattle.std.proofs.Common.{ℕ, ◌+◌, length, sym, ap, ◌∙◌, arith}
use Rattle.socks_grammar.specs.Grammar.{request5}
use Rattle.socks_machine.specs.Settle.{bad_cause}
use Rattle.handshake_core.specs.Asking.{asked_in}
use Rattle.handshake_core.proofs.Asking.{front-more, front-bad, front-whole}
use Rattle.handshake_core.proofs.Hearing.{before-is, bad-place, whole-place, request-needs, request-refused, request-asked}
use Rattle.handshake_core.proofs.hear.hear5.Goals as goal

pub bad_cause-cause-requires : goal.bad_cause-cause-requires
bad_cause-cause-requires c =
    let s = c.args.state.now in
    let k = before-is s c.as_slice.result.now c.as_slice-2.result.now c.as_slice.ensures c.as_slice-2.ensures in
    let p = bad-place c.as_slice-bytes.result.now c.in-Bad.bad.at c.in-Bad.bad.byte c.in-Bad.bad.kind c.are_bytes.ensures (front-bad asked_in c.in-Bad.bad (request5 0 c.as_slice-bytes.result.now) c.in-Bad.ensures) in
    let r = c.requires in
    omega (arith, k, p, r)

pub overflow_add-before-in-Whole : goal.overflow_add-before-in-Whole
overflow_add-before-in-Whole c =
    let s = c.args.state.now in
    let k = before-is s c.as_slice.result.now c.as_slice-2.result.now c.as_slice.ensures c.as_slice-2.ensures in
    let f = front-whole asked_in c.in-Whole.value c.in-Whole.len (request5 0 c.as_slice-bytes.result.now) c.in-Whole.ensures in
    let p = whole-place c.as_slice-bytes.result.now (asked_in c.in-Whole.value) c.in-Whole.len f.rest c.are_bytes.ensures f.is in
    let r = c.requires in
    omega (arith, k, p, r)

pub returns-in-More : goal.returns-in-More
returns-in-More c = λ methods users h.
    request-needs methods users c.args.state.now h (sym (ap (request5 0) c.as_slice-bytes.ensures) ∙ front-more asked_in (request5 0 c.as_slice-bytes.result.now) c.in-More.ensures)

pub returns-in-Bad : goal.returns-in-Bad
returns-in-Bad c = λ methods users h.
    let bad = c.in-Bad.bad in
    let k = before-is c.args.state.now c.as_slice.result.now c.as_slice-2.result.now c.as_slice.ensures c.as_slice-2.ensures in
    request-refused methods users c.args.state.now c.refuse.new.state c.refuse.result bad.at bad.byte bad.kind c.bad_cause-cause.result c.failing.result h
    (sym (ap (request5 0) c.as_slice-bytes.ensures) ∙ front-bad asked_in bad (request5 0 c.as_slice-bytes.result.now) c.in-Bad.ensures)
    (c.bad_cause-cause.ensures ∙ ap (λ (j : ℕ). bad_cause (j + bad.at) bad.byte bad.kind) k) c.failing.ensures c.refuse.ensures

pub returns-in-Whole : goal.returns-in-Whole
returns-in-Whole c = λ methods users h.
    let k = before-is c.args.state.now c.as_slice.result.now c.as_slice-2.result.now c.as_slice.ensures c.as_slice-2.ensures in
    let f = front-whole asked_in c.in-Whole.value c.in-Whole.len (request5 0 c.as_slice-bytes.result.now) c.in-Whole.ensures in
    request-asked methods users c.args.state.now c.ask.new.state c.ask.result c.in-Whole.value c.method_of-method.result c.in-Whole.len (length c.as_slice.result.now + length c.as_slice-2.result.now + c.in-Whole.len) f.rest h
    (sym (ap (request5 0) c.as_slice-bytes.ensures) ∙ f.is) c.method_of-method.ensures (ap (λ (j : ℕ). j + c.in-Whole.len) k) c.ask.ensures
