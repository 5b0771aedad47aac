use Rattle.std.proofs.Common.{sym}
use Rattle.std.proofs.lemmas.List.{take_more}
use Rattle.handshake_core.specs.declared.taken.Taken.{Taken}
use Rattle.measure.proofs.Bytes.{at-answer, at-next}
use Rattle.measure.proofs.handshake_count.asks.Goals as goal

pub returns-in-Asked : goal.returns-in-Asked
returns-in-Asked c =
    sym (at-answer c.args.methods.now c.args.users.now c.args.bytes.now c.loop-byte.byte-index _ c.loop-byte.handshake c.feed_all.new.self (Taken.Asked c.in-Asked.field-0) (λ e. cc)
    c.loop-byte.invariant (sym (take_more c.args.bytes.now c.loop-byte.byte-index 0 c.loop-byte-test.true)) c.in-Asked.ensures)

pub returns-in-Refused : goal.returns-in-Refused
returns-in-Refused c =
    sym (at-answer c.args.methods.now c.args.users.now c.args.bytes.now c.loop-byte.byte-index _ c.loop-byte.handshake c.feed_all.new.self (Taken.Refused c.in-Refused.field-0) (λ e. cc)
    c.loop-byte.invariant (sym (take_more c.args.bytes.now c.loop-byte.byte-index 0 c.loop-byte-test.true)) c.in-Refused.ensures)

pub loop-byte-preserved : goal.loop-byte-preserved
loop-byte-preserved c =
    at-next c.args.methods.now c.args.users.now c.args.bytes.now c.loop-byte.byte-index _ c.loop-byte.handshake c.feed_all.new.self
    c.loop-byte.invariant (sym (take_more c.args.bytes.now c.loop-byte.byte-index 0 c.loop-byte-test.true)) c.in-Open.ensures
