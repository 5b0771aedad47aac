use Rattle.measure.proofs.Bytes.{IsSoFar}
use Rattle.measure.proofs.handshake_count.asks.Given as goal

abbrev pub invariant-loop-byte : goal.invariant-loop-byte
invariant-loop-byte l = IsSoFar l.methods l.users l.bytes l.byte-index l.handshake
