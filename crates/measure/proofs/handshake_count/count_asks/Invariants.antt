use Rattle.std.proofs.Common.{◌≡◌}
use Rattle.measure.specs.Asks.{asked_of}
use Rattle.measure.proofs.handshake_count.count_asks.Given as goal

-- so far each handshake ended with a request, or none
abbrev pub invariant-loop : goal.invariant-loop
invariant-loop l = l.asked ≡ asked_of l.counter l.methods l.users l.bytes
