use Rattle.handshake_core.specs.Due.{IsOpen}
use Rattle.handshake_core.proofs.tests.byte_by_byte.Given as goal

abbrev pub invariant-loop-i : goal.invariant-loop-i
invariant-loop-i l = IsOpen l.users l.handshake
