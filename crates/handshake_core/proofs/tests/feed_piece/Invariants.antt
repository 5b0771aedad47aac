use Rattle.std.proofs.Common.{◌≤◌, ◌-◌, length}
use Rattle.handshake_core.specs.Due.{IsOpen}
use Rattle.handshake_core.proofs.tests.feed_piece.Given as goal

abbrev pub invariant-feeding : goal.invariant-feeding
invariant-feeding l = record { open' : IsOpen l.users l.handshake; within : l.at ≤ length l.piece }

abbrev pub decreases-feeding : goal.decreases-feeding
decreases-feeding l = length l.initial.piece - l.at
