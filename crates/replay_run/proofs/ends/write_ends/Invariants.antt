use Rattle.std.proofs.Common.{◌≡◌, ◌++◌, drop}
use Rattle.socks_machine.specs.Basis.{Basis}
use Rattle.replay_run.specs.Ends.{AreUngrammed, all_ends}
use Rattle.replay_run.proofs.ends.write_ends.Given as goal

-- what is written, with the associations that are left, is all of them
abbrev pub invariant-ending : goal.invariant-ending
invariant-ending l = record {
  left : AreUngrammed l.slots → AreUngrammed (drop l.slot-index l.slots);
  written : AreUngrammed l.slots → (basis : Basis) → l.out ++ all_ends basis (drop l.slot-index l.slots) ≡ l.fn.out ++ all_ends basis l.slots;
}
