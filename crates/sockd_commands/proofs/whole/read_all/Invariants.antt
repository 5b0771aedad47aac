use Rattle.std.proofs.Common.{◌≤◌, ◌<◌, ◌+◌, ◌-◌, length}
use Rattle.sockd_commands.specs.Whole.{Gave, IsFront}
use Rattle.sockd_commands.proofs.whole.read_all.Given as goal

abbrev pub invariant-reading : goal.invariant-reading
invariant-reading g l = record {
  gave : Gave (g.I.Source.told l.fn.input) (g.I.Source.told l.input) l.bytes;
  front : 0 < length l.bytes → IsFront (g.I.Source.told l.input);
  later : g.I.Source.faults l.fn.input ≤ g.I.Source.faults l.input;
}

abbrev pub decreases-reading : goal.decreases-reading
decreases-reading g l = (l.limit + 1) - length l.bytes
