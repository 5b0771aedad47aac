use Rattle.std.proofs.Common.{◌≡◌, ◌≤◌, ◌++◌, ℕ, List, length}
use Rattle.net_ends.specs.Told.{more}
use Rattle.sockd_commands.proofs.whole.write_all.Given as goal

abbrev pub invariant-writing : goal.invariant-writing
invariant-writing g l = record {
  wrote : (done : List ℕ) × (g.K.Sink.told l.out ≡ more (g.K.Sink.told l.fn.out) done) × (done ++ l.rest ≡ l.text);
  later : g.K.Sink.faults l.fn.out ≤ g.K.Sink.faults l.out;
}

abbrev pub decreases-writing : goal.decreases-writing
decreases-writing g l = length l.rest
