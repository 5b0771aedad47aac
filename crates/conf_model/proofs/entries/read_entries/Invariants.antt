use Rattle.std.proofs.Common.{◌≡◌, drop}
use Rattle.conf_model.specs.Blocks.{entries_onto, nothing_given}
use Rattle.conf_model.proofs.entries.read_entries.Given as goal

abbrev pub invariant-loop-entry : goal.invariant-loop-entry
invariant-loop-entry l = entries_onto l.kind nothing_given l.entries ≡ entries_onto l.kind l.given (drop l.entry-index l.entries)
