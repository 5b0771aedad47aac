use Rattle.std.proofs.Common.{◌≤◌, ◌+◌, length}
use Rattle.replay_script.specs.Conditions.{start}
use Rattle.replay_script.proofs.Steps.{IsSoFar}
use Rattle.replay_script.proofs.script.read_lines.Given as goal

abbrev pub invariant-reading : goal.invariant-reading
invariant-reading l = record {
  so_far : IsSoFar start l.text l.lines l.rest l.state l.number;
  room : l.number + length l.rest ≤ 67108866;
}

abbrev pub decreases-reading : goal.decreases-reading
decreases-reading l = length l.rest
