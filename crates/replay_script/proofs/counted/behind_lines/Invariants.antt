use Rattle.std.proofs.Common.{ℕ, List}
use Rattle.replay_script.specs.Counted.{IsBehindLines}
use Rattle.replay_script.proofs.counted.behind_lines.Given as goal

abbrev pub invariant-counting : goal.invariant-counting
invariant-counting l = record {
  first : (behind : List ℕ) → IsBehindLines l.left l.rest behind → IsBehindLines l.count l.text behind;
  last : (behind : List ℕ) → IsBehindLines l.count l.text behind → IsBehindLines l.left l.rest behind;
}

abbrev pub decreases-counting : goal.decreases-counting
decreases-counting l = l.left
