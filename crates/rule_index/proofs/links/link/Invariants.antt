use Rattle.std.proofs.Common.{◌≡◌, ◌≤◌, ◌+◌, ◌*◌, length}
use Rattle.rule_index.proofs.Linking.{IsLinkedFrom}
use Rattle.rule_index.proofs.links.link.Given as goal

abbrev pub invariant-loop-at : goal.invariant-loop-at
invariant-loop-at l = record {
  within : l.at ≤ length l.rules;
  slots : length l.heads ≡ 2 * length l.rules + 1;
  each : length l.nexts ≡ length l.rules;
  linked : IsLinkedFrom l.rules (2 * length l.rules + 1) l.heads l.nexts l.at;
}

abbrev pub decreases-loop-at : goal.decreases-loop-at
decreases-loop-at l = l.at
