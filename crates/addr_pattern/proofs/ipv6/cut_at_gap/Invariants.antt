use Rattle.std.proofs.Common.{◌≡◌, ◌≤◌, ◌-◌, take, drop, length}
use Rattle.addr_pattern.specs.AddressText.{cut_at_gap}
use Rattle.addr_pattern.proofs.Gaps.{behind_front}
use Rattle.addr_pattern.proofs.ipv6.cut_at_gap.Given as goal

abbrev pub invariant-loop-at : goal.invariant-loop-at
invariant-loop-at l = record {
  within : l.at ≤ length l.text;
  so_far : cut_at_gap l.text ≡ behind_front (take l.at l.text) (cut_at_gap (drop l.at l.text));
}

abbrev pub decreases-loop-at : goal.decreases-loop-at
decreases-loop-at l = length l.initial.text - l.at
