use Rattle.std.proofs.Common.{◌≡◌, ◌<◌, drop}
use Rattle.addr_pattern.proofs.Gaps.{digits_from}
use Rattle.addr_pattern.proofs.ipv6.read_group.Given as goal

abbrev pub invariant-loop-digit : goal.invariant-loop-digit
invariant-loop-digit l = record {
  value : digits_from 0 l.text ≡ digits_from l.group (drop l.digit-index l.text);
  none : l.digit-index ≡ 0 → l.group < 1;
  one : l.digit-index ≡ 1 → l.group < 16;
  two : l.digit-index ≡ 2 → l.group < 256;
  three : l.digit-index ≡ 3 → l.group < 4096;
}
