use Rattle.std.proofs.Common.{◌≡◌, length, All}
use Rattle.conf_types.specs.Kept.{IsSocksRule}
use Rattle.rule_index.proofs.tests.nets.Given as goal

abbrev pub invariant-loop-number : goal.invariant-loop-number
invariant-loop-number l = record {
  each : All IsSocksRule l.rules;
  count : length l.rules ≡ l.number;
}
