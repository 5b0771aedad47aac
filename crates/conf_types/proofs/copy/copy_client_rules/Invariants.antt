use Rattle.std.proofs.Common.{◌≡◌, take}
use Rattle.conf_types.proofs.copy.copy_client_rules.Given as goal

abbrev pub invariant-loop-rule : goal.invariant-loop-rule
invariant-loop-rule l = l.copy ≡ take l.rule-index l.rules
