use Rattle.std.proofs.Common.{take}
use Rattle.std.specs.List.{flat_map}
use Rattle.conf_model.specs.Canonical.{socks_lines}
use Rattle.conf_model.specs.Writing.{Adds}
use Rattle.conf_model.proofs.write.add_socks_rules.Given as goal

abbrev pub invariant-loop-rule : goal.invariant-loop-rule
invariant-loop-rule l = Adds l.initial.text l.text (flat_map socks_lines (take l.rule-index l.rules))
