use Rattle.std.proofs.Common.{ℕ, ◌≡◌, ◌<◌, true, Some}
use Rattle.std.specs.List.{list_any, slice_get}
use Rattle.conf_types.specs.declared.rule.SocksRule.{SocksRule}
use Rattle.rule_index.specs.Classes.{class_of, class_eq}
use Rattle.rule_index.proofs.index.classes_of.Given as goal

-- the classes of the rules so far
abbrev pub invariant-loop-rule : goal.invariant-loop-rule
invariant-loop-rule l = (k : ℕ) (rule : SocksRule) → k < l.rule-index → slice_get l.rules k ≡ Some rule → list_any (class_eq (class_of rule.to)) l.classes ≡ true
