use Rattle.std.proofs.Common.{◌≡◌, true, take}
use Rattle.std.specs.List.{list_all}
use Rattle.conf_types.specs.Kept.{is_name as is_name_of}
use Rattle.conf_model.proofs.values.names.Given as goal

abbrev pub invariant-loop-value : goal.invariant-loop-value
invariant-loop-value l = list_all is_name_of l.values ≡ true → l.names ≡ take l.value-index l.values
