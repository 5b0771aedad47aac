use Rattle.std.proofs.Common.{◌≡◌, [], take, fold}
use Rattle.conf_model.specs.Values.{with_method}
use Rattle.conf_model.proofs.values.listed.Given as goal

abbrev pub invariant-loop-value : goal.invariant-loop-value
invariant-loop-value l = l.methods ≡ fold with_method [] (take l.value-index l.values)
