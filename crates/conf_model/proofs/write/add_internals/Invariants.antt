use Rattle.std.proofs.Common.{take}
use Rattle.std.specs.Prelude.{map}
use Rattle.conf_model.specs.Canonical.{internal_line}
use Rattle.conf_model.specs.Writing.{Adds}
use Rattle.conf_model.proofs.write.add_internals.Given as goal

abbrev pub invariant-loop-endpoint : goal.invariant-loop-endpoint
invariant-loop-endpoint l = Adds l.initial.text l.text (map internal_line (take l.endpoint-index l.internals))
