use Rattle.std.proofs.Common.{take}
use Rattle.std.specs.Prelude.{map}
use Rattle.conf_model.specs.Canonical.{external_line}
use Rattle.conf_model.specs.Writing.{Adds}
use Rattle.conf_model.proofs.write.add_externals.Given as goal

abbrev pub invariant-loop-addr : goal.invariant-loop-addr
invariant-loop-addr l = Adds l.initial.text l.text (map external_line (take l.addr-index l.externals))
