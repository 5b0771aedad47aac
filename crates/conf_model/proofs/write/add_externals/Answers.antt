use Rattle.conf_model.proofs.Adding.{adds_mapped, adds_nothing}
use Rattle.conf_model.specs.Canonical.{external_line}
use Rattle.conf_model.proofs.write.add_externals.Goals as goal

pub loop-addr-init : goal.loop-addr-init
loop-addr-init c = adds_nothing c.args.text.now

pub loop-addr-preserved : goal.loop-addr-preserved
loop-addr-preserved c = adds_mapped _ _ _ external_line c.args.externals.now c.loop-addr.addr-index _ c.loop-addr-test.true c.loop-addr.invariant c.in_ok-add_external.ensures
