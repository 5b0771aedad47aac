use Rattle.conf_model.proofs.Adding.{adds_mapped, adds_nothing}
use Rattle.conf_model.specs.Canonical.{internal_line}
use Rattle.conf_model.proofs.write.add_internals.Goals as goal

pub loop-endpoint-init : goal.loop-endpoint-init
loop-endpoint-init c = adds_nothing c.args.text.now

pub loop-endpoint-preserved : goal.loop-endpoint-preserved
loop-endpoint-preserved c = adds_mapped _ _ _ internal_line c.args.internals.now c.loop-endpoint.endpoint-index _ c.loop-endpoint-test.true c.loop-endpoint.invariant c.in_ok-add_internal.ensures
