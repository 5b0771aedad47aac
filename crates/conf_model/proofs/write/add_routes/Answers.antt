use Rattle.std.proofs.Common.{ap}
use Rattle.conf_model.proofs.Adding.{adds_flat, adds_nothing, adds_same}
use Rattle.conf_model.specs.Canonical.{route_lines}
use Rattle.conf_model.proofs.write.add_routes.Goals as goal

pub loop-route-init : goal.loop-route-init
loop-route-init c = adds_nothing c.args.text.now

pub loop-route-preserved : goal.loop-route-preserved
loop-route-preserved c =
    adds_flat _ _ _ route_lines c.args.routes.now c.loop-route.route-index c.route-item.result c.loop-route-test.true c.loop-route.invariant
    (adds_same _ _ _ _ c.in_ok-add_route.ensures (ap route_lines c.route-item.is))
