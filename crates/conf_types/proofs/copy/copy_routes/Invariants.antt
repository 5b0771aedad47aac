use Rattle.std.proofs.Common.{◌≡◌, take}
use Rattle.conf_types.proofs.copy.copy_routes.Given as goal

abbrev pub invariant-loop-route : goal.invariant-loop-route
invariant-loop-route l = l.copy ≡ take l.route-index l.routes
