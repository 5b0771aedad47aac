use Rattle.std.proofs.Common.{take}
use Rattle.std.specs.List.{flat_map}
use Rattle.conf_model.specs.Canonical.{route_lines}
use Rattle.conf_model.specs.Writing.{Adds}
use Rattle.conf_model.proofs.write.add_routes.Given as goal

abbrev pub invariant-loop-route : goal.invariant-loop-route
invariant-loop-route l = Adds l.initial.text l.text (flat_map route_lines (take l.route-index l.routes))
