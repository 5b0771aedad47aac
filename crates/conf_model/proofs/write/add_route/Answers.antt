use Rattle.std.proofs.Common.{refl}
use Rattle.conf_model.proofs.Adding.{adds_more, adds_then}
use Rattle.conf_model.specs.Canonical.{route_lines}
use Rattle.conf_model.proofs.write.add_route.Goals as goal

pub returns : goal.returns
returns c =
    adds_then _ _ _ _ _ (route_lines c.args.route.now) c.in_ok-add_head.ensures
    (adds_more _ _ _ _ _ c.in_ok-add_patterns.ensures (adds_more _ _ _ _ _ c.in_ok-add_via.ensures c.in_ok-add_end.ensures))
    refl
