use Rattle.std.proofs.Common.{[], ◌≡◌, false, sym, refl}
use Rattle.conf_model.proofs.Adding.{adds_nothing, adds_same}
use Rattle.verdict_text.specs.Decisions.{is_connect, route_lines}
use Rattle.verdict_text.proofs.text.add_routes.Goals as goal

pub returns-else-is_connect : goal.returns-else-is_connect
returns-else-is_connect c =
    let other : is_connect c.args.facts.now.command ≡ false = sym c.if-is_connect.ensures in
    adds_same _ _ [] (route_lines c.args.config.now c.args.facts.now) (adds_nothing c.args.text.now) (rw other refl)
