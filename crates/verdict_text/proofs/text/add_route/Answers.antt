use Rattle.std.proofs.Common.{[], ◌∷◌, List, ℕ, ap, refl}
use Rattle.conf_model.proofs.Adding.{adds_same}
use Rattle.rule_list.specs.Rules.{via_of}
use Rattle.verdict_text.specs.Decisions.{route_line}
use Rattle.verdict_text.proofs.Routes.{direct_route, proxy_route, unknown_route}
use Rattle.verdict_text.proofs.text.add_route.Goals as goal

abbrev alone : List ℕ → List (List ℕ)
alone line = line ∷ []

pub returns-in_ok-add_line-in-None : goal.returns-in_ok-add_line-in-None
returns-in_ok-add_line-in-None c =
    adds_same _ _ _ (route_line c.args.number (via_of c.args.config.now c.args.number) ∷ []) c.in_ok-add_line-in-None.ensures (rw c.in-None.is refl)

pub returns-in_ok-add_line-in-None-numbered_route : goal.returns-in_ok-add_line-in-None-numbered_route
returns-in_ok-add_line-in-None-numbered_route c =
    adds_same _ _ _ _ c.in_ok-add_line-in-None-numbered_route.ensures
    (ap alone (unknown_route c.args.config.now c.args.number c.in-Some.number c.in-Some.is c.in-None-numbered_route.ensures))

pub returns-in_ok-add_line-in-Direct : goal.returns-in_ok-add_line-in-Direct
returns-in_ok-add_line-in-Direct c =
    adds_same _ _ _ _ c.in_ok-add_line-in-Direct.ensures
    (ap alone
    (direct_route c.args.config.now c.args.number c.in-Some.number c.in-Some-numbered_route.route.now c.in-Some.is c.in-Some-numbered_route.ensures c.in-Direct.is))

pub returns-in_ok-add_proxy-in-Proxy : goal.returns-in_ok-add_proxy-in-Proxy
returns-in_ok-add_proxy-in-Proxy c =
    adds_same _ _ _ _ c.in_ok-add_proxy-in-Proxy.ensures
    (ap alone
    (proxy_route c.args.config.now c.args.number c.in-Some.number c.in-Some-numbered_route.route.now _ _ _ c.in-Some.is c.in-Some-numbered_route.ensures c.in-Proxy.is))
