-- Which configurations are served, as a test.
use Rattle.std.specs.Prelude.{Bool, true, false, List, is_none}
use Rattle.std.specs.List.{list_all}
use Rattle.conf_types.specs.declared.route.Route.{Route}
use Rattle.conf_types.specs.declared.route.Via.{Via}
use Rattle.conf_types.specs.declared.rule.ClientRule.{ClientRule}
use Rattle.conf_types.specs.declared.rule.SocksRule.{SocksRule}

abbrev pub is_direct : Via → Bool
is_direct Via.Direct = true
is_direct (Via.Proxy at version login) = false

abbrev pub are_direct : List Route → Bool
are_direct routes = list_all (λ (r : Route). is_direct r.via) routes

abbrev pub are_free_clients : List ClientRule → Bool
are_free_clients rules = list_all (λ (r : ClientRule). is_none r.max) rules

abbrev pub are_free_requests : List SocksRule → Bool
are_free_requests rules = list_all (λ (r : SocksRule). is_none r.max) rules
