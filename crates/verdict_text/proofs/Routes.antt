-- The line of a route, by what its number and its way are.
use Rattle.std.proofs.Common.{ℕ, ◌≡◌, Option, Some, None, codes, sym, ◌∙◌, ap}
use Rattle.addr_pattern.specs.declared.endpoint.Endpoint.{Endpoint}
use Rattle.conf_types.specs.declared.entries.Entries.{Entries}
use Rattle.socks_grammar.specs.declared.protocol.Version.{Version}
use Rattle.socks_grammar.specs.declared.login.Login.{Login}
use Rattle.conf_types.specs.declared.route.Route.{Route}
use Rattle.conf_types.specs.declared.route.Via.{Via}
use Rattle.rule_list.specs.Rules.{numbered, via_of, via_of_route}
use Rattle.verdict_text.specs.Decisions.{proxy_line, route_line}

pub unknown_route : (config : Entries) (number : Option ℕ) (n : ℕ) → number ≡ Some n → (let none : Option Route = None in none ≡ numbered config.routes n)
    → codes "route direct" ≡ route_line number (via_of config number)
unknown_route config number n e h =
    ap (λ (o : Option Route). route_line (Some n) (via_of_route o)) h ∙ ap (λ (k : Option ℕ). route_line k (via_of config k)) (sym e)

by_way : (config : Entries) (number : Option ℕ) (n : ℕ) (r : Route) → number ≡ Some n → Some r ≡ numbered config.routes n
    → route_line (Some n) r.via ≡ route_line number (via_of config number)
by_way config number n r e h =
    ap (λ (o : Option Route). route_line (Some n) (via_of_route o)) h ∙ ap (λ (k : Option ℕ). route_line k (via_of config k)) (sym e)

pub direct_route : (config : Entries) (number : Option ℕ) (n : ℕ) (r : Route) → number ≡ Some n → Some r ≡ numbered config.routes n → r.via ≡ Via.Direct
    → codes "route direct" ≡ route_line number (via_of config number)
direct_route config number n r e h d = ap (λ (v : Via). route_line (Some n) v) (sym d) ∙ by_way config number n r e h

pub proxy_route : (config : Entries) (number : Option ℕ) (n : ℕ) (r : Route) (at : Endpoint) (version : Version) (login : Option Login)
    → number ≡ Some n → Some r ≡ numbered config.routes n → r.via ≡ Via.Proxy at version login
    → proxy_line n at version ≡ route_line number (via_of config number)
proxy_route config number n r at version login e h d = ap (λ (v : Via). route_line (Some n) v) (sym d) ∙ by_way config number n r e h
