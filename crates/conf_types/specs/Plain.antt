-- Which configurations are served.
use Rattle.std.specs.Prelude.{◌≡◌, None, All}
use Rattle.conf_types.specs.declared.entries.Entries.{Entries}
use Rattle.conf_types.specs.declared.route.Route.{Route}
use Rattle.conf_types.specs.declared.route.Via.{Via}
use Rattle.conf_types.specs.declared.rule.ClientRule.{ClientRule}
use Rattle.conf_types.specs.declared.rule.SocksRule.{SocksRule}

-- no proxy, and no limit on sessions
pub record IsPlain (k : Entries) : Type 0 where
  pub routes : All (λ (r : Route). r.via ≡ Via.Direct) k.routes
  pub client : All (λ (r : ClientRule). r.max ≡ None) k.client
  pub socks : All (λ (r : SocksRule). r.max ≡ None) k.socks
