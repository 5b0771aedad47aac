-- What is seen of a record: all that rests on the users and on the published configurations.
use Rattle.std.specs.Prelude.{ℕ, Bool, true, false, ◌==◌, Option, Some, None, List, [], option_map, option_and_then}
use Rattle.addr_pattern.specs.declared.endpoint.Endpoint.{Endpoint}
use Rattle.addr_pattern.specs.declared.host.Host.{Host}
use Rattle.conf_types.specs.declared.entries.Entries.{Entries}
use Rattle.conf_types.specs.declared.route.Via.{Via}
use Rattle.socks_machine.specs.declared.record.Chosen.{Chosen}
use Rattle.socks_machine.specs.declared.record.Record.{Record}
use Rattle.socks_machine.specs.Basis.{Basis}
use Rattle.socks_machine.specs.Datagrams.{Fate, fates_of}
use Rattle.socks_machine.specs.Decisions.{Grant, granted}
use Rattle.socks_grammar.specs.Dialogue.{Wish, Outcome, outcome, said}
use Rattle.socks_grammar.specs.Grammar.{Read, Credentials, greeting, login}
use Rattle.socks_machine.specs.Front.{Front, Proxy}
use Rattle.socks_grammar.specs.Handshake.{Split}
use Rattle.rule_list.specs.Rules.{numbered, via_of}
use Rattle.socks_grammar.specs.Users.{user_fits}

-- ---- the client's input

abbrev pub split_of : Basis → Record → Split
split_of basis r = (basis.front).split basis.users (option_map (λ c. c.method) r.chosen) r.c

abbrev pub length_of : Split → ℕ
length_of (Split.Whole request n) = n
length_of _ = 0

abbrev pub login_fits : Basis → Read Credentials → Bool
login_fits basis (Read.Got l at rest) = user_fits basis.users l.name l.password
login_fits basis _ = false

abbrev pub login_fits_behind : Basis → Read (List ℕ) → Bool
login_fits_behind basis (Read.Got offered at rest) = login_fits basis (login at rest)
login_fits_behind basis _ = false

abbrev pub asks_login : Option Chosen → Bool
asks_login None = false
asks_login (Some c) = c.method == 2

-- a login was asked for, is whole, and a user fits it
abbrev pub login_passed : Basis → Record → Bool
login_passed basis r = elim (asks_login r.chosen) [ true ↦ login_fits_behind basis (greeting 0 r.c) | false ↦ false ]

-- ---- the proxy

abbrev pub proxy_of_via : Via → Option Proxy
proxy_of_via Via.Direct = None
proxy_of_via (Via.Proxy at version login) = Some (record { at = at; version = version; login = login })

abbrev pub proxy_in : Option ℕ → Option Entries → Option Proxy
proxy_in route None = None
proxy_in route (Some k) = proxy_of_via (via_of k route)

-- the proxy of the route that was kept with the grant
abbrev pub proxy_of_grant : Basis → Grant → Option Proxy
proxy_of_grant basis g = proxy_in g.route (numbered basis.pubs g.generation)

abbrev pub proxy_of : Basis → Record → Option Proxy
proxy_of basis r = option_and_then (proxy_of_grant basis) (granted r.decisions)

-- what is wanted of the proxy: the address and port of the passed destination
abbrev pub wish : Proxy → Endpoint → Wish
wish p to = record { version = p.version; host = Host.Addr to.addr; port = to.port; login = p.login }

abbrev pub outcome_with : List ℕ → Grant → Option Proxy → Option Outcome
outcome_with heard g None = None
outcome_with heard g (Some p) = Some (outcome (wish p g.facts.to) heard)

abbrev pub outcome_of_grant : Basis → List ℕ → Option Grant → Option Outcome
outcome_of_grant basis heard None = None
outcome_of_grant basis heard (Some g) = outcome_with heard g (proxy_of_grant basis g)

-- how the dialogue with the proxy stands, where there is a proxy
abbrev pub dialogue_of : Basis → Record → Option Outcome
dialogue_of basis r = outcome_of_grant basis r.t (granted r.decisions)

abbrev pub said_with : List ℕ → Grant → Option Proxy → List ℕ
said_with heard g None = []
said_with heard g (Some p) = said (wish p g.facts.to) heard

abbrev pub said_by_grant : Basis → List ℕ → Option Grant → List ℕ
said_by_grant basis heard None = []
said_by_grant basis heard (Some g) = said_with heard g (proxy_of_grant basis g)

-- what the dialogue with the proxy says
abbrev pub said_to_proxy : Basis → Record → List ℕ
said_to_proxy basis r = said_by_grant basis r.t (granted r.decisions)

-- ---- the whole

pub record View : Type 0 where
  pub front : Front
  pub split : Split
  pub login_passed : Bool
  pub proxy : Option Proxy
  pub dialogue : Option Outcome
  pub said : List ℕ
  pub fates : List Fate

abbrev pub view : Basis → Record → View
view basis r = record {
  front = basis.front;
  split = split_of basis r;
  login_passed = login_passed basis r;
  proxy = proxy_of basis r;
  dialogue = dialogue_of basis r;
  said = said_to_proxy basis r;
  fates = fates_of basis r r.grams;
}
