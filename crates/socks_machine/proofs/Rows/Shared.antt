-- What the worked rows share: configurations, endpoints, the first bytes of a client, and what a run is shown as.
use Rattle.std.specs.Prelude.{ℕ, zero, suc, Bool, true, false, Option, Some, None, List, [], ◌∷◌, codes, option_map, flat_map}
use Rattle.addr_pattern.specs.declared.addr.Addr.{Addr}
use Rattle.addr_pattern.specs.declared.endpoint.Endpoint.{Endpoint}
use Rattle.addr_pattern.specs.declared.pattern.HostPattern.{HostPattern}
use Rattle.addr_pattern.specs.declared.pattern.PortTest.{PortTest}
use Rattle.addr_pattern.specs.declared.pattern.Pattern.{Pattern}
use Rattle.socks_grammar.specs.declared.protocol.Method.{Method}
use Rattle.conf_types.specs.declared.rule.ClientRule.{ClientRule}
use Rattle.conf_types.specs.declared.rule.SocksRule.{SocksRule}
use Rattle.conf_types.specs.declared.route.Route.{Route}
use Rattle.conf_types.specs.declared.entries.Entries.{Entries}
use Rattle.socks_grammar.specs.declared.user.User.{User}
use Rattle.socks_machine.specs.declared.world.Outer.{Outer}
use Rattle.socks_machine.specs.declared.world.NextMark.{NextMark}
use Rattle.socks_machine.specs.declared.world.TurnEvent.{TurnEvent}
use Rattle.socks_machine.specs.declared.world.Event.{Event}
use Rattle.socks_machine.specs.declared.world.World.{World}
use Rattle.socks_machine.specs.LogText.{log_text}
use Rattle.socks_machine.specs.Step.{run, start, step}
use Rattle.socks_machine.specs.Taking.{◌>>=◌}
use Rattle.socks_machine.specs.Transcript.{traced, with_ends}
use Rattle.conf_types.specs.declared.route.Via.{Via}
use Rattle.socks_grammar.specs.declared.protocol.Version.{Version}
use Rattle.socks_machine.specs.Socks.{socks}
use Rattle.socks_machine.specs.declared.record.Decision.{Decision}

abbrev pub any : Pattern
any = record { host = HostPattern.Any; port = PortTest.Any }

-- a network of IPv4
abbrev pub net : ℕ → ℕ → Pattern
net addr bits = record { host = HostPattern.Net (Addr.V4 addr) bits; port = PortTest.Any }

abbrev pub at4 : ℕ → ℕ → Endpoint
at4 addr port = record { addr = Addr.V4 addr; port = port }

abbrev pub client_rule : Bool → Pattern → Pattern → ClientRule
client_rule pass from to = record { pass = pass; from = from; to = to; max = None }

abbrev pub socks_rule : Bool → Pattern → Pattern → Option ℕ → SocksRule
socks_rule pass from to max = record {
  pass = pass;
  from = from;
  to = to;
  connect = true;
  bind = true;
  udpassociate = true;
  bindreply = true;
  udpreply = true;
  tcp = true;
  udp = true;
  noauth = true;
  username = true;
  v4 = true;
  v5 = true;
  users = [];
  max = max;
}

abbrev pub config : List Method → List ClientRule → List SocksRule → List Route → Entries
config methods client socks routes = record {
  internals = at4 0x7F000001 1080 ∷ [];
  externals = [];
  control = None;
  methods = methods;
  negotiate = 30;
  io = 0;
  client = client;
  socks = socks;
  routes = routes;
}

-- any client may ask for anything
abbrev pub all_pass : Entries
all_pass = config (Method.NoAuth ∷ []) (client_rule true any any ∷ []) (socks_rule true any any None ∷ []) []

abbrev pub client_at : Endpoint
client_at = at4 0x0A000005 5000

abbrev pub local_at : Endpoint
local_at = at4 0x7F000001 1080

abbrev pub at6 : ℕ → ℕ → Endpoint
at6 addr port = record { addr = Addr.V6 addr; port = port }

abbrev pub proxy4 : Via
proxy4 = Via.Proxy (at4 0xC0000201 1080) Version.V4 None

abbrev pub proxy5 : Via
proxy5 = Via.Proxy (at4 0xC0000201 1080) Version.V5 None

abbrev pub route : Via → Route
route via = record { from = any; to = any; via = via }

abbrev pub abc_user : List User
abc_user = record { name = codes "abc"; digest = 0xba ∷ 0x78 ∷ 0x16 ∷ 0xbf ∷ 0x8f ∷ 0x01 ∷ 0xcf ∷ 0xea ∷ 0x41 ∷ 0x41 ∷ 0x40 ∷ 0xde ∷ 0x5d ∷ 0xae ∷ 0x22 ∷ 0x23 ∷ 0xb0 ∷ 0x03 ∷ 0x61 ∷ 0xa3 ∷ 0x96 ∷ 0x17 ∷ 0x7a ∷ 0x9c ∷ 0xb4 ∷ 0x10 ∷ 0xff ∷ 0x61 ∷ 0xf2 ∷ 0x00 ∷ 0x15 ∷ 0xad ∷ [] } ∷ []

-- a turn in which nothing comes or goes
abbrev pub quiet : ℕ → ℕ → ℕ → TurnEvent
quiet worker number now = record {
  worker = worker;
  number = number;
  now = now;
  stop = None;
  c = [];
  t = [];
  end_c = false;
  end_t = false;
  grams = [];
  came = None;
  outer = Outer.Nothing;
  sent_c = 0;
  sent_t = 0;
  sent_u = 0;
  shut_c = false;
  shut_t = false;
  idle = [];
  full = [];
  fault = None;
  unwritten = false;
  failed = [];
  memory = false;
  next = NextMark.Going;
}

-- the world behind the first events, and those that are left
abbrev pub past : ℕ → Option World → List Event → Option World × List Event
past zero w es = (w, es)
past (suc n) w [] = (w, [])
past (suc n) w (e ∷ es) = past n (w >>= λ x. step x e) es

abbrev pub from_there : Option World × List Event → List ℕ
from_there x = with_ends (traced x.0 x.1)

-- the text of all but the first events, and the ends
abbrev pub told : List User → ℕ → ℕ → List Event → List ℕ
told users workers skip es = from_there (past skip (Some (start users 256 workers)) es)

abbrev pub logged : List User → ℕ → List Event → Option (List ℕ)
logged users workers es = option_map (λ w. log_text w.h) (run users 256 workers es)

-- a greeting that offers no login, and a request to connect to 198.51.100.10:80 (RFC 1928, sections 3 and 4)
abbrev pub greeting : List ℕ
greeting = 5 ∷ 1 ∷ 0 ∷ []

abbrev pub request : List ℕ
request = 5 ∷ 1 ∷ 0 ∷ 1 ∷ 0xC6 ∷ 0x33 ∷ 0x64 ∷ 0x0A ∷ 0 ∷ 0x50 ∷ []

-- the text of all but the first events, without the ends
abbrev pub turns_there : Option World × List Event → List ℕ
turns_there x = (traced x.0 x.1).0

abbrev pub turns_told : List User → ℕ → ℕ → List Event → List ℕ
turns_told users workers skip es = turns_there (past skip (Some (start users 256 workers)) es)

abbrev pub to_one_net : Entries
to_one_net = config (Method.NoAuth ∷ []) (client_rule true any any ∷ []) (socks_rule true any (net 0xC0000200 24) None ∷ []) []

abbrev pub through_proxy4 : Entries
through_proxy4 = config (Method.NoAuth ∷ []) (client_rule true any any ∷ []) (socks_rule true any any None ∷ []) (route proxy4 ∷ [])

abbrev pub through_proxy5 : Entries
through_proxy5 = config (Method.NoAuth ∷ []) (client_rule true any any ∷ []) (socks_rule true any any None ∷ []) (route proxy5 ∷ [])

abbrev pub one_by_socks_rule : Entries
one_by_socks_rule = config (Method.NoAuth ∷ []) (client_rule true any any ∷ []) (socks_rule true any any (Some 1) ∷ []) []

abbrev pub none_passes : Entries
none_passes = config (Method.NoAuth ∷ []) (client_rule true any any ∷ []) (socks_rule false any any None ∷ []) []

abbrev pub blocks_clients : Entries
blocks_clients = config (Method.NoAuth ∷ []) (client_rule false any any ∷ []) (socks_rule true any any None ∷ []) []

-- where the dials, doors and ports of a run go or stand
abbrev pub gone_to_of : Decision → List Endpoint
gone_to_of (Decision.Reached to at) = to ∷ []
gone_to_of _ = []

abbrev pub gone_to : List Event → Option (List Endpoint)
gone_to es = option_map (λ w. flat_map (λ r. flat_map gone_to_of r.decisions) w.records) (run [] 256 1 es)

abbrev pub one_by_client_rule : Entries
one_by_client_rule = config (Method.NoAuth ∷ []) ((record (client_rule true any any) { max = Some 1 }) ∷ []) (socks_rule true any any None ∷ []) []

-- an association that its desk has let in
abbrev pub opened : List Event
opened = Event.Publish all_pass ∷ Event.See 1 1 ∷ Event.Open 1 1 client_at local_at 0 ∷ Event.Turn (record (quiet 1 1 0) { outer = Outer.Desk true; next = NextMark.Again }) ∷ []
