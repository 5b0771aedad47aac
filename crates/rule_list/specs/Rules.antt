-- The search for the first matching rule, the verdict, and the route.
use Rattle.std.specs.Prelude.{ℕ, zero, suc, ◌+◌, Bool, true, false, ◌&&◌, if◌then◌else◌, Option, Some, None, List, [], ◌∷◌, bytes_eq, option_map, position, slice_get, option_and_then}
use Rattle.std.specs.List.{list_any}
use Rattle.addr_pattern.specs.declared.addr.Addr.{Addr}
use Rattle.addr_pattern.specs.declared.endpoint.Endpoint.{Endpoint}
use Rattle.addr_pattern.specs.declared.pattern.Pattern.{Pattern}
use Rattle.socks_grammar.specs.declared.protocol.Method.{Method}
use Rattle.socks_grammar.specs.declared.protocol.Version.{Version}
use Rattle.socks_grammar.specs.declared.protocol.Command.{Command}
use Rattle.conf_types.specs.declared.rule.ClientRule.{ClientRule}
use Rattle.conf_types.specs.declared.rule.SocksRule.{SocksRule}
use Rattle.conf_types.specs.declared.route.Via.{Via}
use Rattle.conf_types.specs.declared.route.Route.{Route}
use Rattle.conf_types.specs.declared.entries.Entries.{Entries}
use Rattle.rule_list.specs.declared.facts.Facts.{Facts}
use Rattle.rule_list.specs.declared.verdict.Verdict.{Verdict}
use Rattle.addr_pattern.specs.Matches.{matches}
use Rattle.socks_grammar.specs.Equal.{method_eq}

-- the pattern takes the endpoint, reached under this name if any
abbrev pub takes : Pattern → Option (List ℕ) → Endpoint → Bool
takes p name e = matches p name e.addr e.port

-- the number, from 1, of the first that passes the test
abbrev pub first : {A : Type 0} → (A → Bool) → List A → Option ℕ
first test xs = option_map (λ i. i + 1) (position test xs)

-- the element of that number
abbrev pub numbered : {A : Type 0} → List A → ℕ → Option A
numbered xs zero = None
numbered xs (suc i) = slice_get xs i

abbrev pub client_rule_matches : Endpoint → Endpoint → ClientRule → Bool
client_rule_matches peer local rule = takes rule.from None peer && takes rule.to None local

abbrev pub allows_command : SocksRule → Command → Bool
allows_command r Command.Connect = r.connect
allows_command r Command.Bind = r.bind
allows_command r Command.UdpAssociate = r.udpassociate
allows_command r Command.BindReply = r.bindreply
allows_command r Command.UdpReply = r.udpreply

-- tcp for Connect, Bind and BindReply, udp for the others
abbrev pub allows_protocol : SocksRule → Command → Bool
allows_protocol r Command.Connect = r.tcp
allows_protocol r Command.Bind = r.tcp
allows_protocol r Command.BindReply = r.tcp
allows_protocol r Command.UdpAssociate = r.udp
allows_protocol r Command.UdpReply = r.udp

abbrev pub allows_method : SocksRule → Method → Bool
allows_method r Method.NoAuth = r.noauth
allows_method r Method.Username = r.username

abbrev pub allows_version : SocksRule → Version → Bool
allows_version r Version.V4 = r.v4
allows_version r Version.V5 = r.v5

-- an empty list of users allows everybody
abbrev pub allows_user : List (List ℕ) → Option (List ℕ) → Bool
allows_user [] user = true
allows_user (u ∷ us) None = false
allows_user (u ∷ us) (Some user) = list_any (bytes_eq user) (u ∷ us)

abbrev pub socks_rule_matches : Facts → SocksRule → Bool
socks_rule_matches f r =
    takes r.from None f.from && takes r.to f.name f.to && allows_command r f.command && allows_protocol r f.command
    && allows_method r f.method && allows_version r f.version && allows_user r.users f.user

abbrev pub first_client : Entries → Endpoint → Endpoint → Option ℕ
first_client k peer local = first (client_rule_matches peer local) k.client

abbrev pub first_socks : Entries → Facts → Option ℕ
first_socks k f = first (socks_rule_matches f) k.socks

-- whether a rule of this number passes; one that isn't there doesn't
abbrev pub client_passes : Option ClientRule → Bool
client_passes None = false
client_passes (Some r) = r.pass

abbrev pub socks_passes : Option SocksRule → Bool
socks_passes None = false
socks_passes (Some r) = r.pass

abbrev pub client_rule_passes : Entries → Option ℕ → Bool
client_rule_passes k None = false
client_rule_passes k (Some n) = client_passes (numbered k.client n)

abbrev pub judge_socks : Entries → ℕ → Option ℕ → Verdict
judge_socks k c None = Verdict.SocksNone c
judge_socks k c (Some s) = if socks_passes (numbered k.socks s) then Verdict.Pass c s else Verdict.SocksBlock c s

abbrev pub judge_after_client : Entries → Facts → ℕ → Verdict
judge_after_client k f c =
    if list_any (method_eq f.method) k.methods then judge_socks k c (first_socks k f) else Verdict.SocksNone c

abbrev pub judge_with_client : Entries → Facts → Option ℕ → Verdict
judge_with_client k f None = Verdict.ClientNone
judge_with_client k f (Some c) =
    if client_passes (numbered k.client c) then judge_after_client k f c else Verdict.ClientBlock c

-- what both lists say of these facts
abbrev pub judge : Entries → Facts → Verdict
judge k f = judge_with_client k f (first_client k f.peer f.local)

abbrev pub is_pass : Verdict → Bool
is_pass (Verdict.Pass c s) = true
is_pass _ = false

-- a proxy of SOCKS 4 can't be asked for an address of IPv6
abbrev pub can_name : Via → Addr → Bool
can_name (Via.Proxy at Version.V4 login) (Addr.V6 a) = false
can_name _ _ = true

abbrev pub route_matches : Facts → Route → Bool
route_matches f r = takes r.from None f.from && takes r.to f.name f.to && can_name r.via f.to.addr

-- the number of the first route that matches, where the command is Connect
abbrev pub route_of : Entries → Facts → Option ℕ
route_of k f = route_for f.command
  where
    route_for : Command → Option ℕ
    route_for Command.Connect = first (route_matches f) k.routes
    route_for _ = None

-- what the route of this number goes by, or Direct
abbrev pub via_of_route : Option Route → Via
via_of_route None = Via.Direct
via_of_route (Some r) = r.via

abbrev pub via_of : Entries → Option ℕ → Via
via_of k None = Via.Direct
via_of k (Some n) = via_of_route (numbered k.routes n)

abbrev pub client_max : Entries → Option ℕ → Option ℕ
client_max k None = None
client_max k (Some n) = option_and_then (λ r. r.max) (numbered k.client n)

abbrev pub socks_max : Entries → Option ℕ → Option ℕ
socks_max k None = None
socks_max k (Some n) = option_and_then (λ r. r.max) (numbered k.socks n)
