-- Questions that were answered by hand.
use Rattle.std.proofs.Common.{ℕ, ◌≡◌, Bool, true, false, None, [], ◌∷◌, codes, refl}
use Rattle.addr_pattern.specs.declared.addr.Addr.{Addr}
use Rattle.addr_pattern.specs.declared.endpoint.Endpoint.{Endpoint}
use Rattle.addr_pattern.specs.declared.pattern.HostPattern.{HostPattern}
use Rattle.addr_pattern.specs.declared.pattern.Pattern.{Pattern}
use Rattle.addr_pattern.specs.declared.pattern.PortTest.{PortTest}
use Rattle.conf_types.specs.declared.entries.Entries.{Entries}
use Rattle.socks_grammar.specs.declared.protocol.Command.{Command}
use Rattle.socks_grammar.specs.declared.protocol.Method.{Method}
use Rattle.socks_grammar.specs.declared.protocol.Version.{Version}
use Rattle.conf_types.specs.declared.route.Via.{Via}
use Rattle.conf_types.specs.declared.rule.ClientRule.{ClientRule}
use Rattle.conf_types.specs.declared.rule.SocksRule.{SocksRule}
use Rattle.conf_model.specs.Settings.{default}
use Rattle.verdict_text.specs.declared.question.Question.{Question}
use Rattle.verdict_text.specs.Decisions.{decision_text}

any : Pattern
any = record { host = HostPattern.Any; port = PortTest.Any }

net : ℕ → ℕ → Pattern
net addr bits = record { host = HostPattern.Net (Addr.V4 addr) bits; port = PortTest.Any }

-- 10.0.0.0/8 and 127.0.0.0/8
ten : Pattern
ten = net 167772160 8

loopback : Pattern
loopback = net 2130706432 8

client_rule : Bool → Pattern → Pattern → ClientRule
client_rule pass from to = record { pass = pass; from = from; to = to; max = None }

-- a rule for all
socks_rule : Bool → Pattern → Pattern → SocksRule
socks_rule pass from to = record {
  pass = pass;
  from = from;
  to = to;
  connect = true;
  bind = true;
  udpassociate = true;
  bindreply = true;
  udpreply = true;
  tcp = true;
  udp = true;
  noauth = true;
  username = true;
  v4 = true;
  v5 = true;
  users = [];
  max = None;
}

at : ℕ → ℕ → Endpoint
at addr port = record { addr = Addr.V4 addr; port = port }

ask : Endpoint → Endpoint → Command → Question
ask from to command = record { from = from; to = to; name = None; command = command }

-- ---- the configuration of an office: 10.0.0.1 port 1080, 0.0.0.0/0 for any address

office : Entries
office = record default {
  internals = at 167772161 1080 ∷ [];
  methods = Method.Username ∷ Method.NoAuth ∷ [];
  client = client_rule true (record ten { port = PortTest.Range 1 65535 }) (net 0 0) ∷ client_rule false any any ∷ [];
  socks = socks_rule false (net 0 0) loopback
      ∷ record (socks_rule true (net 0 0) ten) { connect = false; bind = false; udpassociate = false }
      ∷ record (socks_rule true ten (net 0 0)) { bind = false; bindreply = false; udpreply = false }
      ∷ [];
}

-- 10.1.2.3 and 198.51.100.10
worker : ℕ
worker = 167838211

target : ℕ
target = 3325256714

office_passes : decision_text office (ask (at worker 5000) (at target 80) Command.Connect)
    ≡ codes "client 1 pass\nsocks 3 pass\nroute direct\nverdict pass\n"
unfolding office any net ten loopback client_rule socks_rule at ask worker target
office_passes = refl

office_keeps_to_itself : decision_text office (ask (at worker 5000) (at 2130706433 80) Command.Connect)
    ≡ codes "client 1 pass\nsocks 1 block\nverdict block\n"
unfolding office any net ten loopback client_rule socks_rule at ask worker target
office_keeps_to_itself = refl

office_wants_a_port : decision_text office (ask (at worker 0) (at target 80) Command.Connect) ≡ codes "client 2 block\nverdict block\n"
unfolding office any net ten loopback client_rule socks_rule at ask worker target
office_wants_a_port = refl

-- what comes from outside goes to a client inside
office_takes_a_reply : decision_text office (ask (at target 53) (at worker 5000) Command.UdpReply)
    ≡ codes "client 1 pass\nsocks 2 pass\nverdict pass\n"
unfolding office any net ten loopback client_rule socks_rule at ask worker target
office_takes_a_reply = refl

office_binds_nothing : decision_text office (ask (at worker 5000) (at target 80) Command.Bind) ≡ codes "client 1 pass\nsocks none\nverdict block\n"
unfolding office any net ten loopback client_rule socks_rule at ask worker target
office_binds_nothing = refl

-- ---- everything passes, by a proxy of SOCKS 4 at 192.0.2.1 port 1080

proxied : Entries
proxied = record default {
  internals = at 2130706433 1080 ∷ [];
  client = client_rule true any any ∷ [];
  socks = socks_rule true any any ∷ [];
  routes = record { from = any; to = any; via = Via.Proxy (at 3221225985 1080) Version.V4 None } ∷ [];
}

goes_by_the_proxy : decision_text proxied (ask (at 167772165 5000) (at target 80) Command.Connect)
    ≡ codes "client 1 pass\nsocks 1 pass\nroute 1 192.0.2.1:1080 socks_v4\nverdict pass\n"
unfolding proxied any net client_rule socks_rule at ask target
goes_by_the_proxy = refl

-- [2001:db8::1]:80 can't be asked of it
goes_directly : decision_text proxied (ask (at 167772165 5000) (record { addr = Addr.V6 42540766411282592856903984951653826561; port = 80 }) Command.Connect)
    ≡ codes "client 1 pass\nsocks 1 pass\nroute direct\nverdict pass\n"
unfolding proxied any net client_rule socks_rule at ask
goes_directly = refl

no_client_rule : decision_text (record proxied { client = [] }) (ask (at 167772165 5000) (at target 80) Command.Connect) ≡ codes "client none\nverdict block\n"
unfolding proxied any net client_rule socks_rule at ask target
no_client_rule = refl
