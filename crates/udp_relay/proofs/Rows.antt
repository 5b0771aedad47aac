-- Worked rows of the definitions that contracts cite: six datagrams of one association.
use Rattle.std.proofs.Common.{ℕ, ◌≡◌, Bool, true, false, Some, None, List, [], ◌∷◌, refl}
use Rattle.std.specs.Prelude.{replicate}
use Rattle.addr_pattern.specs.declared.addr.Addr.{Addr}
use Rattle.addr_pattern.specs.declared.endpoint.Endpoint.{Endpoint}
use Rattle.addr_pattern.specs.declared.host.Host.{Host}
use Rattle.addr_pattern.specs.declared.pattern.HostPattern.{HostPattern}
use Rattle.addr_pattern.specs.declared.pattern.PortTest.{PortTest}
use Rattle.addr_pattern.specs.declared.pattern.Pattern.{Pattern}
use Rattle.conf_types.specs.declared.entries.Entries.{Entries}
use Rattle.conf_types.specs.declared.rule.SocksRule.{SocksRule}
use Rattle.rule_list.specs.declared.facts.Facts.{Facts}
use Rattle.socks_grammar.specs.declared.protocol.Command.{Command}
use Rattle.socks_grammar.specs.declared.protocol.Method.{Method}
use Rattle.socks_grammar.specs.declared.protocol.Version.{Version}
use Rattle.socks_machine.specs.declared.record.Gram.{Gram}
use Rattle.socks_machine.specs.Datagrams.{Fate, Reason, fates, learned}
use Rattle.udp_relay.specs.declared.outcome.DropReason.{DropReason}
use Rattle.udp_relay.specs.declared.outcome.Outcome.{Outcome}
use Rattle.udp_relay.specs.Outcomes.{addr_in, grant_with, is_of_other_family, shown}

abbrev pub at4 : ℕ → ℕ → Endpoint
at4 addr port = record { addr = Addr.V4 addr; port = port }

abbrev pub any : Pattern
any = record { host = HostPattern.Any; port = PortTest.Any }

abbrev pub rule : Bool → Pattern → SocksRule
rule pass to = record {
  pass = pass;
  from = any;
  to = to;
  connect = true;
  bind = true;
  udpassociate = true;
  bindreply = true;
  udpreply = true;
  tcp = true;
  udp = true;
  noauth = true;
  username = true;
  v4 = true;
  v5 = true;
  users = [];
  max = None;
}

-- nobody may send to 203.0.113.0/24
abbrev pub config : Entries
config = record {
  internals = at4 0x7F000001 1080 ∷ [];
  externals = [];
  control = None;
  methods = Method.NoAuth ∷ [];
  negotiate = 30;
  io = 0;
  client = record { pass = true; from = any; to = any; max = None } ∷ [];
  socks = rule false (record { host = HostPattern.Net (Addr.V4 0xCB007100) 24; port = PortTest.Any }) ∷ rule true any ∷ [];
  routes = [];
}

abbrev pub facts : Facts
facts = record {
  peer = at4 0x0A000005 5000;
  local = at4 0x7F000001 1080;
  command = Command.UdpAssociate;
  version = Version.V5;
  method = Method.NoAuth;
  user = None;
  from = at4 0x0A000005 5000;
  to = at4 0 0;
  name = None;
}

abbrev pub gram : Endpoint → List ℕ → Gram
gram peer bytes = record { peer = peer; bytes = bytes; generation = 1 }

abbrev pub client : Endpoint
client = at4 0x0A000005 6000

abbrev pub remote : Endpoint
remote = at4 0xC633640A 53

-- a reply before the client is known; a fragment, which makes it known; a datagram to a blocked net; one that is sent; two replies,
-- of which the second is too long with its header
six : fates (config ∷ []) (grant_with facts) (at4 0xC0000209 40002) (Addr.V4 0x0A000005) None
    (gram remote (0x78 ∷ []) ∷ gram client (0 ∷ 0 ∷ 1 ∷ 1 ∷ 0xC6 ∷ 0x33 ∷ 0x64 ∷ 0x0A ∷ 0 ∷ 0x35 ∷ 0x61 ∷ [])
    ∷ gram client (0 ∷ 0 ∷ 0 ∷ 1 ∷ 0xCB ∷ 0 ∷ 0x71 ∷ 1 ∷ 0 ∷ 0x35 ∷ 0x62 ∷ []) ∷ gram client (0 ∷ 0 ∷ 0 ∷ 1 ∷ 0xC6 ∷ 0x33 ∷ 0x64 ∷ 0x0A ∷ 0 ∷ 0x35 ∷ 0x63 ∷ [])
    ∷ gram remote (0x64 ∷ []) ∷ gram remote (replicate 65498 0) ∷ [])
    ≡ Fate.Dropped Reason.Source ∷ Fate.Dropped Reason.Frag ∷ Fate.Dropped Reason.Rule ∷ Fate.Sent (gram remote (0x63 ∷ []))
    ∷ Fate.Sent (gram client (0 ∷ 0 ∷ 0 ∷ 1 ∷ 0xC6 ∷ 0x33 ∷ 0x64 ∷ 0x0A ∷ 0 ∷ 0x35 ∷ 0x64 ∷ [])) ∷ Fate.Dropped Reason.TooLong ∷ []
six = refl

-- the client's address with another port is a remote host's, and what is known isn't learned again
again : learned (Addr.V4 0x0A000005) (Some 6000) (gram (at4 0x0A000005 7000) []) ≡ Some 6000
again = refl

-- what an outcome says of the bytes
to-remote : shown 1 (9 ∷ 8 ∷ 7 ∷ []) (Outcome.ToRemote remote 2) ≡ Fate.Sent (gram remote (7 ∷ []))
to-remote = refl

to-client : shown 1 (7 ∷ []) (Outcome.ToClient client (9 ∷ 8 ∷ [])) ≡ Fate.Sent (gram client (9 ∷ 8 ∷ 7 ∷ []))
to-client = refl

too-long : shown 1 (7 ∷ []) (Outcome.Dropped DropReason.Length) ≡ Fate.Dropped Reason.TooLong
too-long = refl

-- a name has no address, and so no family
no-family : is_of_other_family (addr_in (Host.Name (0x61 ∷ []))) (Addr.V4 1) ≡ false
no-family = refl

other-family : is_of_other_family (Some (Addr.V6 1)) (Addr.V4 1) ≡ true
other-family = refl
