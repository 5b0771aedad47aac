-- What becomes of each datagram that a port takes.
use Rattle.std.specs.Prelude.{ℕ, Bool, true, false, not, ◌==◌, nat_le, if◌then◌else◌, Option, Some, None, List, [], ◌∷◌, ◌++◌, length, filter_map, count_by}
use Rattle.addr_pattern.specs.declared.addr.Addr.{Addr}
use Rattle.addr_pattern.specs.declared.endpoint.Endpoint.{Endpoint}
use Rattle.addr_pattern.specs.declared.host.Host.{Host}
use Rattle.socks_grammar.specs.declared.protocol.Command.{Command}
use Rattle.conf_types.specs.declared.entries.Entries.{Entries}
use Rattle.rule_list.specs.declared.facts.Facts.{Facts}
use Rattle.socks_machine.specs.declared.record.Gram.{Gram}
use Rattle.socks_machine.specs.declared.record.Record.{Record}
use Rattle.socks_machine.specs.Decisions.{Grant, granted, reached_at}
use Rattle.addr_pattern.specs.Equal.{addr_eq, endpoint_eq, same_family}
use Rattle.socks_grammar.specs.Grammar.{Read, UdpHeader, udp_header, spelled_udp_header}
use Rattle.socks_machine.specs.Basis.{Basis}
use Rattle.rule_list.specs.Rules.{numbered, judge, is_pass}

pub data Reason : Type 0 where
  Rule : Reason
  Header : Reason
  Frag : Reason
  Source : Reason
  TooLong : Reason
  ByName : Reason

-- it is sent on, or dropped
pub data Fate : Type 0 where
  Sent : Gram → Fate
  Dropped : Reason → Fate

-- ---- the client's endpoint

-- the port that the client uses: the one that is known, or that of a datagram from its address
abbrev pub learned : Addr → Option ℕ → Gram → Option ℕ
learned client (Some port) g = Some port
learned client None g = if addr_eq g.peer.addr client then Some g.peer.port else None

abbrev pub asked_port : ℕ → Option ℕ
asked_port port = if port == 0 then None else Some port

-- ---- judging

abbrev pub passes_in : Option Entries → Facts → Bool
passes_in None f = false
passes_in (Some k) f = is_pass (judge k f)

-- the facts of the grant, for this command and these ends
abbrev pub between : Facts → Command → Endpoint → Endpoint → Facts
between f command from to = record {
  peer = f.peer;
  local = f.local;
  command = command;
  version = f.version;
  method = f.method;
  user = f.user;
  from = from;
  to = to;
  name = None;
}

abbrev pub allowed : Option Entries → Grant → Command → Endpoint → Endpoint → Bool
allowed k g command from to = passes_in k (between g.facts command from to)

-- ---- from the client

abbrev pub judged_out : Option Entries → Grant → Gram → Endpoint → List ℕ → Fate
judged_out k g d to data' =
    if allowed k g Command.UdpAssociate d.peer to
    then Sent (record { peer = to; bytes = data'; generation = d.generation })
    else Dropped Rule

abbrev pub out_to_addr : Option Entries → Grant → Endpoint → Gram → UdpHeader → List ℕ → Addr → Fate
out_to_addr k g port d h data' a =
    if not (same_family a port.addr) then Dropped Header
    else (if not (h.frag == 0) then Dropped Frag
    else judged_out k g d (record { addr = a; port = h.port }) data')

abbrev pub out_to_host : Option Entries → Grant → Endpoint → Gram → UdpHeader → List ℕ → Host → Fate
out_to_host k g port d h data' (Host.Addr a) = out_to_addr k g port d h data' a
out_to_host k g port d h data' (Host.Name n) = if h.frag == 0 then Dropped ByName else Dropped Frag

abbrev pub out_with : Option Entries → Grant → Endpoint → Gram → Read UdpHeader → Fate
out_with k g port d (Read.Got h at rest) = out_to_host k g port d h rest h.host
out_with k g port d _ = Dropped Header

-- ---- from a remote host

abbrev pub within_length : Gram → Gram → Fate
within_length d out = if nat_le (length out.bytes) 65507 then Sent out else Dropped TooLong

abbrev pub in_to : Option Entries → Grant → Gram → Endpoint → Fate
in_to k g d client =
    if allowed k g Command.UdpReply d.peer client
    then within_length d (record { peer = client; bytes = spelled_udp_header d.peer ++ d.bytes; generation = d.generation })
    else Dropped Rule

-- ---- each datagram, in the configuration of its generation, with the client's port as far as it is known by then

abbrev pub fate : Option Entries → Grant → Endpoint → Addr → Option ℕ → Gram → Fate
fate k g port client None d = Dropped Source
fate k g port client (Some p) d =
    elim (endpoint_eq d.peer (record { addr = client; port = p })) [
      | true ↦ out_with k g port d (udp_header 0 d.bytes)
      | false ↦ in_to k g d (record { addr = client; port = p })
    ]

abbrev pub fates : List Entries → Grant → Endpoint → Addr → Option ℕ → List Gram → List Fate
fates pubs g port client known [] = []
fates pubs g port client known (d ∷ ds) =
    fate (numbered pubs d.generation) g port client (learned client known d) d ∷ fates pubs g port client (learned client known d) ds

abbrev pub fates_at : Basis → Record → List Gram → Option Grant → Option Endpoint → List Fate
fates_at basis r grams (Some g) (Some port) = fates basis.pubs g port r.peer.addr (asked_port g.facts.to.port) grams
fates_at basis r grams _ _ = []

-- the fates of these datagrams, the first ones of an association
abbrev pub fates_of : Basis → Record → List Gram → List Fate
fates_of basis r grams = fates_at basis r grams (granted r.decisions) (reached_at r.decisions)

abbrev pub sent_by : Fate → Option Gram
sent_by (Sent d) = Some d
sent_by (Dropped reason) = None

-- the datagrams that are owed for these
abbrev pub owed_for : Basis → Record → List Gram → List Gram
owed_for basis r grams = filter_map sent_by (fates_of basis r grams)

abbrev pub owed_datagrams : Basis → Record → List Gram
owed_datagrams basis r = owed_for basis r r.grams

abbrev pub reason_code : Reason → ℕ
reason_code Rule = 0
reason_code Header = 1
reason_code Frag = 2
reason_code Source = 3
reason_code TooLong = 4
reason_code ByName = 5

abbrev pub is_drop : Reason → Fate → Bool
is_drop reason (Sent d) = false
is_drop reason (Dropped why) = reason_code reason == reason_code why

-- how many datagrams were dropped for a reason
abbrev pub drops : Basis → Record → Reason → ℕ
drops basis r reason = count_by (is_drop reason) (fates_of basis r r.grams)
