-- The outer call of a turn: to the desk, a lookup, a dial, or the opening of a door or a port.
use Rattle.std.specs.Prelude.{ℕ, ◌-◌, ◌^◌, Bool, true, false, if◌then◌else◌, Option, Some, None, List, [], ◌∷◌, ◌++◌, length, min, find, unwrap_or}
use Rattle.addr_pattern.specs.declared.addr.Addr.{Addr}
use Rattle.addr_pattern.specs.declared.endpoint.Endpoint.{Endpoint}
use Rattle.addr_pattern.specs.declared.host.Host.{Host}
use Rattle.socks_grammar.specs.declared.protocol.Command.{Command}
use Rattle.conf_types.specs.declared.entries.Entries.{Entries}
use Rattle.rule_list.specs.declared.facts.Facts.{Facts}
use Rattle.rule_list.specs.declared.verdict.Verdict.{Verdict}
use Rattle.socks_machine.specs.declared.cause.Cause.{Cause}
use Rattle.socks_machine.specs.declared.cause.StopBy.{StopBy}
use Rattle.socks_machine.specs.declared.lines.OpenLine.{OpenLine}
use Rattle.socks_machine.specs.declared.lines.GrantLine.{GrantLine}
use Rattle.socks_machine.specs.declared.lines.PeerLine.{PeerLine}
use Rattle.socks_machine.specs.declared.lines.CloseLine.{CloseLine}
use Rattle.socks_machine.specs.declared.lines.Said.{Said}
use Rattle.socks_machine.specs.declared.lines.Shut.{Shut}
use Rattle.socks_machine.specs.declared.lines.Line.{Line}
use Rattle.socks_machine.specs.declared.record.Decision.{Decision}
use Rattle.socks_machine.specs.declared.record.Record.{Record}
use Rattle.socks_machine.specs.declared.world.Outer.{Outer}
use Rattle.socks_machine.specs.Datagrams.{between}
use Rattle.socks_machine.specs.Decisions.{Grant, Lookup, looked}
use Rattle.addr_pattern.specs.Equal.{same_family}
use Rattle.socks_grammar.specs.Handshake.{Request}
use Rattle.socks_machine.specs.History.{Desked, at_open, at_grant, at_peer, at_close}
use Rattle.socks_machine.specs.Basis.{Basis}
use Rattle.socks_machine.specs.Phase.{Phase, is_udp}
use Rattle.socks_machine.specs.View.{proxy_of_grant}
use Rattle.socks_machine.specs.Front.{Proxy}
use Rattle.rule_list.specs.Rules.{numbered, first_client, client_rule_passes, judge, is_pass, route_of, client_max, socks_max}
use Rattle.socks_machine.specs.Settle.{fix}
use Rattle.socks_machine.specs.Taking.{is_right_peer}

-- what a turn is made over: the basis, the generation that its worker saw with its configuration, and the desk
pub record Context : Type 0 where
  pub basis : Basis
  pub generation : ℕ
  pub config : Entries
  pub cap : ℕ
  pub h : List Line
  pub marks : List StopBy

-- what a turn leaves
pub record TurnResult : Type 0 where
  pub left : Record
  pub h : List Line
  pub marks : List StopBy

abbrev pub keep : Context → Record → TurnResult
keep s r = record { left = r; h = s.h; marks = s.marks }

abbrev pub decided : Decision → Option Cause → Record → Record
decided d refused r = fix refused (record r { decisions = r.decisions ++ d ∷ [] })

-- why the desk or the verdict refuses
abbrev pub refusal_said : Said → Option Cause → Option Cause
refusal_said (Said.Done n) blocked = blocked
refusal_said (Said.Full list rule held limit) blocked = None
refusal_said (Said.Crowded live cap) blocked = Some (Cause.Crowded live cap)
refusal_said (Said.OutOfTurn standing) blocked = Some (Cause.OutOfTurn standing)
refusal_said (Said.Stopped by) blocked = Some (Cause.Stopped by)
refusal_said Said.LogFault blocked = Some Cause.LogFault

abbrev pub refusal_full : ℕ → Said → Option Cause → Option Cause
refusal_full g (Said.Full list rule held limit) blocked = Some (Cause.Full g list rule held limit)
refusal_full g said blocked = refusal_said said blocked

-- ---- open

abbrev pub blocked_client : ℕ → Option ℕ → Bool → Option Cause
blocked_client g rule true = None
blocked_client g rule false = Some (Cause.ClientBlocked g rule)

abbrev pub open_line : Context → Record → OpenLine
open_line s r = record {
  number = r.number;
  generation = s.generation;
  rule = first_client s.config r.peer r.local;
  pass = client_rule_passes s.config (first_client s.config r.peer r.local);
  peer = r.peer;
  local = r.local;
}

abbrev pub opened_by : Context → Record → OpenLine → Desked Said → TurnResult
opened_by s r l d = record {
  left = decided (Decision.Opened l.generation l.rule (refusal_said d.said (blocked_client l.generation l.rule l.pass)))
      (refusal_said d.said (blocked_client l.generation l.rule l.pass)) r;
  h = d.h;
  marks = d.marks;
}

abbrev pub call_open : Context → Record → Bool → TurnResult
call_open s r logged = opened_by s r (open_line s r) (at_open s.h s.marks s.cap (open_line s r) logged)

-- ---- lookup

abbrev pub not_found : Option Addr → Option Cause
not_found None = Some Cause.NotFound
not_found (Some a) = None

abbrev pub call_lookup : Context → Record → List ℕ → Outer → Option TurnResult
call_lookup s r name (Outer.Looked found) = Some (keep s (decided (Decision.Looked name found) (not_found found) r))
call_lookup s r name Outer.Failed = Some (keep s (decided (Decision.Looked name None) (Some Cause.NetFault) r))
call_lookup s r name _ = None

-- ---- grant

abbrev pub found_of : Option Lookup → Option Addr
found_of None = None
found_of (Some l) = l.found

-- the destination: the request's address, or the one that was looked up
abbrev pub destination : Record → Host → Addr
destination r (Host.Addr a) = a
destination r (Host.Name n) = unwrap_or (found_of (looked r.decisions)) (Addr.V4 0)

abbrev pub name_of : Host → Option (List ℕ)
name_of (Host.Addr a) = None
name_of (Host.Name n) = Some n

abbrev pub grant_facts : Record → Request → Facts
grant_facts r q = record {
  peer = r.peer;
  local = r.local;
  command = q.command;
  version = q.version;
  method = q.method;
  user = q.user;
  from = r.peer;
  to = record { addr = destination r q.host; port = q.port };
  name = name_of q.host;
}

abbrev pub client_rule_of : Verdict → Option ℕ
client_rule_of (Verdict.Pass c s) = Some c
client_rule_of (Verdict.ClientBlock c) = Some c
client_rule_of Verdict.ClientNone = None
client_rule_of (Verdict.SocksBlock c s) = Some c
client_rule_of (Verdict.SocksNone c) = Some c

abbrev pub socks_rule_of : Verdict → Option ℕ
socks_rule_of (Verdict.Pass c s) = Some s
socks_rule_of (Verdict.SocksBlock c s) = Some s
socks_rule_of _ = None

abbrev pub blocked : ℕ → Verdict → Option Cause
blocked g v = if is_pass v then None else Some (Cause.Denied g v)

abbrev pub grant_line : Context → Record → Facts → Verdict → GrantLine
grant_line s r f v = record {
  number = r.number;
  generation = s.generation;
  facts = f;
  verdict = v;
  client_max = client_max s.config (client_rule_of v);
  socks_max = socks_max s.config (socks_rule_of v);
}

abbrev pub granted_by : Context → Record → GrantLine → Desked Said → TurnResult
granted_by s r l d = record {
  left = decided (Decision.Granted l.generation l.facts l.verdict (route_of s.config l.facts) (refusal_full l.generation d.said (blocked l.generation l.verdict)))
      (refusal_full l.generation d.said (blocked l.generation l.verdict)) r;
  h = d.h;
  marks = d.marks;
}

abbrev pub call_grant_on : Context → Record → GrantLine → Bool → TurnResult
call_grant_on s r l logged = granted_by s r l (at_grant s.h s.marks l logged)

abbrev pub call_grant : Context → Record → Request → Bool → TurnResult
call_grant s r q logged = call_grant_on s r (grant_line s r (grant_facts r q) (judge s.config (grant_facts r q))) logged

-- ---- dial, door, port

-- the first external address of the local endpoint's family, else the local endpoint's address
abbrev pub outer_in : Option Entries → Endpoint → Addr
outer_in None local = local.addr
outer_in (Some k) local = unwrap_or (find (same_family local.addr) k.externals) local.addr

abbrev pub outer_addr : Basis → Record → Grant → Addr
outer_addr basis r g = outer_in (numbered basis.pubs g.generation) r.local

abbrev pub dialled : Grant → Option Proxy → Endpoint
dialled g None = g.facts.to
dialled g (Some p) = p.at

-- where a grant leads: the destination or the proxy, or the address at which a door or a port opens, with port 0
abbrev pub reach_to : Basis → Record → Grant → Endpoint
reach_to basis r g = by_command g.facts.command
  where
    by_command : Command → Endpoint
    by_command Command.Connect = dialled g (proxy_of_grant basis g)
    by_command _ = record { addr = outer_addr basis r g; port = 0 }

abbrev pub is_connect : Grant → Bool
is_connect g = by_command g.facts.command
  where
    by_command : Command → Bool
    by_command Command.Connect = true
    by_command _ = false

abbrev pub reached_up : Context → Record → Grant → Endpoint → TurnResult
reached_up s r g at = keep s (decided (Decision.Reached (reach_to s.basis r g) (Some at)) None r)

abbrev pub reached_not : Context → Record → Grant → Cause → TurnResult
reached_not s r g cause = keep s (decided (Decision.Reached (reach_to s.basis r g) None) (Some cause) r)

abbrev pub only : Bool → TurnResult → Option TurnResult
only true m = Some m
only false m = None

abbrev pub call_reach : Context → Record → Grant → Outer → Option TurnResult
call_reach s r g (Outer.Up at) = Some (reached_up s r g at)
call_reach s r g Outer.Failed = Some (reached_not s r g Cause.NetFault)
call_reach s r g Outer.Refused = only (is_connect g) (reached_not s r g Cause.Refused)
call_reach s r g Outer.HostUnreachable = only (is_connect g) (reached_not s r g Cause.HostUnreachable)
call_reach s r g Outer.NetUnreachable = only (is_connect g) (reached_not s r g Cause.NetUnreachable)
call_reach s r g _ = None

-- ---- the peer of a BIND

abbrev pub peer_facts : Record → Grant → Endpoint → Facts
peer_facts r g peer = between g.facts Command.BindReply peer r.peer

abbrev pub peer_line : Context → Record → Endpoint → Verdict → PeerLine
peer_line s r peer v = record { number = r.number; generation = s.generation; verdict = v; from = peer; to = r.peer }

abbrev pub came_by : Context → Record → PeerLine → Desked Said → TurnResult
came_by s r l d = record {
  left = decided (Decision.Came l.generation l.from l.verdict (refusal_said d.said (blocked l.generation l.verdict)))
      (refusal_said d.said (blocked l.generation l.verdict)) r;
  h = d.h;
  marks = d.marks;
}

abbrev pub call_peer_on : Context → Record → PeerLine → Bool → TurnResult
call_peer_on s r l logged = came_by s r l (at_peer s.h s.marks l logged)

abbrev pub call_peer : Context → Record → Grant → Endpoint → Bool → TurnResult
call_peer s r g peer logged = call_peer_on s r (peer_line s r peer (judge s.config (peer_facts r g peer))) logged

-- ---- close

-- a total stays at its end
abbrev pub total : ℕ → ℕ
total n = min n (2 ^ 64 - 1)

-- the totals of an association; of one for UDP the target's count datagrams
abbrev pub took : Record → ℕ × ℕ
took r = (total (length r.c), total (if is_udp r then length r.grams else length r.t))

abbrev pub sent : Record → ℕ × ℕ
sent r = (total (length r.sent_c), total (if is_udp r then length r.sent_u else length r.sent_t))

abbrev pub cause_of_shut : Shut → Option Cause
cause_of_shut (Shut.Done n) = None
cause_of_shut Shut.Unlogged = None
cause_of_shut (Shut.OutOfTurn standing) = Some (Cause.OutOfTurn standing)
cause_of_shut Shut.LogFault = Some Cause.LogFault

abbrev pub close_line : Record → Cause → CloseLine
close_line r cause = record { number = r.number; cause = cause; took = took r; sent = sent r }

abbrev pub closed_by : Record → Desked Shut → TurnResult
closed_by r d = record { left = record r { at_close = cause_of_shut d.said }; h = d.h; marks = d.marks }

abbrev pub call_close : List Line → List StopBy → Record → Cause → Bool → TurnResult
call_close h marks r cause logged = closed_by r (at_close h marks (close_line r cause) logged)

-- ---- which call is due

-- the outer call that a phase has to make, made with this outcome; none where the outcome is of another call
abbrev pub call_desk : Outer → (Bool → TurnResult) → Option TurnResult
call_desk (Outer.Desk logged) made = Some (made logged)
call_desk _ made = None

abbrev pub right_peer : Grant → Option Endpoint → Bool
right_peer g None = false
right_peer g (Some peer) = is_right_peer g peer

abbrev pub is_calling : Phase → Option Endpoint → Bool
is_calling Phase.Accept came = true
is_calling (Phase.Seek name) came = true
is_calling (Phase.Judging q) came = true
is_calling (Phase.Reach g) came = true
is_calling (Phase.Door g) came = right_peer g came
is_calling _ came = false

abbrev pub call_peer_with : Context → Record → Grant → Option Endpoint → Outer → Option TurnResult
call_peer_with s r g None outer = None
call_peer_with s r g (Some peer) outer = call_desk outer (call_peer s r g peer)

abbrev pub call : Context → Record → Phase → Option Endpoint → Outer → Option TurnResult
call s r Phase.Accept came outer = call_desk outer (call_open s r)
call s r (Phase.Seek name) came outer = call_lookup s r name outer
call s r (Phase.Judging q) came outer = call_desk outer (call_grant s r q)
call s r (Phase.Reach g) came outer = call_reach s r g outer
call s r (Phase.Door g) came outer = call_peer_with s r g came outer
call s r _ came outer = None
