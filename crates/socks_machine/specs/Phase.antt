-- In which phase an association is, and what the relay and the dialogue have come to.
use Rattle.std.specs.Prelude.{ℕ, Bool, true, false, ◌&&◌, ◌||◌, if◌then◌else◌, Option, Some, None, List, drop, is_some}
use Rattle.addr_pattern.specs.declared.endpoint.Endpoint.{Endpoint}
use Rattle.addr_pattern.specs.declared.host.Host.{Host}
use Rattle.socks_grammar.specs.declared.protocol.Command.{Command}
use Rattle.socks_machine.specs.declared.record.Record.{Record}
use Rattle.socks_machine.specs.Decisions.{Opening, Lookup, Grant, opened, looked, granted, reached, reached_at, came, peer_let_in}
use Rattle.socks_machine.specs.Basis.{Basis}
use Rattle.socks_grammar.specs.Dialogue.{Outcome}
use Rattle.socks_grammar.specs.Handshake.{Request, Split}
use Rattle.socks_machine.specs.View.{View, view, length_of}

pub data Phase : Type 0 where
  Ended : Phase
  Closing : Phase
  Accept : Phase
  Talk : Phase
  Seek : List ℕ → Phase
  Judging : Request → Phase
  Reach : Grant → Phase
  Asking : Phase
  Door : Grant → Phase
  Relay : Phase
  Datagrams : Phase

abbrev pub prelude_length_in : View → Record → ℕ
prelude_length_in v r = length_of v.split

-- the client's bytes behind the prelude
abbrev pub client_payload_in : View → Record → List ℕ
client_payload_in v r = drop (prelude_length_in v r) r.c

-- ---- the relay

-- the endpoint that a CONNECT answers with, once the way is open: the dial's own, or the proxy's
abbrev pub way : Option Endpoint → Option Outcome → Option Endpoint
way None _ = None
way (Some at) None = Some at
way (Some at) (Some (Outcome.Up e n)) = Some e
way (Some at) (Some _) = None

abbrev pub way_open_in : View → Record → Option Endpoint
way_open_in v r = way (reached_at r.decisions) v.dialogue

abbrev pub began_by : Command → Option Endpoint → Option Endpoint → Bool
began_by Command.Connect way peer = is_some way
began_by Command.Bind way peer = is_some peer
began_by _ way peer = false

abbrev pub began_after_in : View → Record → Option Grant → Bool
began_after_in v r None = false
began_after_in v r (Some g) = began_by g.facts.command (way_open_in v r) (peer_let_in r.decisions)

-- the relay began_in: a CONNECT's way is open, or a BIND's peer passed
abbrev pub relay_began_in : View → Record → Bool
relay_began_in v r = began_after_in v r (granted r.decisions)

abbrev pub is_udp_grant : Option Grant → Bool
is_udp_grant None = false
is_udp_grant (Some g) = is_udp g.facts.command
  where
    is_udp : Command → Bool
    is_udp Command.UdpAssociate = true
    is_udp _ = false

abbrev pub is_udp : Record → Bool
is_udp r = is_udp_grant (granted r.decisions)

-- the relay or the datagrams began_in
abbrev pub began_in : View → Record → Bool
began_in v r = relay_began_in v r || (is_udp r && is_some (reached_at r.decisions))

-- how many of the target's bytes are the proxy's replies
abbrev pub replies_length : Option Outcome → ℕ
replies_length (Some (Outcome.Up e n)) = n
replies_length _ = 0

-- the target's bytes behind the proxy's replies
abbrev pub target_payload_in : View → Record → List ℕ
target_payload_in v r = drop (replies_length v.dialogue) r.t

-- ---- the phase

abbrev pub phase_connect : Option Outcome → Phase
phase_connect None = Relay
phase_connect (Some (Outcome.Up e n)) = Relay
phase_connect (Some _) = Asking

abbrev pub phase_by_command : View → Record → Grant → Command → Phase
phase_by_command v r g Command.Connect = phase_connect v.dialogue
phase_by_command v r g Command.Bind = if is_some (came r.decisions) then Relay else Door g
phase_by_command v r g _ = Datagrams

abbrev pub phase_reached_in : View → Record → Grant → Phase
phase_reached_in v r g = phase_by_command v r g g.facts.command

abbrev pub phase_granted_in : View → Record → Request → Option Grant → Phase
phase_granted_in v r request None = Judging request
phase_granted_in v r request (Some g) = if is_some (reached r.decisions) then phase_reached_in v r g else Reach g

abbrev pub phase_named_in : View → Record → Request → List ℕ → Option Lookup → Phase
phase_named_in v r request name None = Seek name
phase_named_in v r request name (Some l) = phase_granted_in v r request (granted r.decisions)

abbrev pub phase_asked_in : View → Record → Request → Host → Phase
phase_asked_in v r request (Host.Addr a) = phase_granted_in v r request (granted r.decisions)
phase_asked_in v r request (Host.Name name) = phase_named_in v r request name (looked r.decisions)

-- a split that is Bad, NoMethod or LoginFailed fixes a cause
abbrev pub phase_split_in : View → Record → Split → Phase
phase_split_in v r (Split.Whole request n) = phase_asked_in v r request request.host
phase_split_in v r _ = Talk

abbrev pub phase_opened_in : View → Record → Option Opening → Phase
phase_opened_in v r None = Accept
phase_opened_in v r (Some o) = phase_split_in v r v.split

-- the first that fits
abbrev pub phase_in : View → Record → Phase
phase_in v r = if r.done then Ended else (if is_some r.cause then Closing else phase_opened_in v r (opened r.decisions))

-- ---- the same, from the users and the published configurations

abbrev pub prelude_length : Basis → Record → ℕ
prelude_length basis r = prelude_length_in (view basis r) r

abbrev pub client_payload : Basis → Record → List ℕ
client_payload basis r = client_payload_in (view basis r) r

abbrev pub way_open : Basis → Record → Option Endpoint
way_open basis r = way_open_in (view basis r) r

abbrev pub relay_began : Basis → Record → Bool
relay_began basis r = relay_began_in (view basis r) r

abbrev pub began : Basis → Record → Bool
began basis r = began_in (view basis r) r

abbrev pub target_payload : Basis → Record → List ℕ
target_payload basis r = target_payload_in (view basis r) r

abbrev pub phase : Basis → Record → Phase
phase basis r = phase_in (view basis r) r
