-- Which association stands for a record.
use Rattle.std.specs.Prelude.{ℕ, ◌≡◌, Bool, true, false, ◌&&◌, ◌||◌, not, IsTrue, if◌then◌else◌, Option, Some, None, List, [], ◌∷◌, ◌++◌, take, drop, map, IfSome, is_some, is_none, option_map}
use Rattle.addr_pattern.specs.declared.addr.Addr.{Addr}
use Rattle.addr_pattern.specs.declared.endpoint.Endpoint.{Endpoint}
use Rattle.conf_types.specs.declared.route.Via.{Via}
use Rattle.socks_machine.specs.declared.cause.Cause.{Cause}
use Rattle.socks_machine.specs.declared.record.Chosen.{Chosen}
use Rattle.socks_machine.specs.declared.record.Decision.{Decision}
use Rattle.socks_machine.specs.declared.record.Gram.{Gram}
use Rattle.socks_machine.specs.declared.record.Record.{Record}
use Rattle.socks_machine.specs.Calls.{took, sent, outer_addr}
use Rattle.socks_machine.specs.Datagrams.{Reason, drops, owed_datagrams, learned, asked_port}
use Rattle.socks_machine.specs.Decisions.{Grant, granted, reached_at}
use Rattle.socks_grammar.specs.Dialogue.{Outcome}
use Rattle.socks_grammar.specs.Handshake.{Split}
use Rattle.socks_machine.specs.Owed.{owed_to_client, owed_to_target, pending_to_target}
use Rattle.socks_machine.specs.Basis.{Basis}
use Rattle.socks_machine.specs.Phase.{Phase, phase, relay_began, is_udp, replies_length}
use Rattle.socks_machine.specs.Ranges.{IsInRange}
use Rattle.socks_machine.specs.Socks.{is_udp_command}
use Rattle.socks_machine.specs.View.{split_of, dialogue_of}
use Rattle.rule_list.specs.Rules.{numbered, via_of}

-- what is known of a link: what it has given and taken, where it tells; whether it has answered its end, and whether a shut was done
pub record LinkView : Type 0 where
  pub given : Option (List ℕ)
  pub taken : Option (List ℕ)
  pub ended : Bool
  pub shut : Bool

-- a datagram at a port: the other end, and the bytes
abbrev pub Packet : Type 0
Packet = Endpoint × List ℕ

pub record PortView : Type 0 where
  pub local : Endpoint
  pub gave : Option (List Packet)
  pub took : Option (List Packet)

pub record Counts : Type 0 where
  pub rule : ℕ
  pub header : ℕ
  pub frag : ℕ
  pub source : ℕ
  pub length' : ℕ
  pub name : ℕ

-- an association, as contracts see it
pub record Association : Type 0 where
  pub number : ℕ
  pub peer : Endpoint
  pub local : Endpoint
  pub since : ℕ
  pub decisions : List Decision
  pub chosen : Option Chosen
  pub cause : Option Cause
  pub end_c : Bool
  pub end_t : Bool
  pub shut_c : Bool
  pub shut_t : Bool
  pub took : ℕ × ℕ
  pub sent : ℕ × ℕ
  pub via : Option Via
  pub outer : Option Addr
  pub client : LinkView
  pub target : Option LinkView
  pub has_door : Bool
  pub port : Option PortView
  pub handshake : List ℕ
  pub dialogue : List ℕ
  pub pending_c : List ℕ
  pub pending_t : List ℕ
  pub held : List ℕ
  pub unsent : Option Gram
  pub client_port : Option ℕ
  pub counts : Counts

abbrev pub counts_of : Basis → Record → Counts
counts_of basis r = record {
  rule = drops basis r Reason.Rule;
  header = drops basis r Reason.Header;
  frag = drops basis r Reason.Frag;
  source = drops basis r Reason.Source;
  length' = drops basis r Reason.TooLong;
  name = drops basis r Reason.ByName;
}

-- the port of the client's datagrams, as far as it is known
abbrev pub learned_from : Addr → Option ℕ → List Gram → Option ℕ
learned_from client known [] = known
learned_from client known (d ∷ ds) = learned_from client (learned client known d) ds

abbrev pub client_port_of : Record → Option Grant → Option ℕ
client_port_of r None = None
client_port_of r (Some g) = learned_from r.peer.addr (asked_port g.facts.to.port) r.grams

abbrev pub via_kept : Basis → Grant → Option Via
via_kept basis g = option_map (λ k. via_of k g.route) (numbered basis.pubs g.generation)

abbrev pub packet_of : Gram → Packet
packet_of d = (d.peer, d.bytes)

-- the client's bytes up to the end of the prelude
abbrev pub talk_of : Record → Split → List ℕ
talk_of r (Split.Whole request n) = take n r.c
talk_of r _ = r.c

abbrev pub talk_bytes : Basis → Record → List ℕ
talk_bytes basis r = talk_of r (split_of basis r)

-- whole, or more has to come
abbrev pub goes_on : Split → Bool
goes_on (Split.Whole request n) = true
goes_on Split.More = true
goes_on _ = false

-- the bytes behind the prelude, and none before it is whole
abbrev pub behind_prelude : Record → Split → List ℕ
behind_prelude r (Split.Whole request n) = drop n r.c
behind_prelude r _ = []

abbrev pub asks_udp : Split → Bool
asks_udp (Split.Whole request n) = is_udp_command request.command
asks_udp _ = false

-- the proxy has said no more than what decides
abbrev pub hears_on : Option Outcome → Bool
hears_on (Some (Outcome.Refused stage code)) = false
hears_on (Some (Outcome.Bad at byte)) = false
hears_on _ = true

-- at most one datagram is held unsent
abbrev pub held_gram : Option Gram → List Gram
held_gram None = []
held_gram (Some d) = d ∷ []

-- the proxy's part of the target's bytes
abbrev pub proxy_bytes : Basis → Record → List ℕ
proxy_bytes basis r = if relay_began basis r then take (replies_length (dialogue_of basis r)) r.t else r.t

-- where a link tells, it has given and taken these bytes
abbrev pub Tells : Option (List ℕ) → List ℕ → Type 0
Tells told bytes = IfSome told (λ x. x ≡ bytes)

abbrev pub TellsPackets : Option (List Packet) → List Gram → Type 0
TellsPackets told grams = IfSome told (λ x. x ≡ map packet_of grams)

-- objects that a phase reads are held
abbrev pub reads_target' : Phase → Bool
reads_target' Phase.Asking = true
reads_target' Phase.Relay = true
reads_target' _ = false

abbrev pub reads_door' : Phase → Bool
reads_door' (Phase.Door g) = true
reads_door' _ = false

abbrev pub reads_port' : Phase → Bool
reads_port' Phase.Datagrams = true
reads_port' _ = false

abbrev pub is_some_byte : List ℕ → Bool
is_some_byte [] = false
is_some_byte (b ∷ bs) = true

pub record HasObjects (basis : Basis) (a : Association) (r : Record) : Type 0 where
  pub target : IsTrue (reads_target' (phase basis r) || is_some_byte (pending_to_target basis r)) → IsTrue (is_some a.target)
  pub door : IsTrue (reads_door' (phase basis r)) → IsTrue a.has_door
  pub port : IsTrue (reads_port' (phase basis r)) → IsTrue (is_some a.port)
  pub port_local : IfSome a.port (λ p. reached_at r.decisions ≡ Some p.local)
  pub client_ended : IsTrue r.end_c → a.client.ended ≡ true
  pub target_ended : IsTrue r.end_t → IfSome a.target (λ l. l.ended ≡ true)
  pub client_shut : a.client.shut ≡ r.shut_c
  pub target_shut : IfSome a.target (λ l. l.shut ≡ r.shut_t)

pub record SameFields (basis : Basis) (a : Association) (r : Record) : Type 0 where
  pub number : a.number ≡ r.number
  pub peer : a.peer ≡ r.peer
  pub local : a.local ≡ r.local
  pub since : a.since ≡ r.since
  pub decisions : a.decisions ≡ r.decisions
  pub chosen : a.chosen ≡ r.chosen
  pub cause : a.cause ≡ r.cause
  pub end_c : a.end_c ≡ r.end_c
  pub end_t : a.end_t ≡ r.end_t
  pub shut_c : a.shut_c ≡ r.shut_c
  pub shut_t : a.shut_t ≡ r.shut_t
  pub going : r.done ≡ false
  pub not_closed : r.at_close ≡ None
  pub took' : a.took ≡ took r
  pub sent' : a.sent ≡ sent r
  pub via : IfSome (granted r.decisions) (λ g. IsTrue (is_none g.refused) → a.via ≡ via_kept basis g)
  pub outer : IfSome (granted r.decisions) (λ g. IsTrue (is_none g.refused) → a.outer ≡ Some (outer_addr basis r g))

pub record TellsTheRecord (client : LinkView) (target : Option LinkView) (port : Option PortView) (r : Record) : Type 0 where
  pub gave_c : Tells client.given r.c
  pub took_c : Tells client.taken r.sent_c
  pub gave_t : IfSome target (λ l. Tells l.given r.t)
  pub took_t : IfSome target (λ l. Tells l.taken r.sent_t)
  pub gave_u : IfSome port (λ p. TellsPackets p.gave r.grams)
  pub took_u : IfSome port (λ p. TellsPackets p.took r.sent_u)

-- The association stands for the record. All but the last part hold whether its objects tell or not.
pub record Stands (basis : Basis) (a : Association) (r : Record) : Type 0 where
  pub same : SameFields basis a r
  pub objects : HasObjects basis a r
  pub handshake : IsTrue (goes_on (split_of basis r)) → a.handshake ≡ talk_bytes basis r
  pub dialogue : IsTrue (hears_on (dialogue_of basis r)) → a.dialogue ≡ proxy_bytes basis r
  pub pending_c : r.sent_c ++ a.pending_c ≡ owed_to_client basis r
  pub pending_t : r.sent_t ++ a.pending_t ≡ owed_to_target basis r
  pub unsent : r.sent_u ++ held_gram a.unsent ≡ owed_datagrams basis r
  pub client_port : IsTrue (is_udp r && is_some (reached_at r.decisions)) → a.client_port ≡ client_port_of r (granted r.decisions)
  pub held : IsTrue (is_none r.cause && not (relay_began basis r) && not (asks_udp (split_of basis r))) → a.held ≡ behind_prelude r (split_of basis r)
  pub counts : a.counts ≡ counts_of basis r
  pub in_range : IsInRange r
  pub tells : TellsTheRecord a.client a.target a.port r
