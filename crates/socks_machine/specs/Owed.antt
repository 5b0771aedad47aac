-- What is owed to the client and to the target, from a record.
use Rattle.std.specs.Prelude.{ℕ, ◌-◌, Bool, true, false, ◌&&◌, if◌then◌else◌, Option, Some, None, List, [], ◌++◌, length, drop, is_some, is_none}
use Rattle.addr_pattern.specs.declared.endpoint.Endpoint.{Endpoint}
use Rattle.socks_grammar.specs.declared.protocol.Command.{Command}
use Rattle.socks_machine.specs.declared.cause.Cause.{Cause}
use Rattle.socks_machine.specs.declared.record.Record.{Record}
use Rattle.socks_machine.specs.Decisions.{Grant, granted, reached_at, peer_let_in}
use Rattle.socks_machine.specs.Basis.{Basis}
use Rattle.socks_machine.specs.Phase.{way_open_in, relay_began_in, client_payload_in, target_payload_in}
use Rattle.socks_machine.specs.View.{View, view}

-- ---- to the client

abbrev pub reply_at : View → Record → Command → Option Endpoint → List ℕ
reply_at v r command None = []
reply_at v r command (Some e) = (v.front).granted r.c command e

-- the reply of success, and for a BIND the second one
abbrev pub granted_replies_in : View → Record → Option Grant → List ℕ
granted_replies_in v r None = []
granted_replies_in v r (Some g) =
    reply_at v r g.facts.command (way_open_in v r) ++ reply_at v r g.facts.command (peer_let_in r.decisions)

abbrev pub refusal_of_in : View → Record → Option Cause → List ℕ
refusal_of_in v r None = []
refusal_of_in v r (Some cause) = if relay_began_in v r then [] else (v.front).refused r.chosen r.c r.decisions v.split v.proxy cause

-- what is owed to the client before the relay
abbrev pub replies_in : View → Record → List ℕ
replies_in v r = (v.front).opening r.chosen v.login_passed ++ granted_replies_in v r (granted r.decisions)

abbrev pub owed_to_client_in : View → Record → List ℕ
owed_to_client_in v r =
    replies_in v r ++ (if relay_began_in v r then target_payload_in v r else []) ++ refusal_of_in v r r.cause

-- ---- to the target

-- a link to the target, or to the peer of a BIND, is there
abbrev pub target_by : Option Endpoint → Option Endpoint → Command → Bool
target_by at peer Command.Connect = is_some at
target_by at peer Command.Bind = is_some peer
target_by at peer _ = false

abbrev pub target_is_there : Record → Option Grant → Bool
target_is_there r None = false
target_is_there r (Some g) = is_none g.refused && target_by (reached_at r.decisions) (peer_let_in r.decisions) g.facts.command

abbrev pub has_target : Record → Bool
has_target r = target_is_there r (granted r.decisions)

abbrev pub owed_to_target_in : View → Record → List ℕ
owed_to_target_in v r = elim (has_target r) [
  | true ↦ v.said ++ (if relay_began_in v r then client_payload_in v r else [])
  | false ↦ []
]

-- ---- what is left of it

abbrev pub pending_to_client_in : View → Record → List ℕ
pending_to_client_in v r = drop (length r.sent_c) (owed_to_client_in v r)

abbrev pub pending_to_target_in : View → Record → List ℕ
pending_to_target_in v r = drop (length r.sent_t) (owed_to_target_in v r)

-- how many of the client's bytes wait for the target, and of the target's for the client
abbrev pub waiting_for_target_in : View → Record → ℕ
waiting_for_target_in v r = length (client_payload_in v r) - (length r.sent_t - length v.said)

abbrev pub waiting_for_client_in : View → Record → ℕ
waiting_for_client_in v r = length (target_payload_in v r) - (length r.sent_c - length (replies_in v r))

-- ---- the same, from the users and the published configurations

abbrev pub replies : Basis → Record → List ℕ
replies basis r = replies_in (view basis r) r

abbrev pub owed_to_client : Basis → Record → List ℕ
owed_to_client basis r = owed_to_client_in (view basis r) r

abbrev pub owed_to_target : Basis → Record → List ℕ
owed_to_target basis r = owed_to_target_in (view basis r) r

abbrev pub pending_to_client : Basis → Record → List ℕ
pending_to_client basis r = pending_to_client_in (view basis r) r

abbrev pub pending_to_target : Basis → Record → List ℕ
pending_to_target basis r = pending_to_target_in (view basis r) r

abbrev pub waiting_for_target : Basis → Record → ℕ
waiting_for_target basis r = waiting_for_target_in (view basis r) r

abbrev pub waiting_for_client : Basis → Record → ℕ
waiting_for_client basis r = waiting_for_client_in (view basis r) r
