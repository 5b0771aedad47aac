-- Both directions of a relay: from the client to the target, and from the target to the client.
use Rattle.std.specs.Prelude.{ℕ, ◌≡◌, ◌<◌, ◌≤◌, ◌+◌, ◌-◌, ◌⊎◌, Bool, true, false, Result, Ok, Err, Option, Some, None, List, [], ◌∷◌, length}
use Rattle.net_ends.specs.Counts.{Later}
use Rattle.net_ends.specs.Faults.{Tried}
use Rattle.net_ends.specs.declared.kinds.Kind.{Kind}
use Rattle.half_close_relay.specs.Ways.{Way, fresh_way, Move, Moves, Seen, KeepsArrival, after_giving, after_taking, Failed, SourceRests, SinkRests, ReadIsDue, SinkIsDue, Untaken, sink_kind}
use Rattle.half_close_relay.specs.declared.per_side.PerSide.{PerSide}
use Rattle.half_close_relay.specs.declared.pumped.Pumped.{Pumped}
use Rattle.half_close_relay.specs.declared.pumped.Side.{Side}

pub record Relaying : Type 0 where
  pub up : Way
  pub down : Way

abbrev pub fresh_relay : Relaying
fresh_relay = record { up = fresh_way; down = fresh_way }

-- most bytes that are taken of a side in one turn
abbrev pub quantum : ℕ
quantum = 65536

-- bytes wait for a side
abbrev pub waits_for : List ℕ → Bool
waits_for [] = false
waits_for (byte ∷ bytes) = true

-- the client was read nowhere yet
abbrev pub IsUnread : Way → Type 0
IsUnread way = (way.took ≡ 0) × (way.ended ≡ false)

-- the relay is through
abbrev pub BothShut : Relaying → Type 0
BothShut now = (now.up.shut ≡ true) × (now.down.shut ≡ true)

-- nothing is read: neither bytes nor an end
pub record IsSilent (move : Move) : Type 0 where
  pub given' : move.given ≡ []
  pub ends' : move.ends ≡ false

-- A side as the source of one direction and the sink of the other. No call of it failed but the last, if one did, which is named
-- by its kind: where a read was due to fail nothing was read, where a write was nothing was sent, and where a shut was it isn't
-- shut.
pub record Serves (from to : Move) (failed : Option Kind) (old new : Seen) : Type 0 where
  pub told' : new.told ≡ after_taking (after_giving old.told from.given from.ends) to.sent to.shuts
  pub later : Later old.counts new.counts
  pub arrival : KeepsArrival old.told new.told
  pub tried : Tried old.counts new.counts (IsSilent from) (to.sent ≡ []) (to.shuts ≡ false) failed

-- what a call did in both directions, and which call failed of the client and of the target
pub record Relays (was now : Relaying) (client client' target target' : Seen) (up down : Move) (failed_c failed_t : Option Kind) : Type 0 where
  pub moves_up : Moves was.up now.up up
  pub moves_down : Moves was.down now.down down
  pub client_serves : Serves up down failed_c client client'
  pub target_serves : Serves down up failed_t target target'

-- nothing is left to do now: of each side so many bytes may still be taken
pub record AtRest (left_c left_t : ℕ) (now : Relaying) (client client' target target' : Seen) : Type 0 where
  pub client_read : SourceRests left_c now.up client client'
  pub target_written : SinkRests now.up target target'
  pub target_read : SourceRests left_t now.down target target'
  pub client_written : SinkRests now.down client client'

-- ---- which calls failed

-- A call of a side failed, and was due: a read of it as the source of the one direction, of which so many bytes may still be
-- taken, or what is to be done at it as the sink of the other.
abbrev pub SideFailed : ℕ → Way → Way → Option Kind → Type 0
SideFailed left from to failed = ((failed ≡ Some Kind.Read) × ReadIsDue left from) ⊎ ((failed ≡ Some (sink_kind to.waiting)) × SinkIsDue to)

-- A fault is of the side that is named, and of it alone. Behind another answer no call failed.
abbrev pub FailedBy : ℕ → ℕ → Relaying → Option Kind → Option Kind → Pumped → Type 0
FailedBy left_c left_t now failed_c failed_t (Pumped.Fault Side.Client) = SideFailed left_c now.up now.down failed_c × (failed_t ≡ None)
FailedBy left_c left_t now failed_c failed_t (Pumped.Fault Side.Target) = (failed_c ≡ None) × SideFailed left_t now.down now.up failed_t
FailedBy left_c left_t now failed_c failed_t _ = (failed_c ≡ None) × (failed_t ≡ None)

-- ---- one round over both directions

abbrev pub RoundFailed : ℕ → ℕ → Relaying → Option Kind → Option Kind → Result PerSide Pumped → Type 0
RoundFailed left_c left_t now failed_c failed_t (Ok took) = (failed_c ≡ None) × (failed_t ≡ None)
RoundFailed left_c left_t now failed_c failed_t (Err answer) = FailedBy left_c left_t now failed_c failed_t answer

-- Behind a call of the first direction that failed, and where memory was refused, the second direction is as it was. Where
-- memory was refused for the first both links are.
abbrev pub RoundEnds : ℕ → ℕ → Relaying → Relaying → Seen → Seen → Seen → Seen → List ℕ → List ℕ → Result PerSide Pumped → Type 0
RoundEnds left_c left_t was now client client' target target' up down (Ok took) =
    (length up ≡ took.client) × (length down ≡ took.target) × (took.client ≡ 0 → took.target ≡ 0 → AtRest left_c left_t now client client' target target')
RoundEnds left_c left_t was now client client' target target' up down (Err (Pumped.Fault Side.Client)) =
    Failed client client' × (BothShut now → ⊥) × ((Untaken left_c was.up now.up up × (now.down ≡ was.down) × (target' ≡ target)) ⊎ SinkIsDue now.down)
RoundEnds left_c left_t was now client client' target target' up down (Err (Pumped.Fault Side.Target)) =
    Failed target target' × (BothShut now → ⊥) × (SinkIsDue now.up ⊎ Untaken left_t was.down now.down down) × (now.down ≡ was.down)
RoundEnds left_c left_t was now client client' target target' up down (Err Pumped.Memory) =
    (BothShut now → ⊥) × ((Untaken left_c was.up now.up up × (client' ≡ client) × (target' ≡ target)) ⊎ Untaken left_t was.down now.down down) × (now.down ≡ was.down)
RoundEnds left_c left_t was now client client' target target' up down (Err Pumped.Moved) = ⊥
RoundEnds left_c left_t was now client client' target target' up down (Err Pumped.Idle) = ⊥
RoundEnds left_c left_t was now client client' target target' up down (Err Pumped.Ended) = ⊥

pub record Rounds (left_c left_t : ℕ) (was now : Relaying) (client client' target target' : Seen) (outcome : Result PerSide Pumped) : Type 0 where
  pub up : Move
  pub down : Move
  pub failed_c : Option Kind
  pub failed_t : Option Kind
  pub relays : Relays was now client client' target target' up down failed_c failed_t
  pub within_c : length up.given ≤ left_c
  pub within_t : length down.given ≤ left_t
  pub early_c : up.ends ≡ true → length up.given < left_c
  pub early_t : down.ends ≡ true → length down.given < left_t
  pub why : RoundEnds left_c left_t was now client client' target target' up.given down.given outcome
  pub fails : RoundFailed (left_c - length up.given) (left_t - length down.given) now failed_c failed_t outcome

-- ---- the calls

-- memory is asked for a read that was due
abbrev pub PumpEnds : ℕ → ℕ → Relaying → Seen → Seen → Seen → Seen → Pumped → Type 0
PumpEnds left_c left_t now client client' target target' Pumped.Moved = AtRest left_c left_t now client client' target target' × ((left_c ≡ 0) ⊎ (left_t ≡ 0))
PumpEnds left_c left_t now client client' target target' Pumped.Idle = AtRest left_c left_t now client client' target target' × (0 < left_c) × (0 < left_t)
PumpEnds left_c left_t now client client' target target' Pumped.Ended = BothShut now
PumpEnds left_c left_t now client client' target target' (Pumped.Fault Side.Client) = Failed client client'
PumpEnds left_c left_t now client client' target target' (Pumped.Fault Side.Target) = Failed target target'
PumpEnds left_c left_t now client client' target target' Pumped.Memory = ReadIsDue left_c now.up ⊎ ReadIsDue left_t now.down

-- Of each side no more than a quantum is taken, for which bytes that were taken of the target before count. So many bytes
-- are left of each; its end is read only where some are.
pub record Pumps (taken : ℕ) (was now : Relaying) (client client' target target' : Seen) (answer : Pumped) : Type 0 where
  pub up : Move
  pub down : Move
  pub failed_c : Option Kind
  pub failed_t : Option Kind
  pub relays : Relays was now client client' target target' up down failed_c failed_t
  pub left_c : ℕ
  pub left_t : ℕ
  pub quantum_c : length up.given + left_c ≡ quantum
  pub quantum_t : taken + length down.given + left_t ≡ quantum
  pub early_c : up.ends ≡ true → 0 < left_c
  pub early_t : down.ends ≡ true → 0 < left_t
  pub why : PumpEnds left_c left_t now client client' target target' answer
  pub fails : FailedBy left_c left_t now failed_c failed_t answer

abbrev pub FlushEnds : Relaying → Seen → Seen → Seen → Seen → Pumped → Type 0
FlushEnds now client client' target target' Pumped.Moved = ⊥
FlushEnds now client client' target target' Pumped.Idle = SinkRests now.up target target' × SinkRests now.down client client'
FlushEnds now client client' target target' Pumped.Ended = BothShut now
FlushEnds now client client' target target' (Pumped.Fault Side.Client) = Failed client client'
FlushEnds now client client' target target' (Pumped.Fault Side.Target) = Failed target target'
FlushEnds now client client' target target' Pumped.Memory = ⊥

-- a call that failed is of a sink, since no read is due where nothing may be taken
pub record Flushes (was now : Relaying) (client client' target target' : Seen) (answer : Pumped) : Type 0 where
  pub up : Move
  pub down : Move
  pub failed_c : Option Kind
  pub failed_t : Option Kind
  pub relays : Relays was now client client' target target' up down failed_c failed_t
  pub silent_up : IsSilent up
  pub silent_down : IsSilent down
  pub why : FlushEnds now client client' target target' answer
  pub fails : FailedBy 0 0 now failed_c failed_t answer
