-- One direction of a relay, from the link that gives, its source, to the link that takes, its sink.
use Rattle.std.specs.Prelude.{ℕ, zero, suc, ◌≡◌, ◌≢◌, ◌<◌, ◌≤◌, ◌+◌, ◌-◌, ◌^◌, min, Bool, true, false, ◌||◌, Option, Some, None, Result, Ok, Err, List, [], ◌∷◌, ◌++◌, length}
use mathlib.Core.List.{IsPrefix}
use Rattle.net_ends.specs.Counts.{Counts, Later, Rose}
use Rattle.net_ends.specs.Faults.{Tried, is_among}
use Rattle.net_ends.specs.Told.{Told, Arrival, more}
use Rattle.net_ends.specs.declared.kinds.Kind.{Kind}
use Rattle.net_ends.specs.declared.kinds.Kinds.{Kinds}
use Rattle.half_close_relay.specs.declared.halt.Halt.{Halt}

-- What waits for the sink, whether the source has ended and the sink was shut, and how many bytes were taken and sent. A
-- total stays at its type's end.
pub record Way : Type 0 where
  pub waiting : List ℕ
  pub ended : Bool
  pub shut : Bool
  pub took : ℕ
  pub sent : ℕ

abbrev pub fresh_way : Way
fresh_way = record { waiting = []; ended = false; shut = false; took = 0; sent = 0 }

abbrev pub total : ℕ → ℕ → ℕ
total before zero = before
total before (suc n) = min (before + suc n) (2 ^ 64 - 1)

-- what a call did in one direction: what the source gave and the sink took, whether the source ended and the sink was shut
pub record Move : Type 0 where
  pub given : List ℕ
  pub sent : List ℕ
  pub ends : Bool
  pub shuts : Bool

-- No byte is lost, and none comes from elsewhere: what was sent and what waits now is what waited and what was given. A
-- source that has ended is read no more. The sink is shut once, and only where the source has ended and all was sent.
pub record Moves (was now : Way) (move : Move) : Type 0 where
  pub kept : was.waiting ++ move.given ≡ move.sent ++ now.waiting
  pub ended' : now.ended ≡ move.ends || was.ended
  pub shut' : now.shut ≡ move.shuts || was.shut
  pub took' : now.took ≡ total was.took (length move.given)
  pub sent' : now.sent ≡ total was.sent (length move.sent)
  pub silent : was.ended ≡ true → (move.given ≡ []) × (move.ends ≡ false)
  pub once : move.shuts ≡ true → was.shut ≡ false
  pub due : move.shuts ≡ true → (now.ended ≡ true) × (now.waiting ≡ [])

-- ---- the links

-- a link as it is seen
pub record Seen : Type 0 where
  pub told : Told
  pub counts : Counts

abbrev pub seen : Told → Counts → Seen
seen told counts = record { told = told; counts = counts }

abbrev pub after_giving : Told → List ℕ → Bool → Told
after_giving told given ends = record told { given = more told.given given; ended = ends || told.ended }

abbrev pub after_taking : Told → List ℕ → Bool → Told
after_taking told sent shuts = record told { taken = more told.taken sent; shut = shuts || told.shut }

-- it has given all that arrived, and no end stands behind that
abbrev pub IsIdle : Told → Type 0
IsIdle told = (arrival : Arrival) (given : List ℕ) → told.arrived ≡ Some arrival → told.given ≡ Some given → (given ≡ arrival.bytes) × (arrival.ends ≡ false)

-- it has taken as much as it can, unless a write takes nothing
abbrev pub IsFull : Told → Type 0
IsFull told = told.room ≢ Some 0 → (cap : ℕ) (taken : List ℕ) → told.cap ≡ Some cap → told.taken ≡ Some taken → cap ≤ length taken

-- its end was read only behind all that arrived
abbrev pub EndsBehind : Told → Type 0
EndsBehind told = (arrival : Arrival) (given : List ℕ) → told.arrived ≡ Some arrival → told.given ≡ Some given → told.ended ≡ true → (given ≡ arrival.bytes) × (arrival.ends ≡ true)

-- what it gave is the first of what arrived
abbrev pub GivesFirst : Told → Type 0
GivesFirst told = (arrival : Arrival) (given : List ℕ) → told.arrived ≡ Some arrival → told.given ≡ Some given → IsPrefix given arrival.bytes

-- reads keep what a link says of what arrived
pub record KeepsArrival (old new : Told) : Type 0 where
  pub behind : EndsBehind old → EndsBehind new
  pub first : GivesFirst old → GivesFirst new

-- A source gave these bytes, and its end where it ended. No call of it failed but the last, if one did: where a read was due to
-- fail nothing was read.
pub record Gives (given : List ℕ) (ends : Bool) (failed : Option Kind) (old new : Seen) : Type 0 where
  pub told' : new.told ≡ after_giving old.told given ends
  pub later : Later old.counts new.counts
  pub arrival : KeepsArrival old.told new.told
  pub tried : Tried old.counts new.counts ((given ≡ []) × (ends ≡ false)) (Unit {0}) (Unit {0}) failed

-- A sink took these bytes, and was shut. No call of it failed but the last, if one did: where a write was due to fail nothing was
-- sent, and where a shut was it isn't shut.
pub record Takes (sent : List ℕ) (shuts : Bool) (failed : Option Kind) (old new : Seen) : Type 0 where
  pub told' : new.told ≡ after_taking old.told sent shuts
  pub later : Later old.counts new.counts
  pub tried : Tried old.counts new.counts (Unit {0}) (sent ≡ []) (shuts ≡ false) failed

-- ---- why no more is done

-- a call of a link failed
pub record Failed (old new : Seen) : Type 0 where
  pub rose : Rose old.counts.faults new.counts.faults
  pub allowed : old.told.unfailing ≡ false

-- where the link tells which kinds of its calls are due to fail, this one isn't
abbrev pub IsUndue : Kind → Counts → Type 0
IsUndue kind counts = (due : Kinds) → counts.due ≡ Some due → is_among due kind ≡ false

-- a source that hasn't ended, and may be read, answered NotYet, and no read was due to fail
pub record SourceRests (left : ℕ) (now : Way) (old new : Seen) : Type 0 where
  pub idle : now.ended ≡ false → 0 < left → IsIdle new.told × Rose old.counts.idle_reads new.counts.idle_reads × IsUndue Kind.Read old.counts

-- where bytes wait the sink answered NotYet, and no write was due to fail; and where it is to be shut it was
pub record SinkRests (now : Way) (old new : Seen) : Type 0 where
  pub full : 0 < length now.waiting → IsFull new.told × Rose old.counts.idle_writes new.counts.idle_writes × IsUndue Kind.Write old.counts
  pub due : now.ended ≡ true → now.waiting ≡ [] → now.shut ≡ true

-- a source may be read: it hasn't ended, and so many bytes may still be taken of it
pub record ReadIsDue (left : ℕ) (way : Way) : Type 0 where
  pub unended : way.ended ≡ false
  pub some : 0 < left

-- something is to be done at a sink: bytes wait, or it is to be shut
pub record SinkIsDue (way : Way) : Type 0 where
  pub unshut : way.shut ≡ false
  pub due : way.waiting ≡ [] → way.ended ≡ true

-- and what: a write where bytes wait, and else a shut
abbrev pub sink_kind : List ℕ → Kind
sink_kind [] = Kind.Shut
sink_kind (byte ∷ bytes) = Kind.Write

-- a source that may be read gave nothing, and its direction is as it was
pub record Untaken (left : ℕ) (was now : Way) (given : List ℕ) : Type 0 where
  pub same : now ≡ was
  pub nothing : given ≡ []
  pub unended : was.ended ≡ false
  pub unshut : was.shut ≡ false
  pub some : 0 < left

-- which call of the source failed, and which of the sink
abbrev pub source_failed : Result ℕ Halt → Option Kind
source_failed (Err Halt.Source) = Some Kind.Read
source_failed _ = None

abbrev pub sink_failed : {A : Type 0} → Way → Result A Halt → Option Kind
sink_failed now (Err Halt.Sink) = Some (sink_kind now.waiting)
sink_failed now _ = None

-- ---- a piece from the source

-- Where memory was refused the source was not called.
abbrev pub TakeEnds : ℕ → Way → Way → Seen → Seen → List ℕ → Result ℕ Halt → Type 0
TakeEnds left was now old new given (Ok n) = (length given ≡ n) × (n ≡ 0 → SourceRests left now old new)
TakeEnds left was now old new given (Err Halt.Source) = Failed old new × Untaken left was now given
TakeEnds left was now old new given (Err Halt.Sink) = ⊥
TakeEnds left was now old new given (Err Halt.Memory) = Untaken left was now given × (new ≡ old)

-- a piece of at most so many bytes was taken, or the end, which is read only where bytes could be
pub record TakesPiece (left : ℕ) (was now : Way) (old new : Seen) (outcome : Result ℕ Halt) : Type 0 where
  pub given : List ℕ
  pub ends : Bool
  pub now' : now ≡ record was { waiting = was.waiting ++ given; ended = ends || was.ended; took = total was.took (length given) }
  pub silent : was.ended ≡ true → (given ≡ []) × (ends ≡ false)
  pub within : length given ≤ left
  pub early : ends ≡ true → length given < left
  pub gives : Gives given ends (source_failed outcome) old new
  pub why : TakeEnds left was now old new given outcome

-- ---- what waits, to the sink

abbrev pub GiveEnds : {A : Type 0} → Way → Seen → Seen → Result A Halt → Type 0
GiveEnds now old new (Ok done) = SinkRests now old new
GiveEnds now old new (Err Halt.Source) = ⊥
GiveEnds now old new (Err Halt.Sink) = Failed old new × SinkIsDue now
GiveEnds now old new (Err Halt.Memory) = ⊥

-- the first of what waits was sent, and the sink was shut where that was due
pub record SendsOn {A : Type 0} (was now : Way) (old new : Seen) (outcome : Result A Halt) : Type 0 where
  pub sent : List ℕ
  pub shuts : Bool
  pub waiting' : was.waiting ≡ sent ++ now.waiting
  pub now' : now ≡ record was { waiting = now.waiting; shut = shuts || was.shut; sent = total was.sent (length sent) }
  pub once : shuts ≡ true → was.shut ≡ false
  pub due : shuts ≡ true → (was.ended ≡ true) × (now.waiting ≡ [])
  pub takes : Takes sent shuts (sink_failed now outcome) old new
  pub why : GiveEnds now old new outcome

-- ---- both

-- Behind a read that failed the sink is as it was. Where memory was refused both links are.
abbrev pub CarryEnds : ℕ → Way → Way → Seen → Seen → Seen → Seen → List ℕ → Result ℕ Halt → Type 0
CarryEnds left was now source source' sink sink' given (Ok n) = (length given ≡ n) × (n ≡ 0 → SourceRests left now source source') × SinkRests now sink sink'
CarryEnds left was now source source' sink sink' given (Err Halt.Source) = Failed source source' × Untaken left was now given × (sink' ≡ sink)
CarryEnds left was now source source' sink sink' given (Err Halt.Sink) = Failed sink sink' × SinkIsDue now
CarryEnds left was now source source' sink sink' given (Err Halt.Memory) = Untaken left was now given × (source' ≡ source) × (sink' ≡ sink)

-- one direction was carried: a piece of at most so many bytes from its source, and what waits to its sink
pub record Carries (left : ℕ) (was now : Way) (source source' sink sink' : Seen) (outcome : Result ℕ Halt) : Type 0 where
  pub move : Move
  pub moves : Moves was now move
  pub within : length move.given ≤ left
  pub early : move.ends ≡ true → length move.given < left
  pub gives : Gives move.given move.ends (source_failed outcome) source source'
  pub takes : Takes move.sent move.shuts (sink_failed now outcome) sink sink'
  pub why : CarryEnds left was now source source' sink sink' move.given outcome
