-- One direction of a relay in one turn: its source is read, and its sink is written and shut.
use Rattle.std.specs.Prelude.{ℕ, ◌-◌, ◌≡◌, ◌<◌, ◌≤◌, nat_le, Bool, true, false, ◌||◌, ◌&&◌, not, if◌then◌else◌, Option, Some, None, List, [], ◌++◌, length, drop}
use Rattle.net_ends.specs.Counts.{Counts, Later, Rose}
use Rattle.net_ends.specs.Faults.{Tried}
use Rattle.net_ends.specs.declared.kinds.Kind.{Kind}
use Rattle.net_ends.specs.Told.{Told, more}
use Rattle.socks_machine.specs.declared.record.Record.{Record}
use Rattle.socks_machine.specs.declared.world.Object.{Object}
use Rattle.socks_machine.specs.Relaying.{MayTake}
use Rattle.socks_machine.specs.Decisions.{reached_at}
use Rattle.socks_machine.specs.Taking.{some_in, pipe_size}
use Rattle.socks_machine.specs.Turn.{quantum}
use Rattle.assoc_core.specs.declared.carry.Take.{Take}
use Rattle.assoc_core.specs.declared.carry.Give.{Give}
use Rattle.assoc_core.specs.declared.relay.Pass.{Pass}
use Rattle.assoc_core.specs.declared.relay.Side.{Side}
use Rattle.assoc_core.specs.Plain.{prelude_of, replies_by}
use Rattle.assoc_core.specs.Stands.{EndsBehind, GivesFirst}
use Rattle.assoc_core.specs.Turns.{IsIdle, IsFull}

-- why nothing more was read of a source
abbrev pub TakeEnds : Told → Counts → Counts → List ℕ → Bool → Bool → Take → Type 0
TakeEnds told old new part reads ended Take.Unread = reads ≡ false
TakeEnds told old new part reads ended Take.Ended = ended ≡ true
TakeEnds told old new part reads ended Take.NotYet = (ended ≡ false) × IsIdle told × Rose old.idle_reads new.idle_reads
TakeEnds told old new part reads ended Take.Quantum = (ended ≡ false) × (quantum ≤ length part)
TakeEnds told old new part reads ended Take.Held = ended ≡ false
TakeEnds told old new part reads ended Take.Failed = (ended ≡ false) × (told.unfailing ≡ false) × Rose old.faults new.faults

abbrev pub is_quantum : Take → Bool
is_quantum Take.Quantum = true
is_quantum _ = false

abbrev pub is_idle : Take → Bool
is_idle Take.NotYet = true
is_idle _ = false

-- the kind of the call on the source that failed
abbrev pub failed_taking : Take → Option Kind
failed_taking Take.Failed = Some Kind.Read
failed_taking _ = None

-- what was read of a source, and whether it ended; no read was made where it wasn't to be read
pub record TakesPart (old new : Told) (counts counts' : Counts) (before after : List ℕ) (reads was ended : Bool) (take : Take) : Type 0 where
  pub part : List ℕ
  pub ends : Bool
  pub after' : after ≡ before ++ part
  pub ended' : ended ≡ ends || was
  pub told' : new ≡ record old { given = more old.given part; ended = ends || old.ended }
  pub may : MayTake was (some_in part) ends
  pub below : ends ≡ true → length part < quantum
  pub whole : nat_le quantum (length part) ≡ is_quantum take
  pub later : Later counts counts'
  pub tried : Tried counts counts' ((after ≡ before) × (ends ≡ false) × (is_idle take ≡ false)) (Unit {0}) (Unit {0}) (failed_taking take)
  pub still : reads ≡ false → (after ≡ before) × (ends ≡ false) × (take ≡ Take.Unread) × (counts' ≡ counts)
  pub why : TakeEnds new counts counts' part reads ended take
  pub behind : EndsBehind old → EndsBehind new
  pub first : GivesFirst old → GivesFirst new

-- why nothing more was sent to a sink of the bytes of which these are left, and where it was shut
abbrev pub GiveEnds : Told → Counts → Counts → List ℕ → Bool → Bool → Bool → Give → Type 0
GiveEnds told old new rest gives ends shut Give.Held = gives ≡ false
GiveEnds told old new rest gives ends shut Give.All = (rest ≡ []) × (ends ≡ true → shut ≡ true)
GiveEnds told old new rest gives ends shut Give.Full = (0 < length rest) × IsFull told × Rose old.idle_writes new.idle_writes
GiveEnds told old new rest gives ends shut Give.Unwritten = (0 < length rest) × (told.unfailing ≡ false) × Rose old.faults new.faults
GiveEnds told old new rest gives ends shut Give.Unshut =
    (rest ≡ []) × (ends ≡ true) × (shut ≡ false) × (told.unfailing ≡ false) × Rose old.faults new.faults

abbrev pub is_full : Give → Bool
is_full Give.Full = true
is_full _ = false

-- the kind of the call on the sink that failed
abbrev pub failed_giving : Give → Option Kind
failed_giving Give.Unwritten = Some Kind.Write
failed_giving Give.Unshut = Some Kind.Shut
failed_giving _ = None

-- what of the pending bytes was sent to a sink, none where its writes take nothing, and whether it was shut
pub record GivesPart (old new : Told) (counts counts' : Counts) (before after pending : List ℕ) (gives ends was shut : Bool) (give : Give) : Type 0 where
  pub part : List ℕ
  pub rest : List ℕ
  pub shuts : Bool
  pub pending' : part ++ rest ≡ pending
  pub after' : after ≡ before ++ part
  pub shut' : shut ≡ shuts || was
  pub told' : new ≡ record old { taken = more old.taken part; shut = shuts || old.shut }
  pub stuck : old.room ≡ Some 0 → part ≡ []
  pub once : shuts ≡ true → was ≡ false
  pub due : shuts ≡ true → (ends ≡ true) × (rest ≡ [])
  pub later : Later counts counts'
  pub tried : Tried counts counts' (Unit {0}) ((after ≡ before) × (is_full give ≡ false)) (shuts ≡ false) (failed_giving give)
  pub why : GiveEnds new counts counts' rest gives ends shut give

-- ---- reads and writes by turns

-- what a sink is owed: a front, and the bytes of a text behind a place
abbrev pub owed_of : List ℕ → ℕ → List ℕ → List ℕ
owed_of front skip text = front ++ drop skip text

-- how many bytes of the text wait, where so many were sent of all that is owed
abbrev pub waiting_of : List ℕ → ℕ → List ℕ → ℕ → ℕ
waiting_of front skip text sent = length (drop skip text) - (sent - length front)

-- the link took the first of the pending bytes, of which these are left
pub record SentOn (old new : Told) (counts counts' : Counts) (before after pending rest : List ℕ) : Type 0 where
  pub part : List ℕ
  pub pending' : part ++ rest ≡ pending
  pub after' : after ≡ before ++ part
  pub told' : new ≡ record old { taken = more old.taken part }
  pub stuck : old.room ≡ Some 0 → part ≡ []
  pub later : Later counts counts'

-- fewer bytes wait than a pipe holds, or why nothing more was sent
abbrev pub RoomEnds : Told → Counts → Counts → List ℕ → ℕ → Option Give → Type 0
RoomEnds told old new rest waiting None = waiting < pipe_size
RoomEnds told old new rest waiting (Some Give.Full) = (pipe_size ≤ waiting) × (0 < length rest) × IsFull told × Rose old.idle_writes new.idle_writes
RoomEnds told old new rest waiting (Some Give.Unwritten) = (0 < length rest) × (told.unfailing ≡ false) × Rose old.faults new.faults
RoomEnds told old new rest waiting (Some _) = ⊥

-- the kind of the call that has stopped the sending by its failure
abbrev pub failed_stop : Option Give → Option Kind
failed_stop None = None
failed_stop (Some give) = failed_giving give

abbrev pub is_full_stop : Option Give → Bool
is_full_stop None = false
is_full_stop (Some give) = is_full give

-- what was sent before a read
pub record MakesRoom (old new : Told) (counts counts' : Counts) (front : List ℕ) (skip : ℕ) (text before after : List ℕ) (stopped : Option Give) : Type 0 where
  pub rest : List ℕ
  pub sends : SentOn old new counts counts' before after (drop (length before) (owed_of front skip text)) rest
  pub tried : Tried counts counts' (Unit {0}) ((after ≡ before) × (is_full_stop stopped ≡ false)) (Unit {0}) (failed_stop stopped)
  pub why : RoomEnds new counts counts' rest (waiting_of front skip text (length after)) stopped

abbrev pub is_held : Take → Bool
is_held Take.Held = true
is_held _ = false

-- a source is held exactly where the sending has stopped
abbrev pub StopEnds : Told → Counts → Counts → List ℕ → ℕ → Take → Option Give → Type 0
StopEnds told old new rest waiting take None = is_held take ≡ false
StopEnds told old new rest waiting take (Some give) = (is_held take ≡ true) × RoomEnds told old new rest waiting (Some give)

-- what was read of a source, and what was sent to its sink meanwhile; the end was read where fewer bytes wait than a pipe holds
pub record TakesOn (source source' : Told) (counts counts' : Counts) (sink sink' : Told) (sunk sunk' : Counts) (front : List ℕ) (skip : ℕ) (before after sent sent' : List ℕ)
    (reads was ended : Bool) (take : Take) (stopped : Option Give) : Type 0 where
  pub takes : TakesPart source source' counts counts' before after reads was ended take
  pub rest : List ℕ
  pub sends : SentOn sink sink' sunk sunk' sent sent' (drop (length sent) (owed_of front skip after)) rest
  pub tried : Tried sunk sunk' (Unit {0}) ((sent' ≡ sent) × (is_full_stop stopped ≡ false)) (Unit {0}) (failed_stop stopped)
  pub why : StopEnds sink' sunk sunk' rest (waiting_of front skip after (length sent')) take stopped
  pub room : takes.ends ≡ true → waiting_of front skip after (length sent') < pipe_size

-- nothing more was done
pub record StaysSame (old new : Told) (counts counts' : Counts) (before after : List ℕ) (was shut : Bool) : Type 0 where
  pub told' : new ≡ old
  pub counts'' : counts' ≡ counts
  pub after' : after ≡ before
  pub shut' : shut ≡ was

-- what was sent to a sink behind the reads, unless the sending has stopped before
abbrev pub GivesRest : Told → Told → Counts → Counts → List ℕ → List ℕ → List ℕ → Bool → Bool → Bool → Option Give → Give → Type 0
GivesRest old new counts counts' before after pending ends was shut None give = GivesPart old new counts counts' before after pending true ends was shut give
GivesRest old new counts counts' before after pending ends was shut (Some stopped) give = StaysSame old new counts counts' before after was shut × (give ≡ stopped)

-- ---- one pass over both directions

abbrev pub has_ended : Take → Bool
has_ended Take.Ended = true
has_ended _ = false

-- the read didn't fail
abbrev pub is_read : Take → Bool
is_read Take.Failed = false
is_read _ = true

-- no call on the sink failed
abbrev pub is_sound : Give → Bool
is_sound Give.Unwritten = false
is_sound Give.Unshut = false
is_sound _ = true

-- where a source is held, so many bytes wait for a sink that took no more, or a write to it failed
abbrev pub IsHeldBy : ℕ → Give → Type 0
IsHeldBy waiting Give.Full = pipe_size ≤ waiting
IsHeldBy waiting Give.Unwritten = Unit {0}
IsHeldBy waiting _ = ⊥

-- one direction, from a source to its sink
pub record Carries (source source' : Told) (counts counts' : Counts) (sink sink' : Told) (sunk sunk' : Counts) (front : List ℕ) (skip : ℕ) (before after sent sent' : List ℕ)
    (reads gives was ended shut shut' : Bool) (take : Take) (give : Give) : Type 0 where
  pub takes : TakesPart source source' counts counts' before after reads was ended take
  pub gives' : GivesPart sink sink' sunk sunk' sent sent' (drop (length sent) (owed_of front skip after)) gives (has_ended take) shut shut' give
  pub room : takes.ends ≡ true → waiting_of front skip after (length sent') < pipe_size
  pub held : is_held take ≡ true → IsHeldBy (waiting_of front skip after (length sent')) give

-- The client is read, and the target is written and shut. Where the client's read failed nothing more is done.
pub record CarriesToTarget (client client' : Told) (counts counts' : Counts) (target target' : Told) (sunk sunk' : Counts) (old new : Record) (take : Take) (give : Give) : Type 0 where
  pub carries : Carries client client' counts counts' target target' sunk sunk' [] (prelude_of old) old.c new.c old.sent_t new.sent_t true (is_read take) old.end_c new.end_c old.shut_t new.shut_t take give
  pub failed : take ≡ Take.Failed → give ≡ Give.Held
  pub is : new ≡ record old { c = new.c; end_c = new.end_c; sent_t = new.sent_t; shut_t = new.shut_t }

-- the target is read, where it is to be read, and the client is written and shut
pub record CarriesToClient (target target' : Told) (counts counts' : Counts) (client client' : Told) (sunk sunk' : Counts) (reads : Bool) (old new : Record) (take : Take) (give : Give) : Type 0 where
  pub carries : Carries target target' counts counts' client client' sunk sunk' (replies_by old.c old.chosen old.cause (reached_at old.decisions)) 0 old.t new.t old.sent_c new.sent_c reads true
      old.end_t new.end_t old.shut_c new.shut_c take give
  pub is : new ≡ record old { t = new.t; end_t = new.end_t; sent_c = new.sent_c; shut_c = new.shut_c }

-- behind the first failed call on a link no other is made
abbrev pub first_failed : Option Kind → Option Kind → Option Kind
first_failed None kind = kind
first_failed (Some kind) _ = Some kind

-- The client is read and the target is written and shut; then the target is read where no call on it failed, and the client is
-- written, and shut where the target has ended. Where the client's read failed nothing more is done.
pub record Passes (client client' target target' : Told) (counts counts' sunk sunk' : Counts) (prelude : ℕ) (old new : Record) (pass : Pass) : Type 0 where
  pub between_c : Told
  pub between_t : Told
  pub counts_c : Counts
  pub counts_t : Counts
  pub takes_c : TakesPart client between_c counts counts_c old.c new.c true old.end_c new.end_c pass.took_c
  pub gives_t : GivesPart target between_t sunk counts_t old.sent_t new.sent_t (drop (length old.sent_t) (drop prelude new.c)) (is_read pass.took_c) (has_ended pass.took_c) old.shut_t new.shut_t pass.gave_t
  pub takes_t : TakesPart between_t target' counts_t sunk' old.t new.t (is_read pass.took_c && is_sound pass.gave_t) old.end_t new.end_t pass.took_t
  pub gives_c : GivesPart between_c client' counts_c counts' old.sent_c new.sent_c (drop (length old.sent_c) (owed_of (replies_by new.c old.chosen old.cause (reached_at old.decisions)) 0 new.t)) (is_read pass.took_c)
      (has_ended pass.took_t) old.shut_c new.shut_c pass.gave_c
  pub room_c : takes_c.ends ≡ true → waiting_of [] prelude new.c (length new.sent_t) < pipe_size
  pub held_c : is_held pass.took_c ≡ true → IsHeldBy (waiting_of [] prelude new.c (length new.sent_t)) pass.gave_t
  pub room_t : takes_t.ends ≡ true → waiting_of (replies_by new.c old.chosen old.cause (reached_at old.decisions)) 0 new.t (length new.sent_c) < pipe_size
  pub held_t : is_held pass.took_t ≡ true → IsHeldBy (waiting_of (replies_by new.c old.chosen old.cause (reached_at old.decisions)) 0 new.t (length new.sent_c)) pass.gave_c
  pub tried_c : Tried counts counts' ((new.c ≡ old.c) × (takes_c.ends ≡ false) × (is_idle pass.took_c ≡ false)) ((new.sent_c ≡ old.sent_c) × (is_full pass.gave_c ≡ false)) (gives_c.shuts ≡ false)
      (first_failed (failed_taking pass.took_c) (failed_giving pass.gave_c))
  pub tried_t : Tried sunk sunk' ((new.t ≡ old.t) × (takes_t.ends ≡ false) × (is_idle pass.took_t ≡ false)) ((new.sent_t ≡ old.sent_t) × (is_full pass.gave_t ≡ false)) (gives_t.shuts ≡ false)
      (first_failed (failed_giving pass.gave_t) (failed_taking pass.took_t))
  pub held : pass.took_c ≡ Take.Failed → (pass.gave_t ≡ Give.Held) × (pass.took_t ≡ Take.Unread) × (pass.gave_c ≡ Give.Held)
  pub is : new ≡ record old { c = new.c; t = new.t; end_c = new.end_c; end_t = new.end_t; sent_c = new.sent_c; sent_t = new.sent_t; shut_c = new.shut_c; shut_t = new.shut_t }

abbrev pub is_unwritten : Give → Bool
is_unwritten Give.Unwritten = true
is_unwritten _ = false

abbrev pub object_of : Side → Object
object_of Side.Client = Object.Client
object_of Side.Target = Object.Target

-- the object whose call failed first
abbrev pub fault_of : Pass → Option Object
fault_of pass =
    if not (is_read pass.took_c) then Some Object.Client
    else (if not (is_sound pass.gave_t && is_read pass.took_t) then Some Object.Target
    else (if not (is_sound pass.gave_c) then Some Object.Client else None))

abbrev pub unwritten_of : Pass → Bool
unwritten_of pass = is_unwritten pass.gave_t || is_unwritten pass.gave_c

abbrev pub took_quantum : Pass → Bool
took_quantum pass = is_quantum pass.took_c || is_quantum pass.took_t

-- something is pending to a link that took no more
abbrev pub has_pending : Pass → Bool
has_pending pass = is_full pass.gave_t || is_full pass.gave_c
