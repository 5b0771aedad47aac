-- What one turn comes to.
use Rattle.std.specs.Prelude.{ℕ, ◌+◌, ◌≡◌, ◌≢◌, ◌<◌, ◌≤◌, Bool, true, false, ◌||◌, Option, Some, None, List, [], ◌∷◌, ◌++◌, length, is_some, IfSome}
use Rattle.conf_types.specs.declared.entries.Entries.{Entries}
use Rattle.socks_grammar.specs.declared.protocol.Command.{Command}
use Rattle.socks_grammar.specs.declared.user.User.{User}
use Rattle.net_ends.specs.Counts.{Counts, Rose}
use Rattle.net_ends.specs.Faults.{Tried}
use Rattle.net_ends.specs.declared.kinds.Kind.{Kind}
use Rattle.net_ends.specs.declared.net.Lookup.{Lookup}
use Rattle.net_ends.specs.Nets.{Dial, DialOutcome, LookedUp, NetCounts, NetTold, Plan, dialled, looked_up}
use Rattle.net_ends.specs.Told.{Told, Arrival}
use Rattle.socks_machine.specs.declared.cause.StopBy.{StopBy}
use Rattle.socks_machine.specs.declared.lines.Line.{Line}
use Rattle.socks_machine.specs.declared.record.Record.{Record}
use Rattle.socks_machine.specs.declared.world.NextMark.{NextMark}
use Rattle.socks_machine.specs.declared.world.Object.{Object}
use Rattle.socks_machine.specs.declared.world.Outer.{Outer}
use Rattle.socks_machine.specs.declared.world.TurnEvent.{TurnEvent}
use Rattle.socks_machine.specs.Basis.{Basis}
use Rattle.socks_machine.specs.Calls.{Context, TurnResult}
use Rattle.socks_machine.specs.declared.script.CallKind.{CallKind}
use Rattle.socks_machine.specs.Decisions.{reached_at}
use Rattle.socks_machine.specs.FailedCalls.{can_fail}
use Rattle.socks_machine.specs.Owed.{waiting_for_target, waiting_for_client}
use Rattle.socks_machine.specs.Phase.{Phase, phase, is_udp}
use Rattle.socks_machine.specs.Script.{without_ends}
use Rattle.socks_machine.specs.Socks.{socks}
use Rattle.socks_machine.specs.Taking.{taken, reads_client, reads_target, pipe_size}
use Rattle.socks_machine.specs.Turn.{turn, quantum}
use Rattle.assoc_core.specs.declared.assoc.Assoc.{Assoc}
use Rattle.assoc_core.specs.declared.assoc.Next.{Next}
use Rattle.assoc_core.specs.Plain.{IsPlainRecord, owed_c, owed_t}
use Rattle.assoc_core.specs.Stands.{GoesDirect, Holds, EndsBehind, GivesFirst, HoldsTarget}

-- ---- the event

-- what a turn does
pub record Acts : Type 0 where
  pub c : List ℕ
  pub t : List ℕ
  pub end_c : Bool
  pub end_t : Bool
  pub outer : Outer
  pub sent_c : ℕ
  pub sent_t : ℕ
  pub shut_c : Bool
  pub shut_t : Bool
  pub idle_c : Bool
  pub idle_t : Bool
  pub full_c : Bool
  pub full_t : Bool
  pub fault : Option Object
  pub unwritten : Bool

abbrev pub listed : Object → Bool → List Object → List Object
listed o true os = o ∷ os
listed o false os = os

-- the client and the target, where they are meant
abbrev pub links : Bool → Bool → List Object
links c t = listed Object.Target t (listed Object.Client c [])

abbrev pub event_of : ℕ → ℕ → ℕ → Acts → NextMark → TurnEvent
event_of worker number now x next = record {
  worker = worker;
  number = number;
  now = now;
  stop = None;
  c = x.c;
  t = x.t;
  end_c = x.end_c;
  end_t = x.end_t;
  grams = [];
  came = None;
  outer = x.outer;
  sent_c = x.sent_c;
  sent_t = x.sent_t;
  sent_u = 0;
  shut_c = x.shut_c;
  shut_t = x.shut_t;
  idle = links x.idle_c x.idle_t;
  full = links x.full_c x.full_t;
  fault = x.fault;
  unwritten = x.unwritten;
  failed = [];
  memory = false;
  next = next;
}

-- ---- the answer

abbrev pub mark_of : {L : Type 0} → Next L → NextMark
mark_of (Next.Wait a) = NextMark.Wait
mark_of (Next.Again a) = NextMark.Again
mark_of (Next.Done e) = NextMark.Done

abbrev pub left_of : {L : Type 0} → Next L → Assoc L
left_of (Next.Wait a) = a
left_of (Next.Again a) = a
left_of (Next.Done e) = record { state = e.state; client = e.client; target = e.target }

-- an association that goes on stands for a record that is served
abbrev pub GoesOn : {L : Type 0} → List User → Next L → Type 0
GoesOn users (Next.Wait a) = IsPlainRecord users a.state
GoesOn users (Next.Again a) = IsPlainRecord users a.state
GoesOn users (Next.Done e) = (e.state.done ≡ true) × (is_udp e.state ≡ false) × (e.state.sent_u ≡ [])

-- ---- the outside

-- What no call on a link changes: what is to arrive, how much it takes, and whether it can fail. And it goes on telling what it
-- gave and took where it does, and doesn't begin to where it doesn't. (What it gave and took, and whether it ended or was shut,
-- stands in the record: `Holds`.)
pub record SameOutside (old new : Told) : Type 0 where
  pub arrived : new.arrived ≡ old.arrived
  pub cap : new.cap ≡ old.cap
  pub room : new.room ≡ old.room
  pub unfailing : new.unfailing ≡ old.unfailing
  pub tells_given : is_some new.given ≡ is_some old.given
  pub tells_taken : is_some new.taken ≡ is_some old.taken

-- the target's link is the one that was there, or the one that the dial gave
abbrev pub SameTarget : {L : Type 0} → (L → Told) → NetTold → Option L → Option L → Type 0
SameTarget told net None None = Unit {0}
SameTarget told net (Some old) (Some new) = SameOutside (told old) (told new)
SameTarget told net None (Some new) = (plan : Plan) → net.plan ≡ Some plan → SameOutside plan.link (told new)
SameTarget told net (Some old) None = ⊥

-- whether no call on the target's link can fail, where it is there or comes as planned
abbrev pub IsUnfailing : {L : Type 0} → (L → Told) → NetTold → Option L → Type 0
IsUnfailing told net None = (plan : Plan) × (net.plan ≡ Some plan) × (plan.link.unfailing ≡ true)
IsUnfailing told net (Some link) = (told link).unfailing ≡ true

-- whether the writes to the target's link take nothing, where it is there or comes as planned
abbrev pub TakesNothing : {L : Type 0} → (L → Told) → NetTold → Option L → Type 0
TakesNothing told net None = (plan : Plan) × (net.plan ≡ Some plan) × (plan.link.room ≡ Some 0)
TakesNothing told net (Some link) = (told link).room ≡ Some 0

-- the outcome of a dial as the event has it
abbrev pub outer_of : DialOutcome → Outer
outer_of (DialOutcome.CameUp local) = Outer.Up local
outer_of DialOutcome.WasRefused = Outer.Refused
outer_of DialOutcome.NoHost = Outer.HostUnreachable
outer_of DialOutcome.NoNet = Outer.NetUnreachable
outer_of DialOutcome.Fault = Outer.Failed

-- the outcome of a lookup as the event has it
abbrev pub looked_as : Lookup → Outer
looked_as (Lookup.Found addr) = Outer.Looked (Some addr)
looked_as Lookup.NotFound = Outer.Looked None
looked_as Lookup.Failed = Outer.Failed

-- the outer call is the desk's, or a lookup or a dial that came out as the net planned it
abbrev pub IsOuterOf : NetTold → Phase → Outer → Type 0
IsOuterOf net p Outer.Nothing = Unit {0}
IsOuterOf net p (Outer.Desk logged) = Unit {0}
IsOuterOf net (Phase.Seek name) outer = (plan : Lookup) → net.lookup_plan ≡ Some plan → outer ≡ looked_as plan
IsOuterOf net (Phase.Reach g) outer = (g.facts.command ≡ Command.Connect) × ((plan : Plan) → net.plan ≡ Some plan → outer ≡ outer_of plan.outcome)
IsOuterOf net p outer = ⊥

-- the dials that the net tells are those before, and the one that this turn made, of the passed destination
abbrev pub DialsAre : Option (List Dial) → Option (List Dial) → Phase → Outer → Type 0
DialsAre old new p Outer.Nothing = new ≡ old
DialsAre old new p (Outer.Desk logged) = new ≡ old
DialsAre old new (Phase.Seek name) outer = new ≡ old
DialsAre old new (Phase.Reach g) outer = (outcome : DialOutcome) × (outer ≡ outer_of outcome) × (new ≡ dialled old (record { to = g.facts.to; outcome = outcome }))
DialsAre old new p outer = ⊥

-- and so of the lookups, of the request's name
abbrev pub LookupsAre : Option (List LookedUp) → Option (List LookedUp) → Phase → Outer → Type 0
LookupsAre old new p Outer.Nothing = new ≡ old
LookupsAre old new p (Outer.Desk logged) = new ≡ old
LookupsAre old new (Phase.Seek name) outer = (outcome : Lookup) × (outer ≡ looked_as outcome) × (new ≡ looked_up old (record { name = name; outcome = outcome }))
LookupsAre old new p outer = new ≡ old

-- the plan of the next dial stays as it was, unless a dial came up, and then the target was reached
abbrev pub PlanStays : NetTold → NetTold → Outer → Bool → Type 0
PlanStays net net' (Outer.Up at) there = there ≡ true
PlanStays net net' outer there = net'.plan ≡ net.plan

-- the net's count of the failure that the outer call came to rose, and where the net wasn't called each of its counts stayed
abbrev pub CountRose : NetCounts → NetCounts → Outer → Type 0
CountRose old new Outer.Nothing = new ≡ old
CountRose old new (Outer.Desk logged) = new ≡ old
CountRose old new (Outer.Looked (Some addr)) = Unit {0}
CountRose old new (Outer.Looked None) = Rose old.not_found new.not_found
CountRose old new (Outer.Up at) = Unit {0}
CountRose old new Outer.Refused = Rose old.refused new.refused
CountRose old new Outer.HostUnreachable = Rose old.no_host new.no_host
CountRose old new Outer.NetUnreachable = Rose old.no_net new.no_net
CountRose old new Outer.Failed = Rose old.faults new.faults

-- NotYet to a read: all that arrived was given, and no end stands behind it
abbrev pub IsIdle : Told → Type 0
IsIdle told = (arrival : Arrival) (given : List ℕ) → told.arrived ≡ Some arrival → told.given ≡ Some given → (given ≡ arrival.bytes) × (arrival.ends ≡ false)

-- NotYet to a write: it has taken as much as it can, unless its writes take nothing
abbrev pub IsFull : Told → Type 0
IsFull told = told.room ≢ Some 0 → (cap : ℕ) (taken : List ℕ) → told.cap ≡ Some cap → told.taken ≡ Some taken → cap ≤ length taken

abbrev pub IsThereAnd : {L : Type 0} → Option L → (L → Type 0) → Type 0
IsThereAnd None p = ⊥
IsThereAnd (Some link) p = p link

-- a count of the target's link rose; of a link that has come up since it isn't 0
abbrev pub RoseTarget : {L : Type 0} → (L → ℕ) → Option L → Option L → Type 0
RoseTarget count (Some old) (Some new) = Rose (count old) (count new)
RoseTarget count None (Some new) = 0 < count new
RoseTarget count old None = ⊥

-- Calls on the target's link, where one is there: from those counts of its own, or from those with which it came up, of which
-- the plan told what was due to fail.
abbrev pub TriedTarget : {L : Type 0} → (L → Counts) → NetTold → Option L → Option L → Type 0 → Type 0 → Type 0 → Option Kind → Type 0
TriedTarget counts net None None Reads Writes Shuts failed = (failed ≡ None) × Reads × Writes × Shuts
TriedTarget counts net (Some old) (Some new) Reads Writes Shuts failed = Tried (counts old) (counts new) Reads Writes Shuts failed
TriedTarget counts net None (Some new) Reads Writes Shuts failed =
    (first : Counts) × ((plan : Plan) → net.plan ≡ Some plan → first.due ≡ plan.due) × Tried first (counts new) Reads Writes Shuts failed
TriedTarget counts net (Some old) None Reads Writes Shuts failed = ⊥

-- the object whose call failed first, by the kinds of those that failed on the client's link and on the target's
abbrev pub FaultIs : Option Object → Option Kind → Option Kind → Type 0
FaultIs None failed_c failed_t = (failed_c ≡ None) × (failed_t ≡ None)
FaultIs (Some Object.Client) failed_c failed_t = is_some failed_c ≡ true
FaultIs (Some Object.Target) failed_c failed_t = is_some failed_t ≡ true
FaultIs (Some _) failed_c failed_t = ⊥

abbrev pub is_write : Option Kind → Bool
is_write (Some Kind.Write) = true
is_write _ = false

-- the kind of a call as the machine has it
abbrev pub call_of : Kind → CallKind
call_of Kind.Read = CallKind.Reading
call_of Kind.Write = CallKind.Writing
call_of Kind.Shut = CallKind.Shutting

-- a call of the kind that failed on an object, if one did, is one that can fail there
abbrev pub FailsWhere : Basis → Record → Record → Object → Option Kind → Type 0
FailsWhere basis taken left x failed = IfSome failed (λ kind. can_fail basis taken left (x, call_of kind) ≡ true)

-- why nothing more was read of a side: it has ended, or answered NotYet, a quantum was taken, a call failed, as many bytes of
-- it wait in a relay as a pipe holds, or the phase behind all that was taken, but for the ends, doesn't read it
pub data StopsReading (was ends idle : Bool) (part : List ℕ) (fault : Option Object) (Filled Unread : Type 0) : Type 0 where
  ended : was ≡ true → StopsReading was ends idle part fault Filled Unread
  ends' : ends ≡ true → StopsReading was ends idle part fault Filled Unread
  rested : idle ≡ true → StopsReading was ends idle part fault Filled Unread
  took : quantum ≤ length part → StopsReading was ends idle part fault Filled Unread
  failed : is_some fault ≡ true → StopsReading was ends idle part fault Filled Unread
  held : Filled → StopsReading was ends idle part fault Filled Unread
  unread : Unread → StopsReading was ends idle part fault Filled Unread

-- the phase behind all that was taken, but for the ends, is Relay, and behind the turn as many bytes of a side wait as a pipe holds
pub record Filled (s : Context) (old left : Record) (event : TurnEvent) (waiting : Basis → Record → ℕ) : Type 0 where
  pub behind : Record
  pub taken' : taken s.basis s.generation (s.config).methods (without_ends event) old ≡ Some behind
  pub relays : phase s.basis behind ≡ Phase.Relay
  pub waits : pipe_size ≤ waiting s.basis left

-- the phase behind all that was taken, but for the ends, reads no more of a side
pub record Unread (s : Context) (old : Record) (event : TurnEvent) (reads : Record → Phase → Bool) : Type 0 where
  pub behind : Record
  pub taken' : taken s.basis s.generation (s.config).methods (without_ends event) old ≡ Some behind
  pub unread' : reads behind (phase s.basis behind) ≡ false

-- An end was read where the phase behind all that was taken, but for the ends, reads that side. In Relay fewer bytes of this
-- side wait behind the turn than a pipe holds.
pub record ReadsEnd (s : Context) (old left : Record) (event : TurnEvent) (was : Bool) (part : List ℕ) (reads : Record → Phase → Bool)
    (waiting : Basis → Record → ℕ) : Type 0 where
  pub unended : was ≡ false
  pub below : length part < quantum
  pub behind : Record
  pub taken' : taken s.basis s.generation (s.config).methods (without_ends event) old ≡ Some behind
  pub reads' : reads behind (phase s.basis behind) ≡ true
  pub room : phase s.basis behind ≡ Phase.Relay → waiting s.basis left < pipe_size

-- ---- a turn

-- One turn: a lawful event whose bytes, ends and outcomes are those that the outside told, and the association that
-- stands for the record which it leaves.
pub record Turns {L : Type 0} (told : L → Told) (counts : L → Counts) (stands : List Line → List StopBy → Type 0) (s : Context)
    (now : ℕ) (net net' : NetTold) (a : Assoc L) (next : Next L) : Type 0 where
  pub acts : Acts
  pub result : TurnResult
  pub lawful : (worker : ℕ) → turn s (event_of worker a.state.number now acts (mark_of next)) a.state ≡ Some result
  pub state' : (left_of next).state ≡ result.left
  pub desk : stands result.h result.marks
  -- the association
  pub goes_on : GoesOn (s.basis).users next
  pub direct : GoesDirect s.basis (result.left).decisions
  pub c : result.left.c ≡ a.state.c ++ acts.c
  pub t : result.left.t ≡ a.state.t ++ acts.t
  pub sent_c : length result.left.sent_c ≡ length a.state.sent_c + acts.sent_c
  pub sent_t : length result.left.sent_t ≡ length a.state.sent_t + acts.sent_t
  pub ends_c : acts.end_c ≡ true → result.left.end_c ≡ true
  pub ends_t : acts.end_t ≡ true → result.left.end_t ≡ true
  pub since : a.state.since ≡ now → result.left.since ≡ now
  pub number : result.left.number ≡ a.state.number
  pub client : Holds (told (left_of next).client) result.left.c result.left.sent_c result.left.end_c result.left.shut_c
  pub client_ends : EndsBehind (told (left_of next).client)
  pub client_first : GivesFirst (told (left_of next).client)
  pub target : HoldsTarget told result.left (left_of next).target
  pub same_client : SameOutside (told a.client) (told (left_of next).client)
  pub same_target : SameTarget told net a.target (left_of next).target
  -- what was called, and what was read
  pub behind : Record
  pub taken' : (worker : ℕ) → taken s.basis s.generation (s.config).methods (event_of worker a.state.number now acts (mark_of next)) a.state ≡ Some behind
  pub dials : DialsAre net.dials net'.dials (phase s.basis behind) acts.outer
  pub lookups : LookupsAre net.lookups net'.lookups (phase s.basis behind) acts.outer
  pub lookup_plan : net'.lookup_plan ≡ net.lookup_plan
  pub plan' : PlanStays net net' acts.outer (is_some (reached_at (result.left).decisions))
  pub outer' : IsOuterOf net (phase s.basis behind) acts.outer
  pub counted : CountRose net.counts net'.counts acts.outer
  pub stops_c : (worker : ℕ) → StopsReading a.state.end_c acts.end_c acts.idle_c acts.c acts.fault
      (Filled s a.state result.left (event_of worker a.state.number now acts (mark_of next)) waiting_for_target)
      (Unread s a.state (event_of worker a.state.number now acts (mark_of next)) (reads_client s.basis (links acts.idle_c acts.idle_t) (links acts.full_c acts.full_t)))
  pub stops_t : (worker : ℕ) → StopsReading a.state.end_t acts.end_t acts.idle_t acts.t acts.fault
      (Filled s a.state result.left (event_of worker a.state.number now acts (mark_of next)) waiting_for_client)
      (Unread s a.state (event_of worker a.state.number now acts (mark_of next)) reads_target)
  pub reads_end_c : (worker : ℕ) → acts.end_c ≡ true → ReadsEnd s a.state result.left (event_of worker a.state.number now acts (mark_of next)) a.state.end_c acts.c
      (reads_client s.basis (links acts.idle_c acts.idle_t) (links acts.full_c acts.full_t)) waiting_for_target
  pub reads_end_t : (worker : ℕ) → acts.end_t ≡ true → ReadsEnd s a.state result.left (event_of worker a.state.number now acts (mark_of next)) a.state.end_t acts.t reads_target waiting_for_client
  pub idle_c : acts.idle_c ≡ true → IsIdle (told (left_of next).client) × Rose (counts a.client).idle_reads (counts (left_of next).client).idle_reads
  pub idle_t : acts.idle_t ≡ true → IsThereAnd (left_of next).target (λ link. IsIdle (told link)) × RoseTarget (λ link. (counts link).idle_reads) a.target (left_of next).target
  -- what was written
  pub full_c : acts.full_c ≡ true → IsFull (told (left_of next).client) × Rose (counts a.client).idle_writes (counts (left_of next).client).idle_writes
      × (length result.left.sent_c < length (owed_c result.left))
  pub full_t : acts.full_t ≡ true → IsThereAnd (left_of next).target (λ link. IsFull (told link)) × RoseTarget (λ link. (counts link).idle_writes) a.target (left_of next).target
      × (length result.left.sent_t < length (owed_t result.left))
  pub room_c : (told a.client).room ≡ Some 0 → acts.sent_c ≡ 0
  pub room_t : TakesNothing told net a.target → acts.sent_t ≡ 0
  -- which calls failed
  pub failed_c : Option Kind
  pub failed_t : Option Kind
  pub tried_c : Tried (counts a.client) (counts (left_of next).client) ((acts.c ≡ []) × (acts.end_c ≡ false) × (acts.idle_c ≡ false)) ((acts.sent_c ≡ 0) × (acts.full_c ≡ false)) (acts.shut_c ≡ false) failed_c
  pub tried_t : TriedTarget counts net a.target (left_of next).target ((acts.t ≡ []) × (acts.end_t ≡ false) × (acts.idle_t ≡ false)) ((acts.sent_t ≡ 0) × (acts.full_t ≡ false)) (acts.shut_t ≡ false) failed_t
  pub where_c : FailsWhere s.basis behind result.left Object.Client failed_c
  pub where_t : FailsWhere s.basis behind result.left Object.Target failed_t
  pub fault_is : FaultIs acts.fault failed_c failed_t
  pub unwritten_is : acts.unwritten ≡ is_write failed_c || is_write failed_t
  pub fails_c : acts.fault ≡ Some Object.Client → Rose (counts a.client).faults (counts (left_of next).client).faults
  pub unfailing : (told a.client).unfailing ≡ true → IsUnfailing told net a.target → (acts.fault ≡ None) × (acts.unwritten ≡ false)

-- what a turn is made over: the users and the published configurations, the generation that was seen with its
-- configuration, and the desk's history
abbrev pub context : List User → List Entries → ℕ → Entries → ℕ → List Line → List StopBy → Context
context users pubs generation config cap h marks = record {
  basis = socks users pubs;
  generation = generation;
  config = config;
  cap = cap;
  h = h;
  marks = marks;
}
