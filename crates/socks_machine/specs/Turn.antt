-- One turn of a worker on an association: what it takes, its one outer call, what it sends, and its answer.
use Rattle.std.specs.Prelude.{ℕ, zero, suc, ◌+◌, ◌-◌, Bool, true, false, ◌&&◌, ◌||◌, not, ◌==◌, nat_lt, nat_le, if◌then◌else◌, Option, Some, None, List, [], ◌∷◌, ◌++◌, length, take, drop, is_some, is_none}
use Rattle.std.specs.List.{list_any}
use Rattle.socks_grammar.specs.declared.protocol.Command.{Command}
use Rattle.conf_types.specs.declared.entries.Entries.{Entries}
use Rattle.socks_machine.specs.declared.cause.Cause.{Cause}
use Rattle.socks_machine.specs.declared.cause.StopBy.{StopBy}
use Rattle.socks_machine.specs.declared.record.Gram.{Gram}
use Rattle.socks_machine.specs.declared.record.Record.{Record}
use Rattle.socks_machine.specs.declared.world.Object.{Object}
use Rattle.socks_machine.specs.declared.world.Outer.{Outer}
use Rattle.socks_machine.specs.declared.world.NextMark.{NextMark}
use Rattle.socks_machine.specs.declared.world.TurnEvent.{TurnEvent}
use Rattle.socks_machine.specs.Calls.{Context, TurnResult, call, call_close, is_calling}
use Rattle.socks_machine.specs.Datagrams.{owed_datagrams}
use Rattle.socks_machine.specs.Decisions.{Grant, granted, reached_at, came, is_opened}
use Rattle.socks_machine.specs.Equal.{mark_eq, stop_by_eq}
use Rattle.socks_machine.specs.Owed.{owed_to_client, owed_to_target, pending_to_client, pending_to_target, has_target, waiting_for_target, waiting_for_client}
use Rattle.socks_machine.specs.Basis.{Basis}
use Rattle.socks_machine.specs.Phase.{Phase, phase, began, relay_began, is_udp, client_payload}
use Rattle.socks_machine.specs.Settle.{is_nothing, fix, settled}
use Rattle.socks_machine.specs.Taking.{◌>>=◌, holds, some_in, pipe_size, taken}

abbrev pub guard : Bool → Option Record → Option Record
guard true r = r
guard false r = None

-- ---- a fault, or want of memory

abbrev pub fault_cause : Object → Cause
fault_cause Object.Client = Cause.ClientFault
fault_cause Object.Target = Cause.TargetFault
fault_cause Object.Door = Cause.DoorFault
fault_cause Object.Port = Cause.PortFault

abbrev pub has_door : Record → Option Grant → Bool
has_door r None = false
has_door r (Some g) = is_some (reached_at r.decisions) && is_none (came r.decisions) && by_command g.facts.command
  where
    by_command : Command → Bool
    by_command Command.Bind = true
    by_command _ = false

-- the object is there, so that a call on it can fail
abbrev pub is_there : Record → Object → Bool
is_there r Object.Client = true
is_there r Object.Target = has_target r
is_there r Object.Door = has_door r (granted r.decisions)
is_there r Object.Port = is_udp r && is_some (reached_at r.decisions)

abbrev pub is_link : Object → Bool
is_link Object.Client = true
is_link Object.Target = true
is_link _ = false

-- a write that failed is a failed call on a link
abbrev pub with_fault : Option Object → Bool → Record → Option Record
with_fault None unwritten r = guard (not unwritten) (Some r)
with_fault (Some o) unwritten r = guard (is_there r o) (Some (fix (Some (fault_cause o)) r))

abbrev pub with_memory : Bool → Record → Record
with_memory true r = fix (Some Cause.Memory) r
with_memory false r = r

-- ---- sending and shutting

-- so many more of what is owed; none of it where the amount is 0
abbrev pub grown : {A : Type 0} → ℕ → List A → List A → Option (List A)
grown zero sent owed = Some sent
grown (suc n) sent owed =
    elim (nat_le (length sent + suc n) (length owed)) [ true ↦ Some (sent ++ take (suc n) (drop (length sent) owed)) | false ↦ None ]

-- the next bytes and datagrams of what is owed, by the event's amounts
abbrev pub with_sent : Basis → TurnEvent → Record → Option Record
with_sent basis ev r = do
  c ← grown ev.sent_c r.sent_c (owed_to_client basis r)
  t ← grown ev.sent_t r.sent_t (owed_to_target basis r)
  u ← grown ev.sent_u r.sent_u (owed_datagrams basis r)
  Some (record r { sent_c = c; sent_t = t; sent_u = u })

-- the client's side may be shut: the target ended, and all that is owed to the client was sent; and the other way round
abbrev pub client_may_be_shut : Basis → Record → Bool
client_may_be_shut basis r = relay_began basis r && r.end_t && not r.shut_c && is_nothing (pending_to_client basis r)

abbrev pub target_may_be_shut : Basis → Record → Bool
target_may_be_shut basis r = relay_began basis r && r.end_c && not r.shut_t && is_nothing (pending_to_target basis r)

abbrev pub shut_sides : Basis → TurnEvent → Record → Option Record
shut_sides basis ev r =
    guard ((not ev.shut_c || client_may_be_shut basis r) && (not ev.shut_t || target_may_be_shut basis r))
    (Some (settled basis (record r { shut_c = ev.shut_c || r.shut_c; shut_t = ev.shut_t || r.shut_t })))

abbrev pub with_shut : Basis → TurnEvent → Record → Option Record
with_shut basis ev r = elim (ev.shut_c || ev.shut_t) [ true ↦ shut_sides basis ev r | false ↦ Some r ]

-- ---- the moment of the last movement

abbrev pub moves : TurnEvent → Bool
moves ev = some_in ev.c || some_in ev.t || some_in ev.grams || nat_lt 0 ev.sent_c || nat_lt 0 ev.sent_t || nat_lt 0 ev.sent_u

abbrev pub aged : Basis → TurnEvent → Record → Record → Record
aged basis ev old r = record r { since = elim (began basis r && (not (began basis old) || moves ev)) [ true ↦ ev.now | false ↦ r.since ] }

-- ---- where a turn rests

abbrev pub quantum : ℕ
quantum = 65536

-- a datagram counts its length, and at least 1
abbrev pub weight : List Gram → ℕ
weight [] = 0
weight (d ∷ ds) = (if nat_lt 0 (length d.bytes) then length d.bytes else 1) + weight ds

abbrev pub took_quantum : TurnEvent → Bool
took_quantum ev = nat_le quantum (length ev.c) || nat_le quantum (length ev.t) || nat_le quantum (weight ev.grams)

-- a source answered NotYet, or its bytes fill a pipe and their sink answered NotYet
abbrev pub source_rests : TurnEvent → Object → ℕ → Object → Bool
source_rests ev source waiting sink = holds source ev.idle || (nat_le pipe_size waiting && holds sink ev.full)

abbrev pub unsent : Basis → Record → Bool
unsent basis r = nat_lt (length r.sent_u) (length (owed_datagrams basis r))

-- each source that the phase reads and that hasn't ended answered NotYet
abbrev pub sources_rest : Basis → TurnEvent → Record → Phase → Bool
sources_rest basis ev r Phase.Talk = holds Object.Client ev.idle
sources_rest basis ev r Phase.Asking = holds Object.Target ev.idle
sources_rest basis ev r (Phase.Door g) =
    holds Object.Door ev.idle && (holds Object.Client ev.idle || nat_le pipe_size (length (client_payload basis r)))
sources_rest basis ev r Phase.Relay =
    (r.end_c || source_rests ev Object.Client (waiting_for_target basis r) Object.Target)
    && (r.end_t || source_rests ev Object.Target (waiting_for_client basis r) Object.Client)
sources_rest basis ev r Phase.Datagrams =
    (holds Object.Port ev.idle || (unsent basis r && holds Object.Port ev.full)) && holds Object.Client ev.idle
sources_rest basis ev r _ = true

-- each link to which something is pending answered NotYet to a write
abbrev pub sinks_rest : Basis → TurnEvent → Record → Bool
sinks_rest basis ev r =
    (is_nothing (pending_to_client basis r) || holds Object.Client ev.full)
    && (is_nothing (pending_to_target basis r) || holds Object.Target ev.full)

-- in Relay no side is still to be shut
abbrev pub sides_rest : Basis → Record → Phase → Bool
sides_rest basis r Phase.Relay = not (client_may_be_shut basis r) && not (target_may_be_shut basis r)
sides_rest basis r _ = true

abbrev pub rests_in : Basis → TurnEvent → Record → Phase → Bool
rests_in basis ev r p = not (is_calling p ev.came) && sources_rest basis ev r p && sinks_rest basis ev r && sides_rest basis r p

-- a turn that has made no outer call, took no quantum, and can't go on
abbrev pub rests : Basis → TurnEvent → Record → Bool
rests basis ev r = not (took_quantum ev) && rests_in basis ev r (phase basis r)

-- ---- the limits of time

abbrev pub limit : Basis → Entries → Record → ℕ
limit basis k r = if began basis r then k.io else k.negotiate

abbrev pub is_late : Basis → Entries → ℕ → Record → Bool
is_late basis k now r = not (limit basis k r == 0) && nat_le (limit basis k r) (now - r.since)

-- ---- the close

-- a cause that has no reply ends at once
abbrev pub is_quiet : Option Cause → Bool
is_quiet (Some (Cause.Stopped by)) = true
is_quiet (Some (Cause.ClientGone at)) = true
is_quiet (Some (Cause.TimedOut since now limit)) = true
is_quiet (Some Cause.ClientFault) = true
is_quiet _ = false

abbrev pub nothing_pending : Basis → Record → Bool
nothing_pending basis r = is_nothing (pending_to_client basis r) && is_nothing (pending_to_target basis r)

-- in Closing: nothing is pending, a write failed, the cause has no reply, or the turn rests and its time is over
abbrev pub close_is_due : Context → TurnEvent → Record → Bool
close_is_due s ev r = is_some r.cause && is_opened r.decisions
    && (nothing_pending s.basis r || ev.unwritten || is_quiet r.cause || (rests s.basis ev r && is_late s.basis s.config ev.now r))

-- no cause is fixed, the turn rests, and its time is over
abbrev pub times_out : Context → TurnEvent → Record → Bool
times_out s ev r = is_none r.cause && rests s.basis ev r && is_late s.basis s.config ev.now r

abbrev pub timed_out : Context → TurnEvent → Record → Record
timed_out s ev r = fix (Some (Cause.TimedOut r.since ev.now (limit s.basis s.config r))) r

-- ---- the answer

-- the association ended before an open of it passed, so that no close is owed
abbrev pub ended_unopened : Record → Bool
ended_unopened r = is_some r.cause && not (is_opened r.decisions)

-- what a turn came to: how it made its outer call
pub data Calling : Type 0 where
  NoCall : Calling
  Called : Calling
  Closed : Calling

-- the answer that a turn gives, if it may end where it stands
abbrev pub answer_after : Context → TurnEvent → Record → Calling → Option NextMark
answer_after s ev r Closed = Some NextMark.Done
answer_after s ev r Called = if ended_unopened r then Some NextMark.Done else Some NextMark.Again
answer_after s ev r NoCall =
    if ended_unopened r then Some NextMark.Done
    else (if took_quantum ev then Some NextMark.Again
    else (if rests s.basis ev r && not (close_is_due s ev r) && not (times_out s ev r) then Some NextMark.Wait else None))

abbrev pub is_answer : Option NextMark → NextMark → Bool
is_answer None mark = false
is_answer (Some a) mark = mark_eq a mark

-- a turn may go on wherever it stands
abbrev pub may_end : Context → TurnEvent → Record → Calling → Bool
may_end s ev r calling = mark_eq ev.next NextMark.Going || is_answer (answer_after s ev r calling) ev.next

abbrev pub marked : NextMark → TurnResult → TurnResult
marked next m = record { left = (let r = m.left in record r { done = mark_eq next NextMark.Done }); h = m.h; marks = m.marks }

abbrev pub ended : Context → TurnEvent → Calling → TurnResult → Option TurnResult
ended s ev calling m = elim (may_end s ev m.left calling) [ true ↦ Some (marked ev.next m) | false ↦ None ]

-- ---- a turn

abbrev pub with_record : TurnResult → Record → TurnResult
with_record m r = record { left = r; h = m.h; marks = m.marks }

abbrev pub close_with : Context → TurnEvent → TurnResult → Option Cause → Outer → Option TurnResult
close_with s ev m (Some cause) (Outer.Desk logged) = ended s ev Closed (call_close m.h m.marks m.left cause logged)
close_with s ev m _ _ = None

abbrev pub close : Context → TurnEvent → TurnResult → Option TurnResult
close s ev m = close_with s ev m (m.left).cause ev.outer

-- the end of a turn that made no call in its phase: nothing, or the close
abbrev pub uncalled : Context → TurnEvent → TurnResult → Outer → Option TurnResult
uncalled s ev m Outer.Nothing = ended s ev NoCall m
uncalled s ev m outer =
    elim (close_is_due s ev m.left) [
      | true ↦ close s ev m
      | false ↦ elim (times_out s ev m.left) [ true ↦ close s ev (with_record m (timed_out s ev m.left)) | false ↦ None ]
    ]

-- an object that the phase reads
abbrev pub reads_in : Record → Phase → Object → Bool
reads_in r Phase.Talk Object.Client = true
reads_in r (Phase.Door g) Object.Client = true
reads_in r (Phase.Door g) Object.Door = true
reads_in r Phase.Asking Object.Target = not r.end_t
reads_in r Phase.Relay Object.Client = not r.end_c
reads_in r Phase.Relay Object.Target = not r.end_t
reads_in r Phase.Datagrams Object.Client = true
reads_in r Phase.Datagrams Object.Port = true
reads_in r p o = false

abbrev pub has_pending : Basis → Record → Object → Bool
has_pending basis r Object.Client = not (is_nothing (pending_to_client basis r))
has_pending basis r Object.Target = not (is_nothing (pending_to_target basis r))
has_pending basis r Object.Door = false
has_pending basis r Object.Port = unsent basis r

abbrev pub may_be_shut : Basis → Record → Object → Bool
may_be_shut basis r Object.Client = client_may_be_shut basis r
may_be_shut basis r Object.Target = target_may_be_shut basis r
may_be_shut basis r _ = false

-- a call fails only on an object that the turn reads, has something pending for, or may shut
abbrev pub may_fail : Basis → Record → Object → Bool
may_fail basis r o = reads_in r (phase basis r) o || has_pending basis r o || may_be_shut basis r o

-- .. and a write only where something is pending to a link, behind the first fault's reply
abbrev pub may_write : Basis → Record → Bool
may_write basis r = has_pending basis r Object.Client || has_pending basis r Object.Target

abbrev pub fault_fits : Basis → Option Object → Bool → Record → Bool
fault_fits basis None unwritten r = true
fault_fits basis (Some o) unwritten r = may_fail basis r o && (not unwritten || may_write basis (fix (Some (fault_cause o)) r))

-- faults, what is sent and shut, and the moment
abbrev pub output_of : Context → TurnEvent → Record → Record → Option Record
output_of s ev old r0 = do
  r1 ← with_fault ev.fault ev.unwritten r0
  r2 ← with_sent s.basis ev r1
  r3 ← with_shut s.basis ev r2
  Some (aged s.basis ev old r3)

abbrev pub output : Context → TurnEvent → Record → Record → Option Record
output s ev old r0 = elim (fault_fits s.basis ev.fault ev.unwritten r0) [ true ↦ output_of s ev old r0 | false ↦ None ]

abbrev pub makes_call : Basis → TurnEvent → Record → Outer → Bool
makes_call basis ev r Outer.Nothing = false
makes_call basis ev r outer = is_calling (phase basis r) ev.came

abbrev pub after_call : Context → TurnEvent → Record → TurnResult → Option TurnResult
after_call s ev old m = do
  r ← output s ev old m.left
  ended s ev Called (with_record m r)

abbrev pub is_zero : ℕ → Bool
is_zero zero = true
is_zero (suc n) = false

-- nothing is sent, shut or failed
abbrev pub is_mute : TurnEvent → Bool
is_mute ev = is_zero ev.sent_c && is_zero ev.sent_t && is_zero ev.sent_u && not ev.shut_c && not ev.shut_t && is_none ev.fault && not ev.unwritten

-- where the phase behind the takings has an outer call, no write, shut or fault stands before it, but behind a quantum
abbrev pub may_output : Basis → TurnEvent → Record → Bool
may_output basis ev r = is_mute ev || not (is_calling (phase basis r) ev.came) || took_quantum ev

abbrev pub after_none : Context → TurnEvent → Record → Record → Option TurnResult
after_none s ev old r0 = do
  r ← output s ev old r0
  uncalled s ev (record { left = r; h = s.h; marks = s.marks }) ev.outer

abbrev pub without_call : Context → TurnEvent → Record → Record → Option TurnResult
without_call s ev old r0 = elim (may_output s.basis ev r0) [ true ↦ after_none s ev old r0 | false ↦ None ]

-- behind the takings: the call of the phase, or none
abbrev pub proceed : Context → TurnEvent → Record → Record → Option TurnResult
proceed s ev old r =
    elim (makes_call s.basis ev r ev.outer) [
      | true ↦ (call s r (phase s.basis r) ev.came ev.outer >>= after_call s ev old)
      | false ↦ without_call s ev old r
    ]

abbrev pub ordinary : Context → TurnEvent → Record → Option TurnResult
ordinary s ev r0 = do
  r ← taken s.basis s.generation (s.config).methods ev r0
  proceed s ev r0 (with_memory ev.memory r)

-- ---- a turn that is told to stop: it takes and sends nothing, and closes

abbrev pub is_quiet_event : TurnEvent → Bool
is_quiet_event ev =
    not (moves ev) && not ev.end_c && not ev.end_t && is_none ev.came && not ev.shut_c && not ev.shut_t && is_none ev.fault && not ev.unwritten && not ev.memory

abbrev pub stop_with : Context → TurnEvent → Record → Bool → Outer → Option TurnResult
stop_with s ev r true (Outer.Desk logged) = close s ev (record { left = r; h = s.h; marks = s.marks })
stop_with s ev r false Outer.Nothing =
    elim (mark_eq ev.next NextMark.Done) [ true ↦ Some (marked NextMark.Done (record { left = r; h = s.h; marks = s.marks })) | false ↦ None ]
stop_with s ev r _ _ = None

abbrev pub stopped : Context → TurnEvent → StopBy → Record → Option TurnResult
stopped s ev by r =
    elim (is_quiet_event ev && list_any (stop_by_eq by) s.marks) [
      | true ↦ stop_with s ev (fix (Some (Cause.Stopped by)) r) (is_opened r.decisions) ev.outer
      | false ↦ None
    ]

abbrev pub turn_with : Context → TurnEvent → Record → Option StopBy → Option TurnResult
turn_with s ev r None = ordinary s ev r
turn_with s ev r (Some by) = stopped s ev by r

-- what a turn leaves of its record and the desk, or none where the turn isn't lawful
abbrev pub turn : Context → TurnEvent → Record → Option TurnResult
turn s ev r = elim r.done [ true ↦ None | false ↦ turn_with s ev r ev.stop ]
