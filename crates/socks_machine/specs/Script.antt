-- Which events a script allows: its lines in order, and then the closing rounds.
use Rattle.std.specs.Prelude.{ℕ, zero, suc, ◌+◌, Bool, true, false, ◌&&◌, ◌||◌, not, ◌==◌, nat_lt, nat_le, if◌then◌else◌, Option, Some, None, List, [], ◌∷◌, ◌++◌, length, take, filter, slice_get, bytes_eq, is_some, is_none}
use Rattle.std.specs.List.{list_any, list_all}
use Rattle.addr_pattern.specs.declared.endpoint.Endpoint.{Endpoint}
use Rattle.conf_types.specs.declared.entries.Entries.{Entries}
use Rattle.socks_machine.specs.declared.cause.StopBy.{StopBy}
use Rattle.socks_machine.specs.declared.record.Gram.{Gram}
use Rattle.socks_machine.specs.declared.record.Record.{Record}
use Rattle.socks_machine.specs.declared.world.Object.{Object}
use Rattle.socks_machine.specs.declared.world.Outer.{Outer}
use Rattle.socks_machine.specs.declared.world.NextMark.{NextMark}
use Rattle.socks_machine.specs.declared.world.TurnEvent.{TurnEvent}
use Rattle.socks_machine.specs.declared.world.Event.{Event}
use Rattle.socks_machine.specs.declared.world.World.{World}
use Rattle.addr_pattern.specs.Equal.{addr_eq, endpoint_eq}
use Rattle.socks_machine.specs.Equal.{object_eq, stop_by_eq, mark_eq}
use Rattle.socks_machine.specs.History.{last_mark}
use Rattle.socks_machine.specs.Basis.{Basis}
use Rattle.socks_machine.specs.Phase.{Phase, phase}
use Rattle.rule_list.specs.Rules.{numbered}
use Rattle.socks_machine.specs.Step.{basis_of, set_numbered, step}
use Rattle.socks_machine.specs.Taking.{◌>>=◌, holds, some_in, pipe_size, taken, reads_target, reads_client}
use Rattle.socks_machine.specs.Owed.{waiting_for_target, waiting_for_client}
use Rattle.socks_grammar.specs.declared.protocol.Command.{Command}
use Rattle.socks_machine.specs.FailedCalls.{Failing, can_fail}
use Rattle.socks_machine.specs.SameConfig.{bool_eq, entries_eq, option_eq}
use Rattle.socks_machine.specs.Turn.{quantum, is_link}
use Rattle.socks_machine.specs.declared.script.CallKind.{CallKind}
use Rattle.socks_machine.specs.declared.script.ScriptLine.{ScriptLine}

-- what has arrived for an association so far, and how its calls are to come out
pub record Outside : Type 0 where
  pub c : List ℕ
  pub t : List ℕ
  pub end_c : Bool
  pub end_t : Bool
  pub lookup : Outer
  pub dial : Outer
  pub door : Outer
  pub peer : Option Endpoint
  pub port : Outer
  pub grams : List (Endpoint × List ℕ)
  pub no_room : List Object
  pub faults : List (Object × CallKind)

abbrev pub nothing_yet : Outside
nothing_yet = record {
  c = [];
  t = [];
  end_c = false;
  end_t = false;
  lookup = Outer.Looked None;
  dial = Outer.Refused;
  door = Outer.Failed;
  peer = None;
  port = Outer.Failed;
  grams = [];
  no_room = [];
  faults = [];
}

-- the moment, and the outside of each association
pub record Surroundings : Type 0 where
  pub now : ℕ
  pub outsides : List Outside

abbrev pub change_at : Surroundings → ℕ → (Outside → Outside) → Option Outside → Surroundings
change_at s a change None = s
change_at s a change (Some o) = record s { outsides = set_numbered s.outsides a (change o) }

abbrev pub change : Surroundings → ℕ → (Outside → Outside) → Surroundings
change s a f = change_at s a f (numbered s.outsides a)

abbrev pub room_for : Object → ℕ → List Object → List Object
room_for o zero os = o ∷ os
room_for o (suc n) os = filter (λ x. not (object_eq o x)) os

-- ---- what a line changes outside

abbrev pub outside_after : Surroundings → ScriptLine → Surroundings
outside_after s (ScriptLine.Open w a peer local) = record s { outsides = s.outsides ++ nothing_yet ∷ [] }
outside_after s (ScriptLine.Client a bytes) = change s a (λ o. record o { c = o.c ++ bytes })
outside_after s (ScriptLine.Target a bytes) = change s a (λ o. record o { t = o.t ++ bytes })
outside_after s (ScriptLine.ClientEnd a) = change s a (λ o. record o { end_c = true })
outside_after s (ScriptLine.TargetEnd a) = change s a (λ o. record o { end_t = true })
outside_after s (ScriptLine.Lookup a outer) = change s a (λ o. record o { lookup = outer })
outside_after s (ScriptLine.Dial a outer) = change s a (λ o. record o { dial = outer })
outside_after s (ScriptLine.Door a outer) = change s a (λ o. record o { door = outer })
outside_after s (ScriptLine.Peer a peer) = change s a (λ o. record o { peer = Some peer })
outside_after s (ScriptLine.Port a outer) = change s a (λ o. record o { port = outer })
outside_after s (ScriptLine.Datagram a from bytes) = change s a (λ o. record o { grams = o.grams ++ (from, bytes) ∷ [] })
outside_after s (ScriptLine.Room a object n) = change s a (λ o. record o { no_room = room_for object n o.no_room })
outside_after s (ScriptLine.Fault a object kind) = change s a (λ o. record o { faults = o.faults ++ (object, kind) ∷ [] })
outside_after s (ScriptLine.Now n) = record s { now = n }
outside_after s _ = s

-- ---- which turns an outside allows

abbrev pub starts_with : List ℕ → List ℕ → Bool
starts_with part whole = nat_le (length part) (length whole) && bytes_eq (take (length part) whole) part

abbrev pub all_grams : List Gram → List (Endpoint × List ℕ) → Bool
all_grams [] arrived = true
all_grams (d ∷ ds) [] = false
all_grams (d ∷ ds) (x ∷ xs) = endpoint_eq d.peer x.0 && bytes_eq d.bytes x.1 && all_grams ds xs

abbrev pub peer_is : Option Endpoint → Option Endpoint → Bool
peer_is None arrived = true
peer_is (Some p) None = false
peer_is (Some p) (Some x) = endpoint_eq p x

abbrev pub outer_eq : Outer → Outer → Bool
outer_eq Outer.Nothing Outer.Nothing = true
outer_eq (Outer.Desk a) (Outer.Desk b) = bool_eq a b
outer_eq (Outer.Looked a) (Outer.Looked b) = option_eq addr_eq a b
outer_eq (Outer.Up a) (Outer.Up b) = endpoint_eq a b
outer_eq Outer.Refused Outer.Refused = true
outer_eq Outer.HostUnreachable Outer.HostUnreachable = true
outer_eq Outer.NetUnreachable Outer.NetUnreachable = true
outer_eq Outer.Failed Outer.Failed = true
outer_eq _ _ = false

abbrev pub is_fault : Object → CallKind → Object × CallKind → Bool
is_fault o CallKind.Reading (x, CallKind.Reading) = object_eq o x
is_fault o CallKind.Writing (x, CallKind.Writing) = object_eq o x
is_fault o CallKind.Shutting (x, CallKind.Shutting) = object_eq o x
is_fault o _ _ = false

-- a call of this kind was made in the turn, and didn't fail
abbrev pub was_read : TurnEvent → Object → Bool
was_read ev Object.Client = some_in ev.c || ev.end_c || holds Object.Client ev.idle
was_read ev Object.Target = some_in ev.t || ev.end_t || holds Object.Target ev.idle
was_read ev Object.Door = is_some ev.came || holds Object.Door ev.idle
was_read ev Object.Port = some_in ev.grams || holds Object.Port ev.idle

abbrev pub was_written : TurnEvent → Object → Bool
was_written ev Object.Client = nat_lt 0 ev.sent_c || holds Object.Client ev.full
was_written ev Object.Target = nat_lt 0 ev.sent_t || holds Object.Target ev.full
was_written ev Object.Door = false
was_written ev Object.Port = nat_lt 0 ev.sent_u || holds Object.Port ev.full

abbrev pub was_shut : TurnEvent → Object → Bool
was_shut ev Object.Client = ev.shut_c
was_shut ev Object.Target = ev.shut_t
was_shut ev _ = false

abbrev pub did : TurnEvent → Object × CallKind → Bool
did ev (o, CallKind.Reading) = was_read ev o
did ev (o, CallKind.Writing) = was_written ev o
did ev (o, CallKind.Shutting) = was_shut ev o

-- whether a call is among these
abbrev pub is_among : List Failing → Failing → Bool
is_among fs f = list_any (is_fault f.0 f.1) fs

-- a write to a link
abbrev pub writes_link : Failing → Bool
writes_link (x, CallKind.Writing) = is_link x
writes_link (x, k) = false

-- the object whose call failed first is among them; none failed where there is no such object
abbrev pub has_first : Option Object → List Failing → Bool
has_first None failed = not (some_in failed)
has_first (Some x) failed = list_any (λ (f : Failing). object_eq x f.0) failed

-- each can have failed in the turn, by the record behind what it takes and the record that it leaves
abbrev pub can_fail_in : Basis → Option Record → Option Record → Failing → Bool
can_fail_in basis (Some taken) (Some left) f = can_fail basis taken left f
can_fail_in basis _ _ f = false

-- the record behind what is taken, but for the ends
abbrev pub without_ends : TurnEvent → TurnEvent
without_ends ev = record ev { end_c = false; end_t = false }

-- the record behind the turn
abbrev pub behind_turn : World → TurnEvent → Option Record
behind_turn w ev = step w (Event.Turn ev) >>= λ new. numbered new.records ev.number

abbrev pub is_relay : Phase → Bool
is_relay Phase.Relay = true
is_relay _ = false

abbrev pub has_room : Basis → (Basis → Record → ℕ) → Option Record → Bool
has_room basis waiting None = true
has_room basis waiting (Some left) = nat_lt (waiting basis left) pipe_size

-- the phase that is met behind all that is taken, but for the ends, reads this side; in Relay fewer bytes of it wait at the
-- turn's end than a pipe holds
abbrev pub meets : Basis → (Record → Phase → Bool) → (Basis → Record → ℕ) → Option Record → Option Record → Bool
meets basis reads waiting None left = false
meets basis reads waiting (Some behind) left = reads behind (phase basis behind) && (not (is_relay (phase basis behind)) || has_room basis waiting left)

-- the end stands, and isn't read yet, and the turn takes all before it and less than a quantum
abbrev pub comes_to_end : List ℕ → List ℕ → Bool → Bool → List ℕ → Bool → Bool → Bool
comes_to_end arrived there ended was part passes reads =
    ended && not was && bytes_eq there arrived && nat_lt (length part) quantum && passes && reads

-- Without a failed call an end is read exactly where the turn comes to it. A call on another object, or of another kind,
-- may have failed before it was read, or behind it.
abbrev pub end_fits : Option Object → Bool → Bool → Bool
end_fits None read comes = bool_eq read comes
end_fits (Some x) read comes = not read || comes

abbrev pub client_end_fits : Basis → ℕ → Entries → Outside → TurnEvent → Record → Option Record → Bool
client_end_fits basis generation config o ev r left = end_fits ev.fault ev.end_c (comes_to_end o.c (r.c ++ ev.c) o.end_c r.end_c ev.c
    (not (is_among ev.failed (Object.Client, CallKind.Reading)))
    (meets basis (reads_client basis ev.idle ev.full) waiting_for_target (taken basis generation config.methods (without_ends ev) r) left))

abbrev pub target_end_fits : Basis → ℕ → Entries → Outside → TurnEvent → Record → Option Record → Bool
target_end_fits basis generation config o ev r left = end_fits ev.fault ev.end_t (comes_to_end o.t (r.t ++ ev.t) o.end_t r.end_t ev.t
    (not (is_among ev.failed (Object.Target, CallKind.Reading)))
    (meets basis reads_target waiting_for_client (taken basis generation config.methods (without_ends ev) r) left))

-- these datagrams are all that arrived
abbrev pub same_grams : List Gram → List (Endpoint × List ℕ) → Bool
same_grams [] [] = true
same_grams (d ∷ ds) (x ∷ xs) = endpoint_eq d.peer x.0 && bytes_eq d.bytes x.1 && same_grams ds xs
same_grams _ _ = false

-- a source answers NotYet only where all that arrived was taken
abbrev pub rests_where : Bool → Bool → Bool
rests_where rests all = not rests || all

abbrev pub stop_is : Option StopBy → Option StopBy → Bool
stop_is None None = true
stop_is (Some a) (Some b) = stop_by_eq a b
stop_is _ _ = false

abbrev pub reached_as : Outside → Command → Outer
reached_as o Command.Connect = o.dial
reached_as o Command.Bind = o.door
reached_as o _ = o.port

-- the outcome that the outside has for the call of the phase behind the takings; the desk's line is written or not, as the log
-- has it, and no call is always possible
abbrev pub outer_fits_in : Outside → Outer → Phase → Bool
outer_fits_in o Outer.Nothing p = true
outer_fits_in o (Outer.Desk logged) p = true
outer_fits_in o outer (Phase.Seek name) = outer_eq outer o.lookup
outer_fits_in o outer (Phase.Reach g) = outer_eq outer (reached_as o g.facts.command)
outer_fits_in o outer p = false

abbrev pub outer_fits : Basis → Outside → Outer → Option Record → Bool
outer_fits basis o outer None = false
outer_fits basis o outer (Some r) = outer_fits_in o outer (phase basis r)

-- The failed calls of a turn. A line names each, and no call that a line names has succeeded. The one that failed first is
-- among them, and a write to a link is exactly where the turn says so.
abbrev pub faults_are : Outside → TurnEvent → (Failing → Bool) → Bool
faults_are o ev can =
    list_all (is_among o.faults) ev.failed && not (list_any (did ev) o.faults) && list_all can ev.failed
    && has_first ev.fault ev.failed && bool_eq ev.unwritten (list_any writes_link ev.failed)

abbrev pub allows : Surroundings → World → ℕ → Entries → Outside → TurnEvent → Record → Bool
allows s w generation config o ev r =
    (ev.now == s.now) && stop_is ev.stop (last_mark w.marks) && not (mark_eq ev.next NextMark.Going)
    && starts_with (r.c ++ ev.c) o.c && starts_with (r.t ++ ev.t) o.t && all_grams (r.grams ++ ev.grams) o.grams
    && peer_is ev.came o.peer && outer_fits (basis_of w) o ev.outer (taken (basis_of w) generation config.methods ev r)
    && faults_are o ev (can_fail_in (basis_of w) (taken (basis_of w) generation config.methods ev r) (behind_turn w ev))
    && (is_some ev.stop || client_end_fits (basis_of w) generation config o ev r (behind_turn w ev))
    && (is_some ev.stop || target_end_fits (basis_of w) generation config o ev r (behind_turn w ev))
    && rests_where (holds Object.Client ev.idle) (bytes_eq (r.c ++ ev.c) o.c && not o.end_c)
    && rests_where (holds Object.Target ev.idle) (bytes_eq (r.t ++ ev.t) o.t && not o.end_t)
    && rests_where (holds Object.Door ev.idle) (is_none o.peer)
    && rests_where (holds Object.Port ev.idle) (same_grams (r.grams ++ ev.grams) o.grams)
    && list_all (λ x. holds x o.no_room) ev.full
    && rests_where (holds Object.Client o.no_room) (ev.sent_c == 0) && rests_where (holds Object.Target o.no_room) (ev.sent_t == 0)

-- .. where the worker has seen a generation that was published, and the association is there
abbrev pub allows_by : Surroundings → World → TurnEvent → ℕ → Outside → Record → Option Entries → Bool
allows_by s w ev generation o r None = false
allows_by s w ev generation o r (Some config) = allows s w generation config o ev r

abbrev pub allows_in : Surroundings → World → TurnEvent → Option ℕ → Option Outside → Option Record → Bool
allows_in s w ev (Some generation) (Some o) (Some r) = allows_by s w ev generation o r (numbered w.pubs generation)
allows_in s w ev _ _ _ = false

abbrev pub is_turn : Surroundings → World → ℕ → ℕ → TurnEvent → Bool
is_turn s w worker a ev =
    (ev.worker == worker) && (ev.number == a)
    && allows_in s w ev (slice_get w.seen worker) (numbered s.outsides a) (numbered w.records a)

-- the calls that failed are used up, and so is the peer that was met
abbrev pub used_up : Surroundings → TurnEvent → Surroundings
used_up s ev = change s ev.number (λ o. record o { faults = filter (λ f. not (is_among ev.failed f)) o.faults; peer = (if is_some ev.came then None else o.peer) })

-- ---- the script

abbrev pub is_over : Option Record → Bool
is_over None = true
is_over (Some r) = r.done

-- the associations that haven't ended, in rising order
abbrev pub going_from : ℕ → List Record → List ℕ
going_from n [] = []
going_from n (r ∷ rs) = if r.done then going_from (suc n) rs else n ∷ going_from (suc n) rs

abbrev pub going : World → List ℕ
going w = going_from 1 w.records

abbrev pub is_still : TurnEvent → Bool
is_still ev =
    mark_eq ev.next NextMark.Wait && not (some_in ev.c) && not (some_in ev.t) && not (some_in ev.grams) && (ev.sent_c == 0) && (ev.sent_t == 0) && (ev.sent_u == 0)

-- whose turn comes next, and whether the round was still so far; none behind a whole round that was still
abbrev pub next_in_round : List ℕ → Bool → Option World → List ℕ × Bool
next_in_round (n ∷ ns) still w = (n ∷ ns, still)
next_in_round [] true w = ([], true)
next_in_round [] false None = ([], true)
next_in_round [] false (Some w) = (going w, true)

-- round after round: a turn of worker 1 on each association that hasn't ended
abbrev pub rounds : Surroundings → Option World → List ℕ → Bool → List Event → Bool
rounds s (Some w) [] still [] = true
rounds s (Some w) (n ∷ ns) still (Event.Turn ev ∷ es) =
    is_turn s w 1 n ev
    && rounds (used_up s ev) (step w (Event.Turn ev)) (next_in_round ns (still && is_still ev) (step w (Event.Turn ev))).0
    (next_in_round ns (still && is_still ev) (step w (Event.Turn ev))).1 es
rounds s _ numbers still es = false

abbrev pub going_after : Option World → List ℕ
going_after None = []
going_after (Some w) = going w

-- behind the last line worker 1 sees, if anything was published, and the rounds begin
abbrev pub closing : Surroundings → World → List Entries → List Event → Bool
closing s w [] [] = true
closing s w [] (e ∷ es) = false
closing s w (k ∷ ks) (Event.See worker generation ∷ es) =
    (worker == 1) && (generation == length w.pubs) && rounds s (step w (Event.See 1 (length w.pubs))) (going_after (step w (Event.See 1 (length w.pubs)))) true es
closing s w (k ∷ ks) es = false

-- the event of a line that has one
abbrev pub is_event_of : Surroundings → World → ScriptLine → Event → Bool
is_event_of s w (ScriptLine.Publish k) (Event.Publish k') = entries_eq k k'
is_event_of s w (ScriptLine.See worker) (Event.See v generation) = (worker == v) && (generation == length w.pubs)
is_event_of s w (ScriptLine.Open worker a peer local) (Event.Open v b peer' local' now) =
    (worker == v) && (a == b) && endpoint_eq peer peer' && endpoint_eq local local' && (now == s.now)
is_event_of s w (ScriptLine.Turn worker a) (Event.Turn ev) = is_turn s w worker a ev
is_event_of s w ScriptLine.Stop (Event.Stop StopBy.Control) = true
is_event_of s w _ e = false

abbrev pub surroundings_after : Surroundings → Event → Surroundings
surroundings_after s (Event.Turn ev) = used_up s ev
surroundings_after s e = s

-- a line without an event: it changes the outside alone, or is a turn on an association that has ended
abbrev pub is_silent : World → ScriptLine → Bool
is_silent w (ScriptLine.Publish k) = false
is_silent w (ScriptLine.See worker) = false
is_silent w (ScriptLine.Open worker a peer local) = false
is_silent w (ScriptLine.Turn worker a) = is_over (numbered w.records a)
is_silent w ScriptLine.Stop = false
is_silent w line = true

-- the events are the script's lines in order, and then the closing rounds
abbrev pub follows : Surroundings → Option World → List ScriptLine → List Event → Bool
follows s None lines es = false
follows s (Some w) [] es = closing s w w.pubs es
follows s (Some w) (line ∷ lines) [] = is_silent w line && follows (outside_after s line) (Some w) lines []
follows s (Some w) (line ∷ lines) (e ∷ es) =
    elim (is_silent w line) [
      | true ↦ follows (outside_after s line) (Some w) lines (e ∷ es)
      | false ↦ is_event_of (outside_after s line) w line e && follows (surroundings_after (outside_after s line) e) (step w e) lines es
    ]

abbrev pub first_surroundings : Surroundings
first_surroundings = record { now = 0; outsides = [] }

-- how many events the lines have, but for the rounds
abbrev pub events_of_lines : Option World → List ScriptLine → List Event → ℕ
events_of_lines None lines es = 0
events_of_lines (Some w) [] es = 0
events_of_lines (Some w) (line ∷ lines) [] = 0
events_of_lines (Some w) (line ∷ lines) (e ∷ es) =
    elim (is_silent w line) [ true ↦ events_of_lines (Some w) lines (e ∷ es) | false ↦ suc (events_of_lines (step w e) lines es) ]
