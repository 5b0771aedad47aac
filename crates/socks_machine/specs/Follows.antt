-- Which events a script allows, as a relation: its lines in order, and then the closing rounds. (`Script` has the same as
-- tests that compute.)
use Rattle.std.specs.Prelude.{ℕ, suc, ◌≡◌, ◌≢◌, ◌↔◌, ◌<◌, Bool, true, false, ◌&&◌, not, if◌then◌else◌, IsTrue, Option, Some, None, List, [], ◌∷◌, ◌++◌, length, map, filter, All, Contains, IfSome, is_some}
use Rattle.std.specs.List.{list_any, list_all}
use mathlib.Core.List.{IsPrefix}
use Rattle.addr_pattern.specs.declared.endpoint.Endpoint.{Endpoint}
use Rattle.conf_types.specs.declared.entries.Entries.{Entries}
use Rattle.socks_grammar.specs.declared.user.User.{User}
use Rattle.socks_machine.specs.declared.cause.Cause.{Cause}
use Rattle.socks_machine.specs.declared.cause.StopBy.{StopBy}
use Rattle.socks_machine.specs.declared.record.Gram.{Gram}
use Rattle.socks_machine.specs.declared.record.Record.{Record}
use Rattle.socks_machine.specs.declared.world.Object.{Object}
use Rattle.socks_machine.specs.declared.world.Outer.{Outer}
use Rattle.socks_machine.specs.declared.world.NextMark.{NextMark}
use Rattle.socks_machine.specs.declared.world.TurnEvent.{TurnEvent}
use Rattle.socks_machine.specs.declared.world.Event.{Event}
use Rattle.socks_machine.specs.declared.world.World.{World}
use Rattle.socks_machine.specs.Basis.{Basis}
use Rattle.socks_machine.specs.History.{last_mark}
use Rattle.socks_machine.specs.Owed.{waiting_for_target, waiting_for_client}
use Rattle.socks_machine.specs.Phase.{Phase, phase}
use Rattle.rule_list.specs.Rules.{numbered}
use Rattle.socks_machine.specs.FailedCalls.{Failing}
use Rattle.socks_machine.specs.Script.{Outside, Surroundings, outside_after, is_silent, is_still, next_in_round, going, without_ends, behind_turn, did, reached_as, first_surroundings, is_among, writes_link, has_first, can_fail_in, used_up, surroundings_after}
use Rattle.socks_machine.specs.declared.script.ScriptLine.{ScriptLine}
use Rattle.socks_machine.specs.declared.script.CallKind.{CallKind}
use Rattle.socks_machine.specs.Step.{basis_of, step, start, run}
use Rattle.socks_machine.specs.Taking.{holds, taken, pipe_size, reads_target, reads_client}
use Rattle.socks_machine.specs.Transcript.{transcript}
use Rattle.socks_machine.specs.Turn.{quantum}
use Rattle.std.specs.Prelude.{slice_get}

abbrev pub packet : Gram → Endpoint × List ℕ
packet d = (d.peer, d.bytes)

-- the outcome that the outside has for the call of the phase behind the takings, or its default; the desk's line is written
-- or not
abbrev pub OuterIs : Outside → Phase → Outer → Type 0
OuterIs o p Outer.Nothing = Unit {0}
OuterIs o p (Outer.Desk logged) = Unit {0}
OuterIs o (Phase.Seek name) outer = outer ≡ o.lookup
OuterIs o (Phase.Reach g) outer = outer ≡ reached_as o g.facts.command
OuterIs o p outer = ⊥

pub record OuterFits (basis : Basis) (generation : ℕ) (config : Entries) (o : Outside) (ev : TurnEvent) (r : Record) : Type 0 where
  pub behind : Record
  pub taken' : taken basis generation config.methods ev r ≡ Some behind
  pub is : OuterIs o (phase basis behind) ev.outer

-- ---- failed calls

-- The failed calls of a turn. A line names each, and no call that a line names has succeeded. Each can have failed in the turn.
-- The one that failed first is among them, and a write to a link is exactly where the turn says so.
pub record FaultsAre (o : Outside) (ev : TurnEvent) (can : Failing → Bool) : Type 0 where
  pub named : list_all (is_among o.faults) ev.failed ≡ true
  pub undone : list_any (did ev) o.faults ≡ false
  pub could : list_all can ev.failed ≡ true
  pub first : has_first ev.fault ev.failed ≡ true
  pub unwritten : ev.unwritten ≡ list_any writes_link ev.failed

-- ---- ends

-- the phase that is met behind all that is taken, but for the ends; in Relay fewer bytes of this side wait at the turn's end
-- than a pipe holds
pub record Meets (basis : Basis) (generation : ℕ) (config : Entries) (ev : TurnEvent) (r : Record) (left : Option Record) (reads : Record → Phase → Bool) (waiting : Basis → Record → ℕ) : Type 0 where
  pub behind : Record
  pub taken' : taken basis generation config.methods (without_ends ev) r ≡ Some behind
  pub read' : IsTrue (reads behind (phase basis behind))
  pub room : phase basis behind ≡ Phase.Relay → IfSome left (λ x. waiting basis x < pipe_size)

pub record ComesToEnd (arrived there : List ℕ) (ended was : Bool) (part : List ℕ) (Passes Reads : Type 0) : Type 0 where
  pub stands : ended ≡ true
  pub unread : was ≡ false
  pub all : there ≡ arrived
  pub below : length part < quantum
  pub passes : Passes
  pub reads : Reads

-- Without a failed call an end is read exactly where the turn comes to it. A call on another object, or of another kind,
-- may have failed before it was read, or behind it.
abbrev pub EndFits : Option Object → Bool → Type 0 → Type 0
EndFits None read Comes = IsTrue read ↔ Comes
EndFits (Some x) read Comes = IsTrue read → Comes

-- ---- turns

pub record Allows (s : Surroundings) (w : World) (generation : ℕ) (config : Entries) (o : Outside) (ev : TurnEvent) (r : Record) : Type 0 where
  pub moment : ev.now ≡ s.now
  pub stop' : ev.stop ≡ last_mark w.marks
  pub ends : ev.next ≢ NextMark.Going
  pub client : IsPrefix (r.c ++ ev.c) o.c
  pub target : IsPrefix (r.t ++ ev.t) o.t
  pub datagrams : IsPrefix (map packet (r.grams ++ ev.grams)) o.grams
  pub peer : IfSome ev.came (λ p. o.peer ≡ Some p)
  pub outer' : OuterFits (basis_of w) generation config o ev r
  pub faults' : FaultsAre o ev (can_fail_in (basis_of w) (taken (basis_of w) generation config.methods ev r) (behind_turn w ev))
  pub client_end : ev.stop ≡ None → EndFits ev.fault ev.end_c (ComesToEnd o.c (r.c ++ ev.c) o.end_c r.end_c ev.c (is_among ev.failed (Object.Client, CallKind.Reading) ≡ false)
      (Meets (basis_of w) generation config ev r (behind_turn w ev) (reads_client (basis_of w) ev.idle ev.full) waiting_for_target))
  pub target_end : ev.stop ≡ None → EndFits ev.fault ev.end_t (ComesToEnd o.t (r.t ++ ev.t) o.end_t r.end_t ev.t (is_among ev.failed (Object.Target, CallKind.Reading) ≡ false)
      (Meets (basis_of w) generation config ev r (behind_turn w ev) reads_target waiting_for_client))
  pub client_rests : IsTrue (holds Object.Client ev.idle) → (r.c ++ ev.c ≡ o.c) × (o.end_c ≡ false)
  pub target_rests : IsTrue (holds Object.Target ev.idle) → (r.t ++ ev.t ≡ o.t) × (o.end_t ≡ false)
  pub door_rests : IsTrue (holds Object.Door ev.idle) → o.peer ≡ None
  pub port_rests : IsTrue (holds Object.Port ev.idle) → map packet (r.grams ++ ev.grams) ≡ o.grams
  pub no_room : All (λ x. IsTrue (holds x o.no_room)) ev.full
  pub room_c : IsTrue (holds Object.Client o.no_room) → ev.sent_c ≡ 0
  pub room_t : IsTrue (holds Object.Target o.no_room) → ev.sent_t ≡ 0

pub record IsTurnOf (s : Surroundings) (w : World) (worker a : ℕ) (ev : TurnEvent) : Type 0 where
  pub worker' : ev.worker ≡ worker
  pub number : ev.number ≡ a
  pub generation : ℕ
  pub saw : slice_get w.seen worker ≡ Some generation
  pub config : Entries
  pub published : numbered w.pubs generation ≡ Some config
  pub outside : Outside
  pub there : numbered s.outsides a ≡ Some outside
  pub begun : Record
  pub stood : numbered w.records a ≡ Some begun
  pub allowed : Allows s w generation config outside ev begun

-- the event of a line that has one
abbrev pub IsEventOf : Surroundings → World → ScriptLine → Event → Type 0
IsEventOf s w (ScriptLine.Publish k) e = e ≡ Event.Publish k
IsEventOf s w (ScriptLine.See worker) e = e ≡ Event.See worker (length w.pubs)
IsEventOf s w (ScriptLine.Open worker a peer local) e = e ≡ Event.Open worker a peer local s.now
IsEventOf s w (ScriptLine.Turn worker a) e = (ev : TurnEvent) × (e ≡ Event.Turn ev) × IsTurnOf s w worker a ev
IsEventOf s w ScriptLine.Stop e = e ≡ Event.Stop StopBy.Control
IsEventOf s w line e = ⊥

-- round after round: whose turn comes in this round, and whether the round was still so far
pub data Rounds : Surroundings → World → List ℕ → Bool → List Event → Type 0 where
  over : {s : Surroundings} {w : World} {still : Bool} → Rounds s w [] still []
  round : {s : Surroundings} {w new : World} {n : ℕ} {ns : List ℕ} {still : Bool} {ev : TurnEvent} {es : List Event}
      → IsTurnOf s w 1 n ev → step w (Event.Turn ev) ≡ Some new
      → Rounds (used_up s ev) new (next_in_round ns (still && is_still ev) (Some new)).0 (next_in_round ns (still && is_still ev) (Some new)).1 es
      → Rounds s w (n ∷ ns) still (Event.Turn ev ∷ es)

-- behind the last line worker 1 sees, if anything was published, and the rounds begin
pub data Closing : Surroundings → World → List Event → Type 0 where
  nothing : {s : Surroundings} {w : World} → w.pubs ≡ [] → Closing s w []
  closes : {s : Surroundings} {w new : World} {es : List Event} → w.pubs ≢ [] → step w (Event.See 1 (length w.pubs)) ≡ Some new
      → Rounds s new (going new) true es → Closing s w (Event.See 1 (length w.pubs) ∷ es)

-- the first events are those of the lines, the others those of the closing rounds
pub data Follows : Surroundings → World → List ScriptLine → List Event → List Event → Type 0 where
  ends : {s : Surroundings} {w : World} {rounds : List Event} → Closing s w rounds → Follows s w [] [] rounds
  silent : {s : Surroundings} {w : World} {line : ScriptLine} {lines : List ScriptLine} {es rounds : List Event}
      → is_silent w line ≡ true → Follows (outside_after s line) w lines es rounds → Follows s w (line ∷ lines) es rounds
  happens : {s : Surroundings} {w new : World} {line : ScriptLine} {lines : List ScriptLine} {e : Event} {es rounds : List Event}
      → is_silent w line ≡ false → IsEventOf (outside_after s line) w line e → step w e ≡ Some new
      → Follows (surroundings_after (outside_after s line) e) new lines es rounds → Follows s w (line ∷ lines) (e ∷ es) rounds

-- ---- the world in which a script begins

-- the users of the script, none where no line gives them
abbrev pub users_of : List ScriptLine → List User
users_of [] = []
users_of (ScriptLine.UsersAre users ∷ lines) = users
users_of (line ∷ lines) = users_of lines

-- the number of workers stands before every other line, else it is 1
abbrev pub workers_of : List ScriptLine → ℕ
workers_of (ScriptLine.Workers n ∷ lines) = n
workers_of lines = 1

-- a desk of `replay` is never crowded
abbrev pub opens_of : List ScriptLine → ℕ
opens_of [] = 0
opens_of (ScriptLine.Open worker a peer local ∷ lines) = suc (opens_of lines)
opens_of (line ∷ lines) = opens_of lines

abbrev pub begins : List ScriptLine → World
begins lines = start (users_of lines) (opens_of lines) (workers_of lines)

-- What a replay has written where it was done: the transcript of events that the script allows, whose run leaves this world.
-- In it no association ended for want of memory, and no log failed.
pub record IsReplay (lines : List ScriptLine) (world : World) (out : List ℕ) : Type 0 where
  pub events : List Event
  pub rounds : List Event
  pub follows : Follows first_surroundings (begins lines) lines events rounds
  pub ran : run (users_of lines) (opens_of lines) (workers_of lines) (events ++ rounds) ≡ Some world
  pub out' : out ≡ transcript (begins lines) events rounds
  pub no_memory_cause : All (λ (r : Record). r.cause ≢ Some Cause.Memory) world.records
  pub no_log_mark : last_mark world.marks ≢ Some StopBy.Log
