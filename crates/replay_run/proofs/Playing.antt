-- How a script goes on: line after line, and turn after turn of the closing rounds.
use Rattle.std.proofs.Common.{ℕ, ◌≡◌, ◌∙◌, sym, ap, subst, refl, Bool, true, false, ◌&&◌, not, Option, Some, None, List, [], ◌∷◌, ◌++◌, append_assoc, append-nil}
use Rattle.std.proofs.lemmas.List.Folds.{list_all-append}
use Rattle.std.specs.List.{list_all, list_any}
use Rattle.socks_machine.specs.declared.cause.StopBy.{StopBy}
use Rattle.socks_machine.specs.declared.script.ScriptLine.{ScriptLine}
use Rattle.socks_machine.specs.declared.world.Event.{Event}
use Rattle.socks_machine.specs.declared.world.NextMark.{NextMark}
use Rattle.socks_machine.specs.declared.world.TurnEvent.{TurnEvent}
use Rattle.socks_machine.specs.declared.world.World.{World}
use Rattle.socks_machine.specs.Equal.{mark_eq}
use Rattle.socks_machine.specs.Follows.{Follows, Rounds, Closing, IsEventOf, IsTurnOf, begins, IsReplay}
use Rattle.socks_machine.specs.History.{last_mark}
use Rattle.socks_machine.specs.Script.{Surroundings, outside_after, is_silent, is_still, next_in_round, going, first_surroundings, surroundings_after, used_up}
use Rattle.socks_machine.specs.Step.{step, steps, turns_end, goes_on, is_turn_of}
use Rattle.socks_machine.specs.Taking.{◌>>=◌}
use Rattle.socks_machine.specs.Transcript.{traced, line_before, event_line, with_rounds, with_ends, ends, line}
use Rattle.socks_machine.proofs.MemoryLaws.{has_memory, run-spared}
use Rattle.std.specs.Prelude.{codes, ◌≢◌, length}
use Rattle.replay_run.specs.Played.{is_over, Traces, Played, InRounds}

-- ---- events

none-runs : (events : List Event) (w : World) → steps None events ≡ Some w → {A : Type 0} → A
none-runs [] w h = cc
none-runs (e ∷ es) w h = none-runs es w h

onto-line : (f : Event) (y : Option World) (fs : List Event) (w new : World) (e : Event) → steps y fs ≡ Some w
    → traced y (fs ++ e ∷ []) ≡ ((traced y fs).0 ++ event_line new e, Some new)
    → line_before f y (traced y (fs ++ e ∷ [])) ≡ ((line_before f y (traced y fs)).0 ++ event_line new e, Some new)
onto-line f None fs w new e s h = none-runs fs w s
onto-line f (Some u) fs w new e s h =
    ap (λ (z : List ℕ × Option World). (event_line u f ++ z.0, z.1)) h
    ∙ ap (λ (z : List ℕ). let p : List ℕ × Option World = (z, Some new) in p) (sym (append_assoc (event_line u f) (traced (Some u) fs).0 (event_line new e)))

traced-more : (x : Option World) (events : List Event) (w new : World) (e : Event) → steps x events ≡ Some w → step w e ≡ Some new
    → traced x (events ++ e ∷ []) ≡ ((traced x events).0 ++ event_line new e, Some new)
traced-more x [] w new e s k = subst (λ (z : Option World). traced z (e ∷ []) ≡ (event_line new e, Some new)) (sym s) first
  where
    first : traced (Some w) (e ∷ []) ≡ (event_line new e, Some new)
    first = ap (λ (z : Option World). line_before e z (traced z [])) k
        ∙ ap (λ (z : List ℕ). let p : List ℕ × Option World = (z, Some new) in p) (append-nil (event_line new e))
traced-more None (f ∷ fs) w new e s k = none-runs fs w s
traced-more (Some v) (f ∷ fs) w new e s k = onto-line f (step v f) fs w new e s (traced-more (step v f) fs w new e s k)

steps-more : (x : Option World) (events : List Event) (w new : World) (e : Event) → steps x events ≡ Some w → step w e ≡ Some new
    → steps x (events ++ e ∷ []) ≡ Some new
steps-more x [] w new e s k = ap (λ (z : Option World). z >>= λ y. step y e) s ∙ k
steps-more x (f ∷ fs) w new e s k = steps-more (x >>= λ y. step y f) fs w new e s k

over-more : (events : List Event) (e : Event) → list_all is_over events ≡ true → is_over e ≡ true → list_all is_over (events ++ e ∷ []) ≡ true
over-more events e h k = list_all-append is_over events (e ∷ []) ∙ (ap (λ b. b && (is_over e && true)) h ∙ ap (λ b. b && true) k)

pub traces-more : (from : World) (events : List Event) (w new : World) (out : List ℕ) (e : Event) → Traces from events w out → step w e ≡ Some new → is_over e ≡ true
    → Traces from (events ++ e ∷ []) new (out ++ event_line new e)
traces-more from events w new out e h k over = record {
  traced' = traced-more (Some from) events w new e h.ran k
      ∙ ap (λ (z : List ℕ × Option World). let p : List ℕ × Option World = (z.0 ++ event_line new e, Some new) in p) h.traced';
  ran = steps-more (Some from) events w new e h.ran k;
  over = over-more events e h.over over;
}

pub traces-none : (w : World) → Traces w [] w []
traces-none w = record { traced' = refl; ran = refl; over = refl }

-- ---- lines

pub plays-none : (script : List ScriptLine) → Played script [] first_surroundings (begins script) []
plays-none script = record { events = []; plays = λ rest more rounds h. h; traces = traces-none (begins script) }

-- a line without an event
pub plays-silent : (script lines : List ScriptLine) (s : Surroundings) (w : World) (out : List ℕ) (l : ScriptLine) → Played script lines s w out
    → is_silent w l ≡ true → Played script (lines ++ l ∷ []) (outside_after s l) w out
plays-silent script lines s w out l h silent = record {
  events = h.events;
  plays = λ rest more rounds f. subst (λ (z : List ScriptLine). Follows first_surroundings (begins script) z (h.events ++ more) rounds)
      (sym (append_assoc lines (l ∷ []) rest)) (h.plays (l ∷ rest) more rounds (Follows.silent silent f));
  traces = h.traces;
}

-- a line with its event
pub plays-event : (script lines : List ScriptLine) (s : Surroundings) (w new : World) (out : List ℕ) (l : ScriptLine) (e : Event)
    → Played script lines s w out → is_silent w l ≡ false → IsEventOf (outside_after s l) w l e → step w e ≡ Some new → is_over e ≡ true
    → Played script (lines ++ l ∷ []) (surroundings_after (outside_after s l) e) new (out ++ event_line new e)
plays-event script lines s w new out l e h loud is k over = record {
  events = h.events ++ e ∷ [];
  plays = λ rest more rounds f. subst (λ (z : List ScriptLine). Follows first_surroundings (begins script) z ((h.events ++ e ∷ []) ++ more) rounds)
      (sym (append_assoc lines (l ∷ []) rest))
      (subst (λ (z : List Event). Follows first_surroundings (begins script) (lines ++ l ∷ rest) z rounds) (sym (append_assoc h.events (e ∷ []) more))
      (h.plays (l ∷ rest) (e ∷ more) rounds (Follows.happens loud is k f)));
  traces = traces-more (begins script) h.events w new out e h.traces k over;
}

-- ---- the closing rounds

abbrev pub close_line : List ℕ
close_line = line (codes "close" ∷ [])

both-true : (a b : Bool) → a && b ≡ true → (a ≡ true) × (b ≡ true)
both-true true true h = (refl, refl)
both-true true false h = cc
both-true false b h = cc

over-ends : (e : Event) (es : List Event) → is_over e ≡ true → goes_on e es ≡ false
over-ends (Event.Publish k) es h = refl
over-ends (Event.See w g) es h = refl
over-ends (Event.Open w n p l now) es h = refl
over-ends (Event.Stop by) es h = refl
over-ends (Event.Turn ev) es h = not-going (mark_eq ev.next NextMark.Going) (both-true (not (mark_eq ev.next NextMark.Going)) (not ev.memory) h).0
  where
    not-going : (b : Bool) → not b ≡ true → b && list_any (is_turn_of ev.number) es ≡ false
    not-going true k = cc
    not-going false k = refl

all-over-end : (es : List Event) → list_all is_over es ≡ true → turns_end es ≡ true
all-over-end [] h = refl
all-over-end (e ∷ es) h = let k = both-true (is_over e) (list_all is_over es) h in
    ap (λ b. not b && turns_end es) (over-ends e es k.0) ∙ all-over-end es k.1

-- .. and memory was enough for each
over-enough : (e : Event) → is_over e ≡ true → has_memory e ≡ true
over-enough (Event.Publish k) h = refl
over-enough (Event.See w g) h = refl
over-enough (Event.Open w n p l now) h = refl
over-enough (Event.Stop by) h = refl
over-enough (Event.Turn ev) h = (both-true (not (mark_eq ev.next NextMark.Going)) (not ev.memory) h).1

all-over-enough : (es : List Event) → list_all is_over es ≡ true → list_all has_memory es ≡ true
all-over-enough [] h = refl
all-over-enough (e ∷ es) h = let k = both-true (is_over e) (list_all is_over es) h in
    ap (λ b. b && list_all has_memory es) (over-enough e k.0) ∙ all-over-enough es k.1

unmarked : (mark : Option StopBy) → mark ≡ None → mark ≢ Some StopBy.Log
unmarked mark none is = let e : None ≡ Some StopBy.Log = sym none ∙ is in absurd (cc)

steps-append : (x : Option World) (es fs : List Event) → steps x (es ++ fs) ≡ steps (steps x es) fs
steps-append x [] fs = refl
steps-append x (e ∷ es) fs = steps-append (x >>= λ y. step y e) es fs

-- what was done behind all lines, with these rounds behind it
replay-of : (script : List ScriptLine) (s : Surroundings) (events rounds : List Event) (between w : World) (lo out : List ℕ)
    → Follows first_surroundings (begins script) script events rounds → Traces (begins script) events between lo → Traces between rounds w out → last_mark w.marks ≡ None
    → IsReplay script w ((lo ++ close_line) ++ (out ++ ends w))
replay-of script s events rounds between w lo out f h k unstopped = record {
  events = events;
  rounds = rounds;
  follows = f;
  ran = ap (λ b. elim b [ true ↦ steps (Some (begins script)) (events ++ rounds) | false ↦ None ]) (all-over-end (events ++ rounds) over) ∙ ran;
  out' = sym (ap (with_rounds rounds) h.traced' ∙ ap (λ (z : List ℕ × Option World). (lo ++ close_line) ++ with_ends z) k.traced');
  no_memory_cause = run-spared (begins script) w (events ++ rounds) ran (all-over-enough (events ++ rounds) over) refl;
  no_log_mark = unmarked (last_mark w.marks) unstopped;
}
  where
    over : list_all is_over (events ++ rounds) ≡ true
    over = list_all-append is_over events rounds ∙ (ap (λ b. b && list_all is_over rounds) h.over ∙ k.over)

    ran : steps (Some (begins script)) (events ++ rounds) ≡ Some w
    ran = steps-append (Some (begins script)) events rounds ∙ (ap (λ x. steps x rounds) h.ran ∙ k.ran)

follows-all : (script : List ScriptLine) (s : Surroundings) (w : World) (out : List ℕ) (h : Played script script s w out) (rounds : List Event)
    → Closing s w rounds → Follows first_surroundings (begins script) script h.events rounds
follows-all script s w out h rounds c =
    subst (λ (z : List Event). Follows first_surroundings (begins script) script z rounds) (append-nil h.events)
    (subst (λ (z : List ScriptLine). Follows first_surroundings (begins script) z (h.events ++ []) rounds) (append-nil script)
    (h.plays [] [] rounds (Follows.ends c)))

-- nothing was published: there are no rounds
pub ends-unpublished : (script : List ScriptLine) (s : Surroundings) (w : World) (out : List ℕ) → Played script script s w out → w.pubs ≡ [] → last_mark w.marks ≡ None
    → IsReplay script w ((out ++ close_line) ++ ([] ++ ends w))
ends-unpublished script s w out h none unstopped =
    replay-of script s h.events [] w w out [] (follows-all script s w out h [] (Closing.nothing none)) h.traces (traces-none w) unstopped

-- worker 1 sees, and the rounds begin
pub rounds-begin : (script : List ScriptLine) (s : Surroundings) (w new : World) (out : List ℕ) → Played script script s w out → w.pubs ≢ []
    → step w (Event.See 1 (length w.pubs)) ≡ Some new
    → InRounds script s new (going new) true out (event_line new (Event.See 1 (length w.pubs)))
rounds-begin script s w new out h some k = record {
  events = h.events;
  rounds = Event.See 1 (length w.pubs) ∷ [];
  between = w;
  follows = λ more r. follows-all script s w out h (Event.See 1 (length w.pubs) ∷ more) (Closing.closes some k r);
  lines' = h.traces;
  traces = traces-more w [] w new [] (Event.See 1 (length w.pubs)) (traces-none w) k refl;
}

-- a turn of a round
pub round-goes-on : (script : List ScriptLine) (s : Surroundings) (w new : World) (n : ℕ) (ns : List ℕ) (still : Bool) (lo out : List ℕ) (ev : TurnEvent)
    → InRounds script s w (n ∷ ns) still lo out → IsTurnOf s w 1 n ev → step w (Event.Turn ev) ≡ Some new → is_over (Event.Turn ev) ≡ true
    → InRounds script (used_up s ev) new (next_in_round ns (still && is_still ev) (Some new)).0 (next_in_round ns (still && is_still ev) (Some new)).1
    lo (out ++ event_line new (Event.Turn ev))
round-goes-on script s w new n ns still lo out ev h is k over = record {
  events = h.events;
  rounds = h.rounds ++ Event.Turn ev ∷ [];
  between = h.between;
  follows = λ more r. subst (λ (z : List Event). Follows first_surroundings (begins script) script h.events z) (sym (append_assoc h.rounds (Event.Turn ev ∷ []) more))
      (h.follows (Event.Turn ev ∷ more) (Rounds.round is k r));
  lines' = h.lines';
  traces = traces-more h.between h.rounds w new out (Event.Turn ev) h.traces k over;
}

-- the rounds are over
pub rounds-end : (script : List ScriptLine) (s : Surroundings) (w : World) (still : Bool) (lo out : List ℕ) → InRounds script s w [] still lo out → last_mark w.marks ≡ None
    → IsReplay script w ((lo ++ close_line) ++ (out ++ ends w))
rounds-end script s w still lo out h unstopped = replay-of script s h.events h.rounds h.between w lo out
    (subst (λ (z : List Event). Follows first_surroundings (begins script) script h.events z) (append-nil h.rounds) (h.follows [] Rounds.over)) h.lines' h.traces unstopped
