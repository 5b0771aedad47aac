-- The world behind a turn, and that the replay still holds what it is.
use Rattle.std.proofs.Common.{ℕ, zero, suc, ◌≡◌, ◌≤◌, ◌+◌, ◌∙◌, sym, ap, subst, refl, Bool, true, false, Option, Some, None, is_some, if◌then◌else◌, List, [], ◌∷◌, length, map, arith, slice_set, filter, not}
use Rattle.std.specs.Prelude.{slice_get, unwrap_or}
use Rattle.conf_types.specs.declared.entries.Entries.{Entries}
use Rattle.socks_grammar.specs.declared.user.User.{User}
use Rattle.generation.specs.Published.{Generations}
use Rattle.socks_machine.specs.Basis.{Basis}
use Rattle.net_ends.specs.declared.kinds.Kind.{Kind}
use Rattle.net_ends.specs.declared.kinds.Kinds.{Kinds}
use Rattle.net_ends.specs.Faults.{without}
use Rattle.net_ends.specs.InMemory.{LinkInMemory, NetInMemory, told_of_link, told_of_net}
use Rattle.rule_list.specs.Rules.{numbered}
use Rattle.socks_machine.specs.declared.cause.StopBy.{StopBy}
use Rattle.socks_machine.specs.declared.lines.Line.{Line}
use Rattle.socks_machine.specs.declared.record.Record.{Record}
use Rattle.socks_machine.specs.declared.world.Event.{Event}
use Rattle.socks_machine.specs.declared.world.Object.{Object}
use Rattle.socks_machine.specs.declared.world.TurnEvent.{TurnEvent}
use Rattle.socks_machine.specs.declared.world.World.{World}
use Rattle.socks_machine.specs.Calls.{TurnResult}
use Rattle.socks_machine.specs.History.{last_mark}
use Rattle.socks_machine.specs.FailedCalls.{Failing}
use Rattle.socks_machine.specs.Script.{Outside, Surroundings, is_among, used_up}
use Rattle.socks_machine.specs.Step.{basis_of, step, made, context_of, set_numbered}
use Rattle.socks_machine.specs.Taking.{◌>>=◌}
use Rattle.socks_machine.specs.Turn.{turn}
use Rattle.assoc_core.specs.declared.assoc.Assoc.{Assoc}
use Rattle.assoc_core.specs.declared.assoc.Next.{Next}
use Rattle.assoc_core.specs.Turns.{FailsWhere, Turns, event_of, mark_of, left_of, context}
use Rattle.socks_machine.proofs.FailedLaws.{turn-with-failed}
use Rattle.replay_run.specs.declared.slot.Slot.{Slot}
use Rattle.addr_pattern.specs.declared.endpoint.Endpoint.{Endpoint}
use Rattle.net_ends.specs.Nets.{NetTold, Plan}
use Rattle.socks_machine.specs.declared.world.Outer.{Outer}
use Rattle.socks_machine.specs.Calls.{Context}
use Rattle.socks_machine.specs.Decisions.{reached_at}
use Rattle.assoc_core.specs.Plain.{IsPlainRecord}
use Rattle.assoc_core.specs.Stands.{GoesDirect, Holds, HoldsTarget}
use Rattle.net_ends.specs.declared.net.Lookup.{Lookup}
use Rattle.assoc_core.specs.Turns.{PlanStays, SameTarget, TriedTarget, looked_as, outer_of}
use Rattle.replay_run.specs.Mirrors.{FailsAs, Mirrors, IsGoing, IsSlot, TargetIs, TargetMirrors, due_on, record_of, seen_by_workers, takes_nothing}
use Rattle.replay_run.specs.Taken.{slot_of}
use Rattle.replay_run.proofs.Outsides.{same-arrived, same-ends, same-cap, same-target-is, target-behind}
use Rattle.socks_machine.specs.Follows.{IsTurnOf}
use Rattle.socks_machine.specs.Transcript.{event_line, turn_line}
use Rattle.replay_run.proofs.Allowing.{allows}
use Rattle.replay_run.proofs.Due.{due-left-c, due-left-t, failed_calls}
use Rattle.replay_run.proofs.Failures.{Tries, event_with, failed_in}
use Rattle.replay_run.proofs.Slots.{after_turn, map-set-at, get-map-at, get-set-at, slot-at, slots-set, used-at}

-- a turn is made in the generation that was seen, on the record of its number
turn-steps : (w : World) (gens : Generations) (config : Entries) (a : Assoc LinkInMemory) (slots : List Slot) (net net' : NetInMemory) (next : Next LinkInMemory) (stands' : List Line → List StopBy → Type 0) (k now : ℕ)
    → numbered w.pubs gens.seen ≡ Some config → w.seen ≡ seen_by_workers gens.seen → w.records ≡ map record_of slots → slice_get slots k ≡ Some (Slot.Going a net) → a.state.number ≡ suc k
    → (t : Turns told_of_link (λ (l : LinkInMemory). l.counts) stands' (context w.users w.pubs gens.seen config w.cap w.h w.marks) now (told_of_net net) (told_of_net net') a next)
    → (failed : List Failing) → step w (Event.Turn (event_with 1 a.state.number now t.acts (mark_of next) failed)) ≡ Some (made w a.state.number t.result)
turn-steps w gens config a slots net net' next stands' k now pubs seen records at number t failed =
    ap (λ (x : Option ℕ). x >>= λ g. numbered w.pubs g >>= λ c. numbered w.records a.state.number >>= λ r. turn (context_of w g c) ev r >>= λ m. Some (made w a.state.number m)) (ap (λ (z : List ℕ). slice_get z 1) seen)
    ∙ (ap (λ (x : Option Entries). x >>= λ c. numbered w.records a.state.number >>= λ r. turn (context_of w gens.seen c) ev r >>= λ m. Some (made w a.state.number m)) pubs
    ∙ (ap (λ (x : Option Record). x >>= λ r. turn (context_of w gens.seen config) ev r >>= λ m. Some (made w a.state.number m)) found
    ∙ ap (λ (x : Option TurnResult). x >>= λ m. Some (made w a.state.number m)) (turn-with-failed (context_of w gens.seen config) (event_of 1 a.state.number now t.acts (mark_of next)) failed a.state ∙ t.lawful 1)))
  where
    ev : TurnEvent
    ev = event_with 1 a.state.number now t.acts (mark_of next) failed

    found : numbered w.records a.state.number ≡ Some a.state
    found = ap (numbered w.records) number ∙ (ap (λ (z : List Record). slice_get z k) records ∙ get-map-at record_of slots k (Slot.Going a net) at)

slot-record : (next : Next LinkInMemory) (net : NetInMemory) → record_of (slot_of next net) ≡ (left_of next).state
slot-record (Next.Wait a) net = refl
slot-record (Next.Again a) net = refl
slot-record (Next.Done e) net = refl

numbered-set : (w : World) (k : ℕ) (r : TurnResult) (old : Record) (n : ℕ) → n ≡ suc k → slice_get w.records k ≡ Some old → numbered (made w n r).records n ≡ Some r.left
numbered-set w k r old n number at = subst (λ (m : ℕ). numbered (made w m r).records m ≡ Some r.left) (sym number) (get-set-at w.records k old r.left at)

-- ---- the association still stands beside its outside

left-is : (ev : TurnEvent) (l : LinkInMemory) (o : Outside) → TargetIs l o → TargetIs l (after_turn ev o)
left-is ev l o h = record { arrived = h.arrived; ends = h.ends; cap = h.cap; room = h.room }

-- what is left of the calls that are to fail
left-c : (ev : TurnEvent) (c t : Option Kind) (o : Outside) → ev.failed ≡ failed_calls c t → due_on Object.Client (after_turn ev o).faults ≡ without (due_on Object.Client o.faults) c
left-c ev c t o is = ap (λ (fs : List Failing). due_on Object.Client (filter (λ f. not (is_among fs f)) o.faults)) is ∙ due-left-c c t o.faults

left-t : (ev : TurnEvent) (c t : Option Kind) (o : Outside) → ev.failed ≡ failed_calls c t → due_on Object.Target (after_turn ev o).faults ≡ without (due_on Object.Target o.faults) t
left-t ev c t o is = ap (λ (fs : List Failing). due_on Object.Target (filter (λ f. not (is_among fs f)) o.faults)) is ∙ due-left-t c t o.faults

plan-same : (net net' : NetInMemory) (o : Outside) (ev : TurnEvent) (c f : Option Kind) → ev.failed ≡ failed_calls c f → TargetIs net.link o × FailsAs net.link Object.Target o × (outer_of net.outcome ≡ o.dial) → f ≡ None
    → (told_of_net net').plan ≡ (told_of_net net).plan
    → TargetMirrors None net' (after_turn ev o)
plan-same net net' o ev c f is h none same = (
  left-is ev net'.link o (same-target-is net.link net'.link o h.0 (record {
    arrived = ap (λ (p : Option Plan). elim p [ Some x ↦ x.link.arrived | None ↦ None ]) same;
    cap = ap (λ (p : Option Plan). elim p [ Some x ↦ x.link.cap | None ↦ None ]) same;
    room = ap (λ (p : Option Plan). elim p [ Some x ↦ x.link.room | None ↦ None ]) same;
    unfailing = ap (λ (p : Option Plan). elim p [ Some x ↦ x.link.unfailing | None ↦ false ]) same;
    tells_given = ap (λ (p : Option Plan). elim p [ Some x ↦ is_some x.link.given | None ↦ false ]) same;
    tells_taken = ap (λ (p : Option Plan). elim p [ Some x ↦ is_some x.link.taken | None ↦ false ]) same;
  })),
  ap (λ (p : Option Plan). elim p [ Some x ↦ x.due | None ↦ None ]) same
      ∙ (h.1 ∙ ap (λ (due : Kinds). Some due) (sym (left-t ev c f o is ∙ ap (without (due_on Object.Target o.faults)) none))),
  ap (λ (p : Option Plan). elim p [ Some x ↦ outer_of x.outcome | None ↦ o.dial ]) same ∙ h.2,
)

plan-stays : (net net' : NetTold) (outer : Outer) (there : Bool) → there ≡ false → PlanStays net net' outer there → net'.plan ≡ net.plan
plan-stays net net' (Outer.Up at) true none h = cc
plan-stays net net' (Outer.Up at) false none h = cc
plan-stays net net' Outer.Nothing there none h = h
plan-stays net net' (Outer.Desk logged) there none h = h
plan-stays net net' (Outer.Looked found) there none h = h
plan-stays net net' Outer.Refused there none h = h
plan-stays net net' Outer.HostUnreachable there none h = h
plan-stays net net' Outer.NetUnreachable there none h = h
plan-stays net net' Outer.Failed there none h = h

target-still : (R W S : Type 0) (t t' : Option LinkInMemory) (net net' : NetInMemory) (o : Outside) (r : Record) (outer : Outer) (ev : TurnEvent) (c f : Option Kind) → ev.failed ≡ failed_calls c f → TargetMirrors t net o
    → SameTarget told_of_link (told_of_net net) t t' → TriedTarget (λ (l : LinkInMemory). l.counts) (told_of_net net) t t' R W S f
    → HoldsTarget told_of_link r t' → PlanStays (told_of_net net) (told_of_net net') outer (is_some (reached_at r.decisions)) → TargetMirrors t' net' (after_turn ev o)
target-still R W S None None net net' o r outer ev c f is h same tried holds plan =
    plan-same net net' o ev c f is h tried.0 (plan-stays (told_of_net net) (told_of_net net') outer (is_some (reached_at r.decisions)) (ap (λ (x : Option Endpoint). is_some x) holds.0) plan)
target-still R W S (Some l) None net net' o r outer ev c f is h same tried holds plan = absurd same
target-still R W S None (Some l') net net' o r outer ev c f is h same tried holds plan = (
  left-is ev l' o (target-behind None net o l' h same),
  tried.2.left (due_on Object.Target o.faults) (tried.1 (record { outcome = net.outcome; link = told_of_link net.link; due = net.link.counts.due }) refl ∙ h.1)
      ∙ ap (λ (due : Kinds). Some due) (sym (left-t ev c f o is)),
)
target-still R W S (Some l) (Some l') net net' o r outer ev c f is h same tried holds plan = (
  left-is ev l' o (target-behind (Some l) net o l' h same),
  tried.left (due_on Object.Target o.faults) h.1 ∙ ap (λ (due : Kinds). Some due) (sym (left-t ev c f o is)),
)

-- an association that goes on
still-going : (basis : Basis) (n : ℕ) (a a' : Assoc LinkInMemory) (net net' : NetInMemory) (o : Outside) (next : Next LinkInMemory) (s : Context) (stands' : List Line → List StopBy → Type 0) (now : ℕ)
    → IsGoing basis n a net o → s.basis ≡ basis → (t : Turns told_of_link (λ (l : LinkInMemory). l.counts) stands' s now (told_of_net net) (told_of_net net') a next) → left_of next ≡ a'
    → IsPlainRecord (s.basis).users a'.state → (ev : TurnEvent) → ev.came ≡ None → (tries : Tries net a (left_of next) t.acts) → ev.failed ≡ failed_in tries → IsGoing basis n a' net' (after_turn ev o)
still-going basis n a a' net net' o next s stands' now h over t is plain ev came tries failed = subst (λ (z : Assoc LinkInMemory). IsGoing basis n z net' (after_turn ev o)) is (record {
  number' = ap (λ (r : Record). r.number) t.state' ∙ (t.number ∙ h.number');
  stands = record {
    plain = subst (λ (z : Assoc LinkInMemory). IsPlainRecord basis.users z.state) (sym is) (subst (λ (z : Basis). IsPlainRecord z.users a'.state) over plain);
    direct = subst (λ (z : Basis). GoesDirect z ((left_of next).state).decisions) over (subst (λ (r : Record). GoesDirect s.basis r.decisions) (sym t.state') t.direct);
    client = subst (λ (r : Record). Holds (told_of_link (left_of next).client) r.c r.sent_c r.end_c r.shut_c) (sym t.state') t.client;
    client_ends = t.client_ends;
    client_first = t.client_first;
    target = subst (λ (r : Record). HoldsTarget told_of_link r (left_of next).target) (sym t.state') t.target;
  };
  arrived = same-arrived a.client (left_of next).client t.same_client ∙ h.arrived;
  ends = same-ends a.client (left_of next).client t.same_client ∙ h.ends;
  fails = tries.tried_c.left (due_on Object.Client o.faults) h.fails ∙ ap (λ (due : Kinds). Some due) (sym (left-c ev tries.failed_c tries.failed_t o failed));
  cap = subst (λ (m : ℕ). 64 + length o.t ≤ m) (sym (same-cap a.client (left_of next).client t.same_client)) h.cap;
  room = ap takes_nothing t.same_client.room ∙ h.room;
  served = h.served;
  target = target-still _ _ _ a.target (left_of next).target net net' o t.result.left t.acts.outer ev tries.failed_c tries.failed_t failed h.target t.same_target tries.tried_t t.target t.plan';
  lookup = ap (λ (p : Option Lookup). elim p [ Some x ↦ looked_as x | None ↦ o.lookup ]) t.lookup_plan ∙ h.lookup;
  quiet = record { grams = h.quiet.grams; peer = ap (λ (x : Option Endpoint). if is_some x then None else o.peer) came ∙ h.quiet.peer };
})

slot-still : (basis : Basis) (n : ℕ) (a : Assoc LinkInMemory) (net net' : NetInMemory) (o : Outside) (next : Next LinkInMemory) (s : Context) (stands' : List Line → List StopBy → Type 0) (now : ℕ)
    → IsGoing basis n a net o → s.basis ≡ basis → (t : Turns told_of_link (λ (l : LinkInMemory). l.counts) stands' s now (told_of_net net) (told_of_net net') a next)
    → (ev : TurnEvent) → ev.came ≡ None → (tries : Tries net a (left_of next) t.acts) → ev.failed ≡ failed_in tries → IsSlot basis n (slot_of next net') (after_turn ev o)
slot-still basis n a net net' o (Next.Wait a') s stands' now h over t ev came tries failed = still-going basis n a a' net net' o (Next.Wait a') s stands' now h over t refl t.goes_on ev came tries failed
slot-still basis n a net net' o (Next.Again a') s stands' now h over t ev came tries failed = still-going basis n a a' net net' o (Next.Again a') s stands' now h over t refl t.goes_on ev came tries failed
slot-still basis n a net net' o (Next.Done e) s stands' now h over t ev came tries failed = t.goes_on

-- ---- the whole

-- the turn of the association at this place: its event, the world behind it, and that the replay
-- holds what that is
pub record IsTurned (users : List User) (s : Surroundings) (w : World) (gens : Generations) (slots : List Slot) (k : ℕ) (ev : TurnEvent) (slot : Slot) (left : Record)
    (stands' : List Line → List StopBy → Type 0) (cap now : ℕ) : Type 0 where
  pub new : World
  pub is_turn : IsTurnOf s w 1 (suc k) ev
  pub stepped : step w (Event.Turn ev) ≡ Some new
  pub mirrors : Mirrors users stands' cap now (used_up s ev) new gens (slice_set slots k slot)
  pub line' : event_line new (Event.Turn ev) ≡ turn_line gens.seen ev (Some left)
  pub others : (j : ℕ) → (j ≡ k → ⊥) → slice_get new.records j ≡ slice_get w.records j

other-places : {A : Type 0} (xs : List A) (k j : ℕ) (x : A) → (j ≡ k → ⊥) → slice_get (slice_set xs k x) j ≡ slice_get xs j
other-places [] k j x h = refl
other-places (y ∷ ys) zero zero x h = absurd (h refl)
other-places (y ∷ ys) zero (suc j) x h = refl
other-places (y ∷ ys) (suc k) zero x h = refl
other-places (y ∷ ys) (suc k) (suc j) x h = other-places ys k j x (λ e. h (ap (λ (n : ℕ). suc n) e))

pub turned : (users : List User) (s : Surroundings) (w : World) (gens : Generations) (config : Entries) (slots : List Slot) (k : ℕ) (a : Assoc LinkInMemory) (net net' : NetInMemory) (next : Next LinkInMemory)
    (stands stands' : List Line → List StopBy → Type 0) (cap now : ℕ)
    → Mirrors users stands cap now s w gens slots → numbered gens.configs gens.seen ≡ Some config → slice_get slots k ≡ Some (Slot.Going a net)
    → (t : Turns told_of_link (λ (l : LinkInMemory). l.counts) stands' (context w.users w.pubs gens.seen config w.cap w.h w.marks) now (told_of_net net) (told_of_net net') a next)
    → last_mark (t.result).marks ≡ None → (tries : Tries net a (left_of next) t.acts)
    → FailsWhere (basis_of w) t.behind (t.result).left Object.Client tries.failed_c → FailsWhere (basis_of w) t.behind (t.result).left Object.Target tries.failed_t
    → IsTurned users s w gens slots k (event_with 1 a.state.number now t.acts (mark_of next) (failed_in tries)) (slot_of next net') (t.result).left stands' cap now
turned users s w gens config slots k a net net' next stands stands' cap now m is at t mark tries where_c where_t = record {
  new = new;
  is_turn = record {
    worker' = refl;
    number = number;
    generation = gens.seen;
    saw = saw;
    config = config;
    published = shown;
    outside = o;
    there = found.1;
    begun = a.state;
    stood = stood;
    allowed = allows (record {
      s = s;
      w = w;
      new = new;
      generation = gens.seen;
      config = config;
      n = suc k;
      a = a;
      net = net;
      net' = net';
      o = o;
      next = next;
      stands' = stands';
      now = now;
      moment = m.moment';
      marks = m.marks;
      going = going;
      turns = t;
      tries = tries;
      where_c = where_c;
      where_t = where_t;
      stepped = stepped;
      behind' = behind;
    });
  };
  stepped = stepped;
  mirrors = subst (λ (z : Surroundings). Mirrors users stands' cap now z new gens (slice_set slots k (slot_of next net'))) (sym (used-at s ev k o number found.1)) (record {
    moment' = m.moment';
    users' = m.users';
    pubs = m.pubs;
    seen' = m.seen';
    below = m.below;
    records = ap (λ n. set_numbered w.records n (t.result).left) number
        ∙ (ap (λ (rs : List Record). slice_set rs k (t.result).left) m.records
        ∙ (ap (λ (r : Record). slice_set (map record_of slots) k r) (sym (slot-record next net' ∙ t.state'))
        ∙ sym (map-set-at record_of slots k (slot_of next net'))));
    slots' = slots-set (basis_of w) 1 slots s.outsides k (slot_of next net') (after_turn ev o) m.slots'
        (slot-still (basis_of w) (1 + k) a net net' o next _ stands' now found.2 refl t ev refl tries refl);
    desk = t.desk;
    cap' = m.cap';
    marks = mark;
  });
  line' = ap (λ (x : Option Record). turn_line (unwrap_or (slice_get w.seen 1) 0) ev x) behind
      ∙ ap (λ (x : Option ℕ). turn_line (unwrap_or x 0) ev (Some (t.result).left)) saw;
  others = λ j h. ap (λ n. slice_get (set_numbered w.records n (t.result).left) j) number ∙ other-places w.records k j (t.result).left h;
}
  where
    ev : TurnEvent
    ev = event_with 1 a.state.number now t.acts (mark_of next) (failed_in tries)

    new : World
    new = made w a.state.number t.result

    found : (o : Outside) × (slice_get s.outsides k ≡ Some o) × IsSlot (basis_of w) (1 + k) (Slot.Going a net) o
    found = slot-at (basis_of w) 1 slots s.outsides k (Slot.Going a net) m.slots' at

    o : Outside
    o = found.0

    going : IsGoing (basis_of w) (suc k) a net o
    going = subst (λ (n : ℕ). IsGoing (basis_of w) n a net o) (omega arith) found.2

    number : a.state.number ≡ suc k
    number = going.number'

    saw : slice_get w.seen 1 ≡ Some gens.seen
    saw = ap (λ (z : List ℕ). slice_get z 1) m.seen'

    shown : numbered w.pubs gens.seen ≡ Some config
    shown = ap (λ (z : List Entries). numbered z gens.seen) m.pubs ∙ is

    stood' : slice_get w.records k ≡ Some a.state
    stood' = ap (λ (z : List Record). slice_get z k) m.records ∙ get-map-at record_of slots k (Slot.Going a net) at

    stood : numbered w.records (suc k) ≡ Some a.state
    stood = stood'

    stepped : step w (Event.Turn ev) ≡ Some new
    stepped = turn-steps w gens config a slots net net' next stands' k now shown m.seen' m.records at number t (failed_in tries)

    behind : numbered new.records a.state.number ≡ Some (t.result).left
    behind = numbered-set w k t.result a.state a.state.number number stood'
