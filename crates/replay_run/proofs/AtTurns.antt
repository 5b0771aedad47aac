-- A turn at a place of the replay, from the turn that was made and its line.
use Rattle.std.proofs.Common.{ℕ, zero, suc, ◌≡◌, ◌+◌, ◌∙◌, sym, ap, subst, refl, Bool, true, false, Some, None, List, [], ◌∷◌, ◌++◌, length, length-append, slice_set}
use Rattle.std.specs.Prelude.{slice_get, All}
use Rattle.std.proofs.lemmas.List.Elements.{All-head, All-tail}
use Rattle.conf_types.specs.declared.entries.Entries.{Entries}
use Rattle.conf_types.specs.Plain.{IsPlain}
use Rattle.socks_grammar.specs.declared.user.User.{User}
use Rattle.generation.specs.Published.{Generations}
use Rattle.rule_list.specs.Rules.{numbered}
use Rattle.net_ends.specs.InMemory.{LinkInMemory, NetInMemory, told_of_link, told_of_net}
use Rattle.session_desk.specs.Standings.{StandsFor}
use Rattle.socks_machine.specs.declared.record.Record.{Record}
use Rattle.socks_machine.specs.declared.world.Event.{Event}
use Rattle.socks_machine.specs.declared.world.NextMark.{NextMark}
use Rattle.socks_machine.specs.declared.world.TurnEvent.{TurnEvent}
use Rattle.socks_machine.specs.declared.world.World.{World}
use Rattle.socks_machine.specs.declared.cause.StopBy.{StopBy}
use Rattle.socks_machine.specs.declared.lines.Line.{Line}
use Rattle.socks_machine.specs.Calls.{Context}
use Rattle.socks_machine.specs.History.{last_mark}
use Rattle.socks_machine.specs.Phase.{is_udp}
use Rattle.socks_machine.specs.Script.{Outside, Surroundings, used_up}
use Rattle.socks_machine.specs.Inputs.{is_served_input}
use Rattle.socks_machine.specs.Step.{basis_of}
use Rattle.socks_machine.specs.Transcript.{event_line, turn_line}
use Rattle.assoc_core.specs.declared.assoc.Assoc.{Assoc}
use Rattle.assoc_core.specs.declared.assoc.Ended.{Ended}
use Rattle.assoc_core.specs.declared.assoc.Next.{Next}
use Rattle.assoc_core.specs.Turns.{Turns, GoesOn, context, event_of, left_of, mark_of}
use Rattle.replay_run.proofs.Tcp.{plain-tcp}
use Rattle.replay_run.specs.declared.slot.Slot.{Slot}
use Rattle.replay_run.specs.declared.state.Replay.{Replay}
use Rattle.replay_run.specs.declared.totals.Totals.{Totals}
use Rattle.replay_run.specs.AtTurn.{IsTurned, TurnsAt}
use Rattle.replay_run.specs.Mirrors.{Mirrors, IsGoing, IsSlot}
use Rattle.replay_run.specs.Played.{is_over}
use Rattle.replay_run.specs.Shown.{turn_shown}
use Rattle.replay_run.specs.Taken.{MakesTurn, WritesTurn, left_record, slot_of}
use Rattle.replay_run.specs.Totals.{totals_of}
use Rattle.replay_run.proofs.Failures.{Tries, event_with, failed_in}
use Rattle.replay_run.proofs.Slots.{slot-at}
use Rattle.replay_run.proofs.Turned as Turned
use Rattle.replay_run.proofs.Turned.{turned}

left-is : (next : Next LinkInMemory) → left_record next ≡ (left_of next).state
left-is (Next.Wait a) = refl
left-is (Next.Again a) = refl
left-is (Next.Done e) = refl

left-tcp : (users : List User) (next : Next LinkInMemory) → GoesOn users next → is_udp (left_record next) ≡ false
left-tcp users (Next.Wait a) h = plain-tcp users a.state h
left-tcp users (Next.Again a) h = plain-tcp users a.state h
left-tcp users (Next.Done e) h = h.1

goes-over : (ev : TurnEvent) (next : Next LinkInMemory) → ev.next ≡ mark_of next → ev.memory ≡ false → is_over (Event.Turn ev) ≡ true
goes-over ev next h enough = ap (λ (m : NextMark). is_over (Event.Turn (record ev { next = m }))) h
    ∙ (ap (λ (b : Bool). is_over (Event.Turn (record ev { next = mark_of next; memory = b }))) enough ∙ by-mark next)
  where
    by-mark : (next : Next LinkInMemory) → is_over (Event.Turn (record ev { next = mark_of next; memory = false })) ≡ true
    by-mark (Next.Wait a) = refl
    by-mark (Next.Again a) = refl
    by-mark (Next.Done e) = refl

-- the totals of a list behind what came
longer : (left before came : List ℕ) (n : ℕ) → left ≡ before ++ came → n ≡ length before → length left ≡ n + length came
longer left before came n h m = ap length h ∙ (length-append before came ∙ ap (λ z. z + length came) (sym m))

shown : (world : World) (g : ℕ) (ev : TurnEvent) (r : Record) → event_line world (Event.Turn ev) ≡ turn_line g ev (Some r) → event_line world (Event.Turn ev) ≡ turn_shown g ev r
unfolding turn_shown
shown world g ev r h = h

-- what a turn tells of its failed calls
abbrev tries-of : (net net' : NetInMemory) (a : Assoc LinkInMemory) (next : Next LinkInMemory) (stands' : List Line → List StopBy → Type 0) (s : Context) (now : ℕ)
    → (t : Turns told_of_link (λ (l : LinkInMemory). l.counts) stands' s now (told_of_net net) (told_of_net net') a next) → Tries net a (left_of next) t.acts
tries-of net net' a next stands' s now t = record { failed_c = t.failed_c; failed_t = t.failed_t; tried_c = t.tried_c; tried_t = t.tried_t; fault_is = t.fault_is; unwritten_is = t.unwritten_is }

-- the turn that the script allows at this place, once it is known for the world that the replay stands for
turned-at : (users : List User) (config : Entries) (k : ℕ) (old new : Replay) (a : Assoc LinkInMemory) (net net' : NetInMemory) (next : Next LinkInMemory) (still : Bool) (before : Totals)
    → slice_get old.slots k ≡ Some (Slot.Going a net) → before ≡ totals_of a.state
    → MakesTurn users (old.gens).seen config old.moment old.desk new.desk a net next net' → WritesTurn (old.gens).seen before next old.out new.out still
    → new.slots ≡ slice_set old.slots k (slot_of next net') → new.gens ≡ old.gens → new.moment ≡ old.moment → numbered (old.gens).configs (old.gens).seen ≡ Some config
    → (s : Surroundings) (w : World) → Mirrors users (StandsFor old.desk) old.desk.cap old.moment s w old.gens old.slots
    → Turns told_of_link (λ (l : LinkInMemory). l.counts) (StandsFor new.desk) (context w.users w.pubs (old.gens).seen config w.cap w.h w.marks) old.moment (told_of_net net) (told_of_net net') a next
    → IsTurned users s w k old new still
turned-at users config k old new a net net' next still before at totals makes writes slots gens same-moment is-config s w m t = record {
  ev = ev;
  left = left;
  world = r.new;
  is_turn = r.is_turn;
  stepped = r.stepped;
  over = goes-over ev next refl refl;
  mirrors = subst (λ (z : Generations). Mirrors users (StandsFor new.desk) new.desk.cap new.moment (used_up s ev) r.new z new.slots) (sym gens)
      (subst (λ (z : List Slot). Mirrors users (StandsFor new.desk) new.desk.cap new.moment (used_up s ev) r.new old.gens z) (sym slots)
      (subst (λ (n : ℕ). Mirrors users (StandsFor new.desk) new.desk.cap n (used_up s ev) r.new old.gens (slice_set old.slots k (slot_of next net'))) (sym same-moment)
      (subst (λ (n : ℕ). Mirrors users (StandsFor new.desk) n old.moment (used_up s ev) r.new old.gens (slice_set old.slots k (slot_of next net'))) (sym makes.cap) r.mirrors)));
  still' = writes.still' ev refl refl refl took_c took_t put_c put_t;
  line = shown r.new (old.gens).seen ev left r.line';
  out = subst (λ (x : Record). new.out ≡ old.out ++ turn_shown (old.gens).seen ev x) is
      (writes.written ev refl (sym (ap (λ (x : Record). x.number) is ∙ t.number)) refl (left-tcp w.users next t.goes_on) took_c took_t put_c put_t);
  gens = gens;
  others = r.others;
  count = (slot_of next net', slots);
}
  where
    ev : TurnEvent
    ev = event_with 1 a.state.number old.moment t.acts (mark_of next) (failed_in (tries-of net net' a next _ _ old.moment t))

    left : Record
    left = (t.result).left

    is : left_record next ≡ left
    is = left-is next ∙ t.state'

    mark : last_mark (t.result).marks ≡ None
    mark = sym (t.desk).mark ∙ makes.mark

    r : Turned.IsTurned users s w old.gens old.slots k ev (slot_of next net') left (StandsFor new.desk) old.desk.cap old.moment
    r = turned users s w old.gens config old.slots k a net net' next (StandsFor old.desk) (StandsFor new.desk) old.desk.cap old.moment m is-config at t mark (tries-of net net' a next _ _ old.moment t) t.where_c t.where_t

    took_c : length (left_record next).c ≡ before.took_c + length ev.c
    took_c = longer (left_record next).c a.state.c ev.c before.took_c (ap (λ (x : Record). x.c) is ∙ t.c) (ap (λ (x : Totals). x.took_c) totals)

    took_t : length (left_record next).t ≡ before.took_t + length ev.t
    took_t = longer (left_record next).t a.state.t ev.t before.took_t (ap (λ (x : Record). x.t) is ∙ t.t) (ap (λ (x : Totals). x.took_t) totals)

    put_c : length (left_record next).sent_c ≡ before.sent_c + ev.sent_c
    put_c = ap (λ (x : Record). length x.sent_c) is ∙ (t.sent_c ∙ ap (λ n. n + ev.sent_c) (sym (ap (λ (x : Totals). x.sent_c) totals)))

    put_t : length (left_record next).sent_t ≡ before.sent_t + ev.sent_t
    put_t = ap (λ (x : Record). length x.sent_t) is ∙ (t.sent_t ∙ ap (λ n. n + ev.sent_t) (sym (ap (λ (x : Totals). x.sent_t) totals)))

-- what the association's outside gives for its turn
the-turns : (users : List User) (config : Entries) (k : ℕ) (old new : Replay) (a : Assoc LinkInMemory) (net net' : NetInMemory) (next : Next LinkInMemory)
    → slice_get old.slots k ≡ Some (Slot.Going a net) → MakesTurn users (old.gens).seen config old.moment old.desk new.desk a net next net' → numbered (old.gens).configs (old.gens).seen ≡ Some config
    → (s : Surroundings) (w : World) → Mirrors users (StandsFor old.desk) old.desk.cap old.moment s w old.gens old.slots → IsPlain config
    → Turns told_of_link (λ (l : LinkInMemory). l.counts) (StandsFor new.desk) (context w.users w.pubs (old.gens).seen config w.cap w.h w.marks) old.moment (told_of_net net) (told_of_net net') a next
the-turns users config k old new a net net' next at makes is-config s w m plain =
    subst (λ (n : ℕ). Turns told_of_link (λ (l : LinkInMemory). l.counts) (StandsFor new.desk) (context w.users w.pubs (old.gens).seen config n w.h w.marks) old.moment (told_of_net net) (told_of_net net') a next) m.cap'
    (over.turns w.pubs w.h w.marks m.desk going.stands (record {
      arrival = record { bytes = a.client.arrived; ends = a.client.ends };
      given = a.client.given;
      arrived' = refl;
      given' = refl;
      served = ap (is_served_input w.users) going.arrived ∙ going.served;
    }) shown' plain)
  where
    found : (o : Outside) × (slice_get s.outsides k ≡ Some o) × IsSlot (basis_of w) (1 + k) (Slot.Going a net) o
    found = slot-at (basis_of w) 1 old.slots s.outsides k (Slot.Going a net) m.slots' at

    going : IsGoing (basis_of w) (1 + k) a net found.0
    going = found.2

    over : MakesTurn w.users (old.gens).seen config old.moment old.desk new.desk a net next net'
    over = subst (λ (us : List User). MakesTurn us (old.gens).seen config old.moment old.desk new.desk a net next net') (sym m.users') makes

    shown' : numbered w.pubs (old.gens).seen ≡ Some config
    shown' = ap (λ (z : List Entries). numbered z (old.gens).seen) m.pubs ∙ is-config

-- one that has ended was put back
pub turns-over : (users : List User) (k : ℕ) (old : Replay) (slots : List Slot) (e : Ended LinkInMemory) → slice_get old.slots k ≡ Some (Slot.Over e) → slots ≡ old.slots
    → TurnsAt users k old (record { desk = old.desk; gens = old.gens; moment = old.moment; slots = slots; out = old.out }) true (Some (Slot.Over e))
turns-over users k old slots e at h = (ap (λ (xs : List Slot). let new : Replay = record { desk = old.desk; gens = old.gens; moment = old.moment; slots = xs; out = old.out } in new) h, refl)

pub turns-at : (users : List User) (config : Entries) (k : ℕ) (old new : Replay) (a : Assoc LinkInMemory) (net net' : NetInMemory) (next : Next LinkInMemory) (still : Bool) (before : Totals)
    → slice_get old.slots k ≡ Some (Slot.Going a net) → before ≡ totals_of a.state
    → MakesTurn users (old.gens).seen config old.moment old.desk new.desk a net next net' → WritesTurn (old.gens).seen before next old.out new.out still
    → new.slots ≡ slice_set old.slots k (slot_of next net') → new.gens ≡ old.gens → new.moment ≡ old.moment → numbered (old.gens).configs (old.gens).seen ≡ Some config → IsPlain config
    → TurnsAt users k old new still (Some (Slot.Going a net))
turns-at users config k old new a net net' next still before at totals makes writes slots gens same-moment is-config plain = λ s w m.
    turned-at users config k old new a net net' next still before at totals makes writes slots gens same-moment is-config s w m
    (the-turns users config k old new a net net' next at makes is-config s w m plain)

-- ---- the configuration of a turn

all-at : {A : Type 0} (P : A → Type 0) (xs : List A) (i : ℕ) (x : A) → All P xs → slice_get xs i ≡ Some x → P x
all-at P [] i x h at = cc
all-at P (y ∷ ys) zero x h at = subst P (the-same y x at) (All-head P y ys h)
  where
    the-same : {A : Type 0} (a b : A) → Some a ≡ Some b → a ≡ b
    the-same a b h = cc
all-at P (y ∷ ys) (suc i) x h at = all-at P ys i x (All-tail P y ys h) at

pub configured-at : (configs : List Entries) (n : ℕ) (k : Entries) → All IsPlain configs → numbered configs n ≡ Some k → IsPlain k
configured-at configs zero k h at = cc
configured-at configs (suc i) k h at = all-at IsPlain configs i k h at
