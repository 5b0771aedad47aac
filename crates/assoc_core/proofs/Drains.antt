-- A turn in Closing.
use Rattle.std.proofs.Common.{◌≡◌, ℕ, ◌<◌, inl, Bool, true, false, ◌&&◌, ◌||◌, not, Option, Some, None, List, [], ◌++◌, refl, sym, ap, ◌∙◌, length, drop, length-append, append_assoc}
use Rattle.std.proofs.lemmas.List.{append-nil}
use Rattle.std.proofs.Math.Seq.{drop-append_seam}
use Rattle.conf_types.specs.declared.entries.Entries.{Entries}
use Rattle.socks_grammar.specs.declared.user.User.{User}
use Rattle.net_ends.specs.Counts.{Counts, Rose}
use Rattle.net_ends.specs.Faults.{Tried}
use Rattle.net_ends.specs.declared.kinds.Kind.{Kind}
use Rattle.net_ends.specs.Nets.{NetTold}
use Rattle.net_ends.specs.Told.{Told}
use Rattle.socks_machine.specs.declared.cause.Cause.{Cause}
use Rattle.socks_machine.specs.declared.cause.StopBy.{StopBy}
use Rattle.socks_machine.specs.declared.lines.Line.{Line}
use Rattle.socks_machine.specs.declared.record.Record.{Record}
use Rattle.socks_machine.specs.declared.world.NextMark.{NextMark}
use Rattle.socks_machine.specs.declared.world.Object.{Object}
use Rattle.socks_machine.specs.declared.world.Outer.{Outer}
use Rattle.socks_machine.specs.Basis.{Basis}
use Rattle.socks_machine.specs.Calls.{keep, call_close, is_calling}
use Rattle.socks_machine.specs.Datagrams.{owed_datagrams}
use Rattle.socks_machine.specs.Decisions.{is_opened}
use Rattle.socks_machine.specs.History.{at_close}
use Rattle.socks_machine.specs.InTurn.{InTurn, Sends}
use Rattle.socks_machine.specs.Owed.{pending_to_client, pending_to_target, has_target}
use Rattle.socks_machine.specs.Phase.{Phase, phase}
use Rattle.socks_machine.specs.Settle.{fix, first_cause, is_nothing}
use Rattle.socks_machine.specs.Socks.{socks}
use Rattle.socks_machine.specs.Taking.{holds, reads_client, reads_target}
use Rattle.socks_machine.specs.Turn.{turn, marked, guard, with_fault, fault_fits, may_write, has_pending, may_be_shut, reads_in, is_quiet}
use Rattle.assoc_core.specs.declared.assoc.Assoc.{Assoc}
use Rattle.assoc_core.specs.declared.assoc.Next.{Next}
use Rattle.assoc_core.specs.Plain.{IsPlainRecord, owed_c, owed_t}
use Rattle.assoc_core.specs.Stands.{GoesDirect, Holds, HoldsTarget, EndsBehind, GivesFirst}
use Rattle.assoc_core.specs.Turns.{Acts, event_of, context, links, Turns, GoesOn, left_of, mark_of, StopsReading, IsFull, IsThereAnd, IsUnfailing, TakesNothing, SameOutside, SameTarget, FaultIs, TriedTarget, RoseTarget, is_write}
use Rattle.assoc_core.proofs.LinksHeld.{short}
use Rattle.assoc_core.proofs.PlainRecords.{decided-forms, closing-phase, plain-owes-client, plain-owes-target}
use Rattle.assoc_core.proofs.Rests.{rests-with}
use Rattle.assoc_core.proofs.Tryings.{target-tried-as, tried-as}
use Rattle.assoc_core.proofs.RelayCloses.{closes-with}
use Rattle.assoc_core.proofs.RelayEnds.{idle-c, idle-t, both, drop-sent, something}
use Rattle.assoc_core.proofs.RelayTurns.{IsDesk, desk-dials, desk-lookups, desk-plan, desk-outer, desk-counted}
use Rattle.assoc_core.proofs.Failable.{LeavesOf, pending-left, where-written}

-- what such a turn does
abbrev pub drain_acts : List ℕ → List ℕ → Bool → Bool → Option Object → Bool → Outer → Acts
drain_acts part_c part_t full_c full_t fault unwritten outer = record {
  c = [];
  t = [];
  end_c = false;
  end_t = false;
  outer = outer;
  sent_c = length part_c;
  sent_t = length part_t;
  shut_c = false;
  shut_t = false;
  idle_c = false;
  idle_t = false;
  full_c = full_c;
  full_t = full_t;
  fault = fault;
  unwritten = unwritten;
}

-- the record behind it, but for its close
abbrev pub drained : Record → List ℕ → List ℕ → Record
drained old part_c part_t = record old { sent_c = old.sent_c ++ part_c; sent_t = old.sent_t ++ part_t }

-- a record with a cause, of whose owed bytes these were sent and these are left
pub record Drains (basis : Basis) (old : Record) (cause : Cause) (part_c rest_c part_t rest_t : List ℕ) : Type 0 where
  pub plain : IsPlainRecord basis.users old
  pub caused : old.cause ≡ Some cause
  pub direct : GoesDirect basis old.decisions
  pub owes_c : (old.sent_c ++ part_c) ++ rest_c ≡ owed_c old
  pub owes_t : (old.sent_t ++ part_t) ++ rest_t ≡ owed_t old

-- no write failed, or one on a link that is there and to which something is left
abbrev pub DrainFault : Record → List ℕ → List ℕ → Option Object → Bool → Type 0
DrainFault old rest_c rest_t None unwritten = unwritten ≡ false
DrainFault old rest_c rest_t (Some Object.Client) unwritten = 0 < length rest_c
DrainFault old rest_c rest_t (Some Object.Target) unwritten = (0 < length rest_t) × (has_target old ≡ true)
DrainFault old rest_c rest_t (Some Object.Door) unwritten = ⊥
DrainFault old rest_c rest_t (Some Object.Port) unwritten = ⊥

sends-none : {A : Type 0} (sent owed : List A) → sent ≡ [] → Sends sent 0 sent owed
sends-none sent owed h = record { bytes = []; now' = sym (append-nil sent); count = refl; rest = owed; owed' = ap (λ z. z ++ owed) h }

-- what of the record holds at its turn
drain-opened : (users : List User) (old : Record) (cause : Cause) → IsPlainRecord users old → old.cause ≡ Some cause → is_opened old.decisions ≡ true
drain-opened users old cause plain caused = decided-forms users old (λ ds. is_opened ds ≡ true) (record {
  nothing = λ fresh'. absurd (none-some (ap (λ (z : Record). z.cause) fresh'));
  opened' = λ g rule d. refl;
  looked' = λ g rule name found d. refl;
  granted' = λ g rule s g' facts verdict route refused d. refl;
  reached' = λ g rule s g' facts verdict route to at d. refl;
}) old.decisions plain.decided
  where
    none-some : old.cause ≡ None → ⊥
    none-some e = let k : Some cause ≡ None = sym caused ∙ e in cc

behind : (sent part rest owed : List ℕ) → (sent ++ part) ++ rest ≡ owed → drop (length sent) owed ≡ part ++ rest
behind sent part rest owed h = ap (drop (length sent)) (sym h ∙ append_assoc sent part rest) ∙ drop-append_seam sent (part ++ rest)

drain-turn : (users : List User) (pubs : List Entries) (generation : ℕ) (config : Entries) (cap : ℕ) (h : List Line) (marks : List StopBy) (worker number now : ℕ)
    (old : Record) (cause : Cause) (part_c rest_c part_t rest_t : List ℕ) (full_c full_t : Bool) (fault : Option Object) (unwritten : Bool)
    → Drains (socks users pubs) old cause part_c rest_c part_t rest_t → DrainFault old rest_c rest_t fault unwritten
    → InTurn (context users pubs generation config cap h marks) old (event_of worker number now (drain_acts part_c part_t full_c full_t fault unwritten Outer.Nothing) NextMark.Going) old
    (keep (context users pubs generation config cap h marks) old) old (drained old part_c part_t)
drain-turn users pubs generation config cap h marks worker number now old cause part_c rest_c part_t rest_t full_c full_t fault unwritten k f = record {
  going = record { undone = k.plain.undone; unstopped = refl; going = refl };
  takes = record { r1 = old; r2 = old; r3 = old; r4 = old; r5 = old; bytes_t = inl (refl, refl); ends_t = inl (refl, refl); grams = inl (refl, refl); came = refl; bytes_c = inl (refl, refl); ends_c = inl (refl, refl) };
  calls = inl (refl, refl);
  faults = faulted fault f;
  sendings = record {
    c = record { bytes = part_c; now' = refl; count = refl; rest = rest_c; owed' = k.owes_c ∙ sym (plain-owes-client users pubs old k.plain k.direct.direct) };
    t = record { bytes = part_t; now' = refl; count = refl; rest = rest_t; owed' = k.owes_t ∙ sym (plain-owes-target users pubs old k.plain k.direct.direct) };
    u = sends-none old.sent_u (owed_datagrams (socks users pubs) old) k.plain.sent_u;
  };
  shuts = refl;
}
  where
    fixed : (c : Cause) → fix (Some c) old ≡ old
    fixed c = λ i. record old { cause = (ap (first_cause (Some c)) k.caused ∙ sym k.caused) i }

    faulted : (fault : Option Object) → DrainFault old rest_c rest_t fault unwritten → with_fault fault unwritten old ≡ Some old
    faulted None f = ap (λ b. guard (not b) (Some old)) f
    faulted (Some Object.Client) f = ap (λ (z : Record). Some z) (fixed Cause.ClientFault)
    faulted (Some Object.Target) f = ap (λ b. guard b (Some (fix (Some Cause.TargetFault) old))) f.1 ∙ ap (λ (z : Record). Some z) (fixed Cause.TargetFault)
    faulted (Some Object.Door) f = absurd f
    faulted (Some Object.Port) f = absurd f

drain-fits : (users : List User) (pubs : List Entries) (old : Record) (cause : Cause) (part_c rest_c part_t rest_t : List ℕ) (fault : Option Object) (unwritten : Bool)
    → Drains (socks users pubs) old cause part_c rest_c part_t rest_t → DrainFault old rest_c rest_t fault unwritten → fault_fits (socks users pubs) fault unwritten old ≡ true
drain-fits users pubs old cause part_c rest_c part_t rest_t fault unwritten k = by-fault fault
  where
    basis : Basis
    basis = socks users pubs

    fixed : (c : Cause) → fix (Some c) old ≡ old
    fixed c = λ i. record old { cause = (ap (first_cause (Some c)) k.caused ∙ sym k.caused) i }

    pending_c : pending_to_client basis old ≡ part_c ++ rest_c
    pending_c = behind old.sent_c part_c rest_c _ (k.owes_c ∙ sym (plain-owes-client users pubs old k.plain k.direct.direct))

    pending_t : pending_to_target basis old ≡ part_t ++ rest_t
    pending_t = behind old.sent_t part_t rest_t _ (k.owes_t ∙ sym (plain-owes-target users pubs old k.plain k.direct.direct))

    or-middle : (a b : Bool) → a || true || b ≡ true
    or-middle true b = refl
    or-middle false b = refl

    or-end : (a : Bool) → a || true ≡ true
    or-end true = refl
    or-end false = refl

    by-fault : (fault : Option Object) → DrainFault old rest_c rest_t fault unwritten → fault_fits basis fault unwritten old ≡ true
    by-fault None f = refl
    by-fault (Some Object.Client) f = both _ _
        (ap (λ z. reads_in old (phase basis old) Object.Client || not (is_nothing z) || may_be_shut basis old Object.Client) pending_c
        ∙ (ap (λ b. reads_in old (phase basis old) Object.Client || not b || may_be_shut basis old Object.Client) (something part_c rest_c f) ∙ or-middle (reads_in old (phase basis old) Object.Client) (may_be_shut basis old Object.Client)))
        (ap (λ (z : Record). not unwritten || may_write basis z) (fixed Cause.ClientFault)
        ∙ (ap (λ z. not unwritten || (not (is_nothing z) || has_pending basis old Object.Target)) pending_c
        ∙ (ap (λ b. not unwritten || (not b || has_pending basis old Object.Target)) (something part_c rest_c f) ∙ or-end (not unwritten))))
    by-fault (Some Object.Target) f = both _ _
        (ap (λ z. reads_in old (phase basis old) Object.Target || not (is_nothing z) || may_be_shut basis old Object.Target) pending_t
        ∙ (ap (λ b. reads_in old (phase basis old) Object.Target || not b || may_be_shut basis old Object.Target) (something part_t rest_t f.0) ∙ or-middle (reads_in old (phase basis old) Object.Target) (may_be_shut basis old Object.Target)))
        (ap (λ (z : Record). not unwritten || may_write basis z) (fixed Cause.TargetFault)
        ∙ (ap (λ z. not unwritten || (has_pending basis old Object.Client || not (is_nothing z))) pending_t
        ∙ (ap (λ b. not unwritten || (has_pending basis old Object.Client || not b)) (something part_t rest_t f.0)
        ∙ (ap (λ b. not unwritten || b) (or-end (has_pending basis old Object.Client)) ∙ or-end (not unwritten)))))
    by-fault (Some Object.Door) f = absurd f
    by-fault (Some Object.Port) f = absurd f

drain-pending-c : (users : List User) (pubs : List Entries) (old : Record) (cause : Cause) (part_c rest_c part_t rest_t : List ℕ) → Drains (socks users pubs) old cause part_c rest_c part_t rest_t
    → pending_to_client (socks users pubs) (drained old part_c part_t) ≡ rest_c
drain-pending-c users pubs old cause part_c rest_c part_t rest_t k = drop-sent (old.sent_c ++ part_c) rest_c _ (k.owes_c ∙ sym (plain-owes-client users pubs old k.plain k.direct.direct))

drain-pending-t : (users : List User) (pubs : List Entries) (old : Record) (cause : Cause) (part_c rest_c part_t rest_t : List ℕ) → Drains (socks users pubs) old cause part_c rest_c part_t rest_t
    → pending_to_target (socks users pubs) (drained old part_c part_t) ≡ rest_t
drain-pending-t users pubs old cause part_c rest_c part_t rest_t k = drop-sent (old.sent_t ++ part_t) rest_t _ (k.owes_t ∙ sym (plain-owes-target users pubs old k.plain k.direct.direct))

pub drain-closes : (users : List User) (pubs : List Entries) (generation : ℕ) (config : Entries) (cap : ℕ) (h : List Line) (marks : List StopBy) (worker number now : ℕ)
    (old : Record) (cause : Cause) (part_c rest_c part_t rest_t : List ℕ) (full_c full_t : Bool) (fault : Option Object) (unwritten logged : Bool)
    → Drains (socks users pubs) old cause part_c rest_c part_t rest_t → DrainFault old rest_c rest_t fault unwritten → old.since ≡ now
    → (is_nothing rest_c && is_nothing rest_t) || unwritten || is_quiet (Some cause) ≡ true
    → turn (context users pubs generation config cap h marks) (event_of worker number now (drain_acts part_c part_t full_c full_t fault unwritten (Outer.Desk logged)) NextMark.Done) old
    ≡ Some (marked NextMark.Done (call_close h marks (drained old part_c part_t) cause logged))
drain-closes users pubs generation config cap h marks worker number now old cause part_c rest_c part_t rest_t full_c full_t fault unwritten logged k f same due =
    closes-with (context users pubs generation config cap h marks) old worker number now (drain_acts part_c part_t full_c full_t fault unwritten Outer.Nothing) old old (drained old part_c part_t) cause logged
    (drain-turn users pubs generation config cap h marks worker number now old cause part_c rest_c part_t rest_t full_c full_t fault unwritten k f)
    (ap (λ p. is_calling p None) (closing-phase (socks users pubs) old cause k.plain.undone k.caused)) (drain-fits users pubs old cause part_c rest_c part_t rest_t fault unwritten k f) same k.caused
    (drain-opened users old cause k.plain k.caused)
    ((λ i. (is_nothing (drain-pending-c users pubs old cause part_c rest_c part_t rest_t k i) && is_nothing (drain-pending-t users pubs old cause part_c rest_c part_t rest_t k i)) || unwritten || is_quiet (Some cause)) ∙ due)

pub drain-waits : (users : List User) (pubs : List Entries) (generation : ℕ) (config : Entries) (cap : ℕ) (h : List Line) (marks : List StopBy) (worker number now : ℕ)
    (old : Record) (cause : Cause) (part_c rest_c part_t rest_t : List ℕ) (full_c full_t : Bool)
    → Drains (socks users pubs) old cause part_c rest_c part_t rest_t → old.since ≡ now
    → (is_nothing rest_c && is_nothing rest_t) || false || is_quiet (Some cause) ≡ false → is_nothing rest_c || full_c ≡ true → is_nothing rest_t || full_t ≡ true
    → turn (context users pubs generation config cap h marks) (event_of worker number now (drain_acts part_c part_t full_c full_t None false Outer.Nothing) NextMark.Wait) old
    ≡ Some (keep (context users pubs generation config cap h marks) (drained old part_c part_t))
drain-waits users pubs generation config cap h marks worker number now old cause part_c rest_c part_t rest_t full_c full_t k same undue sink_c sink_t =
    rests-with (context users pubs generation config cap h marks) old worker number now (drain_acts part_c part_t full_c full_t None false Outer.Nothing) old old (drained old part_c part_t) cause NextMark.Wait
    (drain-turn users pubs generation config cap h marks worker number now old cause part_c rest_c part_t rest_t full_c full_t None false k refl)
    (ap (λ p. is_calling p None) (closing-phase (socks users pubs) old cause k.plain.undone k.caused)) refl same refl k.plain.undone k.caused
    (drain-opened users old cause k.plain k.caused)
    ((λ i. (is_nothing (drain-pending-c users pubs old cause part_c rest_c part_t rest_t k i) && is_nothing (drain-pending-t users pubs old cause part_c rest_c part_t rest_t k i)) || false || is_quiet (Some cause)) ∙ undue)
    (both _ _ (ap (λ z. is_nothing z || holds Object.Client (links full_c full_t)) (drain-pending-c users pubs old cause part_c rest_c part_t rest_t k) ∙ (ap (λ b. is_nothing rest_c || b) (idle-c full_c full_t) ∙ sink_c))
    (ap (λ z. is_nothing z || holds Object.Target (links full_c full_t)) (drain-pending-t users pubs old cause part_c rest_c part_t rest_t k) ∙ (ap (λ b. is_nothing rest_t || b) (idle-t full_c full_t) ∙ sink_t)))
    refl

-- ---- the turn

pub record DrainTurn {L : Type 0} (told : L → Told) (counts : L → Counts) (basis : Basis) (net : NetTold) (a : Assoc L) (next : Next L) (cause : Cause) (part_c rest_c part_t rest_t : List ℕ)
    (full_c full_t : Bool) (fault : Option Object) (unwritten : Bool) : Type 0 where
  pub drains : Drains basis a.state cause part_c rest_c part_t rest_t
  pub client : Holds (told (left_of next).client) a.state.c (a.state.sent_c ++ part_c) a.state.end_c a.state.shut_c
  pub client_ends : EndsBehind (told (left_of next).client)
  pub client_first : GivesFirst (told (left_of next).client)
  pub target : HoldsTarget told (drained a.state part_c part_t) (left_of next).target
  pub same_client : SameOutside (told a.client) (told (left_of next).client)
  pub same_target : SameTarget told net a.target (left_of next).target
  pub stuck_c : (told a.client).room ≡ Some 0 → part_c ≡ []
  pub stuck_t : TakesNothing told net a.target → part_t ≡ []
  pub is_full_c : full_c ≡ true → (0 < length rest_c) × IsFull (told (left_of next).client) × Rose (counts a.client).idle_writes (counts (left_of next).client).idle_writes
  pub is_full_t : full_t ≡ true → (0 < length rest_t) × IsThereAnd (left_of next).target (λ link. IsFull (told link)) × RoseTarget (λ link. (counts link).idle_writes) a.target (left_of next).target
  pub failed_c : Option Kind
  pub failed_t : Option Kind
  pub tried_c : Tried (counts a.client) (counts (left_of next).client) (Unit {0}) ((part_c ≡ []) × (full_c ≡ false)) (Unit {0}) failed_c
  pub tried_t : TriedTarget counts net a.target (left_of next).target (Unit {0}) ((part_t ≡ []) × (full_t ≡ false)) (Unit {0}) failed_t
  pub leaves_c : LeavesOf rest_c failed_c
  pub leaves_t : LeavesOf rest_t failed_t
  pub fault_is : FaultIs fault failed_c failed_t
  pub unwritten_is : unwritten ≡ is_write failed_c || is_write failed_t
  pub fails_c : fault ≡ Some Object.Client → Rose (counts a.client).faults (counts (left_of next).client).faults
  pub unfailing : (told a.client).unfailing ≡ true → IsUnfailing told net a.target → (fault ≡ None) × (unwritten ≡ false)

pub drain-turns : {L : Type 0} (told : L → Told) (counts : L → Counts) (stands : List Line → List StopBy → Type 0)
    (users : List User) (pubs : List Entries) (generation : ℕ) (config : Entries) (cap : ℕ) (h : List Line) (marks : List StopBy) (now : ℕ) (net : NetTold)
    (a : Assoc L) (next : Next L) (cause : Cause) (part_c rest_c part_t rest_t : List ℕ) (full_c full_t : Bool) (fault : Option Object) (unwritten : Bool) (outer : Outer)
    (at_close : Option Cause) (done : Bool) (h' : List Line) (marks' : List StopBy)
    → DrainTurn told counts (socks users pubs) net a next cause part_c rest_c part_t rest_t full_c full_t fault unwritten → IsDesk outer
    → ((worker : ℕ) → turn (context users pubs generation config cap h marks)
    (event_of worker a.state.number now (drain_acts part_c part_t full_c full_t fault unwritten outer) (mark_of next)) a.state
    ≡ Some (record { left = record (drained a.state part_c part_t) { at_close = at_close; done = done }; h = h'; marks = marks' }))
    → (left_of next).state ≡ record (drained a.state part_c part_t) { at_close = at_close; done = done }
    → stands h' marks' → GoesOn users next
    → Turns told counts stands (context users pubs generation config cap h marks) now net net a next
drain-turns {L} told counts stands users pubs generation config cap h marks now net a next cause part_c rest_c part_t rest_t full_c full_t fault unwritten outer at_close done h' marks' k desk lawful state desked goes = record {
  acts = drain_acts part_c part_t full_c full_t fault unwritten outer;
  result = record { left = record (drained a.state part_c part_t) { at_close = at_close; done = done }; h = h'; marks = marks' };
  lawful = lawful;
  state' = state;
  desk = desked;
  goes_on = goes;
  direct = k.drains.direct;
  c = sym (append-nil a.state.c);
  t = sym (append-nil a.state.t);
  sent_c = length-append a.state.sent_c part_c;
  sent_t = length-append a.state.sent_t part_t;
  ends_c = λ e. absurd (cc);
  ends_t = λ e. absurd (cc);
  since = λ e. e;
  number = refl;
  client = k.client;
  client_ends = k.client_ends;
  client_first = k.client_first;
  target = held (left_of next).target k.target;
  same_client = k.same_client;
  same_target = k.same_target;
  behind = a.state;
  taken' = λ worker. refl;
  dials = desk-dials net.dials _ outer desk;
  lookups = desk-lookups net.lookups _ outer desk;
  lookup_plan = refl;
  plan' = desk-plan net outer _ desk;
  outer' = desk-outer net _ outer desk;
  counted = desk-counted net.counts outer desk;
  stops_c = λ worker. StopsReading.unread (record { behind = a.state; taken' = refl; unread' = ap (reads_client (socks users pubs) (links false false) (links full_c full_t) a.state) closing-a });
  stops_t = λ worker. StopsReading.unread (record { behind = a.state; taken' = refl; unread' = ap (reads_target a.state) closing-a });
  reads_end_c = λ worker e. absurd (cc);
  reads_end_t = λ worker e. absurd (cc);
  idle_c = λ e. absurd (cc);
  idle_t = λ e. absurd (cc);
  full_c = λ e. let f = k.is_full_c e in (f.1, f.2, short _ rest_c _ k.drains.owes_c f.0);
  full_t = λ e. let f = k.is_full_t e in (f.1, f.2, short _ rest_t _ k.drains.owes_t f.0);
  room_c = λ e. ap (λ (z : List ℕ). length z) (k.stuck_c e);
  room_t = λ e. ap (λ (z : List ℕ). length z) (k.stuck_t e);
  failed_c = k.failed_c;
  failed_t = k.failed_t;
  tried_c = tried-as k.tried_c (λ x. (refl, refl, refl)) (λ x. (ap (λ (z : List ℕ). length z) x.0, x.1)) (λ x. refl);
  tried_t = target-tried-as counts net a.target (left_of next).target k.failed_t k.tried_t (λ x. (refl, refl, refl)) (λ x. (ap (λ (z : List ℕ). length z) x.0, x.1)) (λ x. refl);
  where_c = where-written (socks users pubs) a.state (record (drained a.state part_c part_t) { at_close = at_close; done = done }) Object.Client k.failed_c rest_c k.leaves_c (λ some. pending-left rest_c _ (drain-pending-c users pubs a.state cause part_c rest_c part_t rest_t k.drains) some);
  where_t = where-written (socks users pubs) a.state (record (drained a.state part_c part_t) { at_close = at_close; done = done }) Object.Target k.failed_t rest_t k.leaves_t (λ some. pending-left rest_t _ (drain-pending-t users pubs a.state cause part_c rest_c part_t rest_t k.drains) some);
  fault_is = k.fault_is;
  unwritten_is = k.unwritten_is;
  fails_c = k.fails_c;
  unfailing = k.unfailing;
}
  where
    closing-a : phase (socks users pubs) a.state ≡ Phase.Closing
    closing-a = closing-phase (socks users pubs) a.state cause k.drains.plain.undone k.drains.caused

    held : (target : Option L) → HoldsTarget told (drained a.state part_c part_t) target → HoldsTarget told (record (drained a.state part_c part_t) { at_close = at_close; done = done }) target
    held None x = x
    held (Some link) x = x
