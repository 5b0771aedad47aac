-- A turn in a relay without a proxy, whole.
use Rattle.std.proofs.Common.{◌≡◌, ℕ, ◌<◌, ◌≤◌, ◌⊎◌, inl, inr, Bool, true, false, ◌&&◌, ◌||◌, not, Option, Some, List, [], ◌++◌, refl, sym, ap, subst, ◌∙◌, length, drop, length-append, is_some}
use Rattle.addr_pattern.specs.declared.endpoint.Endpoint.{Endpoint}
use Rattle.conf_types.specs.declared.entries.Entries.{Entries}
use Rattle.socks_grammar.specs.declared.user.User.{User}
use Rattle.net_ends.specs.Counts.{Counts, Rose}
use Rattle.net_ends.specs.Nets.{LookedUp, NetCounts, NetTold, Dial}
use Rattle.net_ends.specs.Told.{Told}
use Rattle.socks_machine.specs.declared.cause.Cause.{Cause}
use Rattle.socks_machine.specs.declared.cause.StopBy.{StopBy}
use Rattle.socks_machine.specs.declared.lines.Line.{Line}
use Rattle.socks_machine.specs.declared.record.Record.{Record}
use Rattle.socks_machine.specs.declared.world.NextMark.{NextMark}
use Rattle.socks_machine.specs.declared.world.Object.{Object}
use Rattle.socks_machine.specs.declared.world.Outer.{Outer}
use Rattle.socks_machine.specs.declared.world.TurnEvent.{TurnEvent}
use Rattle.socks_machine.specs.Basis.{Basis}
use Rattle.socks_machine.specs.Calls.{Context}
use Rattle.socks_machine.specs.Decisions.{granted, reached_at}
use Rattle.socks_machine.specs.InTurn.{Takes, takings}
use Rattle.socks_machine.specs.Owed.{waiting_for_target, waiting_for_client, pending_to_client, pending_to_target}
use Rattle.socks_machine.specs.Phase.{Phase, phase, relay_began}
use Rattle.socks_machine.specs.Relaying.{RelayFacts, relayed}
use Rattle.socks_machine.specs.Socks.{socks}
use Rattle.socks_machine.specs.Script.{without_ends}
use Rattle.socks_machine.specs.Taking.{reads_client, reads_target, pipe_size}
use Rattle.socks_machine.specs.Turn.{turn, may_be_shut, reads_in}
use Rattle.socks_machine.proofs.RelayLaws.{relaying-reads, began-same}
use Rattle.socks_machine.proofs.TurnStages.{takes-is}
use Rattle.assoc_core.specs.declared.assoc.Assoc.{Assoc}
use Rattle.assoc_core.specs.declared.assoc.Next.{Next}
use Rattle.assoc_core.specs.declared.relay.Pass.{Pass}
use Rattle.assoc_core.specs.Carrying.{Passes, waiting_of, is_read, is_sound, is_idle, is_full, fault_of, unwritten_of, first_failed, failed_giving, failed_taking, is_unwritten}
use Rattle.assoc_core.specs.Plain.{IsPlainRecord, is_login_failed, owed_c, owed_t, prelude_of, replies_by}
use Rattle.assoc_core.specs.Stands.{Holds, HoldsTarget, Stands}
use Rattle.assoc_core.specs.Turns.{Acts, event_of, context, links, Turns, GoesOn, left_of, mark_of, DialsAre, LookupsAre, PlanStays, IsOuterOf, CountRose, IsIdle, IsFull, Filled, IsThereAnd, IsUnfailing, TakesNothing, SameTarget, FaultIs, FailsWhere}
use Rattle.assoc_core.proofs.LinksHeld.{holds-taken, holds-given, ends-given, first-given, idle-given, full-taken, outside-given, outside-taken, outside-on, short}
use Rattle.assoc_core.proofs.PassLaws.{ended-of, idle-of, unread-of, stops-of, full-of, unsound-of, held-full, FaultTells, fault-tells, fault-none, fault-unread, fault-read, fault-first, fault-unsound-t, fault-unsound-c, sound-written, unshut-left, unwritten-left}
use Rattle.assoc_core.proofs.RelayEnds.{in-phase, drop-sent}
use Rattle.assoc_core.proofs.RelayRecords.{is-relayed, plain-relay-facts}
use Rattle.assoc_core.proofs.RelaySums.{clash, Sums, summed, Begun, sum_acts, relays, replies-owe, sent-c, sent-t, sums-carried}
use Rattle.assoc_core.proofs.Sendings.{rose-before, rose-after}
use Rattle.assoc_core.proofs.PassKinds.{fault-kinds, target-tried, unwritten-kinds}
use Rattle.assoc_core.proofs.Tryings.{added-none, rose-target, tried-as}
use Rattle.assoc_core.proofs.Waiting.{client-waits, target-waits}
use Rattle.assoc_core.proofs.PlainRecords.{plain-owes-client, plain-owes-target}
use Rattle.assoc_core.proofs.Failable.{pending-left}
use Rattle.socks_machine.specs.Settle.{is_nothing}
use Rattle.assoc_core.specs.declared.carry.Take.{Take}
use Rattle.assoc_core.specs.declared.carry.Give.{Give}

-- ---- the sums of a pass

-- the record that a pass leaves
pub pass-leaves : (client client' target target' : Told) (counts counts' sunk sunk' : Counts) (old new : Record) (pass : Pass) → (p : Passes client client' target target' counts counts' sunk sunk' (prelude_of old) old new pass)
    → new ≡ summed old p.takes_c.part p.takes_t.part p.gives_c.part p.gives_t.part p.takes_c.ends p.takes_t.ends p.gives_c.shuts p.gives_t.shuts old.cause
pass-leaves client client' target target' counts counts' sunk sunk' old new pass p = p.is ∙ (λ i. record old {
  c = p.takes_c.after' i;
  t = p.takes_t.after' i;
  end_c = p.takes_c.ended' i;
  end_t = p.takes_t.ended' i;
  sent_c = p.gives_c.after' i;
  sent_t = p.gives_t.after' i;
  shut_c = p.gives_c.shut' i;
  shut_t = p.gives_t.shut' i;
})

pub pass-sums : (client client' target target' : Told) (counts counts' sunk sunk' : Counts) (old new : Record) (pass : Pass) (at : Endpoint) → reached_at old.decisions ≡ Some at
    → (p : Passes client client' target target' counts counts' sunk sunk' (prelude_of old) old new pass)
    → Sums old p.takes_c.part p.takes_t.part p.gives_c.part p.gives_c.rest p.gives_t.part p.gives_t.rest p.takes_c.ends p.takes_t.ends p.gives_c.shuts p.gives_t.shuts
pass-sums client client' target target' counts counts' sunk sunk' old new pass at reaches p = record {
  may_c = p.takes_c.may;
  may_t = p.takes_t.may;
  pending_c = p.gives_c.pending' ∙ ap (drop (length old.sent_c)) ((λ i. replies_by (p.takes_c.after' i) old.chosen old.cause (reached_at old.decisions) ++ p.takes_t.after' i)
      ∙ replies-owe (old.c ++ p.takes_c.part) (old.t ++ p.takes_t.part) old.chosen (reached_at old.decisions) at old.cause reaches);
  pending_t = p.gives_t.pending' ∙ ap (λ z. drop (length old.sent_t) (drop (prelude_of old) z)) p.takes_c.after';
  once_c = p.gives_c.once;
  once_t = p.gives_t.once;
  due_c = λ e. let d = p.gives_c.due e in (sym p.takes_t.ended' ∙ ended-of p.takes_t d.0, d.1);
  due_t = λ e. let d = p.gives_t.due e in (sym p.takes_c.ended' ∙ ended-of p.takes_c d.0, d.1);
}

-- the same sums, without ends and shuts
pub sums-read : (old : Record) (c t part_c rest_c part_t rest_t : List ℕ) (end_c end_t shut_c shut_t : Bool) → Sums old c t part_c rest_c part_t rest_t end_c end_t shut_c shut_t
    → Sums old c t part_c rest_c part_t rest_t false false false false
sums-read old c t part_c rest_c part_t rest_t end_c end_t shut_c shut_t k = record {
  may_c = record { bytes = k.may_c.bytes; end = λ e. cc };
  may_t = record { bytes = k.may_t.bytes; end = λ e. cc };
  pending_c = k.pending_c;
  pending_t = k.pending_t;
  once_c = λ e. cc;
  once_t = λ e. cc;
  due_c = λ e. absurd (cc);
  due_t = λ e. absurd (cc);
}

pub sums-unshut : (old : Record) (c t part_c rest_c part_t rest_t : List ℕ) (end_c end_t shut_c shut_t : Bool) → Sums old c t part_c rest_c part_t rest_t end_c end_t shut_c shut_t
    → Sums old c t part_c rest_c part_t rest_t end_c end_t false false
sums-unshut old c t part_c rest_c part_t rest_t end_c end_t shut_c shut_t k = record {
  may_c = k.may_c;
  may_t = k.may_t;
  pending_c = k.pending_c;
  pending_t = k.pending_t;
  once_c = λ e. cc;
  once_t = λ e. cc;
  due_c = λ e. absurd (cc);
  due_t = λ e. absurd (cc);
}

-- ---- a call of the desk, or none

abbrev pub IsDesk : Outer → Type 0
IsDesk Outer.Nothing = Unit {0}
IsDesk (Outer.Desk logged) = Unit {0}
IsDesk _ = ⊥

pub desk-dials : (dials : Option (List Dial)) (p : Phase) (outer : Outer) → IsDesk outer → DialsAre dials dials p outer
desk-dials dials p Outer.Nothing h = refl
desk-dials dials p (Outer.Desk logged) h = refl
desk-dials dials p _ h = absurd h

pub desk-lookups : (lookups : Option (List LookedUp)) (p : Phase) (outer : Outer) → IsDesk outer → LookupsAre lookups lookups p outer
desk-lookups lookups p Outer.Nothing h = refl
desk-lookups lookups p (Outer.Desk logged) h = refl
desk-lookups lookups p _ h = absurd h

pub desk-plan : (net : NetTold) (outer : Outer) (there : Bool) → IsDesk outer → PlanStays net net outer there
desk-plan net Outer.Nothing there h = refl
desk-plan net (Outer.Desk logged) there h = refl
desk-plan net _ there h = absurd h

pub desk-outer : (net : NetTold) (p : Phase) (outer : Outer) → IsDesk outer → IsOuterOf net p outer
desk-outer net p Outer.Nothing h = tt
desk-outer net p (Outer.Desk logged) h = tt
desk-outer net p _ h = absurd h

pub desk-counted : (counts : NetCounts) (outer : Outer) → IsDesk outer → CountRose counts counts outer
desk-counted counts Outer.Nothing h = refl
desk-counted counts (Outer.Desk logged) h = refl
desk-counted counts _ h = absurd h

-- ---- the turn

-- one pass over a relay, between an association that stands for its record and the answer
pub record RelayTurn {L : Type 0} (told : L → Told) (counts : L → Counts) (basis : Basis) (a : Assoc L) (next : Next L) (pass : Pass) : Type 0 where
  pub link : L
  pub link' : L
  pub at : Endpoint
  pub new : Record
  pub stands : Stands told basis a
  pub begun : Begun basis a.state at
  pub target : a.target ≡ Some link
  pub target' : (left_of next).target ≡ Some link'
  pub passes : Passes (told a.client) (told (left_of next).client) (told link) (told link') (counts a.client) (counts (left_of next).client) (counts link) (counts link') (prelude_of a.state) a.state new pass

-- what such a turn did
abbrev pub pass_acts : {L : Type 0} {basis : Basis} (told : L → Told) (counts : L → Counts) (a : Assoc L) (next : Next L) (pass : Pass) → RelayTurn told counts basis a next pass → Acts
pass_acts told counts a next pass k = let p = k.passes in
    sum_acts p.takes_c.part p.takes_t.part p.gives_c.part p.gives_t.part p.takes_c.ends p.takes_t.ends p.gives_c.shuts p.gives_t.shuts
    (is_idle pass.took_c) (is_idle pass.took_t) (is_full pass.gave_c) (is_full pass.gave_t)

-- the record that it leaves, but for its close
abbrev pub pass_leaves : {L : Type 0} {basis : Basis} (told : L → Told) (counts : L → Counts) (a : Assoc L) (next : Next L) (pass : Pass) → RelayTurn told counts basis a next pass → Option Cause → Record
pass_leaves told counts a next pass k cause = let p = k.passes in
    summed a.state p.takes_c.part p.takes_t.part p.gives_c.part p.gives_t.part p.takes_c.ends p.takes_t.ends p.gives_c.shuts p.gives_t.shuts cause

-- what waits behind it for the target, and for the client
pub waits-target : {L : Type 0} (told : L → Told) (counts : L → Counts) (users : List User) (pubs : List Entries) (a : Assoc L) (next : Next L) (pass : Pass) (k : RelayTurn told counts (socks users pubs) a next pass) (cause : Option Cause)
    → waiting_for_target (socks users pubs) (pass_leaves told counts a next pass k cause) ≡ waiting_of [] (prelude_of a.state) k.new.c (length k.new.sent_t)
waits-target told counts users pubs a next pass k cause = let p = k.passes in
    target-waits users pubs a.state k.at p.takes_c.part p.takes_t.part p.gives_c.part p.gives_t.part p.takes_c.ends p.takes_t.ends p.gives_c.shuts p.gives_t.shuts cause k.begun
    ∙ (λ i. waiting_of [] (prelude_of a.state) (sym p.takes_c.after' i) (length (sym p.gives_t.after' i)))

pub waits-client : {L : Type 0} (told : L → Told) (counts : L → Counts) (users : List User) (pubs : List Entries) (generation : ℕ) (config : Entries) (cap : ℕ) (h : List Line) (marks : List StopBy)
    (a : Assoc L) (next : Next L) (pass : Pass) (k : RelayTurn told counts (socks users pubs) a next pass) (cause : Option Cause) → is_login_failed cause ≡ false
    → waiting_for_client (socks users pubs) (pass_leaves told counts a next pass k cause)
    ≡ waiting_of (replies_by k.new.c a.state.chosen a.state.cause (reached_at a.state.decisions)) 0 k.new.t (length k.new.sent_c)
waits-client told counts users pubs generation config cap h marks a next pass k cause sound =
    client-waits users pubs a.state k.at p.takes_c.part p.takes_t.part p.gives_c.part p.gives_t.part p.takes_c.ends p.takes_t.ends false false cause k.begun sound plain began
    ∙ (λ i. waiting_of (replies_by (sym p.takes_c.after' i) a.state.chosen a.state.cause (reached_at a.state.decisions)) 0 (sym p.takes_t.after' i) (length (sym p.gives_c.after' i)))
  where
    p : Passes (told a.client) (told (left_of next).client) (told k.link) (told k.link') (counts a.client) (counts (left_of next).client) (counts k.link) (counts k.link') (prelude_of a.state) a.state k.new pass
    p = k.passes

    s : Context
    s = context users pubs generation config cap h marks

    facts : RelayFacts s a.state
    facts = plain-relay-facts users pubs generation config cap h marks a.state k.at k.begun.plain k.begun.reaches k.begun.uncaused k.begun.direct

    plain : IsPlainRecord users (summed a.state p.takes_c.part p.takes_t.part p.gives_c.part p.gives_t.part p.takes_c.ends p.takes_t.ends false false cause)
    plain = sums-carried a.state k.at _ _ _ _ _ _ _ _ _ _ cause sound k.begun (sums-unshut a.state _ _ _ _ _ _ _ _ _ _ (pass-sums _ _ _ _ _ _ _ _ a.state k.new pass k.at k.begun.reaches p))
        (is-relayed users a.state k.at k.begun.plain k.begun.reaches).dialled.apart

    began : relay_began (socks users pubs) (summed a.state p.takes_c.part p.takes_t.part p.gives_c.part p.gives_t.part p.takes_c.ends p.takes_t.ends false false cause) ≡ true
    began = began-same s a.state p.takes_c.part p.takes_t.part (p.takes_c.ends || a.state.end_c) (p.takes_t.ends || a.state.end_t) (granted a.state.decisions) facts ∙ facts.began

pub relay-turns : {L : Type 0} (told : L → Told) (counts : L → Counts) (stands : List Line → List StopBy → Type 0)
    (users : List User) (pubs : List Entries) (generation : ℕ) (config : Entries) (cap : ℕ) (h : List Line) (marks : List StopBy) (now : ℕ) (net : NetTold)
    (a : Assoc L) (next : Next L) (pass : Pass) (k : RelayTurn told counts (socks users pubs) a next pass)
    (fault : Option Object) (unwritten : Bool) (outer : Outer) (cause at_close : Option Cause) (done : Bool) (h' : List Line) (marks' : List StopBy) → is_login_failed cause ≡ false
    → fault_of pass ≡ fault → unwritten_of pass ≡ unwritten → IsDesk outer
    → ((worker : ℕ) → turn (context users pubs generation config cap h marks)
    (event_of worker a.state.number now (record (pass_acts told counts a next pass k) { fault = fault; unwritten = unwritten; outer = outer }) (mark_of next)) a.state
    ≡ Some (record { left = record (pass_leaves told counts a next pass k cause) { at_close = at_close; done = done }; h = h'; marks = marks' }))
    → (left_of next).state ≡ record (pass_leaves told counts a next pass k cause) { at_close = at_close; done = done }
    → stands h' marks' → GoesOn users next
    → Turns told counts stands (context users pubs generation config cap h marks) now net net a next
relay-turns {L} told counts stands users pubs generation config cap h marks now net a next pass k fault unwritten outer cause at_close done h' marks' sound' is_fault is_unwritten' desk lawful state desked goes = record {
  acts = acts;
  result = record { left = left; h = h'; marks = marks' };
  lawful = lawful;
  state' = state;
  desk = desked;
  goes_on = goes;
  direct = k.stands.direct;
  c = refl;
  t = refl;
  sent_c = length-append a.state.sent_c p.gives_c.part;
  sent_t = length-append a.state.sent_t p.gives_t.part;
  ends_c = λ e. ap (λ b. b || a.state.end_c) e;
  ends_t = λ e. ap (λ b. b || a.state.end_t) e;
  since = λ e. e;
  number = refl;
  client = subst (λ (z : Record). Holds (told (left_of next).client) z.c z.sent_c z.end_c z.shut_c) leaves
      (holds-given _ _ _ _ _ _ _ _ _ _ _ _ _ _ (holds-taken _ _ _ _ _ _ _ _ _ _ _ _ k.stands.client p.takes_c) p.gives_c);
  client_ends = ends-given p.gives_c (p.takes_c.behind k.stands.client_ends);
  client_first = first-given p.gives_c (p.takes_c.first k.stands.client_first);
  target = subst (λ (z : Option L). HoldsTarget told left z) (sym k.target') (
    (k.at, k.begun.reaches),
    subst (λ (z : Record). Holds (told k.link') z.t z.sent_t z.end_t z.shut_t) leaves
        (holds-taken _ _ _ _ _ _ _ _ _ _ _ _ (holds-given _ _ _ _ _ _ _ _ _ _ _ _ _ _ target.1 p.gives_t) p.takes_t),
    p.takes_t.behind (ends-given p.gives_t target.2),
    p.takes_t.first (first-given p.gives_t target.3),
  );
  same_client = outside-on (outside-taken p.takes_c) (outside-given p.gives_c);
  same_target = subst (λ (z : Option L). SameTarget told net a.target z) (sym k.target') (subst (λ (z : Option L). SameTarget told net z (Some k.link')) (sym k.target)
      (outside-on (outside-given p.gives_t) (outside-taken p.takes_t)));
  behind = relayed a.state p.takes_c.part p.takes_t.part p.takes_c.ends p.takes_t.ends;
  taken' = λ worker. takes-is s.basis generation config.methods (event_of worker a.state.number now acts (mark_of next)) a.state _ (takes p.takes_c.ends p.takes_t.ends read_both);
  dials = desk-dials net.dials _ outer desk;
  lookups = desk-lookups net.lookups _ outer desk;
  lookup_plan = refl;
  plan' = desk-plan net outer _ desk;
  outer' = desk-outer net _ outer desk;
  counted = desk-counted net.counts outer desk;
  stops_c = λ worker. stops-of fault _ _ p.takes_c (λ e. absurd (cc)) (λ e. ap is_some (sym is_fault) ∙ fault-first (is_read pass.took_c) (is_sound pass.gave_t) (is_read pass.took_t) (is_sound pass.gave_c) e)
      (λ e. holds_c worker (held-full _ pass.gave_t (p.held_c e)));
  stops_t = λ worker. stops-of fault _ _ p.takes_t (λ e. ap is_some (sym is_fault) ∙ fault-unread (is_read pass.took_c) (is_sound pass.gave_t) (is_read pass.took_t) (is_sound pass.gave_c) e)
      (λ e. ap is_some (sym is_fault) ∙ fault-read (is_read pass.took_c) (is_sound pass.gave_t) (is_read pass.took_t) (is_sound pass.gave_c) e)
      (λ e. holds_t worker (held-full _ pass.gave_c (p.held_t e)));
  reads_end_c = λ worker e. record {
    unended = p.takes_c.may.end e;
    below = p.takes_c.below e;
    behind = relayed a.state p.takes_c.part p.takes_t.part false false;
    taken' = takes-is s.basis generation config.methods (without_ends (event_of worker a.state.number now acts (mark_of next))) a.state _ (takes false false read_none);
    reads' = ap (reads_client s.basis (links acts.idle_c acts.idle_t) (links acts.full_c acts.full_t) (relayed a.state p.takes_c.part p.takes_t.part false false)) (phase-of false false) ∙ ap not (p.takes_c.may.end e);
    room = λ relays'. subst (λ n. n < pipe_size) (sym waits_t) (p.room_c e);
  };
  reads_end_t = λ worker e. record {
    unended = p.takes_t.may.end e;
    below = p.takes_t.below e;
    behind = relayed a.state p.takes_c.part p.takes_t.part false false;
    taken' = takes-is s.basis generation config.methods (without_ends (event_of worker a.state.number now acts (mark_of next))) a.state _ (takes false false read_none);
    reads' = ap (reads_target (relayed a.state p.takes_c.part p.takes_t.part false false)) (phase-of false false) ∙ ap not (p.takes_t.may.end e);
    room = λ relays'. subst (λ n. n < pipe_size) (sym waits_c) (p.room_t e);
  };
  idle_c = λ e. let f = idle-of p.takes_c e in (idle-given p.gives_c f.0, rose-after _ _ _ f.1 p.gives_c.later.idle_reads);
  idle_t = λ e. let f = idle-of p.takes_t e in (
    subst (λ (z : Option L). IsThereAnd z (λ link. IsIdle (told link))) (sym k.target') f.0,
    rose-target (λ link. (counts link).idle_reads) k.target k.target' (rose-before _ _ _ p.gives_t.later.idle_reads f.1),
  );
  full_c = λ e. let f = full-of p.gives_c e in (f.1, rose-before _ _ _ p.takes_c.later.idle_writes f.2, short _ p.gives_c.rest _ owes_c f.0);
  full_t = λ e. let f = full-of p.gives_t e in (
    subst (λ (z : Option L). IsThereAnd z (λ link. IsFull (told link))) (sym k.target') (full-taken p.takes_t f.1),
    rose-target (λ link. (counts link).idle_writes) k.target k.target' (rose-after _ _ _ f.2 p.takes_t.later.idle_writes),
    short _ p.gives_t.rest _ owes_t f.0,
  );
  room_c = λ e. ap (λ (z : List ℕ). length z) (p.gives_c.stuck ((outside-taken p.takes_c).room ∙ e));
  room_t = λ e. ap (λ (z : List ℕ). length z) (p.gives_t.stuck (subst (λ (z : Option L). TakesNothing told net z) k.target e));
  failed_c = first_failed (failed_taking pass.took_c) (failed_giving pass.gave_c);
  failed_t = first_failed (failed_giving pass.gave_t) (failed_taking pass.took_t);
  tried_c = tried-as p.tried_c (λ x. (added-none _ _ _ p.takes_c.after' x.0, x.1, x.2)) (λ x. (ap (λ (z : List ℕ). length z) (added-none _ _ _ p.gives_c.after' x.0), x.1)) (λ x. x);
  tried_t = target-tried counts net _ k.target k.target' (tried-as p.tried_t (λ x. (added-none _ _ _ p.takes_t.after' x.0, x.1, x.2)) (λ x. (ap (λ (z : List ℕ). length z) (added-none _ _ _ p.gives_t.after' x.0), x.1)) (λ x. x));
  where_c = where-client pass.took_c pass.gave_c refl refl;
  where_t = where-target pass.took_t pass.gave_t refl refl;
  fault_is = subst (λ (z : Option Object). FaultIs z (first_failed (failed_taking pass.took_c) (failed_giving pass.gave_c)) (first_failed (failed_giving pass.gave_t) (failed_taking pass.took_t))) is_fault (fault-kinds pass);
  unwritten_is = sym is_unwritten' ∙ unwritten-kinds pass (λ e. (p.held e).2);
  fails_c = λ e. client-fails (subst (λ (z : Option Object). FaultTells z (is_read pass.took_c) (is_sound pass.gave_t) (is_read pass.took_t) (is_sound pass.gave_c)) e tells);
  unfailing = λ fine fine_t. (sym is_fault ∙ fault-none _ _ _ _ (read_fine_c fine) (sound_fine_t fine_t) (read_fine_t fine_t) (sound_fine_c fine), sym is_unwritten' ∙ both-false _ _ (sound-written pass.gave_t (sound_fine_t fine_t)) (sound-written pass.gave_c (sound_fine_c fine)));
}
  where
    p : Passes (told a.client) (told (left_of next).client) (told k.link) (told k.link') (counts a.client) (counts (left_of next).client) (counts k.link) (counts k.link') (prelude_of a.state) a.state k.new pass
    p = k.passes

    s : Context
    s = context users pubs generation config cap h marks

    acts : Acts
    acts = record (pass_acts told counts a next pass k) { fault = fault; unwritten = unwritten; outer = outer }

    left : Record
    left = record (pass_leaves told counts a next pass k cause) { at_close = at_close; done = done }

    leaves : k.new ≡ pass_leaves told counts a next pass k a.state.cause
    leaves = pass-leaves _ _ _ _ _ _ _ _ a.state k.new pass p

    target : HoldsTarget told a.state (Some k.link)
    target = subst (λ (z : Option L). HoldsTarget told a.state z) k.target k.stands.target

    sums : Sums a.state p.takes_c.part p.takes_t.part p.gives_c.part p.gives_c.rest p.gives_t.part p.gives_t.rest p.takes_c.ends p.takes_t.ends p.gives_c.shuts p.gives_t.shuts
    sums = pass-sums _ _ _ _ _ _ _ _ a.state k.new pass k.at k.begun.reaches p

    read_both : Sums a.state p.takes_c.part p.takes_t.part p.gives_c.part p.gives_c.rest p.gives_t.part p.gives_t.rest p.takes_c.ends p.takes_t.ends false false
    read_both = sums-unshut a.state _ _ _ _ _ _ _ _ _ _ sums

    read_none : Sums a.state p.takes_c.part p.takes_t.part p.gives_c.part p.gives_c.rest p.gives_t.part p.gives_t.rest false false false false
    read_none = sums-read a.state _ _ _ _ _ _ _ _ _ _ sums

    apart : a.state.shut_c && a.state.shut_t ≡ false
    apart = (is-relayed users a.state k.at k.begun.plain k.begun.reaches).dialled.apart

    takes : (end_c end_t : Bool) → Sums a.state p.takes_c.part p.takes_t.part p.gives_c.part p.gives_c.rest p.gives_t.part p.gives_t.rest end_c end_t false false
        → Takes s.basis generation config.methods
        (takings (event_of 0 a.state.number now (sum_acts p.takes_c.part p.takes_t.part p.gives_c.part p.gives_t.part end_c end_t false false (is_idle pass.took_c) (is_idle pass.took_t) (is_full pass.gave_c) (is_full pass.gave_t)) NextMark.Going))
        a.state (relayed a.state p.takes_c.part p.takes_t.part end_c end_t)
    takes end_c end_t k' = (relaying-reads s a.state _ _ (relays users pubs generation config cap h marks 0 a.state.number now a.state k.at
        p.takes_c.part p.takes_t.part p.gives_c.part p.gives_c.rest p.gives_t.part p.gives_t.rest end_c end_t false false (is_idle pass.took_c) (is_idle pass.took_t) (is_full pass.gave_c) (is_full pass.gave_t) k.begun k' apart)).takes

    phase-of : (end_c end_t : Bool) → phase s.basis (relayed a.state p.takes_c.part p.takes_t.part end_c end_t) ≡ Phase.Relay
    phase-of end_c end_t = in-phase users pubs generation config cap h marks a.state k.at p.takes_c.part p.takes_t.part (end_c || a.state.end_c) (end_t || a.state.end_t) k.begun

    owes_c : (a.state.sent_c ++ p.gives_c.part) ++ p.gives_c.rest ≡ owed_c left
    owes_c = sent-c a.state k.at _ _ _ _ _ _ _ _ _ _ cause sound' k.begun sums

    owes_t : (a.state.sent_t ++ p.gives_t.part) ++ p.gives_t.rest ≡ owed_t left
    owes_t = sent-t a.state k.at _ _ _ _ _ _ _ _ _ _ cause k.begun sums

    tells : FaultTells fault (is_read pass.took_c) (is_sound pass.gave_t) (is_read pass.took_t) (is_sound pass.gave_c)
    tells = subst (λ (z : Option Object). FaultTells z (is_read pass.took_c) (is_sound pass.gave_t) (is_read pass.took_t) (is_sound pass.gave_c)) is_fault
        (fault-tells (is_read pass.took_c) (is_sound pass.gave_t) (is_read pass.took_t) (is_sound pass.gave_c))

    -- what waits for the target, and for the client
    waits_t : waiting_for_target s.basis left ≡ waiting_of [] (prelude_of a.state) k.new.c (length k.new.sent_t)
    waits_t = waits-target told counts users pubs a next pass k cause

    waits_c : waiting_for_client s.basis left ≡ waiting_of (replies_by k.new.c a.state.chosen a.state.cause (reached_at a.state.decisions)) 0 k.new.t (length k.new.sent_c)
    waits_c = waits-client told counts users pubs generation config cap h marks a next pass k cause sound'

    open_acts : ℕ → TurnEvent
    open_acts worker = event_of worker a.state.number now acts (mark_of next)

    holds_c : (worker : ℕ) → (pipe_size ≤ waiting_of [] (prelude_of a.state) k.new.c (length k.new.sent_t)) × (is_full pass.gave_t ≡ true) ⊎ (is_sound pass.gave_t ≡ false)
        → (is_some fault ≡ true) ⊎ Filled s a.state left (open_acts worker) waiting_for_target
    holds_c worker (inl f) = inr (record {
      behind = relayed a.state p.takes_c.part p.takes_t.part false false;
      taken' = takes-is s.basis generation config.methods (without_ends (open_acts worker)) a.state _ (takes false false read_none);
      relays = phase-of false false;
      waits = subst (λ n. pipe_size ≤ n) (sym waits_t) f.0;
    })
    holds_c worker (inr e) = inl (ap is_some (sym is_fault) ∙ fault-unsound-t (is_read pass.took_c) (is_sound pass.gave_t) (is_read pass.took_t) (is_sound pass.gave_c) e)

    holds_t : (worker : ℕ) → (pipe_size ≤ waiting_of (replies_by k.new.c a.state.chosen a.state.cause (reached_at a.state.decisions)) 0 k.new.t (length k.new.sent_c)) × (is_full pass.gave_c ≡ true) ⊎ (is_sound pass.gave_c ≡ false)
        → (is_some fault ≡ true) ⊎ Filled s a.state left (open_acts worker) waiting_for_client
    holds_t worker (inl f) = inr (record {
      behind = relayed a.state p.takes_c.part p.takes_t.part false false;
      taken' = takes-is s.basis generation config.methods (without_ends (open_acts worker)) a.state _ (takes false false read_none);
      relays = phase-of false false;
      waits = subst (λ n. pipe_size ≤ n) (sym waits_c) f.0;
    })
    holds_t worker (inr e) = inl (ap is_some (sym is_fault) ∙ fault-unsound-c (is_read pass.took_c) (is_sound pass.gave_t) (is_read pass.took_t) (is_sound pass.gave_c) e)

    client-fails : FaultTells (Some Object.Client) (is_read pass.took_c) (is_sound pass.gave_t) (is_read pass.took_t) (is_sound pass.gave_c)
        → Rose (counts a.client).faults (counts (left_of next).client).faults
    client-fails (inl e) = rose-after _ _ _ (unread-of p.takes_c e).2 p.gives_c.later.faults
    client-fails (inr e) = rose-before _ _ _ p.takes_c.later.faults (unsound-of p.gives_c e.3).1

    tested : (b : Bool) → (b ≡ false → ⊥) → b ≡ true
    tested true f = refl
    tested false f = absurd (f refl)

    both-false : (a b : Bool) → a ≡ false → b ≡ false → a || b ≡ false
    both-false a b h k = rw (h, k) refl

    read_fine_c : (told a.client).unfailing ≡ true → is_read pass.took_c ≡ true
    read_fine_c fine = tested (is_read pass.took_c) (λ e. clash ((told a.client).unfailing) fine (sym (outside-taken p.takes_c).unfailing ∙ (unread-of p.takes_c e).1))

    sound_fine_c : (told a.client).unfailing ≡ true → is_sound pass.gave_c ≡ true
    sound_fine_c fine = tested (is_sound pass.gave_c) (λ e. clash ((told a.client).unfailing) fine (sym (outside-on (outside-taken p.takes_c) (outside-given p.gives_c)).unfailing ∙ (unsound-of p.gives_c e).0))

    fine_link : IsUnfailing told net a.target → (told k.link).unfailing ≡ true
    fine_link f = subst (λ (z : Option L). IsUnfailing told net z) k.target f

    sound_fine_t : IsUnfailing told net a.target → is_sound pass.gave_t ≡ true
    sound_fine_t fine = tested (is_sound pass.gave_t) (λ e. clash ((told k.link).unfailing) (fine_link fine) (sym (outside-given p.gives_t).unfailing ∙ (unsound-of p.gives_t e).0))

    read_fine_t : IsUnfailing told net a.target → is_read pass.took_t ≡ true
    read_fine_t fine = tested (is_read pass.took_t) (λ e. clash ((told k.link).unfailing) (fine_link fine) (sym (outside-on (outside-given p.gives_t) (outside-taken p.takes_t)).unfailing ∙ (unread-of p.takes_t e).1))

    -- what is pending behind the pass, and where a call has failed
    behind : Record
    behind = relayed a.state p.takes_c.part p.takes_t.part p.takes_c.ends p.takes_t.ends

    plain : IsPlainRecord users (summed a.state p.takes_c.part p.takes_t.part p.gives_c.part p.gives_t.part p.takes_c.ends p.takes_t.ends false false cause)
    plain = sums-carried a.state k.at _ _ _ _ _ _ _ _ _ _ cause sound' k.begun read_both apart

    pending-c : pending_to_client s.basis left ≡ p.gives_c.rest
    pending-c = drop-sent (a.state.sent_c ++ p.gives_c.part) p.gives_c.rest _ (owes_c ∙ sym (plain-owes-client users pubs _ plain k.begun.direct))

    pending-t : pending_to_target s.basis left ≡ p.gives_t.rest
    pending-t = drop-sent (a.state.sent_t ++ p.gives_t.part) p.gives_t.rest _ (owes_t ∙ sym (plain-owes-target users pubs _ plain k.begun.direct))

    began : relay_began s.basis left ≡ true
    began = let facts = plain-relay-facts users pubs generation config cap h marks a.state k.at k.begun.plain k.begun.reaches k.begun.uncaused k.begun.direct in
        began-same s a.state p.takes_c.part p.takes_t.part (p.takes_c.ends || a.state.end_c) (p.takes_t.ends || a.state.end_t) (granted a.state.decisions) facts ∙ facts.began

    shut-due : (other shut : Bool) (pending : List ℕ) → other ≡ true → shut ≡ false → pending ≡ [] → relay_began s.basis left && other && not shut && is_nothing pending ≡ true
    shut-due other shut pending e1 e2 e3 = (λ i. began i && e1 i && not (e2 i) && is_nothing (e3 i))

    client-unshut : pass.gave_c ≡ Give.Unshut → may_be_shut s.basis left Object.Client ≡ true
    client-unshut e = let w = unshut-left p.gives_c e in shut-due (p.takes_t.ends || a.state.end_t) (p.gives_c.shuts || a.state.shut_c) (pending_to_client s.basis left)
        (sym p.takes_t.ended' ∙ ended-of p.takes_t w.1) (sym p.gives_c.shut' ∙ w.2) (pending-c ∙ w.0)

    target-unshut : pass.gave_t ≡ Give.Unshut → may_be_shut s.basis left Object.Target ≡ true
    target-unshut e = let w = unshut-left p.gives_t e in shut-due (p.takes_c.ends || a.state.end_c) (p.gives_t.shuts || a.state.shut_t) (pending_to_target s.basis left)
        (sym p.takes_c.ended' ∙ ended-of p.takes_c w.1) (sym p.gives_t.shut' ∙ w.2) (pending-t ∙ w.0)

    client-gave : (give : Give) → pass.gave_c ≡ give → FailsWhere s.basis behind left Object.Client (failed_giving give)
    client-gave Give.Held e = tt
    client-gave Give.All e = tt
    client-gave Give.Full e = tt
    client-gave Give.Unwritten e = pending-left p.gives_c.rest _ pending-c (unwritten-left p.gives_c (ap is_unwritten e)).0
    client-gave Give.Unshut e = client-unshut e

    where-client : (take : Take) (give : Give) → pass.took_c ≡ take → pass.gave_c ≡ give → FailsWhere s.basis behind left Object.Client (first_failed (failed_taking take) (failed_giving give))
    where-client Take.Failed give e1 e2 = ap (λ q. reads_in behind q Object.Client) (phase-of p.takes_c.ends p.takes_t.ends) ∙ ap not (sym p.takes_c.ended' ∙ (unread-of p.takes_c (ap is_read e1)).0)
    where-client Take.Unread give e1 e2 = client-gave give e2
    where-client Take.Ended give e1 e2 = client-gave give e2
    where-client Take.NotYet give e1 e2 = client-gave give e2
    where-client Take.Quantum give e1 e2 = client-gave give e2
    where-client Take.Held give e1 e2 = client-gave give e2

    target-took : (take : Take) → pass.took_t ≡ take → FailsWhere s.basis behind left Object.Target (failed_taking take)
    target-took Take.Failed e = ap (λ q. reads_in behind q Object.Target) (phase-of p.takes_c.ends p.takes_t.ends) ∙ ap not (sym p.takes_t.ended' ∙ (unread-of p.takes_t (ap is_read e)).0)
    target-took Take.Unread e = tt
    target-took Take.Ended e = tt
    target-took Take.NotYet e = tt
    target-took Take.Quantum e = tt
    target-took Take.Held e = tt

    where-target : (take : Take) (give : Give) → pass.took_t ≡ take → pass.gave_t ≡ give → FailsWhere s.basis behind left Object.Target (first_failed (failed_giving give) (failed_taking take))
    where-target take Give.Held e1 e2 = target-took take e1
    where-target take Give.All e1 e2 = target-took take e1
    where-target take Give.Full e1 e2 = target-took take e1
    where-target take Give.Unwritten e1 e2 = pending-left p.gives_t.rest _ pending-t (unwritten-left p.gives_t (ap is_unwritten e2)).0
    where-target take Give.Unshut e1 e2 = target-unshut e2
