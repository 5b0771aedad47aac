-- How a turn that dials ends: the target is greeted, or the client is refused.
use Rattle.std.proofs.Common.{◌≡◌, ℕ, ◌-◌, ◌<◌, Bool, true, false, ◌||◌, Option, Some, None, List, [], ◌∷◌, ◌++◌, length, drop, slice_set, option_map, refl, sym, ap, subst, ◌∙◌}
use Rattle.std.specs.Prelude.{Result, IfOk, Ok, Err}
use Rattle.addr_pattern.specs.declared.endpoint.Endpoint.{Endpoint}
use Rattle.conf_types.specs.declared.entries.Entries.{Entries}
use Rattle.socks_grammar.specs.declared.user.User.{User}
use Rattle.net_ends.specs.declared.kinds.Kind.{Kind}
use Rattle.net_ends.specs.Counts.{Counts, Rose}
use Rattle.net_ends.specs.Faults.{Tried}
use Rattle.net_ends.specs.Nets.{DialCause, DialOutcome, NetTold, Plan, SameLookups, dialled}
use Rattle.net_ends.specs.Told.{Told}
use Rattle.rule_list.specs.declared.facts.Facts.{Facts}
use Rattle.rule_list.specs.declared.verdict.Verdict.{Verdict}
use Rattle.socks_machine.specs.declared.cause.Cause.{Cause}
use Rattle.socks_machine.specs.declared.cause.StopBy.{StopBy}
use Rattle.socks_machine.specs.declared.lines.Line.{Line}
use Rattle.socks_machine.specs.declared.record.Decision.{Decision}
use Rattle.socks_machine.specs.declared.record.Record.{Record}
use Rattle.socks_machine.specs.declared.world.Object.{Object}
use Rattle.socks_machine.specs.Basis.{Basis}
use Rattle.socks_machine.specs.Decisions.{granted, reached_at}
use Rattle.socks_machine.specs.Settle.{first_cause}
use Rattle.socks_machine.specs.Socks.{socks}
use Rattle.assoc_core.specs.declared.assoc.Assoc.{Assoc}
use Rattle.assoc_core.specs.declared.assoc.Next.{Next}
use Rattle.assoc_core.specs.declared.send.Sent.{Sent}
use Rattle.assoc_core.specs.Plain.{Sought, behind_lookup, owed_c, prelude_of}
use Rattle.assoc_core.proofs.PlainRecords.{granted-behind, unreached-behind}
use Rattle.connect_core.specs.declared.dial.Reached.{Reached}
use Rattle.connect_core.specs.Reaching.{Reaches as DialReaches, cause_of}
use Rattle.assoc_core.specs.Reaching.{HasDialled, HasGreeted, IsNewLink, SameDesk, at_of}
use Rattle.assoc_core.specs.Sending.{Sends, SendEnds, WritesOn, failed_sending, is_full, is_failed, with_failure}
use Rattle.assoc_core.specs.Stands.{Stands, Holds, HoldsTarget, EndsBehind, GivesFirst}
use Rattle.assoc_core.specs.Turns.{Turns, SameOutside, SameTarget, IsUnfailing, TakesNothing, TriedTarget, FaultIs, IsFull, IsThereAnd, context, is_write}
use Rattle.assoc_core.proofs.Answering.{all-owed, with_link}
use Rattle.assoc_core.proofs.AskTurns.{AskEnds, ask-ends, fault_of, no-fault, has-failed, leaves-of}
use Rattle.assoc_core.proofs.GrantTurns.{last-set}
use Rattle.assoc_core.proofs.Reaching.{Dialling, at-behind, reached_behind, behind, before, due_t, with_object}
use Rattle.assoc_core.proofs.ReachTurns.{judged-in, Reaches, FailedWrite, dialling_of, before-is, behind-is, turns-reached, due_c, due-as, first-due, told_taken, holds-new, target-none}
use Rattle.assoc_core.proofs.Sendings.{more-nil}
use Rattle.assoc_core.proofs.StandsLaws.{same-target}
use Rattle.assoc_core.proofs.TalkTurns.{with_state}
use Rattle.assoc_core.proofs.Tryings.{tried-none, tried-as, added-none, rose-new}
use Rattle.assoc_core.proofs.Failable.{LeavesOf}
use Rattle.assoc_core.proofs.LinksHeld.{more-tells}

-- ---- from the turn with the explicit record

pub turns-dialled : {L : Type 0} (told : L → Told) (counts : L → Counts) (users : List User) (pubs : List Entries) (generation : ℕ) (config : Entries) (most : ℕ) (h : List Line) (marks : List StopBy)
    (net net' : NetTold) (now : ℕ) (a b z : Assoc L) (o : DialOutcome) (k : HasDialled told (socks users pubs) net net' now a b o) (y_c rest_c rest_t : List ℕ) (full_c full_t : Bool) (fault : Option Object) (unwritten : Bool)
    → Reaches told counts (dialling_of told users pubs generation config most h marks net net' now a b o k) net net' a z o y_c rest_c rest_t full_c full_t fault unwritten
    → Turns told counts (SameDesk h marks) (context users pubs generation config most h marks) now net net' a (Next.Again z)
turns-dialled told counts users pubs generation config most h marks net net' now a b z o k y_c rest_c rest_t full_c full_t fault unwritten v =
    subst (λ (r : Record). Turns told counts (SameDesk h marks) (context users pubs generation config most h marks) now net net' (with_state a r) (Next.Again z)) (sym is)
    (turns-reached told counts d net net' a z o y_c rest_c rest_t full_c full_t fault unwritten (subst (λ (r : Record). Stands told (socks users pubs) (with_state a r)) is k.stands) v)
  where
    d : Dialling
    d = dialling_of told users pubs generation config most h marks net net' now a b o k

    is : a.state ≡ before d
    is = before-is told users pubs generation config most h marks net net' now a b o k

-- ---- the client is refused

pub at-none : (o : DialOutcome) (cause : Cause) → cause_of o ≡ Some cause → at_of o ≡ None
at-none (DialOutcome.CameUp local) cause e = absurd (cc)
at-none DialOutcome.WasRefused cause e = refl
at-none DialOutcome.NoHost cause e = refl
at-none DialOutcome.NoNet cause e = refl
at-none DialOutcome.Fault cause e = refl

as-object : (failed : Bool) (cause : Option Cause) → with_failure failed cause ≡ with_object (fault_of failed) cause
as-object true cause = refl
as-object false cause = refl

failed-as : (d : Dialling) (o : DialOutcome) (rest_c rest_t : List ℕ) (failed : Bool) → (failed ≡ true → 0 < length rest_c) → FailedWrite d o rest_c rest_t (fault_of failed) failed
failed-as d o rest_c rest_t true h = (refl, h refl)
failed-as d o rest_c rest_t false h = refl

client-fault-is : (outcome : Sent) → FaultIs (fault_of (is_failed outcome)) (failed_sending outcome) None
client-fault-is Sent.All = (refl, refl)
client-fault-is Sent.Full = (refl, refl)
client-fault-is Sent.Failed = refl

client-unwritten : (outcome : Sent) → is_failed outcome ≡ is_write (failed_sending outcome) || false
client-unwritten Sent.All = refl
client-unwritten Sent.Full = refl
client-unwritten Sent.Failed = refl

-- no target was reached before
unreached-before : {L : Type 0} (told : L → Told) (basis : Basis) (net net' : NetTold) (now : ℕ) (a b : Assoc L) (o : DialOutcome) → HasDialled told basis net net' now a b o → reached_at (a.state).decisions ≡ None
unreached-before told basis net net' now a b o k = ap reached_at k.granted' ∙ unreached-behind k.g k.rule k.sought k.g' k.facts k.verdict k.route None

pub refuses-turn : {L : Type 0} (told : L → Told) (counts : L → Counts) (users : List User) (pubs : List Entries) (generation : ℕ) (config : Entries) (most : ℕ) (h : List Line) (marks : List StopBy)
    (net net' : NetTold) (now : ℕ) (a b : Assoc L) (o : DialOutcome) (cause : Cause) (first : Option Cause) (next : Next L)
    → HasDialled told (socks users pubs) net net' now a b o → cause_of o ≡ Some cause
    → first ≡ first_cause (Some cause) (b.state).cause
    → WritesOn told counts (record { state = (let r = b.state in record r { cause = first }); client = b.client; target = b.target }) next
    → Turns told counts (SameDesk h marks) (context users pubs generation config most h marks) now net net' a next
refuses-turn {L = L} told counts users pubs generation config most h marks net net' now a b o cause first next k why first' w =
    subst (λ (n : Next L). Turns told counts (SameDesk h marks) (context users pubs generation config most h marks) now net net' a n) (sym w.next')
    (turns-dialled told counts users pubs generation config most h marks net net' now a b z o k sends'.bytes sends'.rest [] full false (fault_of failed) failed (record {
      state' = is ∙ (λ i. behind d (at_of o) (d.sent ++ sends'.bytes) (sym none-t i) (with_object (fault_of failed) (cause_of o)));
      writes = record {
        sent_c' = refl;
        all_c = all-owed d.sent sends'.bytes sends'.rest (due_c d o) (first-due d _) (sends'.pending' ∙ ap (drop (length d.sent)) (due-as d o None d.sent []));
        all_t = ap (λ w. w ++ []) none-t ∙ sym (ap (due_t d) unreached);
        failing = failed-as d o sends'.rest [] failed (λ e. (ends.failed' e).0);
      };
      unsent_t = λ e. none-t;
      dials = k.dials;
      lookups = k.lookups;
      planned = k.planned;
      kept = k.kept;
      cause = k.cause;
      told' = sends'.told' ∙ ap (λ (l : L). told_taken (told l) sends'.bytes) k.client';
      stuck_c = λ e. sends'.stuck (ap (λ (l : L). (told l).room) k.client' ∙ e);
      stuck_t = λ e. none-t;
      target' = subst (λ (w : Option L). HoldsTarget told z.state w) (sym (k.target' ∙ no-target)) (subst (λ (r : Record). HoldsTarget told r None) (sym is) (at-behind d (at_of o) ∙ unreached, refl, refl, refl));
      same_target = subst (λ (w : Option L). SameTarget told net a.target w) (sym k.target') (same-target told net a.target);
      fills_c = λ e. ((ends.full' e).0, (ends.full' e).1, subst (λ (l : L). Rose (counts l).idle_writes (counts w.client).idle_writes) k.client' (ends.full' e).2);
      fills_t = λ e. absurd (cc);
      failed_c = failed_sending w.outcome;
      failed_t = None;
      tried_c = subst (λ (l : L). Tried (counts l) (counts w.client) (Unit {0}) ((sends'.bytes ≡ []) × (full ≡ false)) (Unit {0}) (failed_sending w.outcome)) k.client'
          (tried-as sends'.tried (λ u. u) (λ e. (added-none d.sent w.sent sends'.bytes sends'.after' e.0, e.1)) (λ u. u));
      tried_t = subst (λ (w : Option L). TriedTarget counts net a.target w (Unit {0}) (((z.state).sent_t ≡ []) × (false ≡ false)) (Unit {0}) None) (sym k.target')
          (subst (λ (w : Option L). TriedTarget counts net w w (Unit {0}) (((z.state).sent_t ≡ []) × (false ≡ false)) (Unit {0}) None) (sym no-target) (refl, tt, (none-t, refl), tt));
      leaves_c = leaves-of w.outcome sends'.rest (λ e. (ends.failed' e).0);
      leaves_t = tt;
      fault_is = client-fault-is w.outcome;
      unwritten_is = client-unwritten w.outcome;
      fails_c = λ e. subst (λ (l : L). Rose (counts l).faults (counts w.client).faults) k.client' (ends.failed' (has-failed failed e)).2;
      unfailing = λ e1 e2. no-fault failed (λ e3. clash e1 (ends.failed' e3).1);
    }))
  where
    full : Bool
    full = is_full w.outcome

    failed : Bool
    failed = is_failed w.outcome

    d : Dialling
    d = dialling_of told users pubs generation config most h marks net net' now a b o k

    z : Assoc L
    z = record { state = (let r = b.state in record r { sent_c = w.sent; cause = with_failure failed first }); client = w.client; target = b.target }

    unreached : at_of o ≡ None
    unreached = at-none o cause why

    b-is : b.state ≡ behind d (at_of o) d.sent [] None
    b-is = behind-is told users pubs generation config most h marks net net' now a b o k

    first-is : first ≡ cause_of o
    first-is = first' ∙ (ap (λ (r : Record). first_cause (Some cause) r.cause) b-is ∙ sym why)

    g-is : (let r = b.state in record r { cause = first }) ≡ behind d (at_of o) d.sent [] (cause_of o)
    g-is = λ i. let r : Record = b-is i in record r { cause = first-is i }

    sends' : Sends (told b.client) (told w.client) (counts b.client) (counts w.client) d.sent w.sent (drop (length d.sent) (owed_c (behind d (at_of o) d.sent [] (cause_of o)))) w.outcome
    sends' = subst (λ (r : Record). Sends (told b.client) (told w.client) (counts b.client) (counts w.client) r.sent_c w.sent (drop (length r.sent_c) (owed_c r)) w.outcome) g-is w.sends

    ends : AskEnds (told w.client) (counts b.client) (counts w.client) sends'.rest full failed
    ends = ask-ends (told w.client) (counts b.client) (counts w.client) sends'.rest w.outcome sends'.ends

    is : z.state ≡ behind d (at_of o) (d.sent ++ sends'.bytes) [] (with_object (fault_of failed) (cause_of o))
    is = (λ i. let r : Record = g-is i in record r { sent_c = sends'.after' i; cause = as-object failed r.cause i })

    none-t : (z.state).sent_t ≡ []
    none-t = ap (λ (r : Record). r.sent_t) is

    no-target : a.target ≡ None
    no-target = target-none told a.state a.target (unreached-before told (socks users pubs) net net' now a b o k) (k.stands).target

    clash : (told a.client).unfailing ≡ true → (told w.client).unfailing ≡ false → ⊥
    clash e1 e2 = let e3 : (told w.client).unfailing ≡ (told a.client).unfailing = ap (λ (w : Told). w.unfailing) sends'.told' ∙ ap (λ (l : L). (told l).unfailing) k.client' in cc

-- ---- the target is greeted

-- all of what a turn that reached its target wrote
pub record Greets {L : Type 0} (told : L → Told) (counts : L → Counts) (b z : Assoc L) (new link : L) (y_c rest_c rest_t : List ℕ) (full_c full_t : Bool) (fault : Option Object) (unwritten : Bool) : Type 0 where
  pub pending' : y_c ++ rest_c ≡ drop (length (b.state).sent_c) (owed_c b.state)
  pub state' : z.state ≡ (let r = b.state in record r { sent_c = r.sent_c ++ y_c; sent_t = (z.state).sent_t; cause = with_object fault r.cause })
  pub all_t : (z.state).sent_t ++ rest_t ≡ drop (prelude_of b.state) (b.state).c
  pub failing : (d : Dialling) (local : Endpoint) → FailedWrite d (DialOutcome.CameUp local) rest_c rest_t fault unwritten
  pub told' : told z.client ≡ told_taken (told b.client) y_c
  pub stuck_c : (told b.client).room ≡ Some 0 → y_c ≡ []
  pub stuck_t : (told new).room ≡ Some 0 → (z.state).sent_t ≡ []
  pub target' : z.target ≡ Some link
  pub link' : told link ≡ told_taken (told new) (z.state).sent_t
  pub fills_c : full_c ≡ true → (0 < length rest_c) × IsFull (told z.client) × Rose (counts b.client).idle_writes (counts z.client).idle_writes
  pub fills_t : full_t ≡ true → (0 < length rest_t) × IsFull (told link) × Rose (counts new).idle_writes (counts link).idle_writes
  pub failed_c : Option Kind
  pub failed_t : Option Kind
  pub tried_c : Tried (counts b.client) (counts z.client) (Unit {0}) ((y_c ≡ []) × (full_c ≡ false)) (Unit {0}) failed_c
  pub tried_t : Tried (counts new) (counts link) (Unit {0}) (((z.state).sent_t ≡ []) × (full_t ≡ false)) (Unit {0}) failed_t
  pub leaves_c : LeavesOf rest_c failed_c
  pub leaves_t : LeavesOf rest_t failed_t
  pub fault_is : FaultIs fault failed_c failed_t
  pub unwritten_is : unwritten ≡ is_write failed_c || is_write failed_t
  pub fails_c : fault ≡ Some Object.Client → Rose (counts b.client).faults (counts z.client).faults
  pub unfailing : (told b.client).unfailing ≡ true → (told new).unfailing ≡ true → (fault ≡ None) × (unwritten ≡ false)

some-clash : {A : Type 0} (x : A) → Some x ≡ None → ⊥
some-clash x e = cc

pub greets-turn : {L : Type 0} (told : L → Told) (counts : L → Counts) (users : List User) (pubs : List Entries) (generation : ℕ) (config : Entries) (most : ℕ) (h : List Line) (marks : List StopBy)
    (net net' : NetTold) (now : ℕ) (a b z : Assoc L) (local : Endpoint) (new link : L) (y_c rest_c rest_t : List ℕ) (full_c full_t : Bool) (fault : Option Object) (unwritten : Bool)
    → HasDialled told (socks users pubs) net net' now a b (DialOutcome.CameUp local) → IsNewLink (told new) (counts new) net → Greets told counts b z new link y_c rest_c rest_t full_c full_t fault unwritten
    → Turns told counts (SameDesk h marks) (context users pubs generation config most h marks) now net net' a (Next.Again z)
greets-turn {L = L} told counts users pubs generation config most h marks net net' now a b z local new link y_c rest_c rest_t full_c full_t fault unwritten k v w =
    turns-dialled told counts users pubs generation config most h marks net net' now a b z o k y_c rest_c rest_t full_c full_t fault unwritten (record {
      state' = is;
      writes = record {
        sent_c' = refl;
        all_c = all-owed d.sent y_c rest_c (due_c d o) (first-due d _) (w.pending' ∙ (ap (λ (r : Record). drop (length r.sent_c) (owed_c r)) b-is ∙ ap (drop (length d.sent)) (due-as d o None d.sent [])));
        all_t = w.all_t ∙ ap (λ (r : Record). drop (prelude_of r) r.c) b-is;
        failing = w.failing d local;
      };
      unsent_t = λ e. absurd (some-clash local e);
      dials = k.dials;
      lookups = k.lookups;
      planned = k.planned;
      kept = k.kept;
      cause = k.cause;
      told' = w.told' ∙ ap (λ (l : L). told_taken (told l) y_c) k.client';
      stuck_c = λ e. w.stuck_c (ap (λ (l : L). (told l).room) k.client' ∙ e);
      stuck_t = λ e. w.stuck_t (new-takes-nothing (subst (λ (t : Option L). TakesNothing told net t) no-target e));
      target' = subst (λ (t : Option L). HoldsTarget told z.state t) (sym w.target') (subst (λ (r : Record). HoldsTarget told r (Some link)) (sym is)
          (subst (λ (t : Told). ((at : Endpoint) × (reached_at (reached_behind d (Some local)) ≡ Some at)) × Holds t [] (z.state).sent_t false false × EndsBehind t × GivesFirst t) (sym w.link')
          ((local, at-behind d (Some local)), (holds-new (told new) (z.state).sent_t v.fresh).0, (holds-new (told new) (z.state).sent_t v.fresh).1, (holds-new (told new) (z.state).sent_t v.fresh).2)));
      same_target = subst (λ (t : Option L). SameTarget told net a.target t) (sym w.target') (subst (λ (t : Option L). SameTarget told net t (Some link)) (sym no-target) same-link);
      fills_c = λ e. ((w.fills_c e).0, (w.fills_c e).1, subst (λ (l : L). Rose (counts l).idle_writes (counts z.client).idle_writes) k.client' (w.fills_c e).2);
      fills_t = λ e. (
        (w.fills_t e).0,
        subst (λ (t : Option L). IsThereAnd t (λ l. IsFull (told l))) (sym w.target') (w.fills_t e).1,
        rose-new (λ l. (counts l).idle_writes) (counts new).idle_writes no-target w.target' (w.fills_t e).2,
      );
      failed_c = w.failed_c;
      failed_t = w.failed_t;
      tried_c = subst (λ (l : L). Tried (counts l) (counts z.client) (Unit {0}) ((y_c ≡ []) × (full_c ≡ false)) (Unit {0}) w.failed_c) k.client' w.tried_c;
      tried_t = subst (λ (t : Option L). TriedTarget counts net a.target t (Unit {0}) (((z.state).sent_t ≡ []) × (full_t ≡ false)) (Unit {0}) w.failed_t) (sym w.target')
          (subst (λ (t : Option L). TriedTarget counts net t (Some link) (Unit {0}) (((z.state).sent_t ≡ []) × (full_t ≡ false)) (Unit {0}) w.failed_t) (sym no-target) (counts new, v.due', w.tried_t));
      leaves_c = w.leaves_c;
      leaves_t = w.leaves_t;
      fault_is = w.fault_is;
      unwritten_is = w.unwritten_is;
      fails_c = λ e. subst (λ (l : L). Rose (counts l).faults (counts z.client).faults) k.client' (w.fails_c e);
      unfailing = λ e1 e2. w.unfailing (subst (λ (l : L). (told l).unfailing ≡ true) (sym k.client') e1) (new-unfailing (subst (λ (t : Option L). IsUnfailing told net t) no-target e2));
    })
  where
    o : DialOutcome
    o = DialOutcome.CameUp local

    d : Dialling
    d = dialling_of told users pubs generation config most h marks net net' now a b o k

    b-is : b.state ≡ behind d (Some local) d.sent [] None
    b-is = behind-is told users pubs generation config most h marks net net' now a b o k

    is : z.state ≡ behind d (Some local) (d.sent ++ y_c) (z.state).sent_t (with_object fault None)
    is = w.state' ∙ ap (λ (r : Record). let x : Record = record r { sent_c = r.sent_c ++ y_c; sent_t = (z.state).sent_t; cause = with_object fault r.cause } in x) b-is

    no-target : a.target ≡ None
    no-target = target-none told a.state a.target (unreached-before told (socks users pubs) net net' now a b o k) (k.stands).target

    same-link : (plan : Plan) → net.plan ≡ Some plan → SameOutside plan.link (told link)
    same-link plan e = subst (λ (t : Told). SameOutside plan.link t) (sym w.link')
        (subst (λ (t : Told). SameOutside plan.link (told_taken t (z.state).sent_t)) (sym (v.planned plan e)) (record { arrived = refl; cap = refl; room = refl; unfailing = refl; tells_given = refl; tells_taken = more-tells (plan.link).taken (z.state).sent_t }))

    new-unfailing : (plan : Plan) × (net.plan ≡ Some plan) × ((plan.link).unfailing ≡ true) → (told new).unfailing ≡ true
    new-unfailing u = ap (λ (t : Told). t.unfailing) (v.planned u.0 u.1) ∙ u.2

    new-takes-nothing : (plan : Plan) × (net.plan ≡ Some plan) × ((plan.link).room ≡ Some 0) → (told new).room ≡ Some 0
    new-takes-nothing u = ap (λ (t : Told). t.room) (v.planned u.0 u.1) ∙ u.2

-- the write to the client has failed
pub greets-none : {L : Type 0} (told : L → Told) (counts : L → Counts) (b : Assoc L) (new client : L) (s : Record) (last : Option Cause)
    → s ≡ (let r = b.state in record r { sent_c = s.sent_c })
    → (b.state).sent_t ≡ [] → (sends : Sends (told b.client) (told client) (counts b.client) (counts client) (b.state).sent_c s.sent_c (drop (length (b.state).sent_c) (owed_c b.state)) Sent.Failed)
    → last ≡ first_cause (Some Cause.ClientFault) s.cause
    → Greets told counts b (record { state = record s { cause = last }; client = client; target = Some new }) new new sends.bytes sends.rest (drop (prelude_of b.state) (b.state).c) false false (Some Object.Client) true
greets-none {L = L} told counts b new client s last state' unsent sends last' = record {
  pending' = sends.pending';
  state' = (λ i. record s { cause = last' i }) ∙ (λ i. let r : Record = state' i in record r { cause = first_cause (Some Cause.ClientFault) r.cause })
      ∙ (λ i. let r : Record = b.state in record r { sent_c = sends.after' i; sent_t = same i; cause = first_cause (Some Cause.ClientFault) r.cause });
  all_t = ap (λ (w : List ℕ). w ++ drop (prelude_of b.state) (b.state).c) unsent';
  failing = λ d local. (refl, (sends.ends).0);
  told' = sends.told';
  stuck_c = sends.stuck;
  stuck_t = λ e. unsent';
  target' = refl;
  link' = (λ i. let t : Told = told new in record t { taken = sym (more-nil t.taken) i }) ∙ (λ i. told_taken (told new) (sym unsent' i));
  fills_c = λ e. absurd (cc);
  fills_t = λ e. absurd (cc);
  failed_c = Some Kind.Write;
  failed_t = None;
  tried_c = tried-as sends.tried (λ u. u) (λ e. (added-none (b.state).sent_c s.sent_c sends.bytes sends.after' e.0, refl)) (λ u. u);
  tried_t = tried-none (counts new) tt (unsent', refl) tt;
  leaves_c = (refl, (sends.ends).0);
  leaves_t = tt;
  fault_is = refl;
  unwritten_is = refl;
  fails_c = λ e. (sends.ends).2;
  unfailing = λ e1 e2. absurd (clash e1 (sends.ends).1);
}
  where
    unsent' : s.sent_t ≡ []
    unsent' = ap (λ (r : Record). r.sent_t) state' ∙ unsent

    same : (b.state).sent_t ≡ s.sent_t
    same = sym (ap (λ (r : Record). r.sent_t) state')

    clash : (told b.client).unfailing ≡ true → (told client).unfailing ≡ false → ⊥
    clash e1 e2 = let e3 : (told client).unfailing ≡ (told b.client).unfailing = ap (λ (w : Told). w.unfailing) sends.told' in cc

-- as much of the reply was written as the client took
pub has-greeted : {L : Type 0} (told : L → Told) (counts : L → Counts) (b : Assoc L) (client : L) (s : Record) (outcome : Sent)
    → s ≡ (let r = b.state in record r { sent_c = s.sent_c })
    → Sends (told b.client) (told client) (counts b.client) (counts client) (b.state).sent_c s.sent_c (drop (length (b.state).sent_c) (owed_c b.state)) outcome
    → failed_sending outcome ≡ None
    → HasGreeted told counts b (with_link b s client) (is_full outcome)
has-greeted told counts b client s outcome state' sends unfailed = record {
  bytes = sends.bytes;
  rest = sends.rest;
  pending' = sends.pending';
  state' = state' ∙ (λ i. let r : Record = b.state in record r { sent_c = sends.after' i });
  target' = refl;
  told' = sends.told';
  stuck = sends.stuck;
  later = sends.later;
  tried = subst (λ (failed : Option Kind). Tried (counts b.client) (counts client) (Unit {0}) ((s.sent_c ≡ (b.state).sent_c) × (is_full outcome ≡ false)) (Unit {0}) failed) unfailed sends.tried;
  full' = (ask-ends (told client) (counts b.client) (counts client) sends.rest outcome sends.ends).full';
}

abbrev pub target_fault : Bool → Option Object
target_fault true = Some Object.Target
target_fault false = None

abbrev pub with_target_failure : Bool → Option Cause → Option Cause
with_target_failure true cause = first_cause (Some Cause.TargetFault) cause
with_target_failure false cause = cause

as-target : (failed : Bool) (cause : Option Cause) → with_target_failure failed cause ≡ with_object (target_fault failed) cause
as-target true cause = refl
as-target false cause = refl

target-failed-as : (d : Dialling) (local : Endpoint) (rest_c rest_t : List ℕ) (failed : Bool) → (failed ≡ true → 0 < length rest_t) → FailedWrite d (DialOutcome.CameUp local) rest_c rest_t (target_fault failed) failed
target-failed-as d local rest_c rest_t true h = (refl, h refl, (local, refl))
target-failed-as d local rest_c rest_t false h = refl

not-client : (failed : Bool) → target_fault failed ≡ Some Object.Client → ⊥
not-client true e = cc
not-client false e = cc

no-target-fault : (failed : Bool) → (failed ≡ true → ⊥) → (target_fault failed ≡ None) × (failed ≡ false)
no-target-fault true h = absurd (h refl)
no-target-fault false h = (refl, refl)

target-fault-is : (outcome : Sent) → FaultIs (target_fault (is_failed outcome)) None (failed_sending outcome)
target-fault-is Sent.All = (refl, refl)
target-fault-is Sent.Full = (refl, refl)
target-fault-is Sent.Failed = refl

target-unwritten : (outcome : Sent) → is_failed outcome ≡ is_write (failed_sending outcome)
target-unwritten Sent.All = refl
target-unwritten Sent.Full = refl
target-unwritten Sent.Failed = refl

-- why the write to the target stopped
pub record PayloadEnds (told : Told) (counts counts' : Counts) (rest : List ℕ) (full failed : Bool) : Type 0 where
  pub full' : full ≡ true → (0 < length rest) × IsFull told × Rose counts.idle_writes counts'.idle_writes
  pub failed' : failed ≡ true → (0 < length rest) × (told.unfailing ≡ false)

payload-ends : (told : Told) (counts counts' : Counts) (rest : List ℕ) (outcome : Sent) → SendEnds told counts counts' rest outcome → PayloadEnds told counts counts' rest (is_full outcome) (is_failed outcome)
payload-ends told counts counts' rest Sent.All h = record { full' = λ e. absurd (cc); failed' = λ e. absurd (cc) }
payload-ends told counts counts' rest Sent.Full h = record { full' = λ e. h; failed' = λ e. absurd (cc) }
payload-ends told counts counts' rest Sent.Failed h = record { full' = λ e. absurd (cc); failed' = λ e. (h.0, h.1) }

pub sends-payload : {L : Type 0} (told : L → Told) (counts : L → Counts) (users : List User) (pubs : List Entries) (generation : ℕ) (config : Entries) (most : ℕ) (h : List Line) (marks : List StopBy)
    (net net' : NetTold) (now : ℕ) (a b z : Assoc L) (local : Endpoint) (new link : L) (s : Record) (last : Option Cause) (full : Bool) (outcome : Sent)
    → HasDialled told (socks users pubs) net net' now a b (DialOutcome.CameUp local) → IsNewLink (told new) (counts new) net → HasGreeted told counts b z full
    → s ≡ (let r = z.state in record r { sent_t = s.sent_t })
    → Sends (told new) (told link) (counts new) (counts link) (z.state).sent_t s.sent_t (drop (length (z.state).sent_t) (drop (prelude_of z.state) (z.state).c)) outcome
    → last ≡ with_target_failure (is_failed outcome) s.cause
    → Turns told counts (SameDesk h marks) (context users pubs generation config most h marks) now net net' a (Next.Again (record { state = record s { cause = last }; client = z.client; target = Some link }))
sends-payload {L = L} told counts users pubs generation config most h marks net net' now a b z local new link s last full outcome k v g state' sends last' =
    greets-turn told counts users pubs generation config most h marks net net' now a b z' local new link g.bytes g.rest sends'.rest full (is_full outcome) (target_fault failed) failed k v (record {
      pending' = g.pending';
      state' = (λ i. record s { cause = (last' ∙ as-target failed s.cause) i }) ∙ (λ i. let r : Record = s-is i in record r { cause = with_object (target_fault failed) r.cause });
      all_t = ap (λ w. w ++ sends'.rest) sends'.after' ∙ sends'.pending';
      failing = λ d local. target-failed-as d local g.rest sends'.rest failed (λ e. (ends.failed' e).0);
      told' = g.told';
      stuck_c = g.stuck;
      stuck_t = λ e. sends'.after' ∙ sends'.stuck e;
      target' = refl;
      link' = sends'.told' ∙ ap (told_taken (told new)) (sym sends'.after');
      fills_c = g.full';
      fills_t = ends.full';
      failed_c = None;
      failed_t = failed_sending outcome;
      tried_c = tried-as g.tried (λ u. u) (λ e. (added-none (b.state).sent_c (z.state).sent_c g.bytes (ap (λ (r : Record). r.sent_c) z-is) e.0, e.1)) (λ u. u);
      tried_t = sends'.tried;
      leaves_c = tt;
      leaves_t = leaves-of outcome sends'.rest (λ e. (ends.failed' e).0);
      fault_is = target-fault-is outcome;
      unwritten_is = target-unwritten outcome;
      fails_c = λ e. absurd (not-client failed e);
      unfailing = λ e1 e2. no-target-fault failed (λ e3. clash e2 (ends.failed' e3).1);
    })
  where
    failed : Bool
    failed = is_failed outcome

    z' : Assoc L
    z' = record { state = record s { cause = last }; client = z.client; target = Some link }

    z-is : z.state ≡ (let r = b.state in record r { sent_c = r.sent_c ++ g.bytes })
    z-is = g.state'

    unsent : (z.state).sent_t ≡ []
    unsent = ap (λ (r : Record). r.sent_t) z-is ∙ ap (λ (r : Record). r.sent_t) (behind-is told users pubs generation config most h marks net net' now a b (DialOutcome.CameUp local) k)

    s-is : s ≡ (let r = b.state in record r { sent_c = r.sent_c ++ g.bytes; sent_t = s.sent_t })
    s-is = state' ∙ (λ i. let r : Record = z-is i in record r { sent_t = s.sent_t })

    sends' : Sends (told new) (told link) (counts new) (counts link) [] s.sent_t (drop (prelude_of b.state) (b.state).c) outcome
    sends' = subst (λ (r : Record). Sends (told new) (told link) (counts new) (counts link) [] s.sent_t (drop (prelude_of r) r.c) outcome) z-is
        (subst (λ (w : List ℕ). Sends (told new) (told link) (counts new) (counts link) w s.sent_t (drop (length w) (drop (prelude_of z.state) (z.state).c)) outcome) unsent sends)

    ends : PayloadEnds (told link) (counts new) (counts link) sends'.rest (is_full outcome) failed
    ends = payload-ends (told link) (counts new) (counts link) sends'.rest outcome sends'.ends

    clash : (told new).unfailing ≡ true → (told link).unfailing ≡ false → ⊥
    clash e1 e2 = let e3 : (told link).unfailing ≡ (told new).unfailing = ap (λ (w : Told). w.unfailing) sends'.told' in cc

-- nothing was written to a target that has just come up
pub unsent-behind : {L : Type 0} (told : L → Told) (basis : Basis) (net net' : NetTold) (now : ℕ) (a b : Assoc L) (local : Endpoint) → HasDialled told basis net net' now a b (DialOutcome.CameUp local) → (b.state).sent_t ≡ []
unsent-behind told basis net net' now a b local k = ap (λ (r : Record). r.sent_t) k.state' ∙ ((judged-in told basis net net' now a b (DialOutcome.CameUp local) k).untargeted).sent_t

-- what follows from a fact of each value follows of a result
pub if-ok-more : {A E : Type 0} (r : Result A E) (P Q : A → Type 0) → ((x : A) → P x → Q x) → IfOk r P → IfOk r Q
if-ok-more (Ok x) P Q f h = f x h
if-ok-more (Err e) P Q f h = h

-- ---- the dial

granted-facts : (ds : List Decision) (to : Endpoint) (g : ℕ) (rule : Option ℕ) (s : Option Sought) (g' : ℕ) (facts : Facts) (verdict : Verdict) (route : Option ℕ)
    → Some to ≡ option_map (λ x. x.facts.to) (granted ds) → ds ≡ Decision.Opened g rule None ∷ behind_lookup s (Decision.Granted g' facts verdict route None ∷ []) → to ≡ facts.to
granted-facts ds to g rule s g' facts verdict route e is =
    let k : Some to ≡ Some facts.to = e ∙ (ap (λ (z : List Decision). option_map (λ x. x.facts.to) (granted z)) is ∙ ap (option_map (λ x. x.facts.to)) (granted-behind s (Decision.Granted g' facts verdict route None ∷ []))) in cc

-- behind a grant there is a destination
pub granted-some : (ds : List Decision) (g : ℕ) (rule : Option ℕ) (s : Option Sought) (g' : ℕ) (facts : Facts) (verdict : Verdict) (route : Option ℕ) (to : Option Endpoint)
    → to ≡ option_map (λ x. x.facts.to) (granted ds) → to ≡ None → ds ≡ Decision.Opened g rule None ∷ behind_lookup s (Decision.Granted g' facts verdict route None ∷ []) → ⊥
granted-some ds g rule s g' facts verdict route to e none is =
    let k : None ≡ Some facts.to = sym none ∙ (e ∙ (ap (λ (z : List Decision). option_map (λ x. x.facts.to) (granted z)) is ∙ ap (option_map (λ x. x.facts.to)) (granted-behind s (Decision.Granted g' facts verdict route None ∷ [])))) in cc

-- what the code knows of a dial
pub record Dials {L : Type 0} (told : L → Told) (net net' : NetTold) (now : ℕ) (a : Assoc L) (to : Endpoint) (pushed : List Decision) (outcome : DialOutcome) : Type 0 where
  pub to' : Some to ≡ option_map (λ x. x.facts.to) (granted (a.state).decisions)
  pub pushed' : pushed ≡ (a.state).decisions ++ Decision.Reached to None ∷ []
  pub dials : net'.dials ≡ dialled net.dials (record { to = to; outcome = outcome })
  pub lookups : SameLookups net net'
  pub planned : (plan : Plan) → net.plan ≡ Some plan → outcome ≡ plan.outcome
  pub kept : at_of outcome ≡ None → net'.plan ≡ net.plan
  pub cause : DialCause net.counts net'.counts outcome

-- a dial that came up
pub up-of : {L : Type 0} (told : L → Told) (counts : L → Counts) (net net' : NetTold) (now : ℕ) (a : Assoc L) (to : Endpoint) (link : L) (local : Endpoint) (pushed : List Decision)
    → Some to ≡ option_map (λ x. x.facts.to) (granted (a.state).decisions) → pushed ≡ (a.state).decisions ++ Decision.Reached to None ∷ []
    → DialReaches told counts net net' to (Reached.Up link local) → SameLookups net net' → Dials told net net' now a to pushed (DialOutcome.CameUp local)
up-of told counts net net' now a to link local pushed to' pushed' dial lookups = record {
  to' = to';
  pushed' = pushed';
  dials = dial.dials ∙ ap (λ (o : DialOutcome). dialled net.dials (record { to = to; outcome = o })) dial.answer;
  lookups = lookups;
  planned = λ plan e. sym dial.answer ∙ dial.planned plan e;
  kept = λ e. absurd (some-clash local e);
  cause = subst (λ (o : DialOutcome). DialCause net.counts net'.counts o) dial.answer dial.cause;
}

pub dialled-down : {L : Type 0} (told : L → Told) (basis : Basis) (net net' : NetTold) (now : ℕ) (a : Assoc L) (to : Endpoint) (pushed : List Decision) (o : DialOutcome) (g g' : ℕ) (rule : Option ℕ) (s : Option Sought) (facts : Facts) (verdict : Verdict) (route : Option ℕ)
    → Dials told net net' now a to pushed o → at_of o ≡ None → Stands told basis a → (a.state).since ≡ now → (a.state).cause ≡ None
    → (a.state).decisions ≡ Decision.Opened g rule None ∷ behind_lookup s (Decision.Granted g' facts verdict route None ∷ [])
    → HasDialled told basis net net' now a (record { state = (let r = a.state in record r { decisions = pushed }); client = a.client; target = a.target }) o
dialled-down told basis net net' now a to pushed o g g' rule s facts verdict route k none standing since uncaused is = record {
  stands = standing;
  g = g;
  rule = rule;
  sought = s;
  g' = g';
  facts = facts;
  verdict = verdict;
  route = route;
  granted' = is;
  uncaused = uncaused;
  since = since;
  state' = λ i. let r = a.state in record r {
    since = since i;
    decisions = (k.pushed' ∙ (λ n. (a.state).decisions ++ Decision.Reached (to-is n) (sym none n) ∷ [])) i;
  };
  client' = refl;
  target' = refl;
  dials = k.dials ∙ ap (λ (e : Endpoint). dialled net.dials (record { to = e; outcome = o })) to-is;
  lookups = k.lookups;
  planned = k.planned;
  kept = k.kept;
  cause = k.cause;
}
  where
    to-is : to ≡ facts.to
    to-is = granted-facts (a.state).decisions to g rule s g' facts verdict route k.to' is

pub dialled-up : {L : Type 0} (told : L → Told) (basis : Basis) (net net' : NetTold) (now : ℕ) (a : Assoc L) (to local : Endpoint) (pushed after : List Decision) (g g' : ℕ) (rule : Option ℕ) (s : Option Sought) (facts : Facts) (verdict : Verdict) (route : Option ℕ)
    → Dials told net net' now a to pushed (DialOutcome.CameUp local) → after ≡ slice_set pushed (length pushed - 1) (Decision.Reached to (Some local)) → Stands told basis a → (a.state).since ≡ now → (a.state).cause ≡ None
    → (a.state).decisions ≡ Decision.Opened g rule None ∷ behind_lookup s (Decision.Granted g' facts verdict route None ∷ [])
    → HasDialled told basis net net' now a (record { state = (let r = a.state in record r { decisions = after }); client = a.client; target = a.target }) (DialOutcome.CameUp local)
dialled-up told basis net net' now a to local pushed after g g' rule s facts verdict route k set' standing since uncaused is = record {
  stands = standing;
  g = g;
  rule = rule;
  sought = s;
  g' = g';
  facts = facts;
  verdict = verdict;
  route = route;
  granted' = is;
  uncaused = uncaused;
  since = since;
  state' = λ i. let r = a.state in record r {
    since = since i;
    decisions = (last-set (a.state).decisions pushed after (Decision.Reached to None) (Decision.Reached to (Some local)) k.pushed' set' ∙ (λ n. (a.state).decisions ++ Decision.Reached (to-is n) (Some local) ∷ [])) i;
  };
  client' = refl;
  target' = refl;
  dials = k.dials ∙ ap (λ (e : Endpoint). dialled net.dials (record { to = e; outcome = DialOutcome.CameUp local })) to-is;
  lookups = k.lookups;
  planned = k.planned;
  kept = k.kept;
  cause = k.cause;
}
  where
    to-is : to ≡ facts.to
    to-is = granted-facts (a.state).decisions to g rule s g' facts verdict route k.to' is
