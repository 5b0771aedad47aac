-- What a turn at the moment of the last movement comes to at another moment.
use Rattle.std.proofs.Common.{◌≡◌, ℕ, ◌<◌, ◌≤◌, Bool, true, false, if◌then◌else◌, Option, Some, None, List, [], ◌++◌, refl, sym, ap, subst, ◌∙◌, length, drop, is_some, not, ◌&&◌}
use Rattle.addr_pattern.specs.declared.endpoint.Endpoint.{Endpoint}
use Rattle.conf_types.specs.declared.entries.Entries.{Entries}
use Rattle.socks_grammar.specs.declared.protocol.Version.{Version}
use Rattle.socks_grammar.specs.declared.user.User.{User}
use Rattle.socks_grammar.specs.Handshake.{version_of}
use Rattle.net_ends.specs.Counts.{Counts, Rose}
use Rattle.net_ends.specs.Faults.{Tried}
use Rattle.net_ends.specs.Nets.{NetTold}
use Rattle.net_ends.specs.Told.{Told}
use Rattle.socks_machine.specs.declared.cause.Cause.{Cause}
use Rattle.socks_machine.specs.declared.cause.StopBy.{StopBy}
use Rattle.socks_machine.specs.declared.lines.Line.{Line}
use Rattle.socks_machine.specs.declared.record.Record.{Record}
use Rattle.socks_machine.specs.declared.world.NextMark.{NextMark}
use Rattle.socks_machine.specs.declared.world.Outer.{Outer}
use Rattle.socks_machine.specs.declared.world.TurnEvent.{TurnEvent}
use Rattle.socks_machine.specs.Calls.{Context, TurnResult, call_close, close_line, cause_of_shut}
use Rattle.socks_machine.specs.Decisions.{reached_at}
use Rattle.socks_machine.specs.History.{at_close}
use Rattle.socks_machine.specs.Owed.{waiting_for_target, waiting_for_client, owed_to_client, replies}
use Rattle.socks_machine.specs.Phase.{Phase, phase, is_udp, relay_began, target_payload}
use Rattle.socks_machine.specs.Replies.{RefusedAt, refusal}
use Rattle.socks_machine.specs.Settle.{first_cause, is_nothing}
use Rattle.socks_machine.specs.Socks.{socks}
use Rattle.socks_machine.specs.Taking.{pipe_size}
use Rattle.socks_machine.specs.Turn.{turn, aged, marked, limit, is_late, has_pending, may_be_shut}
use Rattle.assoc_core.specs.declared.assoc.Assoc.{Assoc}
use Rattle.assoc_core.specs.declared.assoc.Ended.{Ended}
use Rattle.assoc_core.specs.declared.assoc.Next.{Next}
use Rattle.assoc_core.specs.declared.moment.Movement.{Movement}
use Rattle.assoc_core.specs.Closing.{Closed}
use Rattle.assoc_core.specs.Moment.{movement, moment, at_moment, limit_of, is_late_by, cause_by}
use Rattle.assoc_core.specs.Plain.{owed_c, owed_t, opening_owed, refused_at, plain_to_client}
use Rattle.assoc_core.specs.Stands.{GoesDirect, Holds, HoldsTarget, EndsBehind, GivesFirst}
use Rattle.assoc_core.specs.Turns.{Acts, Turns, GoesOn, event_of, context, mark_of, left_of, IsIdle, IsFull, IsThereAnd, SameOutside, SameTarget, DialsAre, LookupsAre, PlanStays, IsOuterOf, CountRose, RoseTarget, TriedTarget, FailsWhere, call_of}
use Rattle.assoc_core.proofs.Lateness.{waits-uncalled, CalledNothing, turns-late, cause_late}
use Rattle.assoc_core.proofs.Moments.{turns-at}
use Rattle.assoc_core.proofs.Movements.{Moves, aged-moment, late-is, limit-is, plain-dated}
use Rattle.assoc_core.proofs.RelayRecords.{plain-tcp}
use Rattle.assoc_core.proofs.TalkTurns.{stops-as}
use Rattle.net_ends.specs.declared.kinds.Kind.{Kind}
use Rattle.socks_machine.specs.FailedCalls.{can_fail}
use Rattle.socks_machine.specs.Basis.{Basis}
use Rattle.socks_machine.specs.declared.world.Object.{Object}

-- ---- what an answer keeps that is given at another moment

-- the same event, but for its moment, its outer call and its answer
abbrev event_over : Acts → ℕ → ℕ → ℕ → Outer → NextMark → TurnEvent
event_over x worker number now outer next = event_of worker number now (record x { outer = outer }) next

-- next' has done what next did, but for what it called, and leaves the same record but for the moment and what it ends by
pub record Redone {L : Type 0} (told : L → Told) (counts : L → Counts) (stands stands' : List Line → List StopBy → Type 0) (s : Context) (now : ℕ) (net net' : NetTold) (a : Assoc L) (next next' : Next L)
    (t : Turns told counts stands s a.state.since net net' a next) (outer : Outer) : Type 0 where
  pub result : TurnResult
  pub lawful : (worker : ℕ) → turn s (event_over t.acts worker a.state.number now outer (mark_of next')) a.state ≡ Some result
  pub state' : (left_of next').state ≡ result.left
  pub desk : stands' result.h result.marks
  pub goes_on : GoesOn (s.basis).users next'
  pub since : ℕ
  pub cause : Option Cause
  pub at_close : Option Cause
  pub done : Bool
  pub left' : result.left ≡ (let r = t.result.left in record r { since = since; cause = cause; at_close = at_close; done = done })
  pub owes : owed_c result.left ≡ owed_c t.result.left
  pub owed : owed_to_client s.basis result.left ≡ owed_to_client s.basis t.result.left
  pub dated : a.state.since ≡ now → since ≡ now
  pub client : (left_of next').client ≡ (left_of next).client
  pub target : (left_of next').target ≡ (left_of next).target
  pub dials : DialsAre net.dials net'.dials (phase s.basis t.behind) outer
  pub lookups : LookupsAre net.lookups net'.lookups (phase s.basis t.behind) outer
  pub plan' : PlanStays net net' outer (is_some (reached_at result.left.decisions))
  pub outer' : IsOuterOf net (phase s.basis t.behind) outer
  pub counted : CountRose net.counts net'.counts outer

held-dated : {L : Type 0} (told : L → Told) (r : Record) (since : ℕ) (cause at_close : Option Cause) (done : Bool) (target : Option L) → HoldsTarget told r target
    → HoldsTarget told (record r { since = since; cause = cause; at_close = at_close; done = done }) target
held-dated told r since cause at_close done None h = h
held-dated told r since cause at_close done (Some link) h = h

pub redone : {L : Type 0} (told : L → Told) (counts : L → Counts) (stands stands' : List Line → List StopBy → Type 0) (s : Context) (now : ℕ) (net net' : NetTold) (a : Assoc L) (next next' : Next L)
    (t : Turns told counts stands s a.state.since net net' a next) (outer : Outer) → Redone told counts stands stands' s now net net' a next next' t outer
    → Turns told counts stands' s now net net' a next'
redone {L} told counts stands stands' s now net net' a next next' t outer h = record {
  acts = record t.acts { outer = outer };
  result = h.result;
  lawful = h.lawful;
  state' = h.state';
  desk = h.desk;
  goes_on = h.goes_on;
  direct = subst (λ (r : Record). GoesDirect s.basis r.decisions) (sym h.left') t.direct;
  c = ap (λ (r : Record). r.c) h.left' ∙ t.c;
  t = ap (λ (r : Record). r.t) h.left' ∙ t.t;
  sent_c = ap (λ (r : Record). length r.sent_c) h.left' ∙ t.sent_c;
  sent_t = ap (λ (r : Record). length r.sent_t) h.left' ∙ t.sent_t;
  ends_c = λ e. ap (λ (r : Record). r.end_c) h.left' ∙ t.ends_c e;
  ends_t = λ e. ap (λ (r : Record). r.end_t) h.left' ∙ t.ends_t e;
  since = λ e. ap (λ (r : Record). r.since) h.left' ∙ h.dated e;
  number = ap (λ (r : Record). r.number) h.left' ∙ t.number;
  client = subst (λ (l : L). Holds (told l) h.result.left.c h.result.left.sent_c h.result.left.end_c h.result.left.shut_c) (sym h.client)
      (subst (λ (r : Record). Holds (told (left_of next).client) r.c r.sent_c r.end_c r.shut_c) (sym h.left') t.client);
  client_ends = subst (λ (l : L). EndsBehind (told l)) (sym h.client) t.client_ends;
  client_first = subst (λ (l : L). GivesFirst (told l)) (sym h.client) t.client_first;
  target = subst (λ (l : Option L). HoldsTarget told h.result.left l) (sym h.target)
      (subst (λ (r : Record). HoldsTarget told r (left_of next).target) (sym h.left') (held-dated told t.result.left h.since h.cause h.at_close h.done (left_of next).target t.target));
  same_client = subst (λ (l : L). SameOutside (told a.client) (told l)) (sym h.client) t.same_client;
  same_target = subst (λ (l : Option L). SameTarget told net a.target l) (sym h.target) t.same_target;
  behind = t.behind;
  taken' = λ worker. t.taken' worker;
  dials = h.dials;
  lookups = h.lookups;
  lookup_plan = t.lookup_plan;
  plan' = h.plan';
  outer' = h.outer';
  counted = h.counted;
  stops_c = λ worker. stops-as a.state.end_c t.acts.end_c t.acts.idle_c t.acts.c t.acts.fault _ _ _ _
      (λ f. record { behind = f.behind; taken' = f.taken'; relays = f.relays; waits = subst (λ (r : Record). pipe_size ≤ waiting_for_target s.basis r) (sym h.left') f.waits })
      (λ u. record { behind = u.behind; taken' = u.taken'; unread' = u.unread' }) (t.stops_c worker);
  stops_t = λ worker. stops-as a.state.end_t t.acts.end_t t.acts.idle_t t.acts.t t.acts.fault _ _ _ _
      (λ f. record { behind = f.behind; taken' = f.taken'; relays = f.relays; waits = subst (λ (r : Record). pipe_size ≤ waiting_for_client s.basis r) (sym h.left') f.waits })
      (λ u. record { behind = u.behind; taken' = u.taken'; unread' = u.unread' }) (t.stops_t worker);
  reads_end_c = λ worker e. let k = t.reads_end_c worker e in record {
    unended = k.unended;
    below = k.below;
    behind = k.behind;
    taken' = k.taken';
    reads' = k.reads';
    room = λ relays. subst (λ (r : Record). waiting_for_target s.basis r < pipe_size) (sym h.left') (k.room relays);
  };
  reads_end_t = λ worker e. let k = t.reads_end_t worker e in record {
    unended = k.unended;
    below = k.below;
    behind = k.behind;
    taken' = k.taken';
    reads' = k.reads';
    room = λ relays. subst (λ (r : Record). waiting_for_client s.basis r < pipe_size) (sym h.left') (k.room relays);
  };
  idle_c = λ e. subst (λ (l : L). IsIdle (told l) × Rose (counts a.client).idle_reads (counts l).idle_reads) (sym h.client) (t.idle_c e);
  idle_t = λ e. subst (λ (l : Option L). IsThereAnd l (λ link. IsIdle (told link)) × RoseTarget (λ link. (counts link).idle_reads) a.target l) (sym h.target) (t.idle_t e);
  full_c = λ e. let f = t.full_c e in (
    subst (λ (l : L). IsFull (told l)) (sym h.client) f.0,
    subst (λ (l : L). Rose (counts a.client).idle_writes (counts l).idle_writes) (sym h.client) f.1,
    subst (λ (n : ℕ). n < length (owed_c h.result.left)) (sym (ap (λ (r : Record). length r.sent_c) h.left')) (subst (λ (z : List ℕ). length t.result.left.sent_c < length z) (sym h.owes) f.2),
  );
  full_t = λ e. let f = t.full_t e in (
    subst (λ (l : Option L). IsThereAnd l (λ link. IsFull (told link))) (sym h.target) f.0,
    subst (λ (l : Option L). RoseTarget (λ link. (counts link).idle_writes) a.target l) (sym h.target) f.1,
    subst (λ (r : Record). length r.sent_t < length (owed_t r)) (sym h.left') f.2,
  );
  room_c = t.room_c;
  room_t = t.room_t;
  failed_c = t.failed_c;
  failed_t = t.failed_t;
  tried_c = subst (λ (l : L). Tried (counts a.client) (counts l) ((t.acts.c ≡ []) × (t.acts.end_c ≡ false) × (t.acts.idle_c ≡ false)) ((t.acts.sent_c ≡ 0) × (t.acts.full_c ≡ false)) (t.acts.shut_c ≡ false) t.failed_c) (sym h.client) t.tried_c;
  tried_t = subst (λ (l : Option L). TriedTarget counts net a.target l ((t.acts.t ≡ []) × (t.acts.end_t ≡ false) × (t.acts.idle_t ≡ false)) ((t.acts.sent_t ≡ 0) × (t.acts.full_t ≡ false)) (t.acts.shut_t ≡ false) t.failed_t) (sym h.target) t.tried_t;
  where_c = where-dated Object.Client t.failed_c t.where_c;
  where_t = where-dated Object.Target t.failed_t t.where_t;
  fault_is = t.fault_is;
  unwritten_is = t.unwritten_is;
  fails_c = λ e. subst (λ (l : L). Rose (counts a.client).faults (counts l).faults) (sym h.client) (t.fails_c e);
  unfailing = t.unfailing;
}
  where
    sent : h.result.left.sent_c ≡ t.result.left.sent_c
    sent = ap (λ (r : Record). r.sent_c) h.left'

    can-dated : (x : Object) (kind : Kind) → can_fail s.basis t.behind h.result.left (x, call_of kind) ≡ can_fail s.basis t.behind t.result.left (x, call_of kind)
    can-dated x Kind.Read = refl
    can-dated Object.Client Kind.Write = λ i. not (is_nothing (drop (length (sent i)) (h.owed i)))
    can-dated Object.Target Kind.Write = ap (λ (r : Record). has_pending s.basis r Object.Target) h.left'
    can-dated Object.Door Kind.Write = refl
    can-dated Object.Port Kind.Write = ap (λ (r : Record). has_pending s.basis r Object.Port) h.left'
    can-dated Object.Client Kind.Shut = λ i. let r = h.left' i in relay_began s.basis r && r.end_t && not r.shut_c && is_nothing (drop (length (sent i)) (h.owed i))
    can-dated Object.Target Kind.Shut = ap (λ (r : Record). may_be_shut s.basis r Object.Target) h.left'
    can-dated Object.Door Kind.Shut = refl
    can-dated Object.Port Kind.Shut = refl

    where-dated : (x : Object) (failed : Option Kind) → FailsWhere s.basis t.behind t.result.left x failed → FailsWhere s.basis t.behind h.result.left x failed
    where-dated x None w = tt
    where-dated x (Some kind) w = can-dated x kind ∙ w

-- ---- it is not late

moves-of : {L : Type 0} (told : L → Told) (counts : L → Counts) (stands : List Line → List StopBy → Type 0) (s : Context) (now : ℕ) (net net' : NetTold) (a : Assoc L) (next : Next L) → (t : Turns told counts stands s now net net' a next)
    → Moves t.acts a.state t.result.left
moves-of told counts stands s now net net' a next t = record { c = t.c; t = t.t; sent_c = t.sent_c; sent_t = t.sent_t }

-- the record that it leaves
abbrev pub dated : {L : Type 0} → ℕ → Assoc L → Next L → Record
dated now a next = at_moment (movement a.state) now (left_of next).state

is-moment : (now since : ℕ) (b : Bool) → since ≡ now → (if b then now else since) ≡ now
is-moment now since true e = refl
is-moment now since false e = e

pub turns-dated : {L : Type 0} (told : L → Told) (counts : L → Counts) (stands : List Line → List StopBy → Type 0) (s : Context) (now : ℕ) (net net' : NetTold) (a : Assoc L) (next next' : Next L)
    → Turns told counts stands s a.state.since net net' a next → GoesDirect s.basis a.state.decisions
    → mark_of next' ≡ mark_of next → (left_of next').state ≡ dated now a next → (left_of next').client ≡ (left_of next).client → (left_of next').target ≡ (left_of next).target → GoesOn (s.basis).users next'
    → (mark_of next ≡ NextMark.Wait → is_late_by s.config now (dated now a next) ≡ false)
    → Turns told counts stands s now net net' a next'
turns-dated told counts stands s now net net' a next next' t direct mark state client target goes early =
    redone told counts stands stands s now net net' a next next' t t.acts.outer (record {
      result = result';
      lawful = λ worker. ap (λ (n : NextMark). turn s (event_of worker a.state.number now t.acts n) a.state) mark
          ∙ (turns-at s worker a.state.number a.state.since now t.acts (mark_of next) a.state t.result (t.lawful worker) (record {
            since = t.since refl;
            early = λ w. ap (is_late s.basis s.config now) (is worker) ∙ (late-is s.basis s.config now left t.direct ∙ (ap (λ (r : Record). is_late_by s.config now (at_moment (movement a.state) now r)) (sym t.state') ∙ early w));
          })
          ∙ ap (λ (r : Record). Some (record { left = r; h = t.result.h; marks = t.result.marks })) (is worker));
      state' = state ∙ ap (at_moment (movement a.state) now) t.state';
      desk = t.desk;
      goes_on = goes;
      since = moment (movement a.state) now t.result.left;
      cause = t.result.left.cause;
      at_close = t.result.left.at_close;
      done = t.result.left.done;
      left' = refl;
      owes = refl;
      owed = refl;
      dated = λ e. is-moment now t.result.left.since _ (t.since refl ∙ e);
      client = client;
      target = target;
      dials = t.dials;
      lookups = t.lookups;
      plan' = t.plan';
      outer' = t.outer';
      counted = t.counted;
    })
  where
    left : Record
    left = at_moment (movement a.state) now t.result.left

    result' : TurnResult
    result' = record { left = left; h = t.result.h; marks = t.result.marks }

    is : (worker : ℕ) → aged s.basis (event_of worker a.state.number now t.acts (mark_of next)) a.state t.result.left ≡ left
    is worker = aged-moment s.basis worker a.state.number now t.acts (mark_of next) a.state t.result.left direct t.direct (moves-of told counts stands s a.state.since net net' a next t)

pub again-dated : {L : Type 0} (told : L → Told) (counts : L → Counts) (stands : List Line → List StopBy → Type 0) (users : List User) (pubs : List Entries) (generation : ℕ) (config : Entries) (cap : ℕ) (h : List Line) (marks : List StopBy)
    (now since : ℕ) (net net' : NetTold) (a z : Assoc L) (before : Movement)
    → Turns told counts stands (context users pubs generation config cap h marks) a.state.since net net' a (Next.Again z) → GoesDirect (socks users pubs) a.state.decisions
    → before ≡ movement a.state → since ≡ moment before now z.state
    → Turns told counts stands (context users pubs generation config cap h marks) now net net' a (Next.Again (record { state = (let r = z.state in record r { since = since }); client = z.client; target = z.target }))
again-dated told counts stands users pubs generation config cap h marks now since net net' a z before t direct was is =
    turns-dated told counts stands (context users pubs generation config cap h marks) now net net' a (Next.Again z) _ t direct refl
    (ap (λ n. let r = z.state in record r { since = n }) (is ∙ ap (λ m. moment m now z.state) was)) refl refl (plain-dated users z.state since t.goes_on) (λ w. absurd (cc))

pub done-dated : {L : Type 0} (told : L → Told) (counts : L → Counts) (stands : List Line → List StopBy → Type 0) (users : List User) (pubs : List Entries) (generation : ℕ) (config : Entries) (cap : ℕ) (h : List Line) (marks : List StopBy)
    (now since : ℕ) (net net' : NetTold) (a : Assoc L) (e : Ended L) (before : Movement)
    → Turns told counts stands (context users pubs generation config cap h marks) a.state.since net net' a (Next.Done e) → GoesDirect (socks users pubs) a.state.decisions
    → before ≡ movement a.state → since ≡ moment before now e.state
    → Turns told counts stands (context users pubs generation config cap h marks) now net net' a (Next.Done (record { state = (let r = e.state in record r { since = since }); client = e.client; target = e.target }))
done-dated told counts stands users pubs generation config cap h marks now since net net' a e before t direct was is =
    turns-dated told counts stands (context users pubs generation config cap h marks) now net net' a (Next.Done e) _ t direct refl
    (ap (λ n. let r = e.state in record r { since = n }) (is ∙ ap (λ m. moment m now e.state) was)) refl refl t.goes_on (λ w. absurd (cc))

pub wait-dated : {L : Type 0} (told : L → Told) (counts : L → Counts) (stands : List Line → List StopBy → Type 0) (users : List User) (pubs : List Entries) (generation : ℕ) (config : Entries) (cap : ℕ) (h : List Line) (marks : List StopBy)
    (now since : ℕ) (net net' : NetTold) (a z : Assoc L) (before : Movement)
    → Turns told counts stands (context users pubs generation config cap h marks) a.state.since net net' a (Next.Wait z) → GoesDirect (socks users pubs) a.state.decisions
    → before ≡ movement a.state → since ≡ moment before now z.state → is_late_by config now (let r = z.state in record r { since = since }) ≡ false
    → Turns told counts stands (context users pubs generation config cap h marks) now net net' a (Next.Wait (record { state = (let r = z.state in record r { since = since }); client = z.client; target = z.target }))
wait-dated told counts stands users pubs generation config cap h marks now since net net' a z before t direct was is early =
    turns-dated told counts stands (context users pubs generation config cap h marks) now net net' a (Next.Wait z) _ t direct refl
    (ap (λ n. let r = z.state in record r { since = n }) dates) refl refl (plain-dated users z.state since t.goes_on)
    (λ w. ap (λ n. is_late_by config now (let r = z.state in record r { since = n })) (sym dates) ∙ early)
  where
    dates : since ≡ moment (movement a.state) now z.state
    dates = is ∙ ap (λ m. moment m now z.state) was

-- ---- it is late

-- a time that is over has no reply
silent : (v : Option Version) (at : RefusedAt) (since now limit : ℕ) → refusal v at (Cause.TimedOut since now limit) ≡ []
silent None at since now limit = refl
silent (Some v) at since now limit = refl

owes-timed : (r : Record) (now limit : ℕ) → owed_c (record r { cause = first_cause (Some (Cause.TimedOut r.since now limit)) r.cause }) ≡ owed_c r
owes-timed r now limit = by-cause r.cause
  where
    by-at : (at : Option Endpoint) → plain_to_client r.c r.t r.chosen at (Some (Cause.TimedOut r.since now limit)) ≡ plain_to_client r.c r.t r.chosen at None
    by-at None = ap (λ z. opening_owed r.c r.chosen None ++ ([] ++ ([] ++ z))) (silent (version_of r.c) (refused_at r.chosen r.c (Cause.TimedOut r.since now limit)) r.since now limit)
    by-at (Some at) = refl

    by-cause : (k : Option Cause) → owed_c (record r { cause = first_cause (Some (Cause.TimedOut r.since now limit)) k }) ≡ owed_c (record r { cause = k })
    by-cause None = by-at (reached_at r.decisions)
    by-cause (Some cause) = refl

-- .. so that no more is owed
owed-timed : (users : List User) (pubs : List Entries) (r : Record) (now limit : ℕ) → owed_to_client (socks users pubs) (record r { cause = first_cause (Some (Cause.TimedOut r.since now limit)) r.cause }) ≡ owed_to_client (socks users pubs) r
owed-timed users pubs r now limit = by-cause r.cause
  where
    basis : Basis
    basis = socks users pubs

    none : (began : Bool) (v : Option Version) (at : RefusedAt) → (if began then [] else refusal v at (Cause.TimedOut r.since now limit)) ≡ []
    none true v at = refl
    none false v at = silent v at r.since now limit

    by-cause : (k : Option Cause) → owed_to_client basis (record r { cause = first_cause (Some (Cause.TimedOut r.since now limit)) k }) ≡ owed_to_client basis (record r { cause = k })
    by-cause None = ap (λ z. replies basis r ++ (if relay_began basis r then target_payload basis r else []) ++ z) (none (relay_began basis r) (version_of r.c) (refused_at r.chosen r.c (Cause.TimedOut r.since now limit)))
    by-cause (Some cause) = refl

cause-late-is : (s : Context) (now : ℕ) (r : Record) (k : Option Cause) → GoesDirect s.basis r.decisions → cause_late s now r k ≡ cause_by s.config now r k
cause-late-is s now r (Some cause) h = refl
cause-late-is s now r None h = ap (Cause.TimedOut r.since now) (limit-is s.basis s.config r h)

cause-stands : (config : Entries) (now limit : ℕ) (r : Record) (k : Option Cause) → limit ≡ limit_of config r → Some (cause_by config now r k) ≡ first_cause (Some (Cause.TimedOut r.since now limit)) k
cause-stands config now limit r (Some cause) e = refl
cause-stands config now limit r None e = ap (λ n. Some (Cause.TimedOut r.since now n)) (sym e)

no-dials : (net net' : NetTold) (p : Phase) (outer : Outer) (logged : Bool) → outer ≡ Outer.Nothing → DialsAre net.dials net'.dials p outer → DialsAre net.dials net'.dials p (Outer.Desk logged)
no-dials net net' p outer logged none h = subst (λ (o : Outer). DialsAre net.dials net'.dials p o) none h

no-lookups : (net net' : NetTold) (p : Phase) (outer : Outer) (logged : Bool) → outer ≡ Outer.Nothing → LookupsAre net.lookups net'.lookups p outer → LookupsAre net.lookups net'.lookups p (Outer.Desk logged)
no-lookups net net' p outer logged none h = subst (λ (o : Outer). LookupsAre net.lookups net'.lookups p o) none h

pub late-dated : {L : Type 0} (told : L → Told) (counts : L → Counts) (stands stands' : List Line → List StopBy → Type 0) (users : List User) (pubs : List Entries) (generation : ℕ) (config : Entries) (cap : ℕ) (h : List Line) (marks : List StopBy)
    (now since : ℕ) (net net' : NetTold) (a z : Assoc L) (e : Ended L) (before : Movement) (cause : Cause)
    → Turns told counts stands (context users pubs generation config cap h marks) a.state.since net net' a (Next.Wait z) → GoesDirect (socks users pubs) a.state.decisions
    → before ≡ movement a.state → since ≡ moment before now z.state
    → (let x = (let r = z.state in record r { since = since }) in
    is_late_by config now x ≡ true → cause ≡ cause_by config now x x.cause
    → ((h : List Line) (marks : List StopBy) → stands h marks → is_udp x ≡ false → Closed stands' h marks cause (record { state = x; client = z.client; target = z.target }) e)
    → Turns told counts stands' (context users pubs generation config cap h marks) now net net' a (Next.Done e))
late-dated {L} told counts stands stands' users pubs generation config cap h marks now since net net' a z e before cause t direct was is late caused closes =
    redone told counts stands stands' s now net net' a (Next.Wait z) (Next.Done e) t (Outer.Desk logged) (record {
      result = result';
      lawful = λ worker. turns-late s worker a.state.number a.state.since now t.acts a.state logged t.result (t.lawful worker) (record {
        since = t.since refl;
        late = ap (is_late s.basis s.config now) (ages worker) ∙ (late-is s.basis s.config now x' t.direct ∙ (ap (is_late_by config now) (sym x-is) ∙ late));
      }) ∙ ap (λ (r : Record). Some (marked NextMark.Done (call_close h marks (timed r) (cause_late s now r r.cause) logged))) (ages worker);
      state' = state;
      desk = desked;
      goes_on = (ap (λ (r : Record). r.done) state, ap is_udp state ∙ tcp, ap (λ (r : Record). r.sent_u) state ∙ sent_u);
      since = x'.since;
      cause = first_cause (Some (Cause.TimedOut x'.since now (limit s.basis s.config x'))) x'.cause;
      at_close = result'.left.at_close;
      done = true;
      left' = refl;
      owes = owes-timed x' now (limit s.basis s.config x');
      owed = owed-timed users pubs x' now (limit s.basis s.config x');
      dated = λ f. is-moment now t.result.left.since _ (t.since refl ∙ f);
      client = closed.client;
      target = closed.target;
      dials = no-dials net net' _ _ logged nothing.nothing t.dials;
      lookups = no-lookups net net' _ _ logged nothing.nothing t.lookups;
      plan' = subst (λ (o : Outer). PlanStays net net' o (is_some (reached_at t.result.left.decisions))) nothing.nothing t.plan';
      outer' = tt;
      counted = subst (λ (o : Outer). CountRose net.counts net'.counts o) nothing.nothing t.counted;
    })
  where
    s : Context
    s = context users pubs generation config cap h marks

    x : Record
    x = let r = z.state in record r { since = since }

    x' : Record
    x' = at_moment (movement a.state) now t.result.left

    x-is : x ≡ x'
    x-is = ap (λ n. let r = z.state in record r { since = n }) (is ∙ ap (λ m. moment m now z.state) was) ∙ ap (at_moment (movement a.state) now) t.state'

    timed : Record → Record
    timed r = record r { cause = first_cause (Some (Cause.TimedOut r.since now (limit s.basis s.config r))) r.cause }

    nothing : CalledNothing s t.acts.outer t.result
    nothing = waits-uncalled s 0 a.state.number a.state.since t.acts a.state t.result (t.lawful 0)

    ages : (worker : ℕ) → aged s.basis (event_of worker a.state.number now t.acts NextMark.Wait) a.state t.result.left ≡ x'
    ages worker = aged-moment s.basis worker a.state.number now t.acts NextMark.Wait a.state t.result.left direct t.direct (moves-of told counts stands s a.state.since net net' a (Next.Wait z) t)

    tcp : is_udp x' ≡ false
    tcp = sym (ap is_udp x-is) ∙ plain-tcp users z.state t.goes_on

    sent_u : x'.sent_u ≡ []
    sent_u = sym (ap (λ (r : Record). r.sent_u) x-is) ∙ t.goes_on.sent_u

    closed : Closed stands' h marks cause (record { state = x; client = z.client; target = z.target }) e
    closed = closes h marks (subst (λ (l : List Line). stands l marks) nothing.h (subst (λ (m : List StopBy). stands t.result.h m) nothing.marks t.desk)) (plain-tcp users z.state t.goes_on)

    logged : Bool
    logged = closed.closes.logged

    result' : TurnResult
    result' = marked NextMark.Done (call_close h marks (timed x') (cause_late s now x' x'.cause) logged)

    cause-is : cause ≡ cause_late s now x' x'.cause
    cause-is = caused ∙ (ap (λ (r : Record). cause_by config now r r.cause) x-is ∙ sym (cause-late-is s now x' x'.cause t.direct))

    line : close_line x cause ≡ close_line (timed x') (cause_late s now x' x'.cause)
    line = ap (λ (r : Record). close_line r cause) x-is ∙ ap (close_line (timed x')) cause-is

    state : e.state ≡ result'.left
    state = closed.state' ∙ (λ i. record (x-is i) {
      cause = (caused-is i);
      at_close = cause_of_shut ((closed.closes.said' ∙ ap (λ l. (at_close h marks l logged).said) line) i);
      done = true;
    })
      where
        caused-is : Some cause ≡ (timed x').cause
        caused-is = ap (λ (k : Cause). Some k) (caused ∙ ap (λ (r : Record). cause_by config now r r.cause) x-is)
            ∙ cause-stands config now (limit s.basis s.config x') x' x'.cause (limit-is s.basis s.config x' t.direct)

    desked : stands' result'.h result'.marks
    desked = subst (λ l. stands' (at_close h marks l logged).h (at_close h marks l logged).marks) line closed.closes.stands'
