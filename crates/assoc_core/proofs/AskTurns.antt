-- The turn in which an outer call is made behind a whole prelude, and the client is written to.
use Rattle.std.proofs.Common.{◌≡◌, ℕ, ◌<◌, Bool, true, false, ◌&&◌, ◌||◌, not, if◌then◌else◌, Option, Some, None, List, [], ◌++◌, length, drop, refl, sym, ap, subst, ◌∙◌, inr, is_some}
use mathlib.Core.List.{IsPrefix}
use Rattle.addr_pattern.specs.declared.endpoint.Endpoint.{Endpoint}
use Rattle.socks_grammar.specs.declared.protocol.Version.{Version}
use Rattle.socks_grammar.specs.Handshake.{Request, Split, version_of}
use Rattle.net_ends.specs.Counts.{Counts, Later, Rose}
use Rattle.net_ends.specs.Faults.{Tried}
use Rattle.net_ends.specs.Nets.{NetTold}
use Rattle.net_ends.specs.Told.{Told, more}
use Rattle.socks_machine.specs.declared.cause.Cause.{Cause}
use Rattle.socks_machine.specs.declared.cause.StopBy.{StopBy}
use Rattle.socks_machine.specs.declared.lines.Line.{Line}
use Rattle.socks_machine.specs.declared.record.Decision.{Decision}
use Rattle.socks_machine.specs.declared.record.Record.{Record}
use Rattle.socks_machine.specs.declared.world.NextMark.{NextMark}
use Rattle.socks_machine.specs.declared.world.Object.{Object}
use Rattle.socks_machine.specs.declared.world.Outer.{Outer}
use Rattle.socks_machine.specs.declared.world.TurnEvent.{TurnEvent}
use Rattle.socks_machine.specs.Basis.{Basis}
use Rattle.socks_machine.specs.Calls.{TurnResult}
use Rattle.socks_machine.specs.Datagrams.{owed_datagrams}
use Rattle.socks_machine.specs.Decisions.{is_opened, reached_at}
use Rattle.socks_machine.specs.Inputs.{is_served_split}
use Rattle.socks_machine.specs.InTurn.{Called, Takes}
use Rattle.socks_machine.specs.Owed.{owed_to_client, owed_to_target}
use Rattle.socks_machine.specs.Phase.{Phase, phase}
use Rattle.socks_machine.specs.Replies.{RefusedAt, refusal}
use Rattle.socks_machine.specs.Settle.{is_nothing, first_cause}
use Rattle.socks_machine.specs.Taking.{reads_client, reads_target}
use Rattle.socks_machine.specs.Turn.{turn, aged, answer_after, Calling, marked, reads_in, has_pending, may_be_shut, may_write, fault_fits, with_fault}
use Rattle.socks_machine.proofs.CallLaws.{answers-call}
use Rattle.assoc_core.specs.declared.assoc.Assoc.{Assoc}
use Rattle.assoc_core.specs.declared.assoc.Next.{Next}
use Rattle.assoc_core.specs.declared.send.Sent.{Sent}
use Rattle.assoc_core.specs.Plain.{IsPlainRecord, HasDecided, HasChosen, split_by, owed_c, owed_t, opening_owed, refusal_owed, refused_at, plain_to_client, is_login_failed, is_failed_split}
use Rattle.assoc_core.specs.Sending.{Sends, SendEnds, WritesOn, failed_sending, is_full, is_failed, with_failure}
use Rattle.assoc_core.specs.Stands.{GivesFirst, GoesDirect, Stands}
use Rattle.assoc_core.specs.Turns.{Turns, FaultIs, StopsReading, links, IsFull, is_write}
use Rattle.assoc_core.proofs.Answering.{all-owed, sent-tried, still-left, told-sent}
use Rattle.assoc_core.proofs.LinksHeld.{short}
use Rattle.assoc_core.proofs.PlainRecords.{and-false, plain-owes-client}
use Rattle.assoc_core.proofs.Rests.{aged-same}
use Rattle.assoc_core.proofs.Sendings.{rose-before}
use Rattle.assoc_core.proofs.TalkCloses.{sends}
use Rattle.assoc_core.proofs.Tryings.{tried-on}
use Rattle.assoc_core.proofs.Talking.{Speaking, talker, spoken_to, spoken_in, unspoken, spoken, chosen_behind, spoken_takings}
use Rattle.assoc_core.proofs.TalkTurns.{CallsOut, turns-called, speak_acts, speak_event, with_state}
use Rattle.assoc_core.proofs.Failable.{LeavesOf, left-over, where-written}

-- ---- the record behind the call

abbrev pub asked : Speaking → List Decision → List ℕ → Option Cause → Record
asked s ds sent cause = talker s.party (s.c ++ s.x) sent false (chosen_behind s) ds cause

-- all that is owed to a client whose target isn't reached
abbrev pub owes_of : Speaking → Option Cause → List ℕ
owes_of s cause = opening_owed (s.c ++ s.x) (chosen_behind s) cause ++ refusal_owed (s.c ++ s.x) (chosen_behind s) None cause

-- what stands where a write failed behind it
abbrev pub fault_of : Bool → Option Object
fault_of true = Some Object.Client
fault_of false = None

-- a prelude that is whole behind what a turn takes, and the phase that is then met
pub record Asked : Type 0 where
  pub said : Speaking
  pub request : Request
  pub len : ℕ
  pub whole : split_by said.users (chosen_behind said) (said.c ++ said.x) ≡ Split.Whole request len
  pub served : is_served_split (split_by said.users (chosen_behind said) (said.c ++ said.x)) ≡ true
  pub chosen' : HasChosen (said.c ++ said.x) (chosen_behind said)
  pub unreached : reached_at said.ds ≡ None
  pub meets : Phase
  pub is : phase (spoken_to said) (spoken said) ≡ meets
  pub unread_c : (full : List Object) → reads_client (spoken_to said) [] full (spoken said) meets ≡ false
  pub unread_t : reads_target (spoken said) meets ≡ false
  pub takes : (full : List Object) → Takes (spoken_to said) said.generation (said.config).methods (spoken_takings said false [] full) (unspoken said) (spoken said)
  pub sent' : (cause : Option Cause) → is_login_failed cause ≡ false → IsPrefix said.sent (owes_of said cause)

-- what its outer call comes to
pub record CallIs (k : Asked) (outer : Outer) (ds : List Decision) (refused : Option Cause) (h : List Line) (marks : List StopBy) : Type 0 where
  pub called : Called (spoken_in k.said) outer None (spoken k.said) (record { left = asked k.said ds (k.said).sent (first_cause refused None); h = h; marks = marks })
  pub unlogged : is_login_failed refused ≡ false
  pub opened : is_opened ds ≡ true
  pub unreached : reached_at ds ≡ None
  pub decided : (sent : List ℕ) (cause : Option Cause) → (is_some refused ≡ true → is_some cause ≡ true) → HasDecided (k.said).users (asked k.said ds sent cause) ds
  pub direct : GoesDirect (spoken_to k.said) ds

abbrev pub left_by : Asked → List Decision → Option Cause → List Line → List StopBy → TurnResult
left_by k ds refused h marks = record { left = asked k.said ds (k.said).sent (first_cause refused None); h = h; marks = marks }

-- ---- what is owed

still-stands : (failed : Bool) (refused : Option Cause) → is_some refused ≡ true → is_some (with_failure failed (first_cause refused None)) ≡ true
still-stands true (Some cause) h = refl
still-stands false (Some cause) h = refl
still-stands failed None h = absurd (cc)

silent : (v : Option Version) (at : RefusedAt) → refusal v at Cause.ClientFault ≡ []
silent None at = refl
silent (Some v) at = refl

-- a fault behind the call owes nothing more
fault-owes : (s : Speaking) (failed : Bool) (refused : Option Cause) → owes_of s (with_failure failed (first_cause refused None)) ≡ owes_of s (first_cause refused None)
fault-owes s false refused = refl
fault-owes s true None = ap (λ z. opening_owed (s.c ++ s.x) (chosen_behind s) None ++ z) (silent (version_of (s.c ++ s.x)) (refused_at (chosen_behind s) (s.c ++ s.x) Cause.ClientFault))
fault-owes s true (Some cause) = refl

-- a fault is no failed login
fault-unlogged : (failed : Bool) (refused : Option Cause) → is_login_failed refused ≡ false → is_login_failed (with_failure failed (first_cause refused None)) ≡ false
fault-unlogged true None h = refl
fault-unlogged false None h = refl
fault-unlogged true (Some cause) h = h
fault-unlogged false (Some cause) h = h

owes-alone : (s : Speaking) (ds : List Decision) (sent : List ℕ) (cause : Option Cause) → reached_at ds ≡ None → owed_c (asked s ds sent cause) ≡ owes_of s cause
owes-alone s ds sent cause unreached = ap (λ (at : Option Endpoint). plain_to_client (s.c ++ s.x) [] (chosen_behind s) at cause) unreached

plain-asked : (k : Asked) (outer : Outer) (ds : List Decision) (refused : Option Cause) (h : List Line) (marks : List StopBy) (sent : List ℕ) (cause : Option Cause) → CallIs k outer ds refused h marks
    → is_login_failed cause ≡ false → (is_some refused ≡ true → is_some cause ≡ true) → IsPrefix sent (owes_of k.said cause) → IsPlainRecord (k.said).users (asked k.said ds sent cause)
plain-asked k outer ds refused h marks sent cause m unlogged stands sent' = record {
  undone = refl;
  unclosed = refl;
  grams = refl;
  sent_u = refl;
  served = k.served;
  chosen' = k.chosen';
  failed = unlogged ∙ sym (ap is_failed_split k.whole);
  decided = m.decided sent cause stands;
  sent_c = subst (IsPrefix sent) (sym (owes-alone k.said ds sent cause m.unreached)) sent';
  sent_t = (owed_t (asked k.said ds sent cause), refl);
}

owes-asked : (k : Asked) (outer : Outer) (ds : List Decision) (refused : Option Cause) (h : List Line) (marks : List StopBy) (cause : Option Cause) → CallIs k outer ds refused h marks
    → is_login_failed cause ≡ false → (is_some refused ≡ true → is_some cause ≡ true)
    → owed_to_client (spoken_to k.said) (asked k.said ds (k.said).sent cause) ≡ owes_of k.said cause
owes-asked k outer ds refused h marks cause m unlogged stands =
    plain-owes-client (k.said).users (k.said).pubs (asked k.said ds (k.said).sent cause) (plain-asked k outer ds refused h marks (k.said).sent cause m unlogged stands (k.sent' cause unlogged)) (m.direct).direct
    ∙ owes-alone k.said ds (k.said).sent cause m.unreached

-- ---- the turn

abbrev pub ask_event : Speaking → Outer → ℕ → Bool → Bool → ℕ → NextMark → TurnEvent
ask_event s outer n full failed worker next = speak_event s worker (s.party).since (speak_acts s.x false outer n false full (fault_of failed) failed) next

-- what a turn that makes a call has sent
pub record AskSends (k : Asked) (refused : Option Cause) (y rest sent : List ℕ) (failed : Bool) : Type 0 where
  pub sent' : sent ≡ (k.said).sent ++ y
  pub all : ((k.said).sent ++ y) ++ rest ≡ owes_of k.said (first_cause refused None)
  pub left' : failed ≡ true → 0 < length rest

faults-as : (k : Asked) (ds : List Decision) (refused : Option Cause) (h : List Line) (marks : List StopBy) (failed : Bool)
    → with_fault (fault_of failed) failed (left_by k ds refused h marks).left ≡ Some (asked k.said ds (k.said).sent (with_failure failed (first_cause refused None)))
faults-as k ds refused h marks true = refl
faults-as k ds refused h marks false = refl

still-owes : (k : Asked) (outer : Outer) (ds : List Decision) (refused : Option Cause) (h : List Line) (marks : List StopBy) (failed : Bool) → CallIs k outer ds refused h marks
    → owed_to_client (spoken_to k.said) (asked k.said ds (k.said).sent (with_failure failed (first_cause refused None))) ≡ owes_of k.said (first_cause refused None)
still-owes k outer ds refused h marks failed m =
    owes-asked k outer ds refused h marks (with_failure failed (first_cause refused None)) m (fault-unlogged failed refused m.unlogged) (still-stands failed refused)
    ∙ fault-owes k.said failed refused

pub pending-middle : (a b c : Bool) → b ≡ true → a || b || c ≡ true
pending-middle true b c h = refl
pending-middle false true c h = refl
pending-middle false false c h = absurd (cc)

fits-as : (k : Asked) (outer : Outer) (ds : List Decision) (refused : Option Cause) (h : List Line) (marks : List StopBy) (y rest sent : List ℕ) (failed : Bool) → CallIs k outer ds refused h marks → AskSends k refused y rest sent failed
    → fault_fits (spoken_to k.said) (fault_of failed) failed (left_by k ds refused h marks).left ≡ true
fits-as k outer ds refused h marks y rest sent false m v = refl
fits-as k outer ds refused h marks y rest sent true m v =
    ap (λ b. b && may_write basis (asked k.said ds (k.said).sent (with_failure true (first_cause refused None))))
    (pending-middle (reads_in r (phase basis r) Object.Client) (has_pending basis r Object.Client) (may_be_shut basis r Object.Client)
    (ap (λ z. not (is_nothing (drop (length (k.said).sent) z))) (still-owes k outer ds refused h marks false m) ∙ ap not left-over))
    ∙ ap (λ b. b || has_pending basis (asked k.said ds (k.said).sent (with_failure true (first_cause refused None))) Object.Target)
    (ap (λ z. not (is_nothing (drop (length (k.said).sent) z))) (still-owes k outer ds refused h marks true m) ∙ ap not left-over)
  where
    basis : Basis
    basis = spoken_to k.said

    r : Record
    r = (left_by k ds refused h marks).left

    left-over : is_nothing (drop (length (k.said).sent) (owes_of k.said (first_cause refused None))) ≡ false
    left-over = still-left (k.said).sent y rest (owes_of k.said (first_cause refused None)) v.all (v.left' refl)

asks-on : (k : Asked) (outer : Outer) (ds : List Decision) (refused : Option Cause) (h : List Line) (marks : List StopBy) (y rest sent : List ℕ) (full failed : Bool) (worker : ℕ) → CallIs k outer ds refused h marks → AskSends k refused y rest sent failed
    → turn (spoken_in k.said) (ask_event k.said outer (length y) full failed worker NextMark.Again) (unspoken k.said)
    ≡ Some (marked NextMark.Again (record { left = asked k.said ds sent (with_failure failed (first_cause refused None)); h = h; marks = marks }))
asks-on k outer ds refused h marks y rest sent full failed worker m v =
    answers-call (spoken_in k.said) (unspoken k.said) e (spoken k.said) (left_by k ds refused h marks) d (record d { sent_c = sent }) NextMark.Again
    (record {
      going = record { undone = refl; unstopped = refl; going = refl };
      takes = k.takes (links full false);
      calls = inr m.called;
      faults = faults-as k ds refused h marks failed;
      sendings = record {
        c = sends (k.said).sent y sent rest (owed_to_client (spoken_to k.said) d) v.sent' (ap (λ z. z ++ rest) v.sent' ∙ (v.all ∙ sym (still-owes k outer ds refused h marks failed m)));
        t = record { bytes = []; now' = refl; count = refl; rest = owed_to_target (spoken_to k.said) d; owed' = refl };
        u = record { bytes = []; now' = refl; count = refl; rest = owed_datagrams (spoken_to k.said) d; owed' = refl };
      };
      shuts = refl;
    })
    m.called (fits-as k outer ds refused h marks y rest sent failed m v)
    (subst (λ (z : Record). answer_after (spoken_in k.said) e z Calling.Called ≡ Some NextMark.Again) (sym same)
    (ap (λ b. if is_some d.cause && not b then Some NextMark.Done else Some NextMark.Again) m.opened
    ∙ ap (λ b. if b then Some NextMark.Done else Some NextMark.Again) (and-false (is_some d.cause))))
    ∙ (λ i. Some (marked NextMark.Again (record { left = same i; h = h; marks = marks })))
  where
    d : Record
    d = asked k.said ds (k.said).sent (with_failure failed (first_cause refused None))

    e : TurnEvent
    e = ask_event k.said outer (length y) full failed worker NextMark.Going

    same : aged (spoken_to k.said) e (unspoken k.said) (record d { sent_c = sent }) ≡ record d { sent_c = sent }
    same = aged-same (spoken_to k.said) e (unspoken k.said) (record d { sent_c = sent }) refl

-- ---- from what the outside told

-- what is told of the client's link behind what it gave
pub record Arrives {L : Type 0} (told : L → Told) (counts : L → Counts) (k : Asked) (a : Assoc L) (client : L) : Type 0 where
  pub standing : Stands told (spoken_to k.said) (with_state a (unspoken k.said))
  pub told' : told client ≡ record (told a.client) { given = more (told a.client).given (k.said).x; ended = false || (told a.client).ended }
  pub later : Later (counts a.client) (counts client)
  pub tried : Tried (counts a.client) (counts client) ((k.said).x ≡ []) (Unit {0}) (Unit {0}) None
  pub first : GivesFirst (told client)

-- why the write stopped
pub record AskEnds (told : Told) (counts counts' : Counts) (rest : List ℕ) (full failed : Bool) : Type 0 where
  pub full' : full ≡ true → (0 < length rest) × IsFull told × Rose counts.idle_writes counts'.idle_writes
  pub failed' : failed ≡ true → (0 < length rest) × (told.unfailing ≡ false) × Rose counts.faults counts'.faults

pub ask-ends : (told : Told) (counts counts' : Counts) (rest : List ℕ) (outcome : Sent) → SendEnds told counts counts' rest outcome → AskEnds told counts counts' rest (is_full outcome) (is_failed outcome)
ask-ends told counts counts' rest Sent.All h = record { full' = λ e. absurd (cc); failed' = λ e. absurd (cc) }
ask-ends told counts counts' rest Sent.Full h = record { full' = λ e. h; failed' = λ e. absurd (cc) }
ask-ends told counts counts' rest Sent.Failed h = record { full' = λ e. absurd (cc); failed' = λ e. h }

pub no-fault : (failed : Bool) → (failed ≡ true → ⊥) → (fault_of failed ≡ None) × (failed ≡ false)
no-fault true h = absurd (h refl)
no-fault false h = (refl, refl)

pub fault-sending : (outcome : Sent) → FaultIs (fault_of (is_failed outcome)) (failed_sending outcome) None
fault-sending Sent.All = (refl, refl)
fault-sending Sent.Full = (refl, refl)
fault-sending Sent.Failed = refl

-- a write that failed left something
pub leaves-of : (outcome : Sent) (rest : List ℕ) → (is_failed outcome ≡ true → 0 < length rest) → LeavesOf rest (failed_sending outcome)
leaves-of Sent.All rest h = tt
leaves-of Sent.Full rest h = tt
leaves-of Sent.Failed rest h = (refl, h refl)

pub unwritten-sending : (outcome : Sent) → is_failed outcome ≡ is_write (failed_sending outcome)
unwritten-sending Sent.All = refl
unwritten-sending Sent.Full = refl
unwritten-sending Sent.Failed = refl

pub has-failed : (failed : Bool) → fault_of failed ≡ Some Object.Client → failed ≡ true
has-failed true h = refl
has-failed false h = cc

pub asks-turn : {L : Type 0} (told : L → Told) (counts : L → Counts) (stands : List Line → List StopBy → Type 0) (k : Asked) (outer : Outer) (ds : List Decision) (refused : Option Cause) (h : List Line) (marks : List StopBy)
    (net net' : NetTold) (a b : Assoc L) (next : Next L) → CallIs k outer ds refused h marks → Arrives told counts k a b.client → b.target ≡ a.target
    → b.state ≡ asked k.said ds (k.said).sent (first_cause refused None) → WritesOn told counts b next → stands h marks
    → ((there : Bool) → CallsOut net net' k.meets outer there)
    → Turns told counts stands (spoken_in k.said) ((k.said).party).since net net' (with_state a (unspoken k.said)) next
asks-turn {L = L} told counts stands k outer ds refused h marks net net' a b next m j target' b-is w desk calls =
    subst (λ (n : Next L). Turns told counts stands (spoken_in k.said) ((k.said).party).since net net' (with_state a (unspoken k.said)) n) (sym next')
    (turns-called told counts stands k.said ((k.said).party).since net net' a (Next.Again z) sends'.bytes false outer false full (fault_of failed) failed j.standing (record {
      result = marked NextMark.Again (record { left = asked k.said ds w.sent (with_failure failed (first_cause refused None)); h = h; marks = marks });
      lawful = λ worker. asks-on k outer ds refused h marks sends'.bytes sends'.rest w.sent full failed worker m sendings;
      state' = refl;
      desk' = desk;
      goes_on = plain-asked k outer ds refused h marks w.sent (with_failure failed (first_cause refused None)) m (fault-unlogged failed refused m.unlogged) (still-stands failed refused)
          (sends'.rest, owed-now ∙ sym (fault-owes k.said failed refused));
      direct' = m.direct;
      c' = refl;
      sent' = sends'.after';
      end_c' = refl;
      shut_c' = refl;
      side = record { at = m.unreached ∙ sym k.unreached; t = refl; sent_t = refl; end_t = refl; shut_t = refl };
      since' = refl;
      number' = refl;
      told' = told-sent (told a.client) (told b.client) (told w.client) (k.said).x sends'.bytes false j.told' sends'.told';
      stuck = λ e1. sends'.stuck (ap (λ (z : Told). z.room) j.told' ∙ e1);
      target' = target';
      at_end = λ e1. absurd (cc);
      first = subst GivesFirst (sym sends'.told') j.first;
      behind = spoken k.said;
      takes = k.takes (links full false);
      open' = spoken k.said;
      takes_open = k.takes (links full false);
      unread_t = ap (reads_target (spoken k.said)) k.is ∙ k.unread_t;
      stops_c = StopsReading.unread (ap (reads_client (spoken_to k.said) [] (links full false) (spoken k.said)) k.is ∙ k.unread_c (links full false));
      talks = λ e1. absurd (cc);
      short = λ e1. absurd (cc);
      idle_c = λ e1. absurd (cc);
      full_c = λ e1. (
        (ends.full' e1).1,
        rose-before _ _ _ (j.later).idle_writes (ends.full' e1).2,
        short w.sent sends'.rest _ (owed-now ∙ (sym (fault-owes k.said failed refused) ∙ sym (owes-alone k.said ds w.sent (with_failure failed (first_cause refused None)) m.unreached))) (ends.full' e1).0,
      );
      failed = failed_sending w.outcome;
      tried = tried-on j.tried (sent-tried (told b.client) (told w.client) (counts b.client) (counts w.client) (k.said).sent w.sent _ w.outcome sends') (λ x y. (x, refl, refl)) (λ x y. y) (λ x y. tt);
      where_c = where-written (spoken_to k.said) (spoken k.said) (asked k.said ds w.sent (with_failure failed (first_cause refused None))) Object.Client (failed_sending w.outcome) sends'.rest
          (leaves-of w.outcome sends'.rest (λ e1. (ends.failed' e1).0)) (left-over w.sent sends'.rest _ _ (still-owes k outer ds refused h marks failed m) owed-now);
      fault_is = fault-sending w.outcome;
      unwritten_is = unwritten-sending w.outcome;
      fails_c = λ e1. rose-before _ _ _ (j.later).faults (ends.failed' (has-failed failed e1)).2;
      unfailing = λ e1. no-fault failed (λ e2. clash e1 (ends.failed' e2).1);
    })
    (subst (λ (p : Phase). CallsOut net net' p outer (is_some (reached_at ds))) (sym k.is) (calls (is_some (reached_at ds)))))
  where
    full : Bool
    full = is_full w.outcome

    failed : Bool
    failed = is_failed w.outcome

    z : Assoc L
    z = record { state = asked k.said ds w.sent (with_failure failed (first_cause refused None)); client = w.client; target = b.target }

    next' : next ≡ Next.Again z
    next' = w.next' ∙ ap (λ (r : Record). Next.Again (record { state = (let x = r in record x { sent_c = w.sent; cause = with_failure failed x.cause }); client = w.client; target = b.target })) b-is

    sends' : Sends (told b.client) (told w.client) (counts b.client) (counts w.client) (k.said).sent w.sent (drop (length (k.said).sent) (owed_c (asked k.said ds (k.said).sent (first_cause refused None)))) w.outcome
    sends' = subst (λ (r : Record). Sends (told b.client) (told w.client) (counts b.client) (counts w.client) r.sent_c w.sent (drop (length r.sent_c) (owed_c r)) w.outcome) b-is w.sends

    ends : AskEnds (told w.client) (counts b.client) (counts w.client) sends'.rest full failed
    ends = ask-ends (told w.client) (counts b.client) (counts w.client) sends'.rest w.outcome sends'.ends

    all : ((k.said).sent ++ sends'.bytes) ++ sends'.rest ≡ owes_of k.said (first_cause refused None)
    all = all-owed (k.said).sent sends'.bytes sends'.rest _ (k.sent' (first_cause refused None) (fault-unlogged false refused m.unlogged))
        (sends'.pending' ∙ ap (drop (length (k.said).sent)) (owes-alone k.said ds (k.said).sent (first_cause refused None) m.unreached))

    owed-now : w.sent ++ sends'.rest ≡ owes_of k.said (first_cause refused None)
    owed-now = ap (λ z. z ++ sends'.rest) sends'.after' ∙ all

    sendings : AskSends k refused sends'.bytes sends'.rest w.sent failed
    sendings = record { sent' = sends'.after'; all = all; left' = λ e1. (ends.failed' e1).0 }

    clash : (told a.client).unfailing ≡ true → (told w.client).unfailing ≡ false → ⊥
    clash e1 e2 = let e3 : (told w.client).unfailing ≡ (told a.client).unfailing = ap (λ (z : Told). z.unfailing) sends'.told' ∙ ap (λ (z : Told). z.unfailing) j.told' in cc
