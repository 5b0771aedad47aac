-- The turns in which a client is answered, and has nothing more to say yet.
use Rattle.std.proofs.Common.{◌≡◌, ℕ, zero, suc, ◌<◌, ◌-◌, Bool, true, false, ◌&&◌, ◌||◌, not, ◌==◌, nat_le, Some, None, List, [], ◌∷◌, ◌++◌, length, drop, refl, sym, ap, subst, ◌∙◌, inr, append_assoc, arith, Option, append-nil}
use Rattle.std.proofs.lemmas.Bool.{lt-leb}
use Rattle.std.proofs.Math.Seq.{drop-append_seam}
use mathlib.Core.List.{IsPrefix}
use Rattle.conf_types.specs.declared.entries.Entries.{Entries}
use Rattle.socks_grammar.specs.declared.user.User.{User}
use Rattle.socks_grammar.specs.Handshake.{Split}
use Rattle.net_ends.specs.Counts.{Counts, Rose}
use Rattle.net_ends.specs.Faults.{Tried}
use Rattle.net_ends.specs.declared.kinds.Kind.{Kind}
use Rattle.net_ends.specs.Nets.{NetTold}
use Rattle.net_ends.specs.Told.{Told, more}
use Rattle.socks_machine.specs.declared.cause.Cause.{Cause}
use Rattle.socks_machine.specs.declared.cause.StopBy.{StopBy}
use Rattle.socks_machine.specs.declared.lines.Line.{Line}
use Rattle.socks_machine.specs.declared.record.Record.{Record}
use Rattle.socks_machine.specs.declared.world.NextMark.{NextMark}
use Rattle.socks_machine.specs.declared.world.Object.{Object}
use Rattle.socks_machine.specs.declared.world.TurnEvent.{TurnEvent}
use Rattle.socks_machine.specs.Calls.{keep, is_calling}
use Rattle.socks_machine.specs.InTurn.{Reading, Takes}
use Rattle.socks_machine.specs.Owed.{owed_to_client, pending_to_client}
use Rattle.socks_machine.specs.Phase.{Phase, phase, is_udp}
use Rattle.socks_machine.specs.Settle.{is_nothing}
use Rattle.socks_machine.specs.Socks.{socks}
use Rattle.socks_machine.specs.Taking.{reads_target, holds}
use Rattle.socks_machine.specs.Turn.{turn, quantum, marked, took_quantum, rests, rests_in, reads_in, has_pending, may_be_shut, may_write}
use Rattle.socks_machine.proofs.ActLaws.{still-open}
use Rattle.socks_machine.proofs.WaitLaws.{waits}
use Rattle.assoc_core.specs.declared.assoc.Assoc.{Assoc}
use Rattle.assoc_core.specs.declared.assoc.Ended.{Ended}
use Rattle.assoc_core.specs.declared.assoc.Next.{Next}
use Rattle.assoc_core.specs.declared.hear.Heard.{Heard}
use Rattle.assoc_core.specs.declared.send.Sent.{Sent}
use Rattle.assoc_core.specs.Closing.{Closed}
use Rattle.assoc_core.specs.Hearing.{HasHeard}
use Rattle.assoc_core.specs.Plain.{IsPlainRecord, owed_c, is_failed_split}
use Rattle.assoc_core.specs.Sending.{Sends, SendEnds, failed_sending, is_full}
use Rattle.assoc_core.specs.Stands.{GivesFirst}
use Rattle.assoc_core.specs.Turns.{Turns, StopsReading, links, context, IsIdle, IsFull, is_write, FailsWhere}
use Rattle.assoc_core.proofs.LinksHeld.{short}
use Rattle.assoc_core.proofs.Sendings.{rose-before, rose-after}
use Rattle.assoc_core.proofs.PlainRecords.{and-false}
use Rattle.assoc_core.proofs.Talking.{Hearing, heard_takings, basis_of, context_of, before, heard, split_heard, takes-open, settled-more, heard-nothing, phase-more}
use Rattle.assoc_core.proofs.TalkTurns.{turns-talked, talk_acts, talk_event, heard_told}
use Rattle.assoc_core.proofs.TalkCloses.{turns-closed, caused, talk-stages}
use Rattle.assoc_core.proofs.Tryings.{added-none, tried-as, tried-on}
use Rattle.assoc_core.proofs.HeardTurns.{Fits, hearing_of, behind-is, heard-as, heard-tried, stands-before, turns-before, owes_now, owes-caused, owes-fault, plain-caused, first-sent}

-- ---- what was sent

pub drop-back : (sent owed : List ℕ) → IsPrefix sent owed → sent ++ drop (length sent) owed ≡ owed
drop-back sent owed p = ap (λ z. sent ++ drop (length sent) z) (sym p.1) ∙ (ap (λ z. sent ++ z) (drop-append_seam sent p.0) ∙ p.1)

pub all-owed : (sent y rest owed : List ℕ) → IsPrefix sent owed → y ++ rest ≡ drop (length sent) owed → (sent ++ y) ++ rest ≡ owed
all-owed sent y rest owed p e = append_assoc sent y rest ∙ (ap (λ z. sent ++ z) e ∙ drop-back sent owed p)

pub nothing-left : (sent owed : List ℕ) → sent ++ [] ≡ owed → is_nothing (drop (length sent) owed) ≡ true
nothing-left sent owed e = ap (λ z. is_nothing (drop (length sent) z)) (sym e) ∙ ap is_nothing (drop-append_seam sent [])

some-left : (y rest : List ℕ) → 0 < length rest → is_nothing (y ++ rest) ≡ false
some-left [] [] h = absurd (omega arith)
some-left [] (b ∷ rest) h = refl
some-left (b ∷ y) rest h = refl

pub still-left : (sent y rest owed : List ℕ) → (sent ++ y) ++ rest ≡ owed → 0 < length rest → is_nothing (drop (length sent) owed) ≡ false
still-left sent y rest owed e some =
    ap (λ z. is_nothing (drop (length sent) z)) (sym e ∙ append_assoc sent y rest)
    ∙ (ap is_nothing (drop-append_seam sent (y ++ rest)) ∙ some-left y rest some)

pub told-sent : (old mid new : Told) (x y : List ℕ) (ends : Bool) → mid ≡ record old { given = more old.given x; ended = ends || old.ended } → new ≡ record mid { taken = more mid.taken y }
    → new ≡ heard_told old x y ends
told-sent old mid new x y ends h k = k ∙ ap (λ (z : Told). let u : Told = record z { taken = more z.taken y } in u) h

-- where writes are due to fail nothing was sent
pub sent-tried : (old new : Told) (counts counts' : Counts) (before after pending : List ℕ) (outcome : Sent) → (h : Sends old new counts counts' before after pending outcome)
    → Tried counts counts' (Unit {0}) ((h.bytes ≡ []) × (is_full outcome ≡ false)) (Unit {0}) (failed_sending outcome)
sent-tried old new counts counts' before after pending outcome h = tried-as h.tried (λ x. tt) (λ x. (added-none before after h.bytes h.after' x.0, x.1)) (λ x. tt)

-- ---- nothing is late

undue : (m n : ℕ) → not (m == 0) && nat_le m (n - n) ≡ false
undue zero n = refl
undue (suc m) n = ap (λ b. not (suc m == 0) && b) (lt-leb (suc m) (n - n) (omega arith)) ∙ and-false (not (suc m == 0))

pub or-true : (b : Bool) → b || true ≡ true
or-true true = refl
or-true false = refl

-- ---- it waits

abbrev pub answering : Hearing → List ℕ → Bool → ℕ → TurnEvent
answering t y full worker = talk_event t worker (t.party).since (talk_acts t.x false None (length y) true full None false) NextMark.Going

reads-on : (t : Hearing) (y rest sent : List ℕ) (full : Bool) (worker : ℕ) → split_heard t ≡ Split.More → sent ≡ t.sent ++ y → sent ++ rest ≡ owed_to_client (basis_of t) (heard t)
    → Reading (context_of t) (before t) (answering t y full worker) (heard t) (caused t sent false None)
reads-on t y rest sent full worker more e1 e2 =
    let k = talk-stages t y false true full None false worker (t.party).since (heard t) (heard t) rest sent takes refl refl refl refl e1 e2 in
    record {
      going = k.going;
      calm = record { uncalled = refl; unfailed = refl; written = refl; remembers = refl };
      takes = k.takes;
      sendings = k.sendings;
      shuts = record { still = still-open (basis_of t) false false (caused t sent false None) refl refl; is = refl; apart = refl };
    }
  where
    takes : Takes (basis_of t) t.generation (t.config).methods (heard_takings t false (links true false) (links full false)) (before t) (heard t)
    takes = takes-open t (links true false) (links full false) (heard t) (settled-more t more) (heard-nothing t)

sinks-rest : (t : Hearing) (sent rest : List ℕ) (full : Bool) → sent ++ rest ≡ owed_to_client (basis_of t) (heard t) → (full ≡ false → rest ≡ [])
    → is_nothing (pending_to_client (basis_of t) (caused t sent false None)) || holds Object.Client (links full false) ≡ true
sinks-rest t sent rest true e none = or-true (is_nothing (pending_to_client (basis_of t) (caused t sent false None)))
sinks-rest t sent rest false e none =
    ap (λ b. b || false) (nothing-left sent (owed_to_client (basis_of t) (heard t)) (ap (λ z. sent ++ z) (sym (none refl)) ∙ e))

waits-on : (t : Hearing) (y rest sent : List ℕ) (full : Bool) (worker : ℕ) → split_heard t ≡ Split.More → sent ≡ t.sent ++ y → sent ++ rest ≡ owed_to_client (basis_of t) (heard t) → (full ≡ false → rest ≡ [])
    → turn (context_of t) (talk_event t worker (t.party).since (talk_acts t.x false None (length y) true full None false) NextMark.Wait) (before t)
    ≡ Some (marked NextMark.Wait (keep (context_of t) (caused t sent false None)))
waits-on t y rest sent full worker more e1 e2 none =
    waits (context_of t) (before t) (answering t y full worker) (heard t) (caused t sent false None) (reads-on t y rest sent full worker more e1 e2) refl took resting
    (undue (t.config).negotiate (t.party).since)
  where
    took : took_quantum (answering t y full worker) ≡ false
    took = ap (λ b. b || false || false) (lt-leb quantum (length t.x) t.few)

    resting : rests (basis_of t) (answering t y full worker) (caused t sent false None) ≡ true
    resting =
        ap (λ b. not b && rests_in (basis_of t) (answering t y full worker) (caused t sent false None) (phase (basis_of t) (caused t sent false None))) took
        ∙ (ap (rests_in (basis_of t) (answering t y full worker) (caused t sent false None)) (phase-more t sent false more)
        ∙ ap (λ b. not false && true && (b && true) && true) (sinks-rest t sent rest full e2 none))

-- the link with what it took
abbrev pub with_link : {L : Type 0} → Assoc L → Record → L → Assoc L
with_link b r client = record { state = r; client = client; target = b.target }

pub waits-for : {L : Type 0} (told : L → Told) (counts : L → Counts) (stands : List Line → List StopBy → Type 0) (users : List User) (pubs : List Entries) (generation : ℕ) (config : Entries) (most : ℕ) (h : List Line) (marks : List StopBy)
    (now : ℕ) (net : NetTold) (a b : Assoc L) (client : L) (s : Record) (full : Bool) (outcome : Sent) → HasHeard told counts (socks users pubs) generation config a b None Heard.NotYet → (a.state).since ≡ now → stands h marks
    → s ≡ (let r = b.state in record r { sent_c = s.sent_c })
    → Sends (told b.client) (told client) (counts b.client) (counts client) (b.state).sent_c s.sent_c (drop (length (b.state).sent_c) (owed_c b.state)) outcome
    → (is_full outcome ≡ full) × (failed_sending outcome ≡ None)
    → ((rest : List ℕ) → SendEnds (told client) (counts b.client) (counts client) rest outcome → (full ≡ false → rest ≡ []) × (full ≡ true → (0 < length rest) × IsFull (told client) × Rose (counts b.client).idle_writes (counts client).idle_writes))
    → Turns told counts stands (context users pubs generation config most h marks) now net net a (Next.Wait (with_link b s client))
waits-for told counts stands users pubs generation config most h marks now net a b client s full outcome k since desk state' sends goes by =
    turns-before told counts stands users pubs generation config most h marks now net a b Heard.NotYet (Next.Wait (with_link b s client)) k since
    (turns-talked told counts stands t (t.party).since net a (Next.Wait (with_link b s client)) sends'.bytes false None true full None false
    (stands-before told counts users pubs generation config most h marks a b Heard.NotYet k) (record {
      result = marked NextMark.Wait (keep (context_of t) (caused t s.sent_c false None));
      lawful = λ worker. waits-on t sends'.bytes sends'.rest s.sent_c full worker more sends'.after' owed' (by sends'.rest sends'.ends).0;
      state' = is;
      desk' = desk;
      goes_on = subst (IsPlainRecord users) (sym is) (plain-caused t s.sent_c false None (λ e. (refl, more)) agrees (sends'.rest, owed-plain));
      direct' = record { direct = refl; known = tt; connects = refl };
      c' = refl;
      sent' = sends'.after';
      end_c' = refl;
      shut_c' = refl;
      side = record { at = refl; t = refl; sent_t = refl; end_t = refl; shut_t = refl };
      since' = refl;
      number' = refl;
      told' = told-sent (told a.client) (told b.client) (told client) t.x sends'.bytes false (k.hears).told' sends'.told';
      stuck = λ e1. sends'.stuck (ap (λ (z : Told). z.room) (k.hears).told' ∙ e1);
      target' = k.target';
      at_end = λ e1. absurd (cc);
      first = subst GivesFirst (sym sends'.told') ((k.hears).first (k.stands).client_first);
      behind = heard t;
      takes = takes-open t (links true false) (links full false) (heard t) (settled-more t more) (heard-nothing t);
      open' = heard t;
      takes_open = takes-open t (links true false) (links full false) (heard t) (settled-more t more) (heard-nothing t);
      unread_t = ap (reads_target (heard t)) (phase-more t t.sent false more);
      stops_c = StopsReading.rested refl;
      talks = λ e1. absurd (cc);
      short = λ e1. absurd (cc);
      idle_c = λ e1. (subst IsIdle (sym sends'.told') (k.hears).ends.0, rose-after _ _ _ (k.hears).ends.1 (sends'.later).idle_reads);
      full_c = λ e1. (
        ((by sends'.rest sends'.ends).1 e1).1,
        rose-before _ _ _ ((k.hears).later).idle_writes ((by sends'.rest sends'.ends).1 e1).2,
        short s.sent_c sends'.rest (owes_now t None) owed-plain ((by sends'.rest sends'.ends).1 e1).0,
      );
      failed = failed_sending outcome;
      tried = tried-on (heard-tried (told a.client) (told b.client) (counts a.client) (counts b.client) (a.state).c (b.state).c Heard.NotYet k.hears)
          (sent-tried (told b.client) (told client) (counts b.client) (counts client) t.sent s.sent_c _ outcome sends') (λ x y. x) (λ x y. (y.0, sym goes.0 ∙ y.1)) (λ x y. tt);
      where_c = subst (λ (f : Option Kind). FailsWhere (basis_of t) (heard t) (caused t s.sent_c false None) Object.Client f) (sym goes.1) tt;
      fault_is = (goes.1, refl);
      unwritten_is = sym (ap is_write goes.1);
      fails_c = λ e1. absurd (cc);
      unfailing = λ e1. (refl, refl);
    }))
  where
    t : Hearing
    t = hearing_of told counts users pubs generation config most h marks a b Heard.NotYet k

    more : split_heard t ≡ Split.More
    more = heard-as told counts users pubs generation config most h marks a b Heard.NotYet k

    agrees : Fits t None
    agrees = sym (ap is_failed_split more)

    is' : b.state ≡ heard t
    is' = behind-is told counts users pubs generation config most h marks a b Heard.NotYet k

    is : s ≡ caused t s.sent_c false None
    is = state' ∙ ap (λ (r : Record). let z : Record = record r { sent_c = s.sent_c } in z) is'

    sends' : Sends (told b.client) (told client) (counts b.client) (counts client) t.sent s.sent_c (drop (length t.sent) (owed_c (heard t))) outcome
    sends' = subst (λ (r : Record). Sends (told b.client) (told client) (counts b.client) (counts client) r.sent_c s.sent_c (drop (length r.sent_c) (owed_c r)) outcome) is' sends

    owed-plain : s.sent_c ++ sends'.rest ≡ owes_now t None
    owed-plain = ap (λ z. z ++ sends'.rest) sends'.after' ∙ all-owed t.sent sends'.bytes sends'.rest (owes_now t None) (first-sent t None agrees) sends'.pending'

    owed' : s.sent_c ++ sends'.rest ≡ owed_to_client (basis_of t) (heard t)
    owed' = owed-plain ∙ sym (owes-caused t t.sent false None agrees)

-- ---- the write has failed

pub writes-fail : {L : Type 0} (told : L → Told) (counts : L → Counts) (stands : List Line → List StopBy → Type 0) (users : List User) (pubs : List Entries) (generation : ℕ) (config : Entries) (most : ℕ) (h : List Line) (marks : List StopBy)
    (now : ℕ) (net : NetTold) (a b : Assoc L) (client : L) (s : Record) (e : Ended L) → HasHeard told counts (socks users pubs) generation config a b None Heard.NotYet → (a.state).since ≡ now
    → s ≡ (let r = b.state in record r { sent_c = s.sent_c })
    → Sends (told b.client) (told client) (counts b.client) (counts client) (b.state).sent_c s.sent_c (drop (length (b.state).sent_c) (owed_c b.state)) Sent.Failed
    → (is_udp s ≡ false → Closed stands h marks Cause.ClientFault (with_link b s client) e)
    → Turns told counts stands (context users pubs generation config most h marks) now net net a (Next.Done e)
writes-fail told counts stands users pubs generation config most h marks now net a b client s e k since state' sends closed =
    turns-before told counts stands users pubs generation config most h marks now net a b Heard.NotYet (Next.Done e) k since
    (turns-closed told counts stands t net a (with_link b s client) e sends'.bytes s.sent_c false true (Some Object.Client) true Cause.ClientFault
    (stands-before told counts users pubs generation config most h marks a b Heard.NotYet k) (record {
      closed = closed (ap is_udp is);
      state' = is;
      target' = k.target';
      told' = told-sent (told a.client) (told b.client) (told client) t.x sends'.bytes false (k.hears).told' sends'.told';
      sent' = sends'.after';
      stuck = λ e1. sends'.stuck (ap (λ (z : Told). z.room) (k.hears).told' ∙ e1);
      behind = heard t;
      takes = takes-open t (links true false) [] (heard t) (settled-more t more) (heard-nothing t);
      open' = heard t;
      takes_open = takes-open t (links true false) [] (heard t) (settled-more t more) (heard-nothing t);
      uncalling = ap (λ (p : Phase). is_calling p None) talks;
      unread_t = ap (reads_target (heard t)) talks;
      stops_c = StopsReading.rested refl;
      talks = λ e1. absurd (cc);
      short = λ e1. absurd (cc);
      faults = refl;
      fits = fits;
      rest = sends'.rest;
      owed' = owed';
      due = inr (inr refl);
      at_end = λ e1. absurd (cc);
      first = subst GivesFirst (sym sends'.told') ((k.hears).first (k.stands).client_first);
      idle_c = λ e1. (subst IsIdle (sym sends'.told') (k.hears).ends.0, rose-after _ _ _ (k.hears).ends.1 (sends'.later).idle_reads);
      failed = Some Kind.Write;
      tried = tried-on (heard-tried (told a.client) (told b.client) (counts a.client) (counts b.client) (a.state).c (b.state).c Heard.NotYet k.hears)
          (sent-tried (told b.client) (told client) (counts b.client) (counts client) t.sent s.sent_c _ Sent.Failed sends') (λ x y. x) (λ x y. y.0) (λ x y. tt);
      where_c = ap (λ z. not (is_nothing (drop (length s.sent_c) z))) (owes-fault t s.sent_c agrees) ∙ ap not (still-left s.sent_c [] sends'.rest (owes_now t None) (ap (λ z. z ++ sends'.rest) (append-nil s.sent_c ∙ sends'.after') ∙ owed-plain) (sends'.ends).0);
      fault_is = refl;
      unwritten_is = refl;
      fails_c = λ e1. rose-before _ _ _ ((k.hears).later).faults (sends'.ends).2;
      unfailing = λ e1. absurd (clash e1 (sends'.ends).1);
    }))
  where
    t : Hearing
    t = hearing_of told counts users pubs generation config most h marks a b Heard.NotYet k

    more : split_heard t ≡ Split.More
    more = heard-as told counts users pubs generation config most h marks a b Heard.NotYet k

    agrees : Fits t None
    agrees = sym (ap is_failed_split more)

    is' : b.state ≡ heard t
    is' = behind-is told counts users pubs generation config most h marks a b Heard.NotYet k

    is : s ≡ caused t s.sent_c false None
    is = state' ∙ ap (λ (r : Record). let z : Record = record r { sent_c = s.sent_c } in z) is'

    talks : phase (basis_of t) (heard t) ≡ Phase.Talk
    talks = phase-more t t.sent false more

    sends' : Sends (told b.client) (told client) (counts b.client) (counts client) t.sent s.sent_c (drop (length t.sent) (owed_c (heard t))) Sent.Failed
    sends' = subst (λ (r : Record). Sends (told b.client) (told client) (counts b.client) (counts client) r.sent_c s.sent_c (drop (length r.sent_c) (owed_c r)) Sent.Failed) is' sends

    owed-plain : (t.sent ++ sends'.bytes) ++ sends'.rest ≡ owes_now t None
    owed-plain = all-owed t.sent sends'.bytes sends'.rest (owes_now t None) (first-sent t None agrees) sends'.pending'

    owed' : s.sent_c ++ sends'.rest ≡ owed_to_client (basis_of t) (caused t t.sent false (Some Cause.ClientFault))
    owed' = ap (λ z. z ++ sends'.rest) sends'.after' ∙ (owed-plain ∙ sym (owes-fault t t.sent agrees))

    pending : has_pending (basis_of t) (caused t t.sent false (Some Cause.ClientFault)) Object.Client ≡ true
    pending = ap (λ z. not (is_nothing (drop (length t.sent) z))) (owes-fault t t.sent agrees) ∙ ap not (still-left t.sent sends'.bytes sends'.rest (owes_now t None) owed-plain (sends'.ends).0)

    fits : (reads_in (heard t) (phase (basis_of t) (heard t)) Object.Client || has_pending (basis_of t) (heard t) Object.Client || may_be_shut (basis_of t) (heard t) Object.Client)
        && (false || may_write (basis_of t) (caused t t.sent false (Some Cause.ClientFault))) ≡ true
    fits =
        ap (λ (p : Phase). (reads_in (heard t) p Object.Client || has_pending (basis_of t) (heard t) Object.Client || may_be_shut (basis_of t) (heard t) Object.Client)
        && may_write (basis_of t) (caused t t.sent false (Some Cause.ClientFault))) talks
        ∙ ap (λ b. b || has_pending (basis_of t) (caused t t.sent false (Some Cause.ClientFault)) Object.Target) pending

    clash : (told a.client).unfailing ≡ true → (told client).unfailing ≡ false → ⊥
    clash e1 e2 = let e3 : (told client).unfailing ≡ (told a.client).unfailing = ap (λ (z : Told). z.unfailing) sends'.told' ∙ ap (λ (z : Told). z.unfailing) (k.hears).told' in cc
