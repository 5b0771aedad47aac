-- The turns in which a client that talks is closed.
use Rattle.std.proofs.Common.{◌≡◌, ℕ, ◌<◌, Bool, true, false, ◌&&◌, ◌||◌, ◌⊎◌, Option, Some, None, List, [], ◌++◌, length, refl, sym, ap, subst, ◌∙◌, inl, inr}
use Rattle.std.proofs.lemmas.List.{append-nil}
use Rattle.net_ends.specs.Counts.{Counts, Rose}
use Rattle.net_ends.specs.Faults.{Tried}
use Rattle.net_ends.specs.declared.kinds.Kind.{Kind}
use Rattle.net_ends.specs.Nets.{NetTold}
use Rattle.net_ends.specs.Told.{Told}
use Rattle.socks_machine.specs.declared.cause.Cause.{Cause}
use Rattle.socks_machine.specs.declared.cause.StopBy.{StopBy}
use Rattle.socks_machine.specs.declared.lines.Line.{Line}
use Rattle.socks_machine.specs.declared.record.Record.{Record}
use Rattle.socks_machine.specs.declared.world.NextMark.{NextMark}
use Rattle.socks_machine.specs.declared.world.Object.{Object}
use Rattle.socks_machine.specs.declared.world.TurnEvent.{TurnEvent}
use Rattle.socks_machine.specs.Calls.{keep, is_calling, call_close, close_line, cause_of_shut}
use Rattle.socks_machine.specs.History.{at_close}
use Rattle.socks_machine.specs.InTurn.{Takes, Sends, InTurn}
use Rattle.socks_machine.specs.Owed.{owed_to_client, owed_to_target}
use Rattle.socks_machine.specs.Datagrams.{owed_datagrams}
use Rattle.socks_machine.specs.Phase.{Phase, phase, is_udp}
use Rattle.socks_machine.specs.Taking.{reads_client, reads_target}
use Rattle.socks_machine.specs.Turn.{quantum, with_fault, fault_fits, close_is_due, marked, nothing_pending, is_quiet, rests, is_late}
use Rattle.socks_machine.proofs.CallLaws.{closes}
use Rattle.assoc_core.specs.declared.assoc.Assoc.{Assoc}
use Rattle.assoc_core.specs.declared.assoc.Ended.{Ended}
use Rattle.assoc_core.specs.declared.assoc.Next.{Next}
use Rattle.assoc_core.specs.Closing.{Closed}
use Rattle.assoc_core.specs.Hearing.{IsAtEnd}
use Rattle.assoc_core.specs.Stands.{Stands, GivesFirst}
use Rattle.assoc_core.specs.Turns.{Turns, FaultIs, links, StopsReading, IsIdle, is_write, FailsWhere}
use Rattle.assoc_core.proofs.Tryings.{tried-as}
use Rattle.assoc_core.proofs.Talking.{Hearing, talker, basis_of, context_of, before, heard_takings, answered, let_in}
use Rattle.assoc_core.proofs.TalkTurns.{turns-talked, talk_acts, talk_event, heard_told, with_state}

-- ---- its stages

-- what was sent of what is owed
pub sends : {A : Type 0} (was bytes now rest owed : List A) → now ≡ was ++ bytes → now ++ rest ≡ owed → Sends was (length bytes) now owed
sends was bytes now rest owed e1 e2 = record { bytes = bytes; now' = e1; count = refl; rest = rest; owed' = e2 }

abbrev pub closing_acts : Hearing → List ℕ → Bool → Bool → Option Object → Bool → ℕ → ℕ → TurnEvent
closing_acts t y ends idle fault unwritten worker now = talk_event t worker now (talk_acts t.x ends None (length y) idle false fault unwritten) NextMark.Going

-- a turn that has called nothing: a is behind its takings
pub talk-stages : (t : Hearing) (y : List ℕ) (ends idle full : Bool) (fault : Option Object) (unwritten : Bool) (worker now : ℕ) (a d : Record) (rest sent : List ℕ)
    → Takes (basis_of t) t.generation (t.config).methods (heard_takings t ends (links idle false) (links full false)) (before t) a
    → with_fault fault unwritten a ≡ Some d → d.sent_c ≡ t.sent → d.sent_t ≡ [] → d.sent_u ≡ [] → sent ≡ t.sent ++ y → sent ++ rest ≡ owed_to_client (basis_of t) d
    → InTurn (context_of t) (before t) (talk_event t worker now (talk_acts t.x ends None (length y) idle full fault unwritten) NextMark.Going) a (keep (context_of t) a) d (record d { sent_c = sent })
talk-stages t y ends idle full fault unwritten worker now a d rest sent takes faults was was_t was_u e1 e2 = record {
  going = record { undone = refl; unstopped = refl; going = refl };
  takes = takes;
  calls = inl (refl, refl);
  faults = faults;
  sendings = record {
    c = sends d.sent_c y sent rest (owed_to_client (basis_of t) d) (e1 ∙ ap (λ z. z ++ y) (sym was)) e2;
    t = record { bytes = []; now' = sym (append-nil d.sent_t); count = refl; rest = owed_to_target (basis_of t) d; owed' = ap (λ z. z ++ owed_to_target (basis_of t) d) was_t };
    u = record { bytes = []; now' = sym (append-nil d.sent_u); count = refl; rest = owed_datagrams (basis_of t) d; owed' = ap (λ z. z ++ owed_datagrams (basis_of t) d) was_u };
  };
  shuts = refl;
}

-- ---- the close

abbrev pub caused : Hearing → List ℕ → Bool → Option Cause → Record
caused t sent ends cause = talker t.party (t.c ++ t.x) sent ends (answered t) (let_in t) cause

pub closed-as : {L : Type 0} (stands : List Line → List StopBy → Type 0) (h : List Line) (marks : List StopBy) (cause : Cause) (b : Assoc L) (e : Ended L) (s : Record) → b.state ≡ s
    → Closed stands h marks cause b e → Closed stands h marks cause (with_state b s) e
closed-as stands h marks cause b e s is k = subst (λ (r : Record). Closed stands h marks cause (with_state b r) e) is k

due-by : (a b c d : Bool) → (a ≡ true) ⊎ ((b ≡ true) ⊎ (c ≡ true)) → a || b || c || d ≡ true
due-by true b c d h = refl
due-by false true c d h = refl
due-by false false true d h = refl
due-by false false false d (inl h) = absurd (cc)
due-by false false false d (inr (inl h)) = absurd (cc)
due-by false false false d (inr (inr h)) = absurd (cc)

-- what a turn that closes has taken and sent, and why it closes
pub record ClosesTalk {L : Type 0} (told : L → Told) (counts : L → Counts) (stands : List Line → List StopBy → Type 0) (t : Hearing) (a b : Assoc L) (e : Ended L)
    (y sent : List ℕ) (ends idle : Bool) (fault : Option Object) (unwritten : Bool) (cause : Cause) : Type 0 where
  pub closed : Closed stands t.h t.marks cause b e
  pub state' : b.state ≡ caused t sent ends None
  pub target' : b.target ≡ a.target
  pub told' : told b.client ≡ heard_told (told a.client) t.x y ends
  pub sent' : sent ≡ t.sent ++ y
  pub behind : Record
  pub takes : Takes (basis_of t) t.generation (t.config).methods (heard_takings t ends (links idle false) (links false false)) (before t) behind
  pub open' : Record
  pub takes_open : Takes (basis_of t) t.generation (t.config).methods (heard_takings t false (links idle false) (links false false)) (before t) open'
  pub uncalling : is_calling (phase (basis_of t) behind) None ≡ false
  pub unread_t : reads_target open' (phase (basis_of t) open') ≡ false
  pub stops_c : StopsReading false ends idle t.x fault ⊥ (reads_client (basis_of t) (links idle false) (links false false) open' (phase (basis_of t) open') ≡ false)
  pub talks : ends ≡ true → phase (basis_of t) open' ≡ Phase.Talk
  pub short : ends ≡ true → length t.x < quantum
  pub faults : with_fault fault unwritten behind ≡ Some (caused t t.sent ends (Some cause))
  pub fits : fault_fits (basis_of t) fault unwritten behind ≡ true
  pub stuck : (told a.client).room ≡ Some 0 → y ≡ []
  pub rest : List ℕ
  pub owed' : sent ++ rest ≡ owed_to_client (basis_of t) (caused t t.sent ends (Some cause))
  pub due : (nothing_pending (basis_of t) (caused t sent ends (Some cause)) ≡ true) ⊎ ((unwritten ≡ true) ⊎ (is_quiet (Some cause) ≡ true))
  pub at_end : ends ≡ true → IsAtEnd (told b.client)
  pub first : GivesFirst (told b.client)
  pub idle_c : idle ≡ true → IsIdle (told b.client) × Rose (counts a.client).idle_reads (counts b.client).idle_reads
  pub failed : Option Kind
  pub tried : Tried (counts a.client) (counts b.client) ((t.x ≡ []) × (ends ≡ false) × (idle ≡ false)) (y ≡ []) (Unit {0}) failed
  pub where_c : FailsWhere (basis_of t) behind (caused t sent ends (Some cause)) Object.Client failed
  pub fault_is : FaultIs fault failed None
  pub unwritten_is : unwritten ≡ is_write failed
  pub fails_c : fault ≡ Some Object.Client → Rose (counts a.client).faults (counts b.client).faults
  pub unfailing : (told a.client).unfailing ≡ true → (fault ≡ None) × (unwritten ≡ false)

pub turns-closed : {L : Type 0} (told : L → Told) (counts : L → Counts) (stands : List Line → List StopBy → Type 0) (t : Hearing) (net : NetTold) (a b : Assoc L) (e : Ended L)
    (y sent : List ℕ) (ends idle : Bool) (fault : Option Object) (unwritten : Bool) (cause : Cause)
    → Stands told (basis_of t) (with_state a (before t)) → ClosesTalk told counts stands t a b e y sent ends idle fault unwritten cause
    → Turns told counts stands (context_of t) (t.party).since net net (with_state a (before t)) (Next.Done e)
turns-closed told counts stands t net a b e y sent ends idle fault unwritten cause k h =
    turns-talked told counts stands t (t.party).since net a (Next.Done e) y ends (Some closed.closes.logged) idle false fault unwritten k (record {
      result = marked NextMark.Done (call_close t.h t.marks r cause closed.closes.logged);
      lawful = λ worker. closes (context_of t) (before t) (closing_acts t y ends idle fault unwritten worker (t.party).since) h.behind (caused t t.sent ends (Some cause)) r cause closed.closes.logged
          (talk-stages t y ends idle false fault unwritten worker (t.party).since h.behind (caused t t.sent ends (Some cause)) h.rest sent h.takes h.faults refl refl refl h.sent' h.owed')
          h.uncalling h.fits (due' worker) refl;
      state' = ended';
      desk' = closed.closes.stands';
      goes_on = (ap (λ z. z.done) ended', ap (λ z. is_udp z) ended', ap (λ z. z.sent_u) ended');
      direct' = record { direct = refl; known = tt; connects = refl };
      c' = refl;
      sent' = h.sent';
      end_c' = refl;
      shut_c' = refl;
      side = record { at = refl; t = refl; sent_t = refl; end_t = refl; shut_t = refl };
      since' = refl;
      number' = refl;
      told' = ap told closed.client ∙ h.told';
      stuck = h.stuck;
      target' = closed.target ∙ h.target';
      at_end = λ e1. subst (λ (z : _). IsAtEnd (told z)) (sym closed.client) (h.at_end e1);
      first = subst (λ (z : _). GivesFirst (told z)) (sym closed.client) h.first;
      behind = h.behind;
      takes = h.takes;
      open' = h.open';
      takes_open = h.takes_open;
      unread_t = h.unread_t;
      stops_c = h.stops_c;
      talks = h.talks;
      short = h.short;
      idle_c = λ e1. subst (λ (z : _). IsIdle (told z) × Rose (counts a.client).idle_reads (counts z).idle_reads) (sym closed.client) (h.idle_c e1);
      full_c = λ e1. absurd (cc);
      failed = h.failed;
      tried = subst (λ (z : _). Tried (counts a.client) (counts z) ((t.x ≡ []) × (ends ≡ false) × (idle ≡ false)) ((y ≡ []) × (false ≡ false)) (Unit {0}) h.failed) (sym closed.client)
          (tried-as h.tried (λ x. x) (λ x. (x, refl)) (λ x. tt));
      where_c = h.where_c;
      fault_is = h.fault_is;
      unwritten_is = h.unwritten_is;
      fails_c = λ e1. subst (λ (z : _). Rose (counts a.client).faults (counts z).faults) (sym closed.client) (h.fails_c e1);
      unfailing = h.unfailing;
    })
  where
    r : Record
    r = caused t sent ends (Some cause)

    due' : (worker : ℕ) → close_is_due (context_of t) (closing_acts t y ends idle fault unwritten worker (t.party).since) r ≡ true
    due' worker = due-by (nothing_pending (basis_of t) r) unwritten (is_quiet (Some cause))
        (rests (basis_of t) (closing_acts t y ends idle fault unwritten worker (t.party).since) r && is_late (basis_of t) t.config (t.party).since r) h.due

    closed : Closed stands t.h t.marks cause (with_state b (caused t sent ends None)) e
    closed = closed-as stands t.h t.marks cause b e (caused t sent ends None) h.state' h.closed

    ended' : e.state ≡ (let z = caused t sent ends (Some cause) in record z { at_close = cause_of_shut (at_close t.h t.marks (close_line z cause) closed.closes.logged).said; done = true })
    ended' = closed.state' ∙ (λ i. let z = caused t sent ends (Some cause) in record z { at_close = cause_of_shut (closed.closes.said' i); done = true })
