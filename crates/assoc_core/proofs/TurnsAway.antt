-- The turns in which a client's prelude is refused.
use Rattle.std.proofs.Common.{◌≡◌, ℕ, ◌<◌, Bool, true, false, ◌&&◌, ◌||◌, not, if◌then◌else◌, Some, None, List, [], ◌++◌, length, drop, refl, sym, ap, subst, ◌∙◌, inl, inr}
use Rattle.std.proofs.lemmas.Bool.{lt-leb}
use Rattle.std.proofs.lemmas.List.{append-nil}
use Rattle.addr_pattern.specs.declared.front.BadKind.{BadKind}
use Rattle.conf_types.specs.declared.entries.Entries.{Entries}
use Rattle.socks_grammar.specs.declared.user.User.{User}
use Rattle.socks_grammar.specs.Handshake.{Split}
use Rattle.handshake_core.specs.Taking.{refusal_of}
use Rattle.net_ends.specs.Counts.{Counts, Rose}
use Rattle.net_ends.specs.Faults.{Tried}
use Rattle.net_ends.specs.declared.kinds.Kind.{Kind}
use Rattle.net_ends.specs.Nets.{NetTold}
use Rattle.net_ends.specs.Told.{Told, more}
use Rattle.socks_machine.specs.declared.cause.Cause.{Cause}
use Rattle.socks_machine.specs.declared.cause.StopBy.{StopBy}
use Rattle.socks_machine.specs.declared.lines.Line.{Line}
use Rattle.socks_machine.specs.declared.record.Record.{Record}
use Rattle.socks_machine.specs.declared.world.NextMark.{NextMark}
use Rattle.socks_machine.specs.declared.world.Object.{Object}
use Rattle.socks_machine.specs.Calls.{keep, is_calling}
use Rattle.socks_machine.specs.InTurn.{Takes}
use Rattle.socks_machine.specs.Owed.{owed_to_client}
use Rattle.socks_machine.specs.Phase.{Phase, phase, is_udp}
use Rattle.socks_machine.specs.Settle.{is_nothing, bad_cause}
use Rattle.socks_machine.specs.Socks.{socks}
use Rattle.socks_machine.specs.Taking.{reads_client, reads_target}
use Rattle.socks_machine.specs.Turn.{turn, quantum, is_quiet, nothing_pending, reads_in, has_pending, may_be_shut, may_write}
use Rattle.assoc_core.specs.declared.assoc.Assoc.{Assoc}
use Rattle.assoc_core.specs.declared.assoc.Ended.{Ended}
use Rattle.assoc_core.specs.declared.assoc.Next.{Next}
use Rattle.assoc_core.specs.declared.hear.Heard.TheVariants.{Refused as IsRefused}
use Rattle.assoc_core.specs.declared.send.Sent.{Sent}
use Rattle.assoc_core.specs.Closing.{Closed}
use Rattle.assoc_core.specs.Hearing.{HasHeard}
use Rattle.assoc_core.specs.Plain.{IsPlainRecord, owed_c, is_login_failed, is_failed_split}
use Rattle.assoc_core.specs.Sending.{Sends, SendEnds, failed_sending, is_full}
use Rattle.assoc_core.specs.Stands.{GivesFirst}
use Rattle.assoc_core.specs.Turns.{Turns, StopsReading, links, context}
use Rattle.assoc_core.proofs.Answering.{all-owed, nothing-left, or-true, sent-tried, still-left, told-sent, with_link}
use Rattle.assoc_core.proofs.AskTurns.{pending-middle}
use Rattle.assoc_core.proofs.HeardTurns.{Fits, hearing_of, behind-is, heard-as, heard-tried, stands-before, turns-before, owes_now, owes-caused, plain-caused, first-sent}
use Rattle.assoc_core.proofs.LinksHeld.{short}
use Rattle.assoc_core.proofs.PlainRecords.{closing-phase}
use Rattle.assoc_core.proofs.Rests.{rests-with}
use Rattle.assoc_core.proofs.Sendings.{rose-before}
use Rattle.assoc_core.proofs.Talking.{Hearing, basis_of, context_of, before, heard, refused, heard_takings, split_heard, takes-open, settled-refused, refused-something}
use Rattle.assoc_core.proofs.TalkTurns.{turns-talked, talk_acts, talk_event, heard_told, with_state}
use Rattle.assoc_core.proofs.TalkCloses.{turns-closed, caused, talk-stages}
use Rattle.assoc_core.proofs.Tryings.{tried-as, tried-on}
use Rattle.assoc_core.proofs.Failable.{left-over}

-- ---- the cause of a refused input

bad-unlogged : (at byte : ℕ) (kind : BadKind) → is_login_failed (Some (bad_cause at byte kind)) ≡ false
bad-unlogged at byte BadKind.Version = refl
bad-unlogged at byte BadKind.Command = refl
bad-unlogged at byte BadKind.Atyp = refl
bad-unlogged at byte BadKind.Field = refl

-- it says of the login what the input does
refusal-fits : (s : Split) (cause : Cause) → refusal_of s ≡ Some cause → is_login_failed (Some cause) ≡ is_failed_split s
refusal-fits (Split.Bad at byte kind) cause h = ap is_login_failed (sym h) ∙ bad-unlogged at byte kind
refusal-fits Split.NoMethod cause h = ap is_login_failed (sym h)
refusal-fits Split.LoginFailed cause h = ap is_login_failed (sym h)
refusal-fits (Split.Whole q n) cause h = absurd (cc)
refusal-fits Split.More cause h = absurd (cc)

bad-replies : (at byte : ℕ) (kind : BadKind) → is_quiet (Some (bad_cause at byte kind)) ≡ false
bad-replies at byte BadKind.Version = refl
bad-replies at byte BadKind.Command = refl
bad-replies at byte BadKind.Atyp = refl
bad-replies at byte BadKind.Field = refl

-- it has a reply to wait for
refusal-replies : (s : Split) (cause : Cause) → refusal_of s ≡ Some cause → is_quiet (Some cause) ≡ false
refusal-replies (Split.Bad at byte kind) cause h = ap is_quiet (sym h) ∙ bad-replies at byte kind
refusal-replies Split.NoMethod cause h = ap is_quiet (sym h)
refusal-replies Split.LoginFailed cause h = ap is_quiet (sym h)
refusal-replies (Split.Whole q n) cause h = absurd (cc)
refusal-replies Split.More cause h = absurd (cc)

-- ---- what was taken and sent

takes-refused : (t : Hearing) (full : Bool) (cause : Cause) → refusal_of (split_heard t) ≡ Some cause
    → Takes (basis_of t) t.generation (t.config).methods (heard_takings t false [] (links full false)) (before t) (refused t cause)
takes-refused t full cause h = takes-open t [] (links full false) (refused t cause) (settled-refused t cause h) (refused-something t cause h)

closes-refused : (t : Hearing) (cause : Cause) → phase (basis_of t) (refused t cause) ≡ Phase.Closing
closes-refused t cause = closing-phase (basis_of t) (refused t cause) cause refl refl

-- what a turn that refuses an input has sent of what it owes, and how that ended
pub record Away {L : Type 0} (told : L → Told) (counts : L → Counts) (t : Hearing) (a b : Assoc L) (client : L) (s : Record) (cause : Cause) (outcome : Sent) : Type 0 where
  pub refuses : refusal_of (split_heard t) ≡ Some cause
  pub fits : Fits t (Some cause)
  pub is : s ≡ caused t s.sent_c false (Some cause)
  pub y : List ℕ
  pub rest : List ℕ
  pub after' : s.sent_c ≡ t.sent ++ y
  pub told' : told client ≡ heard_told (told a.client) t.x y false
  pub stuck : (told a.client).room ≡ Some 0 → y ≡ []
  pub tried : Tried (counts a.client) (counts client) (t.x ≡ []) ((y ≡ []) × (is_full outcome ≡ false)) (Unit {0}) (failed_sending outcome)
  pub all : s.sent_c ++ rest ≡ owes_now t (Some cause)
  pub ends : SendEnds (told client) (counts b.client) (counts client) rest outcome

away : {L : Type 0} (told : L → Told) (counts : L → Counts) (users : List User) (pubs : List Entries) (generation : ℕ) (config : Entries) (most : ℕ) (h : List Line) (marks : List StopBy)
    (a b : Assoc L) (client : L) (s : Record) (cause : Cause) (outcome : Sent) (k : HasHeard told counts (socks users pubs) generation config a b None (IsRefused cause))
    → s ≡ (let r = b.state in record r { sent_c = s.sent_c; cause = Some cause })
    → Sends (told b.client) (told client) (counts b.client) (counts client) (b.state).sent_c s.sent_c (drop (length (b.state).sent_c) (owed_c (let r = b.state in record r { cause = Some cause }))) outcome
    → Away told counts (hearing_of told counts users pubs generation config most h marks a b (IsRefused cause) k) a b client s cause outcome
away told counts users pubs generation config most h marks a b client s cause outcome k state' sends = record {
  refuses = refuses;
  fits = fits;
  is = state' ∙ ap (λ (r : Record). let z : Record = record r { sent_c = s.sent_c; cause = Some cause } in z) is';
  y = sends'.bytes;
  rest = sends'.rest;
  after' = sends'.after';
  told' = told-sent (told a.client) (told b.client) (told client) t.x sends'.bytes false (k.hears).told' sends'.told';
  stuck = λ e. sends'.stuck (ap (λ (z : Told). z.room) (k.hears).told' ∙ e);
  tried = tried-on (heard-tried (told a.client) (told b.client) (counts a.client) (counts b.client) (a.state).c (b.state).c (IsRefused cause) k.hears)
      (sent-tried (told b.client) (told client) (counts b.client) (counts client) t.sent s.sent_c _ outcome sends') (λ x y. x.0) (λ x y. y) (λ x y. tt);
  all = ap (λ z. z ++ sends'.rest) sends'.after' ∙ all-owed t.sent sends'.bytes sends'.rest (owes_now t (Some cause)) (first-sent t (Some cause) fits) sends'.pending';
  ends = sends'.ends;
}
  where
    t : Hearing
    t = hearing_of told counts users pubs generation config most h marks a b (IsRefused cause) k

    refuses : refusal_of (split_heard t) ≡ Some cause
    refuses = heard-as told counts users pubs generation config most h marks a b (IsRefused cause) k

    fits : Fits t (Some cause)
    fits = refusal-fits (split_heard t) cause refuses

    is' : b.state ≡ heard t
    is' = behind-is told counts users pubs generation config most h marks a b (IsRefused cause) k

    sends' : Sends (told b.client) (told client) (counts b.client) (counts client) t.sent s.sent_c (drop (length t.sent) (owes_now t (Some cause))) outcome
    sends' = subst (λ (r : Record). Sends (told b.client) (told client) (counts b.client) (counts client) r.sent_c s.sent_c (drop (length r.sent_c) (owed_c (let z = r in record z { cause = Some cause }))) outcome) is' sends

-- what is left is pending
pending-away : {L : Type 0} (told : L → Told) (counts : L → Counts) (t : Hearing) (a b : Assoc L) (client : L) (s : Record) (cause : Cause) (outcome : Sent) → (w : Away told counts t a b client s cause outcome)
    → 0 < length w.rest → has_pending (basis_of t) (refused t cause) Object.Client ≡ true
pending-away told counts t a b client s cause outcome w some =
    ap (λ z. not (is_nothing (drop (length t.sent) z))) (owes-caused t t.sent false (Some cause) w.fits)
    ∙ ap not (still-left t.sent w.y w.rest (owes_now t (Some cause)) (ap (λ z. z ++ w.rest) (sym w.after') ∙ w.all) some)

-- its link tells what was read and written
first-away : (old new : Told) (x y : List ℕ) → new ≡ heard_told old x y false → (mid : Told) → mid ≡ record old { given = more old.given x; ended = false || old.ended } → GivesFirst mid → GivesFirst new
first-away old new x y is mid mid' h = subst GivesFirst (sym is) (subst GivesFirst mid' h)

-- ---- it closes

-- the desk's close, whatever cause stood
closed-uncaused : {L : Type 0} (stands : List Line → List StopBy → Type 0) (h : List Line) (marks : List StopBy) (cause : Cause) (b : Assoc L) (e : Ended L) → Closed stands h marks cause b e
    → Closed stands h marks cause (with_state b (let r = b.state in record r { cause = None })) e
closed-uncaused stands h marks cause b e k = record { said = k.said; closes = k.closes; state' = k.state'; client = k.client; target = k.target }

-- why it closes: all was sent, or the write failed
pub data Closes {L : Type 0} (told : L → Told) (counts : L → Counts) (b : Assoc L) (client : L) (rest : List ℕ) (outcome : Sent) : Type 0 where
  done : outcome ≡ Sent.All → rest ≡ [] → Closes told counts b client rest outcome
  failed' : outcome ≡ Sent.Failed → 0 < length rest → (told client).unfailing ≡ false → Rose (counts b.client).faults (counts client).faults → Closes told counts b client rest outcome

pub turns-away : {L : Type 0} (told : L → Told) (counts : L → Counts) (stands : List Line → List StopBy → Type 0) (users : List User) (pubs : List Entries) (generation : ℕ) (config : Entries) (most : ℕ) (h : List Line) (marks : List StopBy)
    (now : ℕ) (net : NetTold) (a b : Assoc L) (client : L) (s : Record) (e : Ended L) (cause : Cause) (outcome : Sent)
    → HasHeard told counts (socks users pubs) generation config a b None (IsRefused cause) → (a.state).since ≡ now
    → s ≡ (let r = b.state in record r { sent_c = s.sent_c; cause = Some cause })
    → Sends (told b.client) (told client) (counts b.client) (counts client) (b.state).sent_c s.sent_c (drop (length (b.state).sent_c) (owed_c (let r = b.state in record r { cause = Some cause }))) outcome
    → ((rest : List ℕ) → SendEnds (told client) (counts b.client) (counts client) rest outcome → Closes told counts b client rest outcome)
    → (is_udp s ≡ false → Closed stands h marks cause (with_link b s client) e)
    → Turns told counts stands (context users pubs generation config most h marks) now net net a (Next.Done e)
turns-away {L = L} told counts stands users pubs generation config most h marks now net a b client s e cause outcome k since state' sends by closed =
    turns-before told counts stands users pubs generation config most h marks now net a b (IsRefused cause) (Next.Done e) k since (with-end (by w.rest w.ends))
  where
    t : Hearing
    t = hearing_of told counts users pubs generation config most h marks a b (IsRefused cause) k

    w : Away told counts t a b client s cause outcome
    w = away told counts users pubs generation config most h marks a b client s cause outcome k state' sends

    b' : Assoc L
    b' = with_state (with_link b s client) (record s { cause = None })

    clash : (told a.client).unfailing ≡ true → (told client).unfailing ≡ false → ⊥
    clash e1 e2 = let e3 : (told client).unfailing ≡ (told a.client).unfailing = ap (λ (z : Told). z.unfailing) w.told' in cc

    tried : (o : Sent) → outcome ≡ o → Tried (counts a.client) (counts client) ((t.x ≡ []) × (false ≡ false) × (false ≡ false)) (w.y ≡ []) (Unit {0}) (failed_sending o)
    tried o is = subst (λ (z : Sent). Tried (counts a.client) (counts client) ((t.x ≡ []) × (false ≡ false) × (false ≡ false)) (w.y ≡ []) (Unit {0}) (failed_sending z)) is
        (tried-as w.tried (λ x. (x, refl, refl)) (λ x. x.0) (λ x. tt))

    with-end : Closes told counts b client w.rest outcome → Turns told counts stands (context_of t) (t.party).since net net (with_state a (before t)) (Next.Done e)
    with-end (Closes.done is none) =
        turns-closed told counts stands t net a b' e w.y s.sent_c false false None false cause (stands-before told counts users pubs generation config most h marks a b (IsRefused cause) k) (record {
          closed = closed-uncaused stands h marks cause (with_link b s client) e (closed (ap is_udp w.is));
          state' = ap (λ (r : Record). let z : Record = record r { cause = None } in z) w.is;
          target' = k.target';
          told' = w.told';
          sent' = w.after';
          stuck = w.stuck;
          behind = refused t cause;
          takes = takes-refused t false cause w.refuses;
          open' = refused t cause;
          takes_open = takes-refused t false cause w.refuses;
          uncalling = ap (λ (p : Phase). is_calling p None) (closes-refused t cause);
          unread_t = ap (reads_target (refused t cause)) (closes-refused t cause);
          stops_c = StopsReading.unread (ap (reads_client (basis_of t) [] [] (refused t cause)) (closes-refused t cause));
          talks = λ e1. absurd (cc);
          short = λ e1. absurd (cc);
          faults = refl;
          fits = refl;
          rest = w.rest;
          owed' = w.all ∙ sym (owes-caused t t.sent false (Some cause) w.fits);
          due = inl (ap (λ z. is_nothing (drop (length s.sent_c) z) && true) (owes-caused t s.sent_c false (Some cause) w.fits)
              ∙ ap (λ z. z && true) (nothing-left s.sent_c (owes_now t (Some cause)) (ap (λ z. s.sent_c ++ z) (sym none) ∙ w.all)));
          at_end = λ e1. absurd (cc);
          first = first-away (told a.client) (told client) t.x w.y w.told' (told b.client) (k.hears).told' ((k.hears).first (k.stands).client_first);
          idle_c = λ e1. absurd (cc);
          failed = None;
          tried = tried Sent.All is;
          where_c = tt;
          fault_is = (refl, refl);
          unwritten_is = refl;
          fails_c = λ e1. absurd (cc);
          unfailing = λ e1. (refl, refl);
        })
    with-end (Closes.failed' is some unsound rose) =
        turns-closed told counts stands t net a b' e w.y s.sent_c false false (Some Object.Client) true cause (stands-before told counts users pubs generation config most h marks a b (IsRefused cause) k) (record {
          closed = closed-uncaused stands h marks cause (with_link b s client) e (closed (ap is_udp w.is));
          state' = ap (λ (r : Record). let z : Record = record r { cause = None } in z) w.is;
          target' = k.target';
          told' = w.told';
          sent' = w.after';
          stuck = w.stuck;
          behind = refused t cause;
          takes = takes-refused t false cause w.refuses;
          open' = refused t cause;
          takes_open = takes-refused t false cause w.refuses;
          uncalling = ap (λ (p : Phase). is_calling p None) (closes-refused t cause);
          unread_t = ap (reads_target (refused t cause)) (closes-refused t cause);
          stops_c = StopsReading.unread (ap (reads_client (basis_of t) [] [] (refused t cause)) (closes-refused t cause));
          talks = λ e1. absurd (cc);
          short = λ e1. absurd (cc);
          faults = refl;
          fits =
              ap (λ b. b && may_write (basis_of t) (caused t t.sent false (Some cause)))
              (pending-middle (reads_in (refused t cause) (phase (basis_of t) (refused t cause)) Object.Client) (has_pending (basis_of t) (refused t cause) Object.Client) (may_be_shut (basis_of t) (refused t cause) Object.Client) (pending some))
              ∙ ap (λ b. b || has_pending (basis_of t) (refused t cause) Object.Target) (pending some);
          rest = w.rest;
          owed' = w.all ∙ sym (owes-caused t t.sent false (Some cause) w.fits);
          due = inr (inl refl);
          at_end = λ e1. absurd (cc);
          first = first-away (told a.client) (told client) t.x w.y w.told' (told b.client) (k.hears).told' ((k.hears).first (k.stands).client_first);
          idle_c = λ e1. absurd (cc);
          failed = Some Kind.Write;
          tried = tried Sent.Failed is;
          where_c = left-over s.sent_c w.rest (owes_now t (Some cause)) _ (owes-caused t s.sent_c false (Some cause) w.fits) w.all some;
          fault_is = refl;
          unwritten_is = refl;
          fails_c = λ e1. rose-before _ _ _ ((k.hears).later).faults rose;
          unfailing = λ e1. absurd (clash e1 unsound);
        })
      where
        pending : 0 < length w.rest → has_pending (basis_of t) (refused t cause) Object.Client ≡ true
        pending some = pending-away told counts t a b client s cause outcome w some

-- ---- it waits for its link

refusal-rests : (t : Hearing) (cause : Cause) (y rest sent : List ℕ) (worker : ℕ) → refusal_of (split_heard t) ≡ Some cause → Fits t (Some cause) → sent ≡ t.sent ++ y → sent ++ rest ≡ owes_now t (Some cause) → 0 < length rest
    → turn (context_of t) (talk_event t worker (t.party).since (talk_acts t.x false None (length y) false true None false) NextMark.Wait) (before t) ≡ Some (keep (context_of t) (caused t sent false (Some cause)))
refusal-rests t cause y rest sent worker refuses fits e1 e2 some =
    rests-with (context_of t) (before t) worker (t.party).number (t.party).since (talk_acts t.x false None (length y) false true None false) (refused t cause) (refused t cause) x cause NextMark.Wait
    (talk-stages t y false false true None false worker (t.party).since (refused t cause) (refused t cause) rest sent (takes-refused t true cause refuses) refl refl refl refl e1
    (e2 ∙ sym (owes-caused t t.sent false (Some cause) fits)))
    (ap (λ (p : Phase). is_calling p None) (closes-refused t cause)) refl refl refl refl refl refl undue (ap (λ b. b && true) (or-true (is_nothing (drop (length sent) (owed_to_client (basis_of t) x)))))
    (ap (λ b. if b || false || false then NextMark.Again else NextMark.Wait) (sym (lt-leb quantum (length t.x) t.few)))
  where
    x : Record
    x = caused t sent false (Some cause)

    left-over : is_nothing (drop (length sent) (owed_to_client (basis_of t) x)) ≡ false
    left-over = ap (λ z. is_nothing (drop (length sent) z)) (owes-caused t sent false (Some cause) fits)
        ∙ still-left sent [] rest (owes_now t (Some cause)) (ap (λ z. z ++ rest) (append-nil sent) ∙ e2) some

    undue : nothing_pending (basis_of t) x || false || is_quiet (Some cause) ≡ false
    undue = ap (λ b. (b && true) || false || is_quiet (Some cause)) left-over ∙ refusal-replies (split_heard t) cause refuses

pub waits-away : {L : Type 0} (told : L → Told) (counts : L → Counts) (stands : List Line → List StopBy → Type 0) (users : List User) (pubs : List Entries) (generation : ℕ) (config : Entries) (most : ℕ) (h : List Line) (marks : List StopBy)
    (now : ℕ) (net : NetTold) (a b : Assoc L) (client : L) (s : Record) (cause : Cause)
    → HasHeard told counts (socks users pubs) generation config a b None (IsRefused cause) → (a.state).since ≡ now → stands h marks
    → s ≡ (let r = b.state in record r { sent_c = s.sent_c; cause = Some cause })
    → Sends (told b.client) (told client) (counts b.client) (counts client) (b.state).sent_c s.sent_c (drop (length (b.state).sent_c) (owed_c (let r = b.state in record r { cause = Some cause }))) Sent.Full
    → Turns told counts stands (context users pubs generation config most h marks) now net net a (Next.Wait (with_link b s client))
waits-away told counts stands users pubs generation config most h marks now net a b client s cause k since desk state' sends =
    turns-before told counts stands users pubs generation config most h marks now net a b (IsRefused cause) (Next.Wait (with_link b s client)) k since
    (turns-talked told counts stands t (t.party).since net a (Next.Wait (with_link b s client)) w.y false None false true None false
    (stands-before told counts users pubs generation config most h marks a b (IsRefused cause) k) (record {
      result = keep (context_of t) (caused t s.sent_c false (Some cause));
      lawful = λ worker. refusal-rests t cause w.y w.rest s.sent_c worker w.refuses w.fits w.after' w.all w.ends.0;
      state' = w.is;
      desk' = desk;
      goes_on = subst (IsPlainRecord users) (sym w.is) (plain-caused t s.sent_c false (Some cause) (λ e1. absurd (cc)) w.fits (w.rest, w.all));
      direct' = record { direct = refl; known = tt; connects = refl };
      c' = refl;
      sent' = w.after';
      stuck = w.stuck;
      end_c' = refl;
      shut_c' = refl;
      side = record { at = refl; t = refl; sent_t = refl; end_t = refl; shut_t = refl };
      since' = refl;
      number' = refl;
      told' = w.told';
      target' = k.target';
      at_end = λ e1. absurd (cc);
      first = first-away (told a.client) (told client) t.x w.y w.told' (told b.client) (k.hears).told' ((k.hears).first (k.stands).client_first);
      behind = refused t cause;
      takes = takes-refused t true cause w.refuses;
      open' = refused t cause;
      takes_open = takes-refused t true cause w.refuses;
      unread_t = ap (reads_target (refused t cause)) (closes-refused t cause);
      stops_c = StopsReading.unread (ap (reads_client (basis_of t) [] (links true false) (refused t cause)) (closes-refused t cause));
      talks = λ e1. absurd (cc);
      short = λ e1. absurd (cc);
      idle_c = λ e1. absurd (cc);
      full_c = λ e1. (w.ends.1, rose-before _ _ _ ((k.hears).later).idle_writes w.ends.2, short s.sent_c w.rest (owes_now t (Some cause)) w.all w.ends.0);
      failed = None;
      tried = tried-as w.tried (λ x. (x, refl, refl)) (λ x. x) (λ x. tt);
      where_c = tt;
      fault_is = (refl, refl);
      unwritten_is = refl;
      fails_c = λ e1. absurd (cc);
      unfailing = λ e1. (refl, refl);
    }))
  where
    t : Hearing
    t = hearing_of told counts users pubs generation config most h marks a b (IsRefused cause) k

    w : Away told counts t a b client s cause Sent.Full
    w = away told counts users pubs generation config most h marks a b client s cause Sent.Full k state' sends
