-- What was heard of a client, as a turn that talks with it.
use Rattle.std.proofs.Common.{◌≡◌, ℕ, Bool, true, false, ◌&&◌, ◌||◌, Option, Some, None, option_map, List, [], ◌∷◌, ◌++◌, length, refl, sym, ap, subst, ◌∙◌, inr, append_assoc}
use Rattle.std.proofs.lemmas.List.{append-nil}
use mathlib.Core.List.{IsPrefix}
use Rattle.conf_types.specs.declared.entries.Entries.{Entries}
use Rattle.socks_grammar.specs.declared.protocol.Version.{Version}
use Rattle.socks_grammar.specs.declared.user.User.{User}
use Rattle.socks_grammar.specs.Handshake.{Split, split, version_of}
use Rattle.net_ends.specs.Counts.{Counts}
use Rattle.net_ends.specs.Faults.{Tried}
use Rattle.net_ends.specs.declared.kinds.Kind.{Kind}
use Rattle.net_ends.specs.Nets.{NetTold}
use Rattle.net_ends.specs.Told.{Told, more}
use Rattle.socks_machine.specs.declared.cause.Cause.{Cause}
use Rattle.socks_machine.specs.declared.cause.StopBy.{StopBy}
use Rattle.socks_machine.specs.declared.lines.Line.{Line}
use Rattle.socks_machine.specs.declared.record.Decision.{Decision}
use Rattle.socks_machine.specs.declared.record.Record.{Record}
use Rattle.socks_machine.specs.declared.world.Object.{Object}
use Rattle.socks_machine.specs.Calls.{is_calling}
use Rattle.socks_machine.specs.Inputs.{is_served_input, is_served_split}
use Rattle.socks_machine.specs.Owed.{owed_to_client}
use Rattle.socks_machine.specs.Phase.{Phase, phase, is_udp}
use Rattle.socks_machine.specs.Replies.{RefusedAt, refusal}
use Rattle.socks_machine.specs.Socks.{socks}
use Rattle.socks_machine.specs.Taking.{reads_target, chosen_after, with_client_bytes}
use Rattle.socks_machine.specs.Turn.{reads_in, may_be_shut, has_pending}
use Rattle.socks_machine.proofs.OwedLaws.{talk-owes}
use Rattle.assoc_core.specs.declared.assoc.Assoc.{Assoc}
use Rattle.assoc_core.specs.declared.assoc.Ended.{Ended}
use Rattle.assoc_core.specs.declared.assoc.Next.{Next}
use Rattle.assoc_core.specs.declared.hear.Heard.{Heard}
use Rattle.assoc_core.specs.Closing.{Closed}
use Rattle.assoc_core.specs.Hearing.{HasHeard, HeardAs, Hears, failed_hearing, is_end, is_idle}
use Rattle.assoc_core.specs.Plain.{IsPlainRecord, HasDecided, Talking, split_in, opening_owed, owed_c, refusal_owed, refused_at, is_login_failed, is_failed_split}
use Rattle.assoc_core.specs.Stands.{Stands, TellsServed, Holds, GivesFirst}
use Rattle.assoc_core.specs.Turns.{Turns, StopsReading, context}
use Rattle.assoc_core.proofs.Inputs.{first-part-served}
use Rattle.assoc_core.proofs.PlainRecords.{early-owes, closing-phase}
use Rattle.assoc_core.proofs.Sendings.{more-nil}
use Rattle.assoc_core.proofs.Talking.{Hearing, basis_of, context_of, before, heard, gone, answered, split_heard, has-answered, takes-open, takes-end, settled-more, heard-nothing, phase-more}
use Rattle.assoc_core.proofs.TalkTurns.{heard_told, with_state}
use Rattle.assoc_core.proofs.TalkCloses.{turns-closed, caused}
use Rattle.assoc_core.proofs.Tryings.{added-none, tried-as}

-- ---- from what was heard

pub served-heard : (users : List User) (old new : Told) (c sent x : List ℕ) (ended shut ends : Bool) (method : Option ℕ) → TellsServed users old → Holds old c sent ended shut → GivesFirst old → (GivesFirst old → GivesFirst new)
    → new ≡ record old { given = more old.given x; ended = ends || old.ended } → is_served_split (split users method (c ++ x)) ≡ true
served-heard users old new c sent x ended shut ends method v holds first firsts is =
    subst (λ (z : List ℕ). is_served_split (split users method (z ++ x)) ≡ true) (holds.given' v.given v.given')
    (first-part-served users method (v.given ++ x) p.0 (ap (is_served_input users) p.1 ∙ v.served))
  where
    p : IsPrefix (v.given ++ x) (v.arrival).bytes
    p = firsts first v.arrival (v.given ++ x) (ap (λ (z : Told). z.arrived) is ∙ v.arrived') (ap (λ (z : Told). z.given) is ∙ ap (λ o. more o x) v.given')

pub talking-of : (users : List User) (r : Record) (ds : List Decision) (g : ℕ) (rule : Option ℕ) → ds ≡ Decision.Opened g rule None ∷ [] → HasDecided users r ds → Talking users r
talking-of users r ds g rule is h = subst (HasDecided users r) is h

abbrev pub hearing_of : {L : Type 0} (told : L → Told) (counts : L → Counts) (users : List User) (pubs : List Entries) (generation : ℕ) (config : Entries) (most : ℕ) (h : List Line) (marks : List StopBy)
    (a b : Assoc L) (heard : Heard) → HasHeard told counts (socks users pubs) generation config a b None heard → Hearing
hearing_of told counts users pubs generation config most h marks a b heard k = record {
  users = users;
  pubs = pubs;
  generation = generation;
  config = config;
  most = most;
  h = h;
  marks = marks;
  party = record { number = (a.state).number; peer = (a.state).peer; local = (a.state).local; since = (a.state).since };
  g = k.generation';
  rule = k.rule;
  c = (a.state).c;
  x = (k.hears).bytes;
  sent = (a.state).sent_c;
  chosen = (a.state).chosen;
  routes' = (k.plain).routes;
  published = k.published;
  served = served-heard users (told a.client) (told b.client) (a.state).c (a.state).sent_c (k.hears).bytes (a.state).end_c (a.state).shut_c _
      (option_map (λ c. c.method) (chosen_after generation config.methods (a.state).chosen ((a.state).c ++ (k.hears).bytes))) k.served (k.stands).client (k.stands).client_first (k.hears).first (k.hears).told';
  chosen' = ((k.stands).plain).chosen';
  more = ((talking-of users a.state (a.state).decisions k.generation' k.rule k.opened' ((k.stands).plain).decided).talks k.uncaused).1;
  few = (k.hears).few;
  sent' = subst (λ (ds : List Decision). IsPrefix (a.state).sent_c (owed_c (let r = a.state in record r { decisions = ds; cause = None }))) k.opened'
      (subst (λ (o : Option Cause). IsPrefix (a.state).sent_c (owed_c (let r = a.state in record r { cause = o }))) k.uncaused ((k.stands).plain).sent_c);
}

pub before-is : {L : Type 0} (told : L → Told) (counts : L → Counts) (users : List User) (pubs : List Entries) (generation : ℕ) (config : Entries) (most : ℕ) (h : List Line) (marks : List StopBy)
    (a b : Assoc L) (heard : Heard) (k : HasHeard told counts (socks users pubs) generation config a b None heard) → a.state ≡ before (hearing_of told counts users pubs generation config most h marks a b heard k)
before-is told counts users pubs generation config most h marks a b heard k = λ i. record {
  number = (a.state).number;
  peer = (a.state).peer;
  local = (a.state).local;
  since = (a.state).since;
  c = (a.state).c;
  t = (talking.untargeted).t i;
  sent_c = (a.state).sent_c;
  sent_t = (talking.untargeted).sent_t i;
  end_c = (talking.talks k.uncaused).0 i;
  end_t = (talking.untargeted).end_t i;
  shut_c = (talking.untargeted).shut_c i;
  shut_t = (talking.untargeted).shut_t i;
  chosen = (a.state).chosen;
  decisions = k.opened' i;
  grams = ((k.stands).plain).grams i;
  sent_u = ((k.stands).plain).sent_u i;
  cause = k.uncaused i;
  at_close = ((k.stands).plain).unclosed i;
  done = ((k.stands).plain).undone i;
}
  where
    talking : Talking users a.state
    talking = talking-of users a.state (a.state).decisions k.generation' k.rule k.opened' ((k.stands).plain).decided

pub behind-is : {L : Type 0} (told : L → Told) (counts : L → Counts) (users : List User) (pubs : List Entries) (generation : ℕ) (config : Entries) (most : ℕ) (h : List Line) (marks : List StopBy)
    (a b : Assoc L) (how : Heard) (k : HasHeard told counts (socks users pubs) generation config a b None how) → b.state ≡ heard (hearing_of told counts users pubs generation config most h marks a b how k)
behind-is told counts users pubs generation config most h marks a b how k =
    k.state' ∙ ap (with_client_bytes generation config.methods (k.hears).bytes) (before-is told counts users pubs generation config most h marks a b how k)

-- what the whole input is
pub heard-as : {L : Type 0} (told : L → Told) (counts : L → Counts) (users : List User) (pubs : List Entries) (generation : ℕ) (config : Entries) (most : ℕ) (h : List Line) (marks : List StopBy)
    (a b : Assoc L) (how : Heard) (k : HasHeard told counts (socks users pubs) generation config a b None how) → HeardAs (split_heard (hearing_of told counts users pubs generation config most h marks a b how k)) how
heard-as told counts users pubs generation config most h marks a b how k =
    subst (λ (r : Record). HeardAs (split_in users r) how) (behind-is told counts users pubs generation config most h marks a b how k) k.heard'

pub stands-before : {L : Type 0} (told : L → Told) (counts : L → Counts) (users : List User) (pubs : List Entries) (generation : ℕ) (config : Entries) (most : ℕ) (h : List Line) (marks : List StopBy)
    (a b : Assoc L) (how : Heard) (k : HasHeard told counts (socks users pubs) generation config a b None how) → Stands told (socks users pubs) (with_state a (before (hearing_of told counts users pubs generation config most h marks a b how k)))
stands-before told counts users pubs generation config most h marks a b how k =
    subst (λ (r : Record). Stands told (socks users pubs) (with_state a r)) (before-is told counts users pubs generation config most h marks a b how k) k.stands

pub turns-before : {L : Type 0} (told : L → Told) (counts : L → Counts) (stands : List Line → List StopBy → Type 0) (users : List User) (pubs : List Entries) (generation : ℕ) (config : Entries) (most : ℕ) (h : List Line) (marks : List StopBy)
    (now : ℕ) (net : NetTold) (a b : Assoc L) (how : Heard) (next : Next L) (k : HasHeard told counts (socks users pubs) generation config a b None how) → (a.state).since ≡ now
    → (let t = hearing_of told counts users pubs generation config most h marks a b how k in Turns told counts stands (context_of t) (t.party).since net net (with_state a (before t)) next)
    → Turns told counts stands (context_of (hearing_of told counts users pubs generation config most h marks a b how k)) now net net a next
turns-before told counts stands users pubs generation config most h marks now net a b how next k since v =
    subst (λ (n : ℕ). Turns told counts stands (context_of t) n net net a next) since
    (subst (λ (r : Record). Turns told counts stands (context_of t) (t.party).since net net (with_state a r) next) (sym (before-is told counts users pubs generation config most h marks a b how k)) v)
  where
    t : Hearing
    t = hearing_of told counts users pubs generation config most h marks a b how k

pub told-heard : (old new : Told) (x : List ℕ) (ends : Bool) → new ≡ record old { given = more old.given x; ended = ends || old.ended } → new ≡ heard_told old x [] ends
told-heard old new x ends is = is ∙ (λ i. record old { given = more old.given x; taken = sym (more-nil old.taken) i; ended = ends || old.ended })

-- where reads are due to fail nothing was heard
pub heard-tried : (old new : Told) (counts counts' : Counts) (before after : List ℕ) (heard : Heard) → (h : Hears old new counts counts' before after heard)
    → Tried counts counts' ((h.bytes ≡ []) × (is_end heard ≡ false) × (is_idle heard ≡ false)) (Unit {0}) (Unit {0}) (failed_hearing heard)
heard-tried old new counts counts' was now how h = tried-as h.tried (λ x. (added-none was now h.bytes h.after' x.0, x.1, x.2)) (λ x. tt) (λ x. tt)

-- ---- what is owed

-- all that is owed to a client that has no grant, behind what was heard of it
abbrev pub owes_now : Hearing → Option Cause → List ℕ
owes_now t cause = opening_owed (t.c ++ t.x) (answered t) cause ++ refusal_owed (t.c ++ t.x) (answered t) None cause

-- the cause says of the login what the input does
abbrev pub Fits : Hearing → Option Cause → Type 0
Fits t cause = is_login_failed cause ≡ is_failed_split (split_heard t)

pub owes-caused : (t : Hearing) (sent : List ℕ) (ends : Bool) (cause : Option Cause) → Fits t cause → owed_to_client (basis_of t) (caused t sent ends cause) ≡ owes_now t cause
owes-caused t sent ends cause fits = early-owes t.users t.pubs (caused t sent ends cause) t.served fits refl refl refl

owes-before : (t : Hearing) → owed_to_client (basis_of t) (before t) ≡ opening_owed t.c t.chosen None ++ []
owes-before t = early-owes t.users t.pubs (before t) (ap is_served_split t.more) (sym (ap is_failed_split t.more)) refl refl refl

further : (sent owed now : List ℕ) → IsPrefix sent owed → IsPrefix owed now → IsPrefix sent now
further sent owed now p q = (p.0 ++ q.0, sym (append_assoc sent p.0 q.0) ∙ (ap (λ z. z ++ q.0) p.1 ∙ q.1))

-- what was sent stays a first part of what is owed
pub first-sent : (t : Hearing) (cause : Option Cause) → Fits t cause → IsPrefix t.sent (owes_now t cause)
first-sent t cause fits =
    further t.sent (opening_owed t.c t.chosen None ++ []) (owes_now t cause) t.sent'
    (subst (λ z. IsPrefix z (owes_now t cause)) (owes-before t)
    (subst (λ z. IsPrefix (owed_to_client (basis_of t) (before t)) z) (owes-caused t t.sent false cause fits)
    (talk-owes t.users t.pubs t.generation (t.config).methods t.x (before t) cause refl refl)))

pub plain-caused : (t : Hearing) (sent : List ℕ) (ends : Bool) (cause : Option Cause) → (cause ≡ None → (ends ≡ false) × (split_heard t ≡ Split.More)) → Fits t cause
    → IsPrefix sent (owes_now t cause) → IsPlainRecord t.users (caused t sent ends cause)
plain-caused t sent ends cause talks fits sent' = record {
  undone = refl;
  unclosed = refl;
  grams = refl;
  sent_u = refl;
  served = t.served;
  chosen' = has-answered t;
  failed = fits;
  decided = record { untargeted = record { t = refl; sent_t = refl; end_t = refl; shut_c = refl; shut_t = refl }; talks = talks };
  sent_c = sent';
  sent_t = ([], refl);
}

-- what is left to send
pub left-to-send : (t : Hearing) (ends : Bool) (cause : Cause) → Fits t (Some cause) → (rest : List ℕ) × (t.sent ++ rest ≡ owed_to_client (basis_of t) (caused t t.sent ends (Some cause)))
left-to-send t ends cause fits = ((first-sent t (Some cause) fits).0, (first-sent t (Some cause) fits).1 ∙ sym (owes-caused t t.sent ends (Some cause) fits))

-- ---- the client has ended

pub hangs-up : {L : Type 0} (told : L → Told) (counts : L → Counts) (stands : List Line → List StopBy → Type 0) (users : List User) (pubs : List Entries) (generation : ℕ) (config : Entries) (most : ℕ) (h : List Line) (marks : List StopBy)
    (now : ℕ) (net : NetTold) (a b : Assoc L) (e : Ended L) (at : ℕ) → HasHeard told counts (socks users pubs) generation config a b None Heard.End → (a.state).since ≡ now → at ≡ length (b.state).c
    → (is_udp b.state ≡ false → Closed stands h marks (Cause.ClientGone at) (with_state b (let r = b.state in record r { end_c = true })) e)
    → Turns told counts stands (context users pubs generation config most h marks) now net net a (Next.Done e)
hangs-up {L = L} told counts stands users pubs generation config most h marks now net a b e at k since at' closed =
    turns-before told counts stands users pubs generation config most h marks now net a b Heard.End (Next.Done e) k since
    (turns-closed told counts stands t net a b' e [] t.sent true false None false (Cause.ClientGone (length (t.c ++ t.x)))
    (stands-before told counts users pubs generation config most h marks a b Heard.End k) (record {
      closed = subst (λ (n : ℕ). Closed stands h marks (Cause.ClientGone n) b' e) (at' ∙ ap (λ (z : List ℕ). length z) (k.hears).after') (closed (ap is_udp is));
      state' = ap (λ (r : Record). let z : Record = record r { end_c = true } in z) is;
      target' = k.target';
      told' = told-heard (told a.client) (told b.client) t.x true (k.hears).told';
      sent' = sym (append-nil t.sent);
      stuck = λ e1. refl;
      behind = gone t;
      takes = takes-end t [] [] more;
      open' = heard t;
      takes_open = takes-open t [] [] (heard t) (settled-more t more) (heard-nothing t);
      uncalling = ap (λ (p : Phase). is_calling p None) (closing-phase (basis_of t) (gone t) (Cause.ClientGone (length (t.c ++ t.x))) refl refl);
      unread_t = ap (reads_target (heard t)) talks;
      stops_c = StopsReading.ends' refl;
      talks = λ e1. talks;
      short = λ e1. t.few;
      faults = refl;
      fits = refl;
      rest = (left-to-send t true (Cause.ClientGone (length (t.c ++ t.x))) fits).0;
      owed' = (left-to-send t true (Cause.ClientGone (length (t.c ++ t.x))) fits).1;
      due = inr (inr refl);
      at_end = λ e1. (k.hears).ends;
      first = (k.hears).first (k.stands).client_first;
      idle_c = λ e1. absurd (cc);
      failed = None;
      tried = tried-as (heard-tried (told a.client) (told b.client) (counts a.client) (counts b.client) (a.state).c (b.state).c Heard.End k.hears) (λ x. x) (λ x. refl) (λ x. tt);
      where_c = tt;
      fault_is = (refl, refl);
      unwritten_is = refl;
      fails_c = λ e1. absurd (cc);
      unfailing = λ e1. (refl, refl);
    }))
  where
    t : Hearing
    t = hearing_of told counts users pubs generation config most h marks a b Heard.End k

    b' : Assoc L
    b' = with_state b (let r = b.state in record r { end_c = true })

    is : b.state ≡ heard t
    is = behind-is told counts users pubs generation config most h marks a b Heard.End k

    more : split_heard t ≡ Split.More
    more = heard-as told counts users pubs generation config most h marks a b Heard.End k

    fits : Fits t (Some (Cause.ClientGone (length (t.c ++ t.x))))
    fits = sym (ap is_failed_split more)

    talks : phase (basis_of t) (heard t) ≡ Phase.Talk
    talks = phase-more t t.sent false more

-- ---- a call on the client has failed

silent-fault : (v : Option Version) (at : RefusedAt) → refusal v at Cause.ClientFault ≡ []
silent-fault None at = refl
silent-fault (Some v) at = refl

-- ClientFault owes no reply
pub owes-fault : (t : Hearing) (sent : List ℕ) → Fits t None → owed_to_client (basis_of t) (caused t sent false (Some Cause.ClientFault)) ≡ owes_now t None
owes-fault t sent fits = owes-caused t sent false (Some Cause.ClientFault) fits ∙ ap (λ z. opening_owed (t.c ++ t.x) (answered t) None ++ z) (silent-fault (version_of (t.c ++ t.x)) (refused_at (answered t) (t.c ++ t.x) Cause.ClientFault))

pub reads-fail : {L : Type 0} (told : L → Told) (counts : L → Counts) (stands : List Line → List StopBy → Type 0) (users : List User) (pubs : List Entries) (generation : ℕ) (config : Entries) (most : ℕ) (h : List Line) (marks : List StopBy)
    (now : ℕ) (net : NetTold) (a b : Assoc L) (e : Ended L) → HasHeard told counts (socks users pubs) generation config a b None Heard.Failed → (a.state).since ≡ now
    → (is_udp b.state ≡ false → Closed stands h marks Cause.ClientFault b e)
    → Turns told counts stands (context users pubs generation config most h marks) now net net a (Next.Done e)
reads-fail told counts stands users pubs generation config most h marks now net a b e k since closed =
    turns-before told counts stands users pubs generation config most h marks now net a b Heard.Failed (Next.Done e) k since
    (turns-closed told counts stands t net a b e [] t.sent false false (Some Object.Client) false Cause.ClientFault
    (stands-before told counts users pubs generation config most h marks a b Heard.Failed k) (record {
      closed = closed (ap is_udp is);
      state' = is;
      target' = k.target';
      told' = told-heard (told a.client) (told b.client) t.x false (k.hears).told';
      sent' = sym (append-nil t.sent);
      stuck = λ e1. refl;
      behind = heard t;
      takes = takes-open t [] [] (heard t) (settled-more t more) (heard-nothing t);
      open' = heard t;
      takes_open = takes-open t [] [] (heard t) (settled-more t more) (heard-nothing t);
      uncalling = ap (λ (p : Phase). is_calling p None) talks;
      unread_t = ap (reads_target (heard t)) talks;
      stops_c = StopsReading.failed refl;
      talks = λ e1. absurd (cc);
      short = λ e1. absurd (cc);
      faults = refl;
      fits = ap (λ (p : Phase). (reads_in (heard t) p Object.Client || has_pending (basis_of t) (heard t) Object.Client || may_be_shut (basis_of t) (heard t) Object.Client) && true) talks;
      rest = (left-to-send t false Cause.ClientFault fits).0;
      owed' = (left-to-send t false Cause.ClientFault fits).1;
      due = inr (inr refl);
      at_end = λ e1. absurd (cc);
      first = (k.hears).first (k.stands).client_first;
      idle_c = λ e1. absurd (cc);
      failed = Some Kind.Read;
      tried = tried-as (heard-tried (told a.client) (told b.client) (counts a.client) (counts b.client) (a.state).c (b.state).c Heard.Failed k.hears) (λ x. x) (λ x. refl) (λ x. tt);
      where_c = ap (λ (p : Phase). reads_in (heard t) p Object.Client) talks;
      fault_is = refl;
      unwritten_is = refl;
      fails_c = λ e1. (k.hears).ends.1;
      unfailing = λ e1. absurd (clash e1 (k.hears).ends.0);
    }))
  where
    t : Hearing
    t = hearing_of told counts users pubs generation config most h marks a b Heard.Failed k

    is : b.state ≡ heard t
    is = behind-is told counts users pubs generation config most h marks a b Heard.Failed k

    more : split_heard t ≡ Split.More
    more = heard-as told counts users pubs generation config most h marks a b Heard.Failed k

    fits : Fits t (Some Cause.ClientFault)
    fits = sym (ap is_failed_split more)

    talks : phase (basis_of t) (heard t) ≡ Phase.Talk
    talks = phase-more t t.sent false more

    clash : (told a.client).unfailing ≡ true → (told b.client).unfailing ≡ false → ⊥
    clash e1 e2 = let e3 : (told b.client).unfailing ≡ (told a.client).unfailing = ap (λ (z : Told). z.unfailing) (k.hears).told' in cc
