-- The turn in which a client is let in or refused.
use Rattle.std.proofs.Common.{◌≡◌, ℕ, Bool, true, false, Option, Some, None, List, [], ◌∷◌, ◌++◌, refl, sym, ap, subst, ◌∙◌, ◌-◌, length, slice_set}
use Rattle.addr_pattern.specs.declared.endpoint.Endpoint.{Endpoint}
use Rattle.conf_types.specs.declared.entries.Entries.{Entries}
use Rattle.socks_grammar.specs.declared.user.User.{User}
use Rattle.net_ends.specs.Counts.{Counts}
use Rattle.net_ends.specs.Nets.{NetTold}
use Rattle.net_ends.specs.Told.{Told}
use Rattle.socks_machine.specs.declared.cause.Cause.{Cause}
use Rattle.socks_machine.specs.declared.cause.StopBy.{StopBy}
use Rattle.socks_machine.specs.declared.lines.Line.{Line}
use Rattle.socks_machine.specs.declared.lines.OpenLine.{OpenLine}
use Rattle.socks_machine.specs.declared.lines.Said.{Said}
use Rattle.socks_machine.specs.declared.record.Decision.{Decision}
use Rattle.socks_machine.specs.declared.record.Record.{Record}
use Rattle.socks_machine.specs.declared.world.NextMark.{NextMark}
use Rattle.socks_machine.specs.declared.world.Outer.{Outer}
use Rattle.socks_machine.specs.declared.world.TurnEvent.{TurnEvent}
use Rattle.session_desk.specs.Calls.{Opens}
use Rattle.socks_machine.specs.Calls.{Context, TurnResult, refusal_said, blocked_client, decided}
use Rattle.socks_machine.specs.Decisions.{reached_at}
use Rattle.socks_machine.specs.History.{Desked, at_open}
use Rattle.socks_machine.specs.Settle.{first_cause}
use Rattle.socks_machine.specs.Socks.{socks}
use Rattle.socks_machine.specs.Step.{fresh}
use Rattle.socks_machine.specs.Turn.{turn, after_call}
use Rattle.assoc_core.specs.declared.assoc.Assoc.{Assoc}
use Rattle.assoc_core.specs.declared.assoc.Ended.{Ended}
use Rattle.assoc_core.specs.declared.assoc.Next.{Next}
use Rattle.assoc_core.specs.Lines.{client_line}
use Rattle.assoc_core.specs.Plain.{HasDecided, owed_c, owed_t}
use Rattle.assoc_core.specs.Stands.{Stands, HoldsTarget}
use Rattle.assoc_core.specs.Turns.{Turns, Acts, event_of, context, StopsReading}
use Rattle.assoc_core.proofs.StandsLaws.{no_acts, target-same, same-outside, same-target}
use Rattle.assoc_core.proofs.Tryings.{target-untried, tried-none}

-- ---- the record behind it

abbrev pub let_in : ℕ → Option ℕ → Option Cause → Bool → Record → Record
let_in generation rule refused ends r = record r {
  decisions = r.decisions ++ Decision.Opened generation rule refused ∷ [];
  cause = first_cause refused r.cause;
  done = ends;
}

abbrev pub with_state : {L : Type 0} → Assoc L → Record → Assoc L
with_state a r = record { state = r; client = a.client; target = a.target }

abbrev pub ended_with : {L : Type 0} → Assoc L → Record → Ended L
ended_with a r = record { state = r; client = a.client; target = a.target }

abbrev pub accepted : {L : Type 0} → Assoc L → ℕ → Option ℕ → Option Cause → Next L
accepted a generation rule None = Next.Again (with_state a (let_in generation rule None (a.state).done a.state))
accepted a generation rule (Some cause) = Next.Done (ended_with a (let_in generation rule (Some cause) true a.state))

-- ---- the event

abbrev opening : Bool → Acts
opening logged = record no_acts { outer = Outer.Desk logged }

-- what the desk said, and why the client is refused
abbrev pub said_of : List Line → List StopBy → ℕ → OpenLine → Bool → Desked Said
said_of h marks cap line logged = at_open h marks cap line logged

abbrev pub refused_of : List Line → List StopBy → ℕ → OpenLine → Bool → Option Cause
refused_of h marks cap line logged = refusal_said (said_of h marks cap line logged).said (blocked_client line.generation line.rule line.pass)

behind-desk : Context → TurnEvent → Record → OpenLine → Desked Said → Option Cause → Option TurnResult
behind-desk s ev r line d refused = after_call s ev r (record { left = decided (Decision.Opened line.generation line.rule refused) refused r; h = d.h; marks = d.marks })

opens-none : (users : List User) (pubs : List Entries) (generation : ℕ) (config : Entries) (cap : ℕ) (h : List Line) (marks : List StopBy) (now worker number : ℕ) (peer local : Endpoint) (logged : Bool)
    → refused_of h marks cap (client_line generation config (fresh number peer local now)) logged ≡ None
    → turn (context users pubs generation config cap h marks) (event_of worker number now (opening logged) NextMark.Again) (fresh number peer local now)
    ≡ Some (record {
      left = let_in generation (client_line generation config (fresh number peer local now)).rule None false (fresh number peer local now);
      h = (said_of h marks cap (client_line generation config (fresh number peer local now)) logged).h;
      marks = (said_of h marks cap (client_line generation config (fresh number peer local now)) logged).marks;
    })
unfolding behind-desk
opens-none users pubs generation config cap h marks now worker number peer local logged e =
    ap (behind-desk s (event_of worker number now (opening logged) NextMark.Again) (fresh number peer local now) line (said_of h marks cap line logged)) e
  where
    s : Context
    s = context users pubs generation config cap h marks

    line : OpenLine
    line = client_line generation config (fresh number peer local now)

opens-some : (users : List User) (pubs : List Entries) (generation : ℕ) (config : Entries) (cap : ℕ) (h : List Line) (marks : List StopBy) (now worker number : ℕ) (peer local : Endpoint) (logged : Bool) (cause : Cause)
    → refused_of h marks cap (client_line generation config (fresh number peer local now)) logged ≡ Some cause
    → turn (context users pubs generation config cap h marks) (event_of worker number now (opening logged) NextMark.Done) (fresh number peer local now)
    ≡ Some (record {
      left = let_in generation (client_line generation config (fresh number peer local now)).rule (Some cause) true (fresh number peer local now);
      h = (said_of h marks cap (client_line generation config (fresh number peer local now)) logged).h;
      marks = (said_of h marks cap (client_line generation config (fresh number peer local now)) logged).marks;
    })
unfolding behind-desk
opens-some users pubs generation config cap h marks now worker number peer local logged cause e =
    ap (behind-desk s (event_of worker number now (opening logged) NextMark.Done) (fresh number peer local now) line (said_of h marks cap line logged)) e
  where
    s : Context
    s = context users pubs generation config cap h marks

    line : OpenLine
    line = client_line generation config (fresh number peer local now)

-- ---- the turn

abbrev Turned : {L : Type 0} → (told : L → Told) → (counts : L → Counts) → (stands : List Line → List StopBy → Type 0) → Context → ℕ → NetTold → ℕ → Option ℕ → Option Cause → Assoc L → Record → Type 0
Turned told counts stands s now net generation rule refused a r = Turns told counts stands s now net net (with_state a r) (accepted (with_state a r) generation rule refused)

no-target-yet : {L : Type 0} (told : L → Told) (r : Record) (target : Option L) → r.decisions ≡ [] → HoldsTarget told r target → (decision : ℕ × Option ℕ × Option Cause) → (x : Record)
    → x ≡ let_in decision.0 decision.1 decision.2 x.done r → HoldsTarget told x target
no-target-yet told r target none h decision x is =
    target-same told r x target (record {
      at = ap (λ z. reached_at z.decisions) is ∙ (ap (λ ds. reached_at (ds ++ Decision.Opened decision.0 decision.1 decision.2 ∷ [])) none ∙ sym (ap reached_at none));
      t = ap (λ z. z.t) is;
      sent_t = ap (λ z. z.sent_t) is;
      end_t = ap (λ z. z.end_t) is;
      shut_t = ap (λ z. z.shut_t) is;
    }) h

fresh-turns : {L : Type 0} (told : L → Told) (counts : L → Counts) (stands : List Line → List StopBy → Type 0)
    (users : List User) (pubs : List Entries) (generation : ℕ) (config : Entries) (cap : ℕ) (h : List Line) (marks : List StopBy) (now : ℕ) (net : NetTold) (a : Assoc L)
    (number : ℕ) (peer local : Endpoint) (logged : Bool) (refused : Option Cause)
    → refused_of h marks cap (client_line generation config (fresh number peer local now)) logged ≡ refused
    → stands (said_of h marks cap (client_line generation config (fresh number peer local now)) logged).h (said_of h marks cap (client_line generation config (fresh number peer local now)) logged).marks
    → Stands told (socks users pubs) (with_state a (fresh number peer local now))
    → Turned told counts stands (context users pubs generation config cap h marks) now net generation (client_line generation config (fresh number peer local now)).rule refused a (fresh number peer local now)
fresh-turns told counts stands users pubs generation config cap h marks now net a number peer local logged None e desk k =
    let r : Record = fresh number peer local now in
    let line : OpenLine = client_line generation config r in
    let x : Record = let_in generation line.rule None false r in
    record {
      acts = opening logged;
      result = record { left = x; h = (said_of h marks cap line logged).h; marks = (said_of h marks cap line logged).marks };
      lawful = λ worker. opens-none users pubs generation config cap h marks now worker number peer local logged e;
      state' = refl;
      desk = desk;
      goes_on = record {
        undone = refl;
        unclosed = refl;
        grams = refl;
        sent_u = refl;
        served = refl;
        chosen' = refl;
        failed = refl;
        decided = record { untargeted = record { t = refl; sent_t = refl; end_t = refl; shut_c = refl; shut_t = refl }; talks = λ none. (refl, refl) };
        sent_c = (owed_c x, refl);
        sent_t = (owed_t x, refl);
      };
      direct = record { direct = refl; known = tt; connects = refl };
      c = refl;
      t = refl;
      ends_c = λ h1. h1;
      ends_t = λ h1. h1;
      sent_c = refl;
      sent_t = refl;
      since = λ e. e;
      number = refl;
      client = k.client;
      client_ends = k.client_ends;
      client_first = k.client_first;
      target = no-target-yet told r a.target refl k.target (generation, line.rule, None) x refl;
      same_client = same-outside (told a.client);
      same_target = same-target told net a.target;
      behind = r;
      taken' = λ worker. refl;
      dials = refl;
      lookups = refl;
      lookup_plan = refl;
      plan' = refl;
      outer' = tt;
      counted = refl;
      stops_c = λ worker. StopsReading.unread (record { behind = r; taken' = refl; unread' = refl });
      stops_t = λ worker. StopsReading.unread (record { behind = r; taken' = refl; unread' = refl });
      reads_end_c = λ worker h1. absurd (cc);
      reads_end_t = λ worker h1. absurd (cc);
      idle_c = λ h1. absurd (cc);
      idle_t = λ h1. absurd (cc);
      full_c = λ h1. absurd (cc);
      full_t = λ h1. absurd (cc);
      room_c = λ h1. refl;
      room_t = λ h1. refl;
      failed_c = None;
      failed_t = None;
      tried_c = tried-none (counts a.client) (refl, refl, refl) (refl, refl) refl;
      tried_t = target-untried counts net a.target (refl, refl, refl) (refl, refl) refl;
      where_c = tt;
      where_t = tt;
      fault_is = (refl, refl);
      unwritten_is = refl;
      fails_c = λ h1. absurd (cc);
      unfailing = λ h1 h2. (refl, refl);
    }
fresh-turns told counts stands users pubs generation config cap h marks now net a number peer local logged (Some cause) e desk k =
    let r : Record = fresh number peer local now in
    let line : OpenLine = client_line generation config r in
    let x : Record = let_in generation line.rule (Some cause) true r in
    record {
      acts = opening logged;
      result = record { left = x; h = (said_of h marks cap line logged).h; marks = (said_of h marks cap line logged).marks };
      lawful = λ worker. opens-some users pubs generation config cap h marks now worker number peer local logged cause e;
      state' = refl;
      desk = desk;
      goes_on = (refl, refl, refl);
      direct = record { direct = refl; known = tt; connects = refl };
      c = refl;
      t = refl;
      ends_c = λ h1. h1;
      ends_t = λ h1. h1;
      sent_c = refl;
      sent_t = refl;
      since = λ e. e;
      number = refl;
      client = k.client;
      client_ends = k.client_ends;
      client_first = k.client_first;
      target = no-target-yet told r a.target refl k.target (generation, line.rule, Some cause) x refl;
      same_client = same-outside (told a.client);
      same_target = same-target told net a.target;
      behind = r;
      taken' = λ worker. refl;
      dials = refl;
      lookups = refl;
      lookup_plan = refl;
      plan' = refl;
      outer' = tt;
      counted = refl;
      stops_c = λ worker. StopsReading.unread (record { behind = r; taken' = refl; unread' = refl });
      stops_t = λ worker. StopsReading.unread (record { behind = r; taken' = refl; unread' = refl });
      reads_end_c = λ worker h1. absurd (cc);
      reads_end_t = λ worker h1. absurd (cc);
      idle_c = λ h1. absurd (cc);
      idle_t = λ h1. absurd (cc);
      full_c = λ h1. absurd (cc);
      full_t = λ h1. absurd (cc);
      room_c = λ h1. refl;
      room_t = λ h1. refl;
      failed_c = None;
      failed_t = None;
      tried_c = tried-none (counts a.client) (refl, refl, refl) (refl, refl) refl;
      tried_t = target-untried counts net a.target (refl, refl, refl) (refl, refl) refl;
      where_c = tt;
      where_t = tt;
      fault_is = (refl, refl);
      unwritten_is = refl;
      fails_c = λ h1. absurd (cc);
      unfailing = λ h1 h2. (refl, refl);
    }

-- nothing was decided, so nothing has happened
unbegun : (users : List User) (r : Record) (ds : List Decision) → ds ≡ [] → HasDecided users r ds → r ≡ fresh r.number r.peer r.local r.since
unbegun users r [] e h = h
unbegun users r (d ∷ ds) e h = absurd (cc)

pub accepts : {L : Type 0} (told : L → Told) (counts : L → Counts) (stands : List Line → List StopBy → Type 0)
    (users : List User) (pubs : List Entries) (generation : ℕ) (config : Entries) (cap : ℕ) (h : List Line) (marks : List StopBy) (now : ℕ) (net : NetTold) (a : Assoc L)
    (logged : Bool) (refused : Option Cause)
    → refused_of h marks cap (client_line generation config a.state) logged ≡ refused
    → stands (said_of h marks cap (client_line generation config a.state) logged).h (said_of h marks cap (client_line generation config a.state) logged).marks
    → Stands told (socks users pubs) a → (a.state).since ≡ now → (a.state).decisions ≡ []
    → Turns told counts stands (context users pubs generation config cap h marks) now net net a (accepted a generation (client_line generation config a.state).rule refused)
accepts told counts stands users pubs generation config cap h marks now net a logged refused e desk k since none =
    subst (Turned told counts stands (context users pubs generation config cap h marks) now net generation (client_line generation config a.state).rule refused a) (sym is)
    (fresh-turns told counts stands users pubs generation config cap h marks now net a (a.state).number (a.state).peer (a.state).local logged refused e desk
    (subst (λ (r : Record). Stands told (socks users pubs) (with_state a r)) is k))
  where
    is : a.state ≡ fresh (a.state).number (a.state).peer (a.state).local now
    is = unbegun users a.state (a.state).decisions none (k.plain).decided ∙ ap (fresh (a.state).number (a.state).peer (a.state).local) since

-- ---- as the code has it

-- the provisional decision is set behind the call
placed : (before pushed after : List Decision) (x y : Decision) → before ≡ [] → pushed ≡ before ++ x ∷ [] → after ≡ slice_set pushed (length pushed - 1) y → after ≡ before ++ y ∷ []
placed before pushed after x y none e1 e2 =
    e2 ∙ (ap (λ p. slice_set p (length p - 1) y) (e1 ∙ ap (λ b. b ++ x ∷ []) none) ∙ ap (λ b. b ++ y ∷ []) (sym none))

pub record Asked (stands : List Line → List StopBy → Type 0) (generation : ℕ) (config : Entries) (cap : ℕ) (h : List Line) (marks : List StopBy)
    (r : Record) (line : OpenLine) (said : Said) (refused : Option Cause) (pushed after : List Decision) (cause : Option Cause) : Type 0 where
  pub line' : line ≡ client_line generation config r
  pub desk : Opens stands h marks cap line said
  pub refused' : refused ≡ refusal_said said (blocked_client generation line.rule line.pass)
  pub pushed' : pushed ≡ r.decisions ++ Decision.Opened generation line.rule None ∷ []
  pub after' : after ≡ slice_set pushed (length pushed - 1) (Decision.Opened generation line.rule refused)
  pub cause' : cause ≡ first_cause refused r.cause

pub lets-in : {L : Type 0} (told : L → Told) (counts : L → Counts) (stands : List Line → List StopBy → Type 0)
    (users : List User) (pubs : List Entries) (generation : ℕ) (config : Entries) (cap : ℕ) (h : List Line) (marks : List StopBy) (now : ℕ) (net : NetTold) (a : Assoc L)
    (line : OpenLine) (said : Said) (refused : Option Cause) (pushed after : List Decision) (cause : Option Cause)
    → Asked stands generation config cap h marks a.state line said refused pushed after cause → refused ≡ None
    → Stands told (socks users pubs) a → (a.state).since ≡ now → (a.state).decisions ≡ []
    → Turns told counts stands (context users pubs generation config cap h marks) now net net a
    (Next.Again (with_state a (let r = a.state in record r { decisions = after; cause = cause })))
lets-in told counts stands users pubs generation config cap h marks now net a line said refused pushed after cause k none standing since undecided =
    subst (λ (z : Next _). Turns told counts stands (context users pubs generation config cap h marks) now net net a z)
    (λ i. Next.Again (with_state a (let r = a.state in record r { decisions = sym decisions' i; cause = sym cause' i })))
    (accepts told counts stands users pubs generation config cap h marks now net a (k.desk).logged None refused'
    (subst (λ (l : OpenLine). stands (at_open h marks cap l (k.desk).logged).h (at_open h marks cap l (k.desk).logged).marks) k.line' (k.desk).stands') standing since undecided)
  where
    refused' : refused_of h marks cap (client_line generation config a.state) (k.desk).logged ≡ None
    refused' =
        ap (λ (l : OpenLine). refusal_said (at_open h marks cap l (k.desk).logged).said (blocked_client generation l.rule l.pass)) (sym k.line')
        ∙ (ap (λ s. refusal_said s (blocked_client generation line.rule line.pass)) (sym (k.desk).said') ∙ (sym k.refused' ∙ none))

    decisions' : after ≡ (a.state).decisions ++ Decision.Opened generation (client_line generation config a.state).rule None ∷ []
    decisions' = placed (a.state).decisions pushed after (Decision.Opened generation line.rule None) (Decision.Opened generation line.rule refused) undecided k.pushed' k.after'
        ∙ (λ i. (a.state).decisions ++ Decision.Opened generation (k.line' i).rule (none i) ∷ [])

    cause' : cause ≡ first_cause None (a.state).cause
    cause' = k.cause' ∙ ap (λ z. first_cause z (a.state).cause) none

pub refuses-in : {L : Type 0} (told : L → Told) (counts : L → Counts) (stands : List Line → List StopBy → Type 0)
    (users : List User) (pubs : List Entries) (generation : ℕ) (config : Entries) (cap : ℕ) (h : List Line) (marks : List StopBy) (now : ℕ) (net : NetTold) (a : Assoc L)
    (line : OpenLine) (said : Said) (refused : Option Cause) (pushed after : List Decision) (cause : Option Cause) (why : Cause) (ended : Ended L)
    → Asked stands generation config cap h marks a.state line said refused pushed after cause → refused ≡ Some why
    → ended ≡ ended_with a (let r = a.state in record r { decisions = after; cause = cause; done = true })
    → Stands told (socks users pubs) a → (a.state).since ≡ now → (a.state).decisions ≡ []
    → Turns told counts stands (context users pubs generation config cap h marks) now net net a (Next.Done ended)
refuses-in told counts stands users pubs generation config cap h marks now net a line said refused pushed after cause why ended k some is standing since undecided =
    subst (λ (z : Next _). Turns told counts stands (context users pubs generation config cap h marks) now net net a z)
    ((λ i. Next.Done (ended_with a (let r = a.state in record r { decisions = sym decisions' i; cause = sym cause' i; done = true }))) ∙ ap Next.Done (sym is))
    (accepts told counts stands users pubs generation config cap h marks now net a (k.desk).logged (Some why) refused'
    (subst (λ (l : OpenLine). stands (at_open h marks cap l (k.desk).logged).h (at_open h marks cap l (k.desk).logged).marks) k.line' (k.desk).stands') standing since undecided)
  where
    refused' : refused_of h marks cap (client_line generation config a.state) (k.desk).logged ≡ Some why
    refused' =
        ap (λ (l : OpenLine). refusal_said (at_open h marks cap l (k.desk).logged).said (blocked_client generation l.rule l.pass)) (sym k.line')
        ∙ (ap (λ s. refusal_said s (blocked_client generation line.rule line.pass)) (sym (k.desk).said') ∙ (sym k.refused' ∙ some))

    decisions' : after ≡ (a.state).decisions ++ Decision.Opened generation (client_line generation config a.state).rule (Some why) ∷ []
    decisions' = placed (a.state).decisions pushed after (Decision.Opened generation line.rule None) (Decision.Opened generation line.rule refused) undecided k.pushed' k.after'
        ∙ (λ i. (a.state).decisions ++ Decision.Opened generation (k.line' i).rule (some i) ∷ [])

    cause' : cause ≡ first_cause (Some why) (a.state).cause
    cause' = k.cause' ∙ ap (λ z. first_cause z (a.state).cause) some
