-- The turn in which a name is looked up, and the client is written to.
use Rattle.std.proofs.Common.{◌≡◌, ℕ, ◌-◌, Bool, true, false, Option, Some, None, Result, Ok, Err, List, [], ◌∷◌, ◌++◌, length, slice_set, refl, sym, ap, subst, ◌∙◌, is_some}
use Rattle.addr_pattern.specs.declared.addr.Addr.{Addr}
use Rattle.addr_pattern.specs.declared.host.Host.{Host}
use Rattle.conf_types.specs.declared.entries.Entries.{Entries}
use Rattle.socks_grammar.specs.declared.user.User.{User}
use Rattle.socks_grammar.specs.Handshake.{Split}
use Rattle.net_ends.specs.Counts.{Counts}
use Rattle.net_ends.specs.declared.net.Lookup.{Lookup}
use Rattle.net_ends.specs.Nets.{LookupCause, NetTold, looked_up}
use Rattle.connect_core.specs.Finding.{Finds, answer_of}
use Rattle.net_ends.specs.Told.{Told}
use Rattle.socks_machine.specs.declared.cause.Cause.{Cause}
use Rattle.socks_machine.specs.declared.cause.StopBy.{StopBy}
use Rattle.socks_machine.specs.declared.lines.Line.{Line}
use Rattle.socks_machine.specs.declared.record.Decision.{Decision}
use Rattle.socks_machine.specs.declared.record.Record.{Record}
use Rattle.socks_machine.specs.Calls.{call, is_calling, name_of}
use Rattle.socks_machine.specs.InTurn.{Called}
use Rattle.socks_machine.specs.Phase.{Phase, phase}
use Rattle.socks_machine.specs.Settle.{first_cause}
use Rattle.socks_machine.specs.Socks.{socks}
use Rattle.assoc_core.specs.declared.assoc.Assoc.{Assoc}
use Rattle.assoc_core.specs.declared.assoc.Next.{Next}
use Rattle.assoc_core.specs.declared.hear.Heard.TheVariants.{Asked as HasAsked}
use Rattle.assoc_core.specs.Hearing.{HasHeard}
use Rattle.handshake_core.specs.declared.request.Request.{Request as RequestIs}
use Rattle.handshake_core.specs.Answers.{request_in}
use Rattle.assoc_core.specs.Plain.{is_login_failed}
use Rattle.assoc_core.specs.Reaching.{SameDesk}
use Rattle.assoc_core.specs.Seeking.{Seeks, found_by, cause_by, sought_behind}
use Rattle.assoc_core.specs.Sending.{WritesOn}
use Rattle.assoc_core.specs.Turns.{Turns, context, looked_as}
use Rattle.assoc_core.proofs.Asking.{asked_heard, meets-seeking, arrives-heard, turns-asked}
use Rattle.assoc_core.proofs.AskTurns.{Asked, asked, asks-turn}
use Rattle.assoc_core.proofs.GrantTurns.{last-set}
use Rattle.assoc_core.proofs.HeardTurns.{hearing_of, before-is, behind-is, heard-as}
use Rattle.assoc_core.proofs.Talking.{Hearing, heard, split_heard, speaking, spoken_in}
use Rattle.assoc_core.proofs.TalkTurns.{CallsOut}

abbrev looked_ds : Hearing → List ℕ → Lookup → List Decision
looked_ds t name o = Decision.Opened t.g t.rule None ∷ Decision.Looked name (found_by o) ∷ []

seeks-as : (t : Hearing) (x : Asked) (name : List ℕ) (o : Lookup) → x.said ≡ speaking t → phase (socks t.users t.pubs) (heard t) ≡ Phase.Seek name
    → Called (spoken_in (speaking t)) (looked_as o) None (heard t) (record { left = asked (speaking t) (looked_ds t name o) t.sent (first_cause (cause_by o) None); h = t.h; marks = t.marks })
seeks-as t x name (Lookup.Found addr) is at = record {
  some = refl;
  due = ap (λ (p : Phase). is_calling p None) at;
  made = ap (λ (p : Phase). call (spoken_in (speaking t)) (heard t) p None (looked_as (Lookup.Found addr))) at;
}
seeks-as t x name Lookup.NotFound is at = record {
  some = refl;
  due = ap (λ (p : Phase). is_calling p None) at;
  made = ap (λ (p : Phase). call (spoken_in (speaking t)) (heard t) p None (looked_as Lookup.NotFound)) at;
}
seeks-as t x name Lookup.Failed is at = record {
  some = refl;
  due = ap (λ (p : Phase). is_calling p None) at;
  made = ap (λ (p : Phase). call (spoken_in (speaking t)) (heard t) p None (looked_as Lookup.Failed)) at;
}

lookup-unlogged : (o : Lookup) → is_login_failed (cause_by o) ≡ false
lookup-unlogged (Lookup.Found addr) = refl
lookup-unlogged Lookup.NotFound = refl
lookup-unlogged Lookup.Failed = refl

not-found : (o : Lookup) → found_by o ≡ None → is_some (cause_by o) ≡ true
not-found (Lookup.Found addr) e = absurd (cc)
not-found Lookup.NotFound e = refl
not-found Lookup.Failed e = refl

calls-lookup : (net net' : NetTold) (name : List ℕ) (old new : Record) (k : Seeks net net' name old new) → (there : Bool) → CallsOut net net' (Phase.Seek name) (looked_as k.outcome) there
calls-lookup net net' name old new k there = by k.outcome refl
  where
    by : (w : Lookup) → k.outcome ≡ w → CallsOut net net' (Phase.Seek name) (looked_as w) there
    by (Lookup.Found addr) e = record {
      dials = ap (λ (n : NetTold). n.dials) k.lookups;
      lookups = (Lookup.Found addr, refl, ap (λ (n : NetTold). n.lookups) k.lookups ∙ ap (λ (v : Lookup). looked_up net.lookups (record { name = name; outcome = v })) e);
      lookup_plan = ap (λ (n : NetTold). n.lookup_plan) k.lookups;
      plan' = ap (λ (n : NetTold). n.plan) k.lookups;
      outer' = λ plan p. ap looked_as (sym e ∙ k.planned plan p);
      counted = tt;
    }
    by Lookup.NotFound e = record {
      dials = ap (λ (n : NetTold). n.dials) k.lookups;
      lookups = (Lookup.NotFound, refl, ap (λ (n : NetTold). n.lookups) k.lookups ∙ ap (λ (v : Lookup). looked_up net.lookups (record { name = name; outcome = v })) e);
      lookup_plan = ap (λ (n : NetTold). n.lookup_plan) k.lookups;
      plan' = ap (λ (n : NetTold). n.plan) k.lookups;
      outer' = λ plan p. ap looked_as (sym e ∙ k.planned plan p);
      counted = subst (λ (v : Lookup). LookupCause net.counts net'.counts v) e k.cause;
    }
    by Lookup.Failed e = record {
      dials = ap (λ (n : NetTold). n.dials) k.lookups;
      lookups = (Lookup.Failed, refl, ap (λ (n : NetTold). n.lookups) k.lookups ∙ ap (λ (v : Lookup). looked_up net.lookups (record { name = name; outcome = v })) e);
      lookup_plan = ap (λ (n : NetTold). n.lookup_plan) k.lookups;
      plan' = ap (λ (n : NetTold). n.plan) k.lookups;
      outer' = λ plan p. ap looked_as (sym e ∙ k.planned plan p);
      counted = subst (λ (v : Lookup). LookupCause net.counts net'.counts v) e k.cause;
    }

pub seeks-turn : {L : Type 0} (told : L → Told) (counts : L → Counts) (users : List User) (pubs : List Entries) (generation : ℕ) (config : Entries) (most : ℕ) (h : List Line) (marks : List StopBy)
    (now : ℕ) (net net' : NetTold) (a b : Assoc L) (request : RequestIs) (name : List ℕ) (s : Record) (next : Next L)
    → HasHeard told counts (socks users pubs) generation config a b None (HasAsked request) → request.host ≡ Host.Name name → (a.state).since ≡ now
    → Seeks net net' name b.state s → WritesOn told counts (record { state = s; client = b.client; target = b.target }) next
    → Turns told counts (SameDesk h marks) (context users pubs generation config most h marks) now net net' a next
seeks-turn told counts users pubs generation config most h marks now net net' a b request name s next k named since sought w =
    turns-asked told counts (SameDesk h marks) x.said now net net' a next (before-is told counts users pubs generation config most h marks a b (HasAsked request) k) since
    (asks-turn told counts (SameDesk h marks) x (looked_as o) (looked_ds t name o) (cause_by o) h marks net net' a (record { state = s; client = b.client; target = b.target }) next
    (record {
      called = seeks-as t x name o refl x.is;
      unlogged = lookup-unlogged o;
      opened = refl;
      unreached = refl;
      decided = λ sent cause stands. record {
        untargeted = record { t = refl; sent_t = refl; end_t = refl; shut_c = refl; shut_t = refl };
        asked = record { request = request_in request; len = request.len; whole = whole };
        named = ap name_of named;
        unended = refl;
        stands = λ e. stands (not-found o e);
      };
      direct = record { direct = refl; known = tt; connects = refl };
    })
    (arrives-heard told counts users pubs generation config most h marks a b request k x refl) k.target'
    (sought.state' ∙ ap (sought_behind name o) (behind-is told counts users pubs generation config most h marks a b (HasAsked request) k))
    w (refl, refl) (calls-lookup net net' name b.state s sought))
  where
    o : Lookup
    o = sought.outcome

    t : Hearing
    t = hearing_of told counts users pubs generation config most h marks a b (HasAsked request) k

    whole : split_heard t ≡ Split.Whole (request_in request) request.len
    whole = heard-as told counts users pubs generation config most h marks a b (HasAsked request) k

    x : Asked
    x = asked_heard t (request_in request) request.len whole (Phase.Seek name) (meets-seeking t (request_in request) request.len name whole named)

-- ---- as the code looks a name up

answer-found : (o : Lookup) (addr : Addr) → Ok addr ≡ answer_of o → (found_by o ≡ Some addr) × (cause_by o ≡ None)
answer-found (Lookup.Found a) addr e = (ap found-in (sym e), refl)
  where
    found-in : Result Addr Cause → Option Addr
    found-in (Ok x) = Some x
    found-in (Err k) = None
answer-found Lookup.NotFound addr e = absurd (cc)
answer-found Lookup.Failed addr e = absurd (cc)

pub seeks-found : (net net' : NetTold) (name host held : List ℕ) (found : Result Addr Cause) (addr : Addr) (old : Record) (pushed after : List Decision)
    → Finds net net' name found → found ≡ Ok addr → host ≡ name → held ≡ name → pushed ≡ old.decisions ++ Decision.Looked host None ∷ []
    → after ≡ slice_set pushed (length pushed - 1) (Decision.Looked held (Some addr)) → Seeks net net' name old (let r = old in record r { decisions = after })
seeks-found net net' name host held found addr old pushed after k is host' held' pushed' after' = record {
  outcome = k.outcome;
  lookups = k.lookups;
  planned = k.planned;
  cause = k.cause;
  state' = λ i. let r = old in record r { decisions = ds i; cause = ap (λ (o : Option Cause). first_cause o r.cause) (sym (answer-found k.outcome addr (sym is ∙ k.answer)).1) i };
}
  where
    ds : after ≡ old.decisions ++ Decision.Looked name (found_by k.outcome) ∷ []
    ds = last-set old.decisions pushed after (Decision.Looked host None) (Decision.Looked held (Some addr)) pushed' after'
        ∙ (λ i. old.decisions ++ Decision.Looked (held' i) (sym (answer-found k.outcome addr (sym is ∙ k.answer)).0 i) ∷ [])

answer-missed : (o : Lookup) (cause : Cause) → Err cause ≡ answer_of o → (found_by o ≡ None) × (cause_by o ≡ Some cause)
answer-missed (Lookup.Found a) cause e = absurd (cc)
answer-missed Lookup.NotFound cause e = (refl, ap cause-in (sym e))
  where
    cause-in : Result Addr Cause → Option Cause
    cause-in (Ok x) = None
    cause-in (Err k) = Some k
answer-missed Lookup.Failed cause e = (refl, ap cause-in (sym e))
  where
    cause-in : Result Addr Cause → Option Cause
    cause-in (Ok x) = None
    cause-in (Err k) = Some k

pub seeks-missed : (net net' : NetTold) (name host : List ℕ) (found : Result Addr Cause) (cause : Cause) (fixed : Option Cause) (old : Record) (pushed : List Decision)
    → Finds net net' name found → found ≡ Err cause → host ≡ name → pushed ≡ old.decisions ++ Decision.Looked host None ∷ [] → fixed ≡ first_cause (Some cause) old.cause
    → Seeks net net' name old (let r = old in record r { decisions = pushed; cause = fixed })
seeks-missed net net' name host found cause fixed old pushed k is host' pushed' fixed' = record {
  outcome = k.outcome;
  lookups = k.lookups;
  planned = k.planned;
  cause = k.cause;
  state' = λ i. let r = old in record r {
    decisions = (pushed' ∙ (λ n. old.decisions ++ Decision.Looked (host' n) (sym (answer-missed k.outcome cause (sym is ∙ k.answer)).0 n) ∷ [])) i;
    cause = (fixed' ∙ ap (λ (o : Option Cause). first_cause o r.cause) (sym (answer-missed k.outcome cause (sym is ∙ k.answer)).1)) i;
  };
}
