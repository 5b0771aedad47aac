-- The turn in which a granted destination is dialled.
use Rattle.std.proofs.Common.{◌≡◌, ℕ, ◌≤◌, Bool, true, false, ◌&&◌, ◌||◌, not, if◌then◌else◌, Option, Some, None, List, [], ◌∷◌, ◌++◌, length, refl, sym, ap, subst, ◌∙◌, inl, inr, is_some}
use mathlib.Core.List.{IsPrefix}
use Rattle.addr_pattern.specs.declared.endpoint.Endpoint.{Endpoint}
use Rattle.conf_types.specs.declared.entries.Entries.{Entries}
use Rattle.socks_grammar.specs.declared.protocol.Command.{Command}
use Rattle.socks_grammar.specs.declared.user.User.{User}
use Rattle.socks_grammar.specs.Handshake.{Request, Split, login_place}
use Rattle.net_ends.specs.Nets.{DialOutcome}
use Rattle.rule_list.specs.declared.facts.Facts.{Facts}
use Rattle.rule_list.specs.declared.verdict.Verdict.{Verdict}
use Rattle.rule_list.specs.Rules.{numbered}
use Rattle.socks_machine.specs.declared.cause.Cause.{Cause}
use Rattle.socks_machine.specs.declared.cause.StopBy.{StopBy}
use Rattle.socks_machine.specs.declared.lines.Line.{Line}
use Rattle.socks_machine.specs.declared.record.Chosen.{Chosen}
use Rattle.socks_machine.specs.declared.record.Decision.{Decision}
use Rattle.socks_machine.specs.declared.record.Record.{Record}
use Rattle.socks_machine.specs.declared.world.NextMark.{NextMark}
use Rattle.socks_machine.specs.declared.world.Object.{Object}
use Rattle.socks_machine.specs.declared.world.Outer.{Outer}
use Rattle.socks_machine.specs.declared.world.TurnEvent.{TurnEvent}
use Rattle.socks_machine.specs.Basis.{Basis}
use Rattle.socks_machine.specs.Calls.{Context, TurnResult, keep, call, decided, dialled, is_calling, name_of}
use Rattle.socks_machine.specs.Datagrams.{owed_datagrams}
use Rattle.socks_machine.specs.Decisions.{Grant, reached_at}
use Rattle.socks_machine.specs.InTurn.{Called}
use Rattle.socks_machine.specs.Owed.{owed_to_client, owed_to_target}
use Rattle.socks_machine.specs.Inputs.{is_served_split}
use Rattle.socks_machine.specs.Phase.{Phase, phase, began}
use Rattle.socks_machine.specs.Settle.{first_cause}
use Rattle.socks_machine.specs.Socks.{socks, chosen_reply, passed_reply}
use Rattle.socks_machine.specs.Turn.{turn, moves, fault_fits, with_fault, fault_cause}
use Rattle.socks_machine.proofs.CallLaws.{answers-call}
use Rattle.socks_machine.specs.View.{proxy_in, asks_login}
use Rattle.assoc_core.specs.Plain.{IsPlainRecord, HasAsked, HasChosen, Sought, behind_lookup, name_sought, plain_to_client, split_by, prelude_of, is_login_failed, opening_owed, success_reply, refusal_owed, plain_to_target, payload_to_client}
use Rattle.connect_core.specs.Reaching.{cause_of}
use Rattle.assoc_core.specs.Reaching.{at_of}
use Rattle.assoc_core.specs.Turns.{Acts, event_of, context, outer_of}
use Rattle.assoc_core.proofs.Payload.{unfailed}
use Rattle.assoc_core.proofs.PlainRecords.{and-false, reach-phase, passed_grant, has-dialled, behind-more, at-behind as at-lookup}
use Rattle.assoc_core.proofs.TalkCloses.{sends}
use Rattle.assoc_core.proofs.Talking.{Party}

-- ---- the records

-- a turn that dials for a client which has said c
pub record Dialling : Type 0 where
  pub users : List User
  pub pubs : List Entries
  pub generation : ℕ
  pub config : Entries
  pub most : ℕ
  pub h : List Line
  pub marks : List StopBy
  pub party : Party
  pub g : ℕ
  pub rule : Option ℕ
  pub sought : Option Sought
  pub g' : ℕ
  pub asked : Facts
  pub verdict : Verdict
  pub route : Option ℕ
  pub c : List ℕ
  pub sent : List ℕ
  pub chosen : Option Chosen
  pub request : Request
  pub len : ℕ
  pub served : is_served_split (split_by users chosen c) ≡ true
  pub chosen' : HasChosen c chosen
  pub whole : split_by users chosen c ≡ Split.Whole request len
  pub named : name_of request.host ≡ name_sought sought
  pub sent' : IsPrefix sent (opening_owed c chosen None ++ [])
  pub direct : proxy_in route (numbered pubs g') ≡ None
  pub known : g' ≤ length pubs

abbrev pub dialler : Party → List ℕ → List ℕ → List ℕ → Option Chosen → List Decision → Option Cause → Record
dialler p c sent_c sent_t chosen ds cause = record {
  number = p.number;
  peer = p.peer;
  local = p.local;
  since = p.since;
  c = c;
  t = [];
  sent_c = sent_c;
  sent_t = sent_t;
  end_c = false;
  end_t = false;
  shut_c = false;
  shut_t = false;
  chosen = chosen;
  decisions = ds;
  grams = [];
  sent_u = [];
  cause = cause;
  at_close = None;
  done = false;
}

-- the facts are those of a CONNECT
abbrev pub connecting : Facts → Facts
connecting facts = record facts { command = Command.Connect }

abbrev pub granted_before : Dialling → List Decision
granted_before d = Decision.Opened d.g d.rule None ∷ behind_lookup d.sought (Decision.Granted d.g' (connecting d.asked) d.verdict d.route None ∷ [])

abbrev pub reached_behind : Dialling → Option Endpoint → List Decision
reached_behind d at = Decision.Opened d.g d.rule None ∷ behind_lookup d.sought (Decision.Granted d.g' (connecting d.asked) d.verdict d.route None ∷ Decision.Reached (d.asked).to at ∷ [])

pub ds-behind : (d : Dialling) (at : Option Endpoint) → granted_before d ++ Decision.Reached (d.asked).to at ∷ [] ≡ reached_behind d at
ds-behind d at = ap (λ (ds : List Decision). Decision.Opened d.g d.rule None ∷ ds)
    (behind-more d.sought (Decision.Granted d.g' (connecting d.asked) d.verdict d.route None ∷ []) (Decision.Reached (d.asked).to at ∷ []))

pub at-behind : (d : Dialling) (at : Option Endpoint) → reached_at (reached_behind d at) ≡ at
at-behind d at = at-lookup d.g d.rule d.sought d.g' (connecting d.asked) d.verdict d.route (d.asked).to at

abbrev pub basis_of : Dialling → Basis
basis_of d = socks d.users d.pubs

abbrev pub context_of : Dialling → Context
context_of d = context d.users d.pubs d.generation d.config d.most d.h d.marks

abbrev pub before : Dialling → Record
before d = dialler d.party d.c d.sent [] d.chosen (granted_before d) None

abbrev pub behind : Dialling → Option Endpoint → List ℕ → List ℕ → Option Cause → Record
behind d at sent_c sent_t cause = dialler d.party d.c sent_c sent_t d.chosen (reached_behind d at) cause

abbrev pub grant_of : Dialling → Grant
grant_of d = passed_grant d.g' (connecting d.asked) d.verdict d.route

pub phase-before : (d : Dialling) → phase (basis_of d) (before d) ≡ Phase.Reach (grant_of d)
phase-before d = reach-phase d.users d.pubs (before d) d.g d.rule d.sought d.g' (connecting d.asked) d.verdict d.route
    (record { undone = refl; uncaused = refl; asked = record { request = d.request; len = d.len; whole = d.whole }; named = d.named })

-- ---- the call

abbrev pub dialled_by : Dialling → DialOutcome → TurnResult
dialled_by d o = record { left = behind d (at_of o) d.sent [] (cause_of o); h = d.h; marks = d.marks }

to-is : (d : Dialling) → dialled (grant_of d) (proxy_in d.route (numbered d.pubs d.g')) ≡ (d.asked).to
to-is d = ap (dialled (grant_of d)) d.direct

-- the record of a dial that came out so, once its destination is known
dialled-as : (d : Dialling) (at : Option Endpoint) (cause : Option Cause)
    → keep (context_of d) (decided (Decision.Reached (dialled (grant_of d) (proxy_in d.route (numbered d.pubs d.g'))) at) cause (before d))
    ≡ record { left = behind d at d.sent [] (first_cause cause None); h = d.h; marks = d.marks }
dialled-as d at cause =
    ap (λ (to : Endpoint). keep (context_of d) (decided (Decision.Reached to at) cause (before d))) (to-is d)
    ∙ ap (λ (ds : List Decision). record { left = dialler d.party d.c d.sent [] d.chosen ds (first_cause cause None); h = d.h; marks = d.marks }) (ds-behind d at)

pub called-as : (d : Dialling) (o : DialOutcome) → Called (context_of d) (outer_of o) None (before d) (dialled_by d o)
called-as d (DialOutcome.CameUp local) = record {
  some = refl;
  due = ap (λ (p : Phase). is_calling p None) (phase-before d);
  made = ap (λ (p : Phase). call (context_of d) (before d) p None (Outer.Up local)) (phase-before d) ∙ ap (λ (m : TurnResult). Some m) (dialled-as d (Some local) None);
}
called-as d DialOutcome.WasRefused = record {
  some = refl;
  due = ap (λ (p : Phase). is_calling p None) (phase-before d);
  made = ap (λ (p : Phase). call (context_of d) (before d) p None Outer.Refused) (phase-before d) ∙ ap (λ (m : TurnResult). Some m) (dialled-as d None (Some Cause.Refused));
}
called-as d DialOutcome.NoHost = record {
  some = refl;
  due = ap (λ (p : Phase). is_calling p None) (phase-before d);
  made = ap (λ (p : Phase). call (context_of d) (before d) p None Outer.HostUnreachable) (phase-before d) ∙ ap (λ (m : TurnResult). Some m) (dialled-as d None (Some Cause.HostUnreachable));
}
called-as d DialOutcome.NoNet = record {
  some = refl;
  due = ap (λ (p : Phase). is_calling p None) (phase-before d);
  made = ap (λ (p : Phase). call (context_of d) (before d) p None Outer.NetUnreachable) (phase-before d) ∙ ap (λ (m : TurnResult). Some m) (dialled-as d None (Some Cause.NetUnreachable));
}
called-as d DialOutcome.Fault = record {
  some = refl;
  due = ap (λ (p : Phase). is_calling p None) (phase-before d);
  made = ap (λ (p : Phase). call (context_of d) (before d) p None Outer.Failed) (phase-before d) ∙ ap (λ (m : TurnResult). Some m) (dialled-as d None (Some Cause.NetFault));
}

-- ---- what is owed behind it

-- the answers to the greeting and the login are the same where no login has failed
pub same-opening : (c : List ℕ) (chosen : Option Chosen) (cause : Option Cause) → is_login_failed cause ≡ false → opening_owed c chosen cause ≡ opening_owed c chosen None
same-opening c chosen cause h = ap (λ (b : Bool). chosen_reply chosen ++ passed_reply (asks_login chosen && (is_some (login_place c) && not b))) h

-- the client's bytes behind its prelude, where the target was reached
abbrev pub due_t : Dialling → Option Endpoint → List ℕ
due_t d at = plain_to_target (prelude_of (before d)) d.c at

pub plain-behind : (d : Dialling) (at : Option Endpoint) (sent_c sent_t : List ℕ) (cause : Option Cause) → (at ≡ None → sent_t ≡ []) → (at ≡ None → is_some cause ≡ true) → is_login_failed cause ≡ false
    → IsPrefix sent_c (opening_owed d.c d.chosen None ++ (success_reply d.c at ++ ([] ++ refusal_owed d.c d.chosen at cause))) → IsPrefix sent_t (due_t d at)
    → (payload_to_client [] at ≡ []) → IsPlainRecord d.users (behind d at sent_c sent_t cause)
plain-behind d at sent_c sent_t cause unreached caused unlogged c t none = record {
  undone = refl;
  unclosed = refl;
  grams = refl;
  sent_u = refl;
  served = d.served;
  chosen' = d.chosen';
  failed = unlogged ∙ sym (unfailed d.users (behind d at sent_c sent_t cause) asked');
  decided = has-dialled d.users (behind d at sent_c sent_t cause) d.g d.rule d.sought d.g' (connecting d.asked) d.verdict d.route (d.asked).to at (record {
    asked = asked';
    named = d.named;
    command = refl;
    unreached = λ e. record { t = refl; sent_t = unreached e; end_t = refl; shut_c = refl; shut_t = refl };
    failed = caused;
    apart = refl;
    shut_c = λ e. absurd (cc);
    shut_t = λ e. absurd (cc);
  });
  sent_c = subst (λ (z : Option Endpoint). IsPrefix sent_c (plain_to_client d.c [] d.chosen z cause)) (sym (at-behind d at)) (subst (λ (w : List ℕ). IsPrefix sent_c (w ++ (success_reply d.c at ++ (payload_to_client [] at ++ refusal_owed d.c d.chosen at cause)))) (sym (same-opening d.c d.chosen cause unlogged))
      (subst (λ (z : List ℕ). IsPrefix sent_c (opening_owed d.c d.chosen None ++ (success_reply d.c at ++ (z ++ refusal_owed d.c d.chosen at cause)))) (sym none) c));
  sent_t = subst (λ (z : Option Endpoint). IsPrefix sent_t (plain_to_target (prelude_of (before d)) d.c z)) (sym (at-behind d at)) t;
}
  where
    asked' : HasAsked d.users (behind d at sent_c sent_t cause)
    asked' = record { request = d.request; len = d.len; whole = d.whole }

pub payload-none : (at : Option Endpoint) → payload_to_client [] at ≡ []
payload-none None = refl
payload-none (Some at) = refl

-- ---- the turn

abbrev pub reach_acts : DialOutcome → ℕ → ℕ → Bool → Bool → Option Object → Bool → Acts
reach_acts o sent_c sent_t full_c full_t fault unwritten = record {
  c = [];
  t = [];
  end_c = false;
  end_t = false;
  outer = outer_of o;
  sent_c = sent_c;
  sent_t = sent_t;
  shut_c = false;
  shut_t = false;
  idle_c = false;
  idle_t = false;
  full_c = full_c;
  full_t = full_t;
  fault = fault;
  unwritten = unwritten;
}

abbrev pub with_object : Option Object → Option Cause → Option Cause
with_object None cause = cause
with_object (Some o) cause = first_cause (Some (fault_cause o)) cause

-- what a turn that has dialled has sent
pub record ReachSends (d : Dialling) (o : DialOutcome) (y_c rest_c sent_c y_t rest_t sent_t : List ℕ) (fault : Option Object) (unwritten : Bool) : Type 0 where
  pub sent_c' : sent_c ≡ d.sent ++ y_c
  pub owed_c' : sent_c ++ rest_c ≡ owed_to_client (basis_of d) (behind d (at_of o) d.sent [] (with_object fault (cause_of o)))
  pub sent_t' : sent_t ≡ y_t
  pub owed_t' : sent_t ++ rest_t ≡ owed_to_target (basis_of d) (behind d (at_of o) d.sent [] (with_object fault (cause_of o)))
  pub faults : with_fault fault unwritten (behind d (at_of o) d.sent [] (cause_of o)) ≡ Some (behind d (at_of o) d.sent [] (with_object fault (cause_of o)))
  pub fits : fault_fits (basis_of d) fault unwritten (behind d (at_of o) d.sent [] (cause_of o)) ≡ true

same-moment : (b : Bool) (x : ℕ) → elim b [ true ↦ x | false ↦ x ] ≡ x
same-moment true x = refl
same-moment false x = refl

abbrev pub reach_event : Dialling → DialOutcome → ℕ → ℕ → Bool → Bool → Option Object → Bool → ℕ → NextMark → TurnEvent
reach_event d o n_c n_t full_c full_t fault unwritten worker next =
    event_of worker (d.party).number (d.party).since (reach_acts o n_c n_t full_c full_t fault unwritten) next

pub reaches-on : (d : Dialling) (o : DialOutcome) (y_c rest_c sent_c y_t rest_t sent_t : List ℕ) (full_c full_t : Bool) (fault : Option Object) (unwritten : Bool) (worker : ℕ)
    → ReachSends d o y_c rest_c sent_c y_t rest_t sent_t fault unwritten
    → turn (context_of d) (reach_event d o (length y_c) (length y_t) full_c full_t fault unwritten worker NextMark.Again) (before d)
    ≡ Some (record { left = behind d (at_of o) sent_c sent_t (with_object fault (cause_of o)); h = d.h; marks = d.marks })
reaches-on d o y_c rest_c sent_c y_t rest_t sent_t full_c full_t fault unwritten worker k =
    answers-call (context_of d) (before d) e (before d) (dialled_by d o) x r NextMark.Again
    (record {
      going = record { undone = refl; unstopped = refl; going = refl };
      takes = record {
        r1 = before d;
        r2 = before d;
        r3 = before d;
        r4 = before d;
        r5 = before d;
        bytes_t = inl (refl, refl);
        ends_t = inl (refl, refl);
        grams = inl (refl, refl);
        came = refl;
        bytes_c = inl (refl, refl);
        ends_c = inl (refl, refl);
      };
      calls = inr (called-as d o);
      faults = k.faults;
      sendings = record {
        c = sends d.sent y_c sent_c rest_c (owed_to_client (basis_of d) x) k.sent_c' k.owed_c';
        t = sends [] y_t sent_t rest_t (owed_to_target (basis_of d) x) k.sent_t' k.owed_t';
        u = record { bytes = []; now' = refl; count = refl; rest = owed_datagrams (basis_of d) x; owed' = refl };
      };
      shuts = refl;
    })
    (called-as d o) k.fits (ap (λ b. if b then Some NextMark.Done else Some NextMark.Again) (and-false (is_some x.cause)))
    ∙ (λ i. Some (record {
      left = record r { since = same-moment (began (basis_of d) r && (not (began (basis_of d) (before d)) || moves e)) (d.party).since i };
      h = d.h;
      marks = d.marks;
    }))
  where
    e : TurnEvent
    e = reach_event d o (length y_c) (length y_t) full_c full_t fault unwritten worker NextMark.Going

    x : Record
    x = behind d (at_of o) d.sent [] (with_object fault (cause_of o))

    r : Record
    r = behind d (at_of o) sent_c sent_t (with_object fault (cause_of o))
