-- What a turn that dials comes to.
use Rattle.std.proofs.Common.{◌≡◌, ℕ, ◌+◌, ◌<◌, Bool, true, false, ◌&&◌, ◌||◌, not, Option, Some, None, List, [], ◌∷◌, ◌++◌, length, drop, refl, sym, ap, subst, ◌∙◌, is_some, IfSome, option_and_then, length-append, append_assoc, arith, ◌≤◌}
use Rattle.std.proofs.lemmas.List.{append-nil}
use mathlib.Core.List.{IsPrefix}
use Rattle.addr_pattern.specs.declared.endpoint.Endpoint.{Endpoint}
use Rattle.conf_types.specs.declared.entries.Entries.{Entries}
use Rattle.socks_grammar.specs.declared.protocol.Command.{Command}
use Rattle.socks_grammar.specs.declared.user.User.{User}
use Rattle.net_ends.specs.declared.kinds.Kind.{Kind}
use Rattle.net_ends.specs.Counts.{Counts, Rose}
use Rattle.net_ends.specs.Faults.{Tried}
use Rattle.net_ends.specs.Nets.{DialCause, DialOutcome, Dial, LookedUp, NetCounts, NetTold, Plan, SameLookups, dialled}
use Rattle.net_ends.specs.Told.{Told, IsFresh, more}
use Rattle.rule_list.specs.declared.facts.Facts.{Facts}
use Rattle.rule_list.specs.declared.verdict.Verdict.{Verdict}
use Rattle.socks_machine.specs.declared.cause.Cause.{Cause}
use Rattle.socks_machine.specs.declared.cause.StopBy.{StopBy}
use Rattle.socks_machine.specs.declared.lines.Line.{Line}
use Rattle.socks_machine.specs.declared.record.Chosen.{Chosen}
use Rattle.socks_machine.specs.declared.record.Decision.{Decision}
use Rattle.socks_machine.specs.declared.record.Record.{Record}
use Rattle.socks_machine.specs.declared.world.Object.{Object}
use Rattle.socks_machine.specs.Basis.{Basis}
use Rattle.socks_machine.specs.Decisions.{Grant, granted, reached_at, peer_let_in}
use Rattle.socks_machine.specs.Owed.{owed_to_client, owed_to_target, has_target, target_is_there, target_by}
use Rattle.socks_machine.specs.Phase.{Phase}
use Rattle.socks_machine.specs.Settle.{is_nothing}
use Rattle.socks_machine.specs.Socks.{socks}
use Rattle.socks_machine.specs.Taking.{reads_client, reads_target}
use Rattle.socks_machine.specs.Turn.{guard, has_pending, fault_cause, fault_fits, with_fault}
use Rattle.socks_machine.specs.View.{proxy_of_grant}
use Rattle.assoc_core.specs.declared.assoc.Assoc.{Assoc}
use Rattle.assoc_core.specs.declared.assoc.Next.{Next}
use Rattle.assoc_core.specs.Plain.{IsPlainRecord, HasAsked, HasDecided, Judged, Sought, behind_lookup, name_sought, plain_to_client, plain_to_target, prelude_of, is_login_failed, owed_c, opening_owed, success_reply, refusal_owed, payload_to_client}
use Rattle.connect_core.specs.Reaching.{cause_of}
use Rattle.assoc_core.specs.Reaching.{HasDialled, SameDesk, at_of}
use Rattle.assoc_core.specs.Stands.{IsConnect, GoesDirect, Stands, Holds, HoldsTarget, EndsBehind, GivesFirst}
use Rattle.assoc_core.specs.Turns.{Turns, StopsReading, SameOutside, SameTarget, DialsAre, LookupsAre, PlanStays, IsOuterOf, CountRose, RoseTarget, IsUnfailing, TakesNothing, TriedTarget, FaultIs, IsFull, IsThereAnd, is_write, links, outer_of}
use Rattle.assoc_core.proofs.Answering.{still-left}
use Rattle.assoc_core.proofs.PlainRecords.{passed_grant, plain-owes-client, plain-owes-target, granted-behind, unreached-behind}
use Rattle.assoc_core.proofs.Reaching.{Dialling, connecting, dialler, at-behind, ds-behind, reached_behind, basis_of, context_of, before, behind, grant_of, phase-before, same-opening, due_t, plain-behind, payload-none, reach_acts, with_object, ReachSends, reaches-on}
use Rattle.assoc_core.proofs.TalkTurns.{with_state}
use Rattle.assoc_core.proofs.Tryings.{tried-as, target-tried-as}
use Rattle.assoc_core.proofs.Failable.{LeavesOf, left-over, where-written}
use Rattle.assoc_core.proofs.LinksHeld.{more-tells}

-- ---- what is owed

abbrev pub due_c : Dialling → DialOutcome → List ℕ
due_c d o = opening_owed d.c d.chosen None ++ (success_reply d.c (at_of o) ++ ([] ++ refusal_owed d.c d.chosen (at_of o) (cause_of o)))

fault-adds : (c : List ℕ) (chosen : Option Chosen) (o : DialOutcome) (fault : Option Object) → refusal_owed c chosen (at_of o) (with_object fault (cause_of o)) ≡ refusal_owed c chosen (at_of o) (cause_of o)
fault-adds c chosen (DialOutcome.CameUp local) fault = refl
fault-adds c chosen DialOutcome.WasRefused None = refl
fault-adds c chosen DialOutcome.WasRefused (Some x) = refl
fault-adds c chosen DialOutcome.NoHost None = refl
fault-adds c chosen DialOutcome.NoHost (Some x) = refl
fault-adds c chosen DialOutcome.NoNet None = refl
fault-adds c chosen DialOutcome.NoNet (Some x) = refl
fault-adds c chosen DialOutcome.Fault None = refl
fault-adds c chosen DialOutcome.Fault (Some x) = refl

fails-caused : (o : DialOutcome) (fault : Option Object) → at_of o ≡ None → is_some (with_object fault (cause_of o)) ≡ true
fails-caused (DialOutcome.CameUp local) fault e = absurd (cc)
fails-caused DialOutcome.WasRefused None e = refl
fails-caused DialOutcome.WasRefused (Some x) e = refl
fails-caused DialOutcome.NoHost None e = refl
fails-caused DialOutcome.NoHost (Some x) e = refl
fails-caused DialOutcome.NoNet None e = refl
fails-caused DialOutcome.NoNet (Some x) e = refl
fails-caused DialOutcome.Fault None e = refl
fails-caused DialOutcome.Fault (Some x) e = refl

due-with : (d : Dialling) (o : DialOutcome) (fault : Option Object)
    → opening_owed d.c d.chosen None ++ (success_reply d.c (at_of o) ++ ([] ++ refusal_owed d.c d.chosen (at_of o) (with_object fault (cause_of o)))) ≡ due_c d o
due-with d o fault = ap (λ z. opening_owed d.c d.chosen None ++ (success_reply d.c (at_of o) ++ ([] ++ z))) (fault-adds d.c d.chosen o fault)

-- neither a dial nor a failed call is a failed login
fault-unlogged : (x : Object) → is_login_failed (Some (fault_cause x)) ≡ false
fault-unlogged Object.Client = refl
fault-unlogged Object.Target = refl
fault-unlogged Object.Door = refl
fault-unlogged Object.Port = refl

pub unlogged : (o : DialOutcome) (fault : Option Object) → is_login_failed (with_object fault (cause_of o)) ≡ false
unlogged (DialOutcome.CameUp local) None = refl
unlogged (DialOutcome.CameUp local) (Some x) = fault-unlogged x
unlogged DialOutcome.WasRefused None = refl
unlogged DialOutcome.WasRefused (Some x) = refl
unlogged DialOutcome.NoHost None = refl
unlogged DialOutcome.NoHost (Some x) = refl
unlogged DialOutcome.NoNet None = refl
unlogged DialOutcome.NoNet (Some x) = refl
unlogged DialOutcome.Fault None = refl
unlogged DialOutcome.Fault (Some x) = refl

-- what a turn owes that has dialled, whichever write has failed
pub due-as : (d : Dialling) (o : DialOutcome) (fault : Option Object) (sent_c sent_t : List ℕ) → owed_c (behind d (at_of o) sent_c sent_t (with_object fault (cause_of o))) ≡ due_c d o
due-as d o fault sent_c sent_t =
    ap (λ (z : Option Endpoint). plain_to_client d.c [] d.chosen z (with_object fault (cause_of o))) (at-behind d (at_of o))
    ∙ (ap (λ w. w ++ (success_reply d.c (at_of o) ++ (payload_to_client [] (at_of o) ++ refusal_owed d.c d.chosen (at_of o) (with_object fault (cause_of o))))) (same-opening d.c d.chosen (with_object fault (cause_of o)) (unlogged o fault))
    ∙ (ap (λ z. opening_owed d.c d.chosen None ++ (success_reply d.c (at_of o) ++ (z ++ refusal_owed d.c d.chosen (at_of o) (with_object fault (cause_of o))))) (payload-none (at_of o))
    ∙ due-with d o fault))

pub first-due : (d : Dialling) (z : List ℕ) → IsPrefix d.sent (opening_owed d.c d.chosen None ++ z)
first-due d z = ((d.sent').0 ++ z, sym (append_assoc d.sent (d.sent').0 z) ∙ ap (λ s. s ++ z) ((d.sent').1 ∙ append-nil (opening_owed d.c d.chosen None)))

plain-with : (d : Dialling) (o : DialOutcome) (fault : Option Object) → IsPlainRecord d.users (behind d (at_of o) d.sent [] (with_object fault (cause_of o)))
plain-with d o fault = plain-behind d (at_of o) d.sent [] (with_object fault (cause_of o)) (λ e. refl) (fails-caused o fault) (unlogged o fault)
    (first-due d _) (due_t d (at_of o), refl) (payload-none (at_of o))

-- it goes by no proxy
grant-behind : (d : Dialling) (at : Option Endpoint) → granted (reached_behind d at) ≡ Some (grant_of d)
grant-behind d at = granted-behind d.sought (Decision.Granted d.g' (connecting d.asked) d.verdict d.route None ∷ Decision.Reached (d.asked).to at ∷ [])

direct-behind : (d : Dialling) (at : Option Endpoint) → option_and_then (proxy_of_grant (basis_of d)) (granted (reached_behind d at)) ≡ None
direct-behind d at = ap (option_and_then (proxy_of_grant (basis_of d))) (grant-behind d at) ∙ d.direct

connects-behind : (d : Dialling) (at : Option Endpoint) → IsConnect (granted (reached_behind d at)) (reached_at (reached_behind d at))
connects-behind d at = subst (λ (z : Option Grant). IsConnect z (reached_at (reached_behind d at))) (sym (grant-behind d at)) refl

known-behind : (d : Dialling) (at : Option Endpoint) → IfSome (granted (reached_behind d at)) (λ g. g.generation ≤ length d.pubs)
known-behind d at = subst (λ (z : Option Grant). IfSome z (λ g. g.generation ≤ length d.pubs)) (sym (grant-behind d at)) d.known

owes-c : (d : Dialling) (o : DialOutcome) (fault : Option Object) → owed_to_client (basis_of d) (behind d (at_of o) d.sent [] (with_object fault (cause_of o))) ≡ due_c d o
owes-c d o fault = plain-owes-client d.users d.pubs (behind d (at_of o) d.sent [] (with_object fault (cause_of o))) (plain-with d o fault) (direct-behind d (at_of o))
    ∙ due-as d o fault d.sent []

owes-t : (d : Dialling) (o : DialOutcome) (fault : Option Object) → owed_to_target (basis_of d) (behind d (at_of o) d.sent [] (with_object fault (cause_of o))) ≡ due_t d (at_of o)
owes-t d o fault = plain-owes-target d.users d.pubs (behind d (at_of o) d.sent [] (with_object fault (cause_of o))) (plain-with d o fault) (direct-behind d (at_of o))
    ∙ ap (λ (z : Option Endpoint). plain_to_target (prelude_of (before d)) d.c z) (at-behind d (at_of o))

-- ---- the writes

abbrev pub FailedWrite : Dialling → DialOutcome → List ℕ → List ℕ → Option Object → Bool → Type 0
FailedWrite d o rest_c rest_t None unwritten = unwritten ≡ false
FailedWrite d o rest_c rest_t (Some Object.Client) unwritten = (unwritten ≡ true) × (0 < length rest_c)
FailedWrite d o rest_c rest_t (Some Object.Target) unwritten = (unwritten ≡ true) × (0 < length rest_t) × ((local : Endpoint) × (o ≡ DialOutcome.CameUp local))
FailedWrite d o rest_c rest_t (Some _) unwritten = ⊥

-- what was written, and which write failed
pub record ReachWrites (d : Dialling) (o : DialOutcome) (y_c rest_c sent_c rest_t sent_t : List ℕ) (fault : Option Object) (unwritten : Bool) : Type 0 where
  pub sent_c' : sent_c ≡ d.sent ++ y_c
  pub all_c : (d.sent ++ y_c) ++ rest_c ≡ due_c d o
  pub all_t : sent_t ++ rest_t ≡ due_t d (at_of o)
  pub failing : FailedWrite d o rest_c rest_t fault unwritten

or-middle : (a b c : Bool) → b ≡ true → a || b || c ≡ true
or-middle true b c h = refl
or-middle false true c h = refl
or-middle false false c h = absurd (cc)

or-last : (a b : Bool) → b ≡ true → a || b ≡ true
or-last true b h = refl
or-last false b h = h

both-true : (a b : Bool) → a ≡ true → b ≡ true → a && b ≡ true
both-true true b h k = k
both-true false b h k = absurd (cc)

pending-c : (d : Dialling) (o : DialOutcome) (fault : Option Object) (y_c rest_c : List ℕ) → (d.sent ++ y_c) ++ rest_c ≡ due_c d o → 0 < length rest_c
    → has_pending (basis_of d) (behind d (at_of o) d.sent [] (with_object fault (cause_of o))) Object.Client ≡ true
pending-c d o fault y_c rest_c all some = ap (λ z. not (is_nothing (drop (length d.sent) z))) (owes-c d o fault) ∙ ap not (still-left d.sent y_c rest_c (due_c d o) all some)

pending-t : (d : Dialling) (o : DialOutcome) (fault : Option Object) (sent_t rest_t : List ℕ) → sent_t ++ rest_t ≡ due_t d (at_of o) → 0 < length rest_t
    → has_pending (basis_of d) (behind d (at_of o) d.sent [] (with_object fault (cause_of o))) Object.Target ≡ true
pending-t d o fault sent_t rest_t all some = ap (λ z. not (is_nothing (drop 0 z))) (owes-t d o fault) ∙ ap not (still-left [] sent_t rest_t (due_t d (at_of o)) all some)

-- a target that came up is there
target-there : (d : Dialling) (local : Endpoint) → has_target (behind d (Some local) d.sent [] None) ≡ true
target-there d local =
    ap (target_is_there (behind d (Some local) d.sent [] None)) (grant-behind d (Some local))
    ∙ ap (λ (z : Option Endpoint). target_by z (peer_let_in (reached_behind d (Some local))) Command.Connect) (at-behind d (Some local))

faults-as : (d : Dialling) (o : DialOutcome) (rest_c rest_t : List ℕ) (fault : Option Object) (unwritten : Bool) → FailedWrite d o rest_c rest_t fault unwritten
    → with_fault fault unwritten (behind d (at_of o) d.sent [] (cause_of o)) ≡ Some (behind d (at_of o) d.sent [] (with_object fault (cause_of o)))
faults-as d o rest_c rest_t None unwritten h = ap (λ u. with_fault None u (behind d (at_of o) d.sent [] (cause_of o))) h
faults-as d o rest_c rest_t (Some Object.Client) unwritten h = refl
faults-as d o rest_c rest_t (Some Object.Target) unwritten h =
    subst (λ (p : DialOutcome). with_fault (Some Object.Target) unwritten (behind d (at_of p) d.sent [] (cause_of p)) ≡ Some (behind d (at_of p) d.sent [] (with_object (Some Object.Target) (cause_of p)))) (sym h.2.1)
    (ap (λ (b : Bool). guard b (Some (behind d (Some h.2.0) d.sent [] (Some Cause.TargetFault)))) (target-there d h.2.0))
faults-as d o rest_c rest_t (Some Object.Door) unwritten h = absurd h
faults-as d o rest_c rest_t (Some Object.Port) unwritten h = absurd h

fits-as : (d : Dialling) (o : DialOutcome) (y_c rest_c sent_c rest_t sent_t : List ℕ) (fault : Option Object) (unwritten : Bool) → ReachWrites d o y_c rest_c sent_c rest_t sent_t fault unwritten
    → FailedWrite d o rest_c rest_t fault unwritten → fault_fits (basis_of d) fault unwritten (behind d (at_of o) d.sent [] (cause_of o)) ≡ true
fits-as d o y_c rest_c sent_c rest_t sent_t None unwritten k h = refl
fits-as d o y_c rest_c sent_c rest_t sent_t (Some Object.Client) unwritten k h =
    both-true _ _ (or-middle _ _ _ (pending-c d o None y_c rest_c k.all_c h.1))
    (or-last (not unwritten) _ (ap (λ b. b || has_pending (basis_of d) (behind d (at_of o) d.sent [] (with_object (Some Object.Client) (cause_of o))) Object.Target) (pending-c d o (Some Object.Client) y_c rest_c k.all_c h.1)))
fits-as d o y_c rest_c sent_c rest_t sent_t (Some Object.Target) unwritten k h =
    both-true _ _ (or-middle _ _ _ (pending-t d o None sent_t rest_t k.all_t h.1))
    (or-last (not unwritten) _ (or-last _ _ (pending-t d o (Some Object.Target) sent_t rest_t k.all_t h.1)))
fits-as d o y_c rest_c sent_c rest_t sent_t (Some Object.Door) unwritten k h = absurd h
fits-as d o y_c rest_c sent_c rest_t sent_t (Some Object.Port) unwritten k h = absurd h

pub sends-as : (d : Dialling) (o : DialOutcome) (y_c rest_c sent_c rest_t sent_t : List ℕ) (fault : Option Object) (unwritten : Bool) → ReachWrites d o y_c rest_c sent_c rest_t sent_t fault unwritten
    → ReachSends d o y_c rest_c sent_c sent_t rest_t sent_t fault unwritten
sends-as d o y_c rest_c sent_c rest_t sent_t fault unwritten k = record {
  sent_c' = k.sent_c';
  owed_c' = ap (λ z. z ++ rest_c) k.sent_c' ∙ (k.all_c ∙ sym (owes-c d o fault));
  sent_t' = refl;
  owed_t' = k.all_t ∙ sym (owes-t d o fault);
  faults = faults-as d o rest_c rest_t fault unwritten k.failing;
  fits = fits-as d o y_c rest_c sent_c rest_t sent_t fault unwritten k k.failing;
}

-- ---- from what was dialled

pub judged-of : (users : List User) (r : Record) (ds : List Decision) (g : ℕ) (rule : Option ℕ) (s : Option Sought) (g' : ℕ) (facts : Facts) (verdict : Verdict) (route : Option ℕ)
    → ds ≡ Decision.Opened g rule None ∷ behind_lookup s (Decision.Granted g' facts verdict route None ∷ []) → HasDecided users r ds → Judged users r (name_sought s) facts None
judged-of users r ds g rule None g' facts verdict route is h = subst (HasDecided users r) is h
judged-of users r ds g rule (Some l) g' facts verdict route is h = subst (HasDecided users r) is h

pub judged-in : {L : Type 0} (told : L → Told) (basis : Basis) (net net' : NetTold) (now : ℕ) (a b : Assoc L) (o : DialOutcome) (k : HasDialled told basis net net' now a b o) → Judged basis.users a.state (name_sought k.sought) k.facts None
judged-in told basis net net' now a b o k = judged-of basis.users a.state (a.state).decisions k.g k.rule k.sought k.g' k.facts k.verdict k.route k.granted' ((k.stands).plain).decided

abbrev pub dialling_of : {L : Type 0} (told : L → Told) (users : List User) (pubs : List Entries) (generation : ℕ) (config : Entries) (most : ℕ) (h : List Line) (marks : List StopBy)
    (net net' : NetTold) (now : ℕ) (a b : Assoc L) (o : DialOutcome) → HasDialled told (socks users pubs) net net' now a b o → Dialling
dialling_of told users pubs generation config most h marks net net' now a b o k = record {
  users = users;
  pubs = pubs;
  generation = generation;
  config = config;
  most = most;
  h = h;
  marks = marks;
  party = record { number = (a.state).number; peer = (a.state).peer; local = (a.state).local; since = now };
  g = k.g;
  rule = k.rule;
  sought = k.sought;
  g' = k.g';
  asked = k.facts;
  verdict = k.verdict;
  route = k.route;
  c = (a.state).c;
  sent = (a.state).sent_c;
  chosen = (a.state).chosen;
  request = asked'.request;
  len = asked'.len;
  served = ((k.stands).plain).served;
  chosen' = ((k.stands).plain).chosen';
  whole = asked'.whole;
  named = (judged-in told (socks users pubs) net net' now a b o k).named;
  sent' = subst (λ (z : Option Endpoint). IsPrefix (a.state).sent_c (plain_to_client (a.state).c (a.state).t (a.state).chosen z None)) (ap reached_at k.granted' ∙ unreached-behind k.g k.rule k.sought k.g' k.facts k.verdict k.route None)
      (subst (λ (o : Option Cause). IsPrefix (a.state).sent_c (owed_c (let r = a.state in record r { cause = o }))) k.uncaused ((k.stands).plain).sent_c);
  direct = sym (ap (option_and_then (proxy_of_grant (socks users pubs))) granted') ∙ direct'.direct;
  known = subst (λ (z : Option Grant). IfSome z (λ g. g.generation ≤ length pubs)) granted' direct'.known;
}
  where
    direct' : GoesDirect (socks users pubs) (a.state).decisions
    direct' = (k.stands).direct

    granted' : granted (a.state).decisions ≡ Some (passed_grant k.g' k.facts k.verdict k.route)
    granted' = ap granted k.granted' ∙ granted-behind k.sought (Decision.Granted k.g' k.facts k.verdict k.route None ∷ [])

    asked' : HasAsked users a.state
    asked' = (judged-in told (socks users pubs) net net' now a b o k).asked

pub before-is : {L : Type 0} (told : L → Told) (users : List User) (pubs : List Entries) (generation : ℕ) (config : Entries) (most : ℕ) (h : List Line) (marks : List StopBy)
    (net net' : NetTold) (now : ℕ) (a b : Assoc L) (o : DialOutcome) (k : HasDialled told (socks users pubs) net net' now a b o)
    → a.state ≡ before (dialling_of told users pubs generation config most h marks net net' now a b o k)
before-is told users pubs generation config most h marks net net' now a b o k = λ i. record {
  number = (a.state).number;
  peer = (a.state).peer;
  local = (a.state).local;
  since = k.since i;
  c = (a.state).c;
  t = (j.untargeted).t i;
  sent_c = (a.state).sent_c;
  sent_t = (j.untargeted).sent_t i;
  end_c = j.unended i;
  end_t = (j.untargeted).end_t i;
  shut_c = (j.untargeted).shut_c i;
  shut_t = (j.untargeted).shut_t i;
  chosen = (a.state).chosen;
  decisions = (k.granted' ∙ (λ n. Decision.Opened k.g k.rule None ∷ behind_lookup k.sought (Decision.Granted k.g' (let f = k.facts in record f { command = j.command n }) k.verdict k.route None ∷ []))) i;
  grams = ((k.stands).plain).grams i;
  sent_u = ((k.stands).plain).sent_u i;
  cause = k.uncaused i;
  at_close = ((k.stands).plain).unclosed i;
  done = ((k.stands).plain).undone i;
}
  where
    j : Judged users a.state (name_sought k.sought) k.facts None
    j = judged-in told (socks users pubs) net net' now a b o k

pub behind-is : {L : Type 0} (told : L → Told) (users : List User) (pubs : List Entries) (generation : ℕ) (config : Entries) (most : ℕ) (h : List Line) (marks : List StopBy)
    (net net' : NetTold) (now : ℕ) (a b : Assoc L) (o : DialOutcome) (k : HasDialled told (socks users pubs) net net' now a b o)
    → b.state ≡ behind (dialling_of told users pubs generation config most h marks net net' now a b o k) (at_of o) (a.state).sent_c [] None
behind-is told users pubs generation config most h marks net net' now a b o k =
    k.state' ∙ ap (λ (r : Record). let z : Record = record r { since = now; decisions = r.decisions ++ Decision.Reached (k.facts).to (at_of o) ∷ [] } in z)
    (before-is told users pubs generation config most h marks net net' now a b o k)
    ∙ ap (λ (ds : List Decision). dialler d.party d.c (a.state).sent_c [] d.chosen ds None) (ds-behind d (at_of o))
  where
    d : Dialling
    d = dialling_of told users pubs generation config most h marks net net' now a b o k

-- ---- the dial

dials-as : (o : DialOutcome) (old new : Option (List Dial)) (g : Grant) → new ≡ dialled old (record { to = (g.facts).to; outcome = o }) → DialsAre old new (Phase.Reach g) (outer_of o)
dials-as (DialOutcome.CameUp local) old new g h = (DialOutcome.CameUp local, refl, h)
dials-as DialOutcome.WasRefused old new g h = (DialOutcome.WasRefused, refl, h)
dials-as DialOutcome.NoHost old new g h = (DialOutcome.NoHost, refl, h)
dials-as DialOutcome.NoNet old new g h = (DialOutcome.NoNet, refl, h)
dials-as DialOutcome.Fault old new g h = (DialOutcome.Fault, refl, h)

lookups-as : (o : DialOutcome) (old new : Option (List LookedUp)) (g : Grant) → new ≡ old → LookupsAre old new (Phase.Reach g) (outer_of o)
lookups-as (DialOutcome.CameUp local) old new g h = h
lookups-as DialOutcome.WasRefused old new g h = h
lookups-as DialOutcome.NoHost old new g h = h
lookups-as DialOutcome.NoNet old new g h = h
lookups-as DialOutcome.Fault old new g h = h

plan-as : (d : Dialling) (o : DialOutcome) (net net' : NetTold) → (at_of o ≡ None → net'.plan ≡ net.plan) → PlanStays net net' (outer_of o) (is_some (reached_at (reached_behind d (at_of o))))
plan-as d (DialOutcome.CameUp local) net net' h = ap is_some (at-behind d (Some local))
plan-as d DialOutcome.WasRefused net net' h = h refl
plan-as d DialOutcome.NoHost net net' h = h refl
plan-as d DialOutcome.NoNet net net' h = h refl
plan-as d DialOutcome.Fault net net' h = h refl

outer-as : (d : Dialling) (o : DialOutcome) (net : NetTold) → ((plan : Plan) → net.plan ≡ Some plan → o ≡ plan.outcome) → IsOuterOf net (Phase.Reach (grant_of d)) (outer_of o)
outer-as d (DialOutcome.CameUp local) net h = (refl, λ plan e. ap outer_of (h plan e))
outer-as d DialOutcome.WasRefused net h = (refl, λ plan e. ap outer_of (h plan e))
outer-as d DialOutcome.NoHost net h = (refl, λ plan e. ap outer_of (h plan e))
outer-as d DialOutcome.NoNet net h = (refl, λ plan e. ap outer_of (h plan e))
outer-as d DialOutcome.Fault net h = (refl, λ plan e. ap outer_of (h plan e))

counted-as : (o : DialOutcome) (old new : NetCounts) → DialCause old new o → CountRose old new (outer_of o)
counted-as (DialOutcome.CameUp local) old new h = tt
counted-as DialOutcome.WasRefused old new h = h
counted-as DialOutcome.NoHost old new h = h
counted-as DialOutcome.NoNet old new h = h
counted-as DialOutcome.Fault old new h = h

-- ---- its links

more-is : (o : Option (List ℕ)) (held part x : List ℕ) → ((y : List ℕ) → o ≡ Some y → y ≡ held) → more o part ≡ Some x → x ≡ held ++ part
more-is None held part x h e = absurd (cc)
more-is (Some y) held part x h e = sym (some-is e) ∙ ap (λ z. z ++ part) (h y refl)
  where
    some-is : Some (y ++ part) ≡ Some x → y ++ part ≡ x
    some-is k = cc

abbrev pub told_taken : Told → List ℕ → Told
told_taken told y = record told { taken = more told.taken y }

holds-taken : (told : Told) (c sent y : List ℕ) (ended shut : Bool) → Holds told c sent ended shut → Holds (told_taken told y) c (sent ++ y) ended shut
holds-taken told c sent y ended shut h = record {
  given' = h.given';
  taken' = λ z e. more-is told.taken sent y z h.taken' e;
  ended' = h.ended';
  shut' = h.shut';
}

-- a link that is new, and has taken y
pub holds-new : (told : Told) (y : List ℕ) → IsFresh told → Holds (told_taken told y) [] y false false × EndsBehind (told_taken told y) × GivesFirst (told_taken told y)
holds-new told y f = (
  record { given' = f.given; taken' = λ z e. more-is told.taken [] y z f.taken e; ended' = f.unended; shut' = f.unshut },
  λ arrival given e1 e2 ended. absurd (never (sym ended ∙ f.unended)),
  λ arrival given e1 e2. (arrival.bytes, ap (λ z. z ++ arrival.bytes) (f.given given e2)),
)
  where
    never : true ≡ false → ⊥
    never e = cc

-- no target is there before
pub target-none : {L : Type 0} (told : L → Told) (r : Record) (target : Option L) → reached_at r.decisions ≡ None → HoldsTarget told r target → target ≡ None
target-none told r None none h = refl
target-none told r (Some link) none h = absurd (clash (sym none ∙ h.0.1))
  where
    clash : None ≡ Some h.0.0 → ⊥
    clash e = cc

-- ---- the turn

-- all that a turn that dials comes to
pub record Reaches {L : Type 0} (told : L → Told) (counts : L → Counts) (d : Dialling) (net net' : NetTold) (a z : Assoc L) (o : DialOutcome)
    (y_c rest_c rest_t : List ℕ) (full_c full_t : Bool) (fault : Option Object) (unwritten : Bool) : Type 0 where
  pub state' : z.state ≡ behind d (at_of o) (d.sent ++ y_c) (z.state).sent_t (with_object fault (cause_of o))
  pub writes : ReachWrites d o y_c rest_c (d.sent ++ y_c) rest_t (z.state).sent_t fault unwritten
  pub unsent_t : at_of o ≡ None → (z.state).sent_t ≡ []
  pub dials : net'.dials ≡ dialled net.dials (record { to = (d.asked).to; outcome = o })
  pub lookups : SameLookups net net'
  pub planned : (plan : Plan) → net.plan ≡ Some plan → o ≡ plan.outcome
  pub kept : at_of o ≡ None → net'.plan ≡ net.plan
  pub cause : DialCause net.counts net'.counts o
  pub told' : told z.client ≡ told_taken (told a.client) y_c
  pub stuck_c : (told a.client).room ≡ Some 0 → y_c ≡ []
  pub stuck_t : TakesNothing told net a.target → (z.state).sent_t ≡ []
  pub target' : HoldsTarget told z.state z.target
  pub same_target : SameTarget told net a.target z.target
  pub fills_c : full_c ≡ true → (0 < length rest_c) × IsFull (told z.client) × Rose (counts a.client).idle_writes (counts z.client).idle_writes
  pub fills_t : full_t ≡ true → (0 < length rest_t) × IsThereAnd z.target (λ link. IsFull (told link)) × RoseTarget (λ link. (counts link).idle_writes) a.target z.target
  pub failed_c : Option Kind
  pub failed_t : Option Kind
  pub tried_c : Tried (counts a.client) (counts z.client) (Unit {0}) ((y_c ≡ []) × (full_c ≡ false)) (Unit {0}) failed_c
  pub tried_t : TriedTarget counts net a.target z.target (Unit {0}) (((z.state).sent_t ≡ []) × (full_t ≡ false)) (Unit {0}) failed_t
  pub leaves_c : LeavesOf rest_c failed_c
  pub leaves_t : LeavesOf rest_t failed_t
  pub fault_is : FaultIs fault failed_c failed_t
  pub unwritten_is : unwritten ≡ is_write failed_c || is_write failed_t
  pub fails_c : fault ≡ Some Object.Client → Rose (counts a.client).faults (counts z.client).faults
  pub unfailing : (told a.client).unfailing ≡ true → IsUnfailing told net a.target → (fault ≡ None) × (unwritten ≡ false)

pub short-of : (sent rest owed : List ℕ) → sent ++ rest ≡ owed → 0 < length rest → length sent < length owed
short-of sent rest owed e h = omega (arith, length-append sent rest, ap (λ (z : List ℕ). length z) e)

pub turns-reached : {L : Type 0} (told : L → Told) (counts : L → Counts) (d : Dialling) (net net' : NetTold) (a z : Assoc L) (o : DialOutcome)
    (y_c rest_c rest_t : List ℕ) (full_c full_t : Bool) (fault : Option Object) (unwritten : Bool)
    → Stands told (basis_of d) (with_state a (before d)) → Reaches told counts d net net' a z o y_c rest_c rest_t full_c full_t fault unwritten
    → Turns told counts (SameDesk d.h d.marks) (context_of d) (d.party).since net net' (with_state a (before d)) (Next.Again z)
turns-reached told counts d net net' a z o y_c rest_c rest_t full_c full_t fault unwritten k h = record {
  acts = reach_acts o (length y_c) (length (z.state).sent_t) full_c full_t fault unwritten;
  result = record { left = x; h = d.h; marks = d.marks };
  lawful = λ worker. reaches-on d o y_c rest_c (d.sent ++ y_c) (z.state).sent_t rest_t (z.state).sent_t full_c full_t fault unwritten worker
      (sends-as d o y_c rest_c (d.sent ++ y_c) rest_t (z.state).sent_t fault unwritten h.writes);
  state' = h.state';
  desk = (refl, refl);
  goes_on = subst (IsPlainRecord d.users) (sym h.state') plain;
  direct = record { direct = direct-behind d (at_of o); known = known-behind d (at_of o); connects = connects-behind d (at_of o) };
  c = sym (append-nil d.c);
  t = refl;
  ends_c = λ e. absurd (cc);
  ends_t = λ e. absurd (cc);
  sent_c = length-append d.sent y_c;
  sent_t = zero-more (length (z.state).sent_t);
  since = λ e. e;
  number = refl;
  client = subst (λ (w : Told). Holds w d.c (d.sent ++ y_c) false false) (sym h.told') (holds-taken (told a.client) d.c d.sent y_c false false k.client);
  client_ends = subst EndsBehind (sym h.told') k.client_ends;
  client_first = subst GivesFirst (sym h.told') k.client_first;
  target = subst (λ (r : Record). HoldsTarget told r z.target) h.state' h.target';
  same_client = subst (λ (w : Told). SameOutside (told a.client) w) (sym h.told') (record { arrived = refl; cap = refl; room = refl; unfailing = refl; tells_given = refl; tells_taken = more-tells (told a.client).taken y_c });
  same_target = h.same_target;
  behind = before d;
  taken' = λ worker. refl;
  dials = subst (λ (p : Phase). DialsAre net.dials net'.dials p (outer_of o)) (sym (phase-before d)) (dials-as o net.dials net'.dials (grant_of d) h.dials);
  lookups = subst (λ (p : Phase). LookupsAre net.lookups net'.lookups p (outer_of o)) (sym (phase-before d)) (lookups-as o net.lookups net'.lookups (grant_of d) (h.lookups).lookups);
  lookup_plan = (h.lookups).plan;
  plan' = plan-as d o net net' h.kept;
  outer' = subst (λ (p : Phase). IsOuterOf net p (outer_of o)) (sym (phase-before d)) (outer-as d o net h.planned);
  counted = counted-as o net.counts net'.counts h.cause;
  stops_c = λ worker. StopsReading.unread (record { behind = before d; taken' = refl; unread' = ap (reads_client (basis_of d) [] (links full_c full_t) (before d)) (phase-before d) });
  stops_t = λ worker. StopsReading.unread (record { behind = before d; taken' = refl; unread' = ap (reads_target (before d)) (phase-before d) });
  reads_end_c = λ worker e. absurd (cc);
  reads_end_t = λ worker e. absurd (cc);
  idle_c = λ e. absurd (cc);
  idle_t = λ e. absurd (cc);
  full_c = λ e. ((h.fills_c e).1, (h.fills_c e).2, short-of (d.sent ++ y_c) rest_c _ owed (h.fills_c e).0);
  full_t = λ e. ((h.fills_t e).1, (h.fills_t e).2, short-of (z.state).sent_t rest_t _ ((h.writes).all_t ∙ sym (ap (λ (z : Option Endpoint). plain_to_target (prelude_of (before d)) d.c z) (at-behind d (at_of o)))) (h.fills_t e).0);
  room_c = λ e. ap (λ (z : List ℕ). length z) (h.stuck_c e);
  room_t = λ e. ap (λ (z : List ℕ). length z) (h.stuck_t e);
  failed_c = h.failed_c;
  failed_t = h.failed_t;
  tried_c = tried-as h.tried_c (λ u. (refl, refl, refl)) (λ e. (ap (λ (z : List ℕ). length z) e.0, e.1)) (λ u. refl);
  tried_t = target-tried-as counts net a.target z.target h.failed_t h.tried_t (λ u. (refl, refl, refl)) (λ e. (ap (λ (z : List ℕ). length z) e.0, e.1)) (λ u. refl);
  where_c = where-written (basis_of d) (before d) x Object.Client h.failed_c rest_c h.leaves_c (left-over (d.sent ++ y_c) rest_c (due_c d o) _ (owes-c d o fault) (h.writes).all_c);
  where_t = where-written (basis_of d) (before d) x Object.Target h.failed_t rest_t h.leaves_t (left-over (z.state).sent_t rest_t (due_t d (at_of o)) _ (owes-t d o fault) (h.writes).all_t);
  fault_is = h.fault_is;
  unwritten_is = h.unwritten_is;
  fails_c = h.fails_c;
  unfailing = h.unfailing;
}
  where
    x : Record
    x = behind d (at_of o) (d.sent ++ y_c) (z.state).sent_t (with_object fault (cause_of o))

    zero-more : (n : ℕ) → n ≡ 0 + n
    zero-more n = omega arith

    owed : (d.sent ++ y_c) ++ rest_c ≡ owed_c x
    owed = (h.writes).all_c ∙ sym (due-as d o fault (d.sent ++ y_c) (z.state).sent_t)

    plain : IsPlainRecord d.users x
    plain = plain-behind d (at_of o) (d.sent ++ y_c) (z.state).sent_t (with_object fault (cause_of o)) h.unsent_t (fails-caused o fault) (unlogged o fault)
        (rest_c, (h.writes).all_c ∙ sym (due-with d o fault)) (rest_t, (h.writes).all_t) (payload-none (at_of o))
