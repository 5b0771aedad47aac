-- The records of a relay without a proxy: what the definitions say of them, and that a turn keeps their form.
use Rattle.std.proofs.Common.{◌≡◌, ℕ, ◌≤◌, Bool, true, false, ◌&&◌, not, Option, Some, None, List, [], ◌∷◌, ◌++◌, refl, sym, ap, subst, ◌∙◌, length, option_and_then, is_some}
use mathlib.Core.List.{IsPrefix}
use Rattle.addr_pattern.specs.declared.endpoint.Endpoint.{Endpoint}
use Rattle.conf_types.specs.declared.entries.Entries.{Entries}
use Rattle.socks_grammar.specs.declared.protocol.Command.{Command}
use Rattle.socks_grammar.specs.declared.user.User.{User}
use Rattle.socks_grammar.specs.Handshake.{login_place, version_of}
use Rattle.rule_list.specs.declared.facts.Facts.{Facts}
use Rattle.rule_list.specs.declared.verdict.Verdict.{Verdict}
use Rattle.rule_list.specs.Rules.{numbered}
use Rattle.socks_machine.specs.declared.cause.Cause.{Cause}
use Rattle.socks_machine.specs.declared.cause.StopBy.{StopBy}
use Rattle.socks_machine.specs.declared.lines.Line.{Line}
use Rattle.socks_machine.specs.declared.record.Chosen.{Chosen}
use Rattle.socks_machine.specs.declared.record.Decision.{Decision}
use Rattle.socks_machine.specs.declared.record.Record.{Record}
use Rattle.socks_machine.specs.Calls.{Context, name_of}
use Rattle.socks_machine.specs.Decisions.{granted, reached_at}
use Rattle.socks_machine.specs.Front.{Proxy}
use Rattle.socks_machine.specs.Owed.{has_target, target_by}
use Rattle.socks_machine.specs.Phase.{way, began_by, relay_began, prelude_length, is_udp, is_udp_grant}
use Rattle.socks_machine.specs.Relaying.{RelayFacts}
use Rattle.socks_machine.specs.Socks.{socks, chosen_reply, passed_reply, success}
use Rattle.socks_machine.specs.View.{asks_login, outcome_with, proxy_in, proxy_of, proxy_of_grant}
use Rattle.socks_machine.proofs.SocksRelay.{relay-facts}
use Rattle.assoc_core.specs.Plain.{IsPlainRecord, HasAsked, HasDecided, Dialled, Sought, behind_lookup, name_sought, split_in, is_login_failed, owed_c, owed_t, plain_to_client}
use Rattle.assoc_core.specs.Turns.{context}
use Rattle.assoc_core.proofs.Payload.{length-is, prelude-within, asked-extends, chosen-stays, served-stays, unfailed}
use Rattle.assoc_core.proofs.PlainRecords.{decided-forms, passed_grant, relay-phase, granted-behind, at-behind, unreached-behind, has-dialled}

-- ---- what the definitions say

-- a whole prelude is whole in each record of the same input
abbrev pub asked-as : (users : List User) (r x : Record) → split_in users x ≡ split_in users r → HasAsked users r → HasAsked users x
asked-as users r x e h = record { request = h.request; len = h.len; whole = e ∙ h.whole }

not-reached : {A : Type 0} (at : Endpoint) → None ≡ Some at → A
not-reached at e = absurd (cc)

-- a record that was dialled, with its link up
pub record IsRelayed (users : List User) (r : Record) (at : Endpoint) : Type 0 where
  pub name : Option (List ℕ)
  pub facts : Facts
  pub dialled : Dialled users r name facts (Some at)

abbrev RelayedBy : List User → Record → Endpoint → List Decision → Type 0
RelayedBy users r at ds = reached_at ds ≡ Some at → IsRelayed users r at

pub is-relayed : (users : List User) (r : Record) (at : Endpoint) → IsPlainRecord users r → reached_at r.decisions ≡ Some at → IsRelayed users r at
is-relayed users r at h reaches = decided-forms users r (RelayedBy users r at) (record {
  nothing = λ fresh' k. absurd (cc);
  opened' = λ g rule d k. absurd (cc);
  looked' = λ g rule name found d k. absurd (cc);
  granted' = λ g rule s g' facts verdict route refused d k. not-reached at (sym (unreached-behind g rule s g' facts verdict route refused) ∙ k);
  reached' = λ g rule s g' facts verdict route to at' d k.
      record { name = name_sought s; facts = facts; dialled = subst (λ (z : Option Endpoint). Dialled users r (name_sought s) facts z) (sym (at-behind g rule s g' facts verdict route to at') ∙ k) d };
}) r.decisions h.decided reaches

abbrev FactsBy : Context → Record → List Decision → Type 0
FactsBy s r ds = option_and_then (proxy_of_grant s.basis) (granted ds) ≡ None → (at : Endpoint) → reached_at ds ≡ Some at → RelayFacts s (record r { decisions = ds })

pub plain-relay-facts : (users : List User) (pubs : List Entries) (generation : ℕ) (config : Entries) (cap : ℕ) (h : List Line) (marks : List StopBy) (r : Record) (at : Endpoint)
    → IsPlainRecord users r → reached_at r.decisions ≡ Some at → r.cause ≡ None → proxy_of (socks users pubs) r ≡ None → RelayFacts (context users pubs generation config cap h marks) r
plain-relay-facts users pubs generation config cap h marks r at plain reaches uncaused direct = decided-forms users r (FactsBy s r) (record {
  nothing = λ fresh' direct' at k. absurd (cc);
  opened' = λ g rule d direct' at k. absurd (cc);
  looked' = λ g rule name found d direct' at k. absurd (cc);
  granted' = λ g rule s g' facts verdict route refused d direct' at k. not-reached at (sym (unreached-behind g rule s g' facts verdict route refused) ∙ k);
  reached' = λ g rule s g' facts verdict route to at' d direct' at k.
      let is = sym (at-behind g rule s g' facts verdict route to at') ∙ k in
      up g rule s g' facts verdict route to at (subst (λ (z : Option Endpoint). Dialled users r (name_sought s) facts z) is d)
      (sym (ap (option_and_then (proxy_of_grant (socks users pubs))) (granted-behind s (Decision.Granted g' facts verdict route None ∷ Decision.Reached to at' ∷ []))) ∙ direct') at' is;
}) r.decisions plain.decided direct at reaches
  where
    s : Context
    s = context users pubs generation config cap h marks

    up : (g : ℕ) (rule : Option ℕ) (sought : Option Sought) (g' : ℕ) (facts : Facts) (verdict : Verdict) (route : Option ℕ) (to at : Endpoint) → Dialled users r (name_sought sought) facts (Some at) → proxy_in route (numbered pubs g') ≡ None → (at' : Option Endpoint) → at' ≡ Some at
        → RelayFacts s (record r { decisions = Decision.Opened g rule None ∷ behind_lookup sought (Decision.Granted g' facts verdict route None ∷ Decision.Reached to at' ∷ []) })
    up g rule sought g' facts verdict route to at d direct' at' is =
        subst (λ (z : Option Endpoint). RelayFacts s (record r { decisions = Decision.Opened g rule None ∷ behind_lookup sought (Decision.Granted g' facts verdict route None ∷ Decision.Reached to z ∷ []) })) (sym is)
        (relay-facts s (x sought) refl (relay-phase users pubs r g rule sought g' facts verdict route to at (record { undone = plain.undone; uncaused = uncaused; asked = d.asked; named = d.named }) d.command direct') (goes sought) (began sought) (there sought) plain.grams plain.sent_u (long sought))
      where
        x : Option Sought → Record
        x sought = record r { decisions = Decision.Opened g rule None ∷ behind_lookup sought (Decision.Granted g' facts verdict route None ∷ Decision.Reached to (Some at) ∷ []) }

        goes : (w : Option Sought) → proxy_of (socks users pubs) (x w) ≡ None
        goes None = direct'
        goes (Some l) = direct'

        began : (w : Option Sought) → relay_began (socks users pubs) (x w) ≡ true
        began None = ap (λ (p : Option Proxy). began_by facts.command (way (Some at) (outcome_with r.t (passed_grant g' facts verdict route) p)) None) direct'
            ∙ ap (λ (k : Command). began_by k (Some at) None) d.command
        began (Some l) = ap (λ (p : Option Proxy). began_by facts.command (way (Some at) (outcome_with r.t (passed_grant g' facts verdict route) p)) None) direct'
            ∙ ap (λ (k : Command). began_by k (Some at) None) d.command

        there : (w : Option Sought) → has_target (x w) ≡ true
        there None = ap (λ (k : Command). target_by (Some at) None k) d.command
        there (Some l) = ap (λ (k : Command). target_by (Some at) None k) d.command

        long : (w : Option Sought) → prelude_length (socks users pubs) (x w) ≤ length r.c
        long w = subst (λ (n : ℕ). n ≤ length r.c) (sym (length-is users pubs r d.asked)) (prelude-within r)

-- ---- a turn keeps the form

-- what stands of a relay behind more bytes of both sides
abbrev pub carried : Record → List ℕ → List ℕ → Bool → Bool → List ℕ → List ℕ → Bool → Bool → Option Cause → Record
carried old c t end_c end_t sent_c sent_t shut_c shut_t cause = record old {
  c = old.c ++ c;
  t = old.t ++ t;
  end_c = end_c;
  end_t = end_t;
  sent_c = sent_c;
  sent_t = sent_t;
  shut_c = shut_c;
  shut_t = shut_t;
  cause = cause;
}

-- what of a relay is sent, and which sides are shut
pub record IsCarried (r : Record) : Type 0 where
  pub sent_c : IsPrefix r.sent_c (owed_c r)
  pub sent_t : IsPrefix r.sent_t (owed_t r)
  pub apart : r.shut_c && r.shut_t ≡ false
  pub shut_c : r.shut_c ≡ true → (r.end_t ≡ true) × (r.sent_c ≡ owed_c r)
  pub shut_t : r.shut_t ≡ true → (r.end_c ≡ true) × (r.sent_t ≡ owed_t r)

pub carried-plain : (users : List User) (old : Record) (at : Endpoint) (c t : List ℕ) (end_c end_t : Bool) (sent_c sent_t : List ℕ) (shut_c shut_t : Bool) (cause : Option Cause)
    → IsPlainRecord users old → reached_at old.decisions ≡ Some at → is_login_failed cause ≡ false → IsCarried (carried old c t end_c end_t sent_c sent_t shut_c shut_t cause)
    → IsPlainRecord users (carried old c t end_c end_t sent_c sent_t shut_c shut_t cause)
carried-plain users old at c t end_c end_t sent_c sent_t shut_c shut_t cause plain reaches fine k = record {
  undone = plain.undone;
  unclosed = plain.unclosed;
  grams = plain.grams;
  sent_u = plain.sent_u;
  served = served-stays users old c asked plain.served;
  chosen' = chosen-stays users old c asked plain.chosen';
  failed = fine ∙ sym (unfailed users (record old { c = old.c ++ c }) (asked-extends users old c asked));
  decided = decided-forms users old (λ ds. reached_at ds ≡ Some at → HasDecided users x ds) (record {
    nothing = λ fresh' e. absurd (cc);
    opened' = λ g rule d e. absurd (cc);
    looked' = λ g rule name found d e. absurd (cc);
    granted' = λ g rule s g' facts verdict route refused d e. not-reached at (sym (unreached-behind g rule s g' facts verdict route refused) ∙ e);
    reached' = λ g rule s g' facts verdict route to at' d e.
        has-dialled users x g rule s g' facts verdict route to at' (subst (λ (z : Option Endpoint). Dialled users x (name_sought s) facts z) (sym (sym (at-behind g rule s g' facts verdict route to at') ∙ e)) (dialled (name_sought s) facts d.asked d.named d.command));
  }) old.decisions plain.decided reaches;
  sent_c = k.sent_c;
  sent_t = k.sent_t;
}
  where
    x : Record
    x = carried old c t end_c end_t sent_c sent_t shut_c shut_t cause

    asked : HasAsked users old
    asked = (is-relayed users old at plain reaches).dialled.asked

    dialled : (name : Option (List ℕ)) (facts : Facts) (a : HasAsked users old) → name_of (a.request).host ≡ name → facts.command ≡ Command.Connect → Dialled users x name facts (Some at)
    dialled name facts a named command = record {
      asked = asked-as users (record old { c = old.c ++ c }) x refl (asked-extends users old c a);
      named = named;
      command = command;
      unreached = λ e. absurd (cc);
      failed = λ e. absurd (cc);
      apart = k.apart;
      shut_c = k.shut_c;
      shut_t = k.shut_t;
    }

-- a cause owes nothing where the target is reached, but for a login that failed
pub owed-caused : (c t : List ℕ) (chosen : Option Chosen) (reaches : Option Endpoint) (at : Endpoint) (cause cause' : Option Cause) → reaches ≡ Some at
    → is_login_failed cause ≡ is_login_failed cause' → plain_to_client c t chosen reaches cause ≡ plain_to_client c t chosen reaches cause'
owed-caused c t chosen reaches at cause cause' h e =
    ap (λ z. plain_to_client c t chosen z cause) h
    ∙ (ap (λ b. (chosen_reply chosen ++ passed_reply (asks_login chosen && (is_some (login_place c) && not b))) ++ (success (version_of c) Command.Connect at ++ (t ++ []))) e
    ∙ sym (ap (λ z. plain_to_client c t chosen z cause') h))

-- no datagrams
pub plain-tcp : (users : List User) (r : Record) → IsPlainRecord users r → is_udp r ≡ false
plain-tcp users r plain = decided-forms users r (λ ds. is_udp (record r { decisions = ds }) ≡ false) (record {
  nothing = λ fresh'. refl;
  opened' = λ g rule d. refl;
  looked' = λ g rule name found d. refl;
  granted' = λ g rule s g' facts verdict route refused d. ap is_udp_grant (granted-behind s (Decision.Granted g' facts verdict route refused ∷ [])) ∙ by-command facts.command d.command;
  reached' = λ g rule s g' facts verdict route to at d. ap is_udp_grant (granted-behind s (Decision.Granted g' facts verdict route None ∷ Decision.Reached to at ∷ [])) ∙ by-command facts.command d.command;
}) r.decisions plain.decided
  where
    by-command : (k : Command) → k ≡ Command.Connect → (elim k [ Command.UdpAssociate ↦ true | _ ↦ false ]) ≡ false
    by-command k e = ap (λ (z : Command). elim z [ Command.UdpAssociate ↦ true | _ ↦ false ]) e
