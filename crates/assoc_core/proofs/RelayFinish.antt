-- The last shut of a relay, where it is the target's side. The mirror on the client's side is a law of the machine.
use Rattle.std.proofs.Common.{sym, ◌≡◌, refl, Bool, true, false, ◌&&◌, ◌||◌, not, if◌then◌else◌, Some, None, ◌++◌, length, ap, ◌∙◌, drop}
use Rattle.socks_machine.specs.declared.cause.Cause.{Cause}
use Rattle.socks_machine.specs.declared.record.Record.{Record}
use Rattle.socks_machine.specs.declared.world.TurnEvent.{TurnEvent}
use Rattle.socks_machine.specs.Calls.{Context, keep}
use Rattle.socks_machine.specs.Decisions.{granted}
use Rattle.socks_machine.specs.InTurn.{InTurn, with_sendings}
use Rattle.socks_machine.specs.Owed.{pending_to_client, pending_to_target}
use Rattle.socks_machine.specs.Phase.{Phase, phase, relay_began_in}
use Rattle.socks_machine.specs.Relaying.{Relaying, relayed, due_c, due_t}
use Rattle.socks_machine.specs.Settle.{first_cause, settled, cause_in, is_nothing}
use Rattle.socks_machine.specs.Turn.{shut_sides, guard, client_may_be_shut, target_may_be_shut}
use Rattle.socks_machine.specs.View.{view}
use Rattle.socks_machine.proofs.ActLaws.{may, both}
use Rattle.socks_machine.proofs.CallLaws.{reading-turn, or-right}
use Rattle.socks_machine.proofs.RelayLaws.{relaying-reads, relay-owes-c, relay-owes-t, all-sent, four, alike, began-same}

six : (a b c d e f : Bool) → a ≡ true → b ≡ true → c ≡ true → d ≡ true → e ≡ true → f ≡ true → a && b && c && d && e && f ≡ true
six a b c d e f ha hb hc hd he hf = rw (ha, hb, hc, hd, he, hf) refl

pub relay-finish-t : (s : Context) (old : Record) (e : TurnEvent) (r : Record) → Relaying s old e r → r.shut_c ≡ true → r.shut_t ≡ false
    → r.end_c ≡ true → r.end_t ≡ true → r.sent_c ≡ due_c s old e.t → r.sent_t ≡ due_t s old e.c
    → InTurn s old (record e { shut_t = true }) (relayed old e.c e.t e.end_c e.end_t) (keep s (relayed old e.c e.t e.end_c e.end_t)) (relayed old e.c e.t e.end_c e.end_t)
    (record r { shut_t = true; cause = Some Cause.Finished })
relay-finish-t s old e r h shut_c open_t ends_c ends_t all_c all_t =
    let k = reading-turn s old e a r (relaying-reads s old e r h) in
    record {
      going = k.going;
      takes = k.takes;
      calls = k.calls;
      faults = k.faults;
      sendings = k.sendings;
      shuts = ap (λ b. elim b [ true ↦ shut_sides s.basis (record e { shut_t = true }) f | false ↦ Some f ]) (or-right e.shut_c)
          ∙ (ap (λ g. guard g (Some (settled s.basis x))) guarded ∙ ap Some (fixes ∙ ap (λ (z : Record). let y : Record = record z { shut_t = true; cause = Some Cause.Finished } in y) (sym h.is)));
    }
  where
    a : Record
    a = relayed old e.c e.t e.end_c e.end_t

    f : Record
    f = with_sendings a r

    x : Record
    x = record f { shut_c = e.shut_c || f.shut_c; shut_t = true }

    sent_c : is_nothing (pending_to_client s.basis f) ≡ true
    sent_c = ap (λ z. is_nothing (drop (length r.sent_c) z)) (relay-owes-c s old e.c e.t (e.end_c || old.end_c) (e.end_t || old.end_t) h.facts) ∙ all-sent r.sent_c (due_c s old e.t) all_c

    sent_t : is_nothing (pending_to_target s.basis f) ≡ true
    sent_t = ap (λ z. is_nothing (drop (length r.sent_t) z)) (relay-owes-t s old e.c e.t (e.end_c || old.end_c) (e.end_t || old.end_t) h.facts) ∙ all-sent r.sent_t (due_t s old e.c) all_t

    began : relay_began_in (view s.basis a) a ≡ true
    began = began-same s old e.c e.t (e.end_c || old.end_c) (e.end_t || old.end_t) (granted old.decisions) h.facts ∙ h.facts.began

    was-open : (c old : Bool) → c || old ≡ false → old ≡ false
    was-open true old h = cc
    was-open false old h = h

    guarded : (not e.shut_c || client_may_be_shut s.basis f) && (not true || target_may_be_shut s.basis f) ≡ true
    guarded = both (not e.shut_c || client_may_be_shut s.basis f) (target_may_be_shut s.basis f)
        (may e.shut_c (client_may_be_shut s.basis f) ((relaying-reads s old e r h).shuts.still.may_c))
        (four _ _ _ _ began (sym (ap (λ z. z.end_c) h.is) ∙ ends_c) (was-open e.shut_t old.shut_t (sym (ap (λ z. z.shut_t) h.is) ∙ open_t)) sent_t)

    relays : phase s.basis x ≡ Phase.Relay
    relays = alike s.basis old (old.c ++ e.c) (old.t ++ e.t) (e.end_c || old.end_c) (e.end_t || old.end_t) h.facts.direct (h.facts.whole e.c) ∙ h.facts.relays

    finished : cause_in s.basis x (phase s.basis x) ≡ Some Cause.Finished
    finished = ap (cause_in s.basis x) relays
        ∙ ap (λ b. if b then Some Cause.Finished else None)
        (six _ _ _ _ _ _ (sym (ap (λ z. z.end_c) h.is) ∙ ends_c) (sym (ap (λ z. z.end_t) h.is) ∙ ends_t) (sym (ap (λ z. z.shut_c) h.is) ∙ shut_c) refl sent_c sent_t)

    fixes : settled s.basis x ≡ record x { cause = Some Cause.Finished }
    fixes = λ i. record x { cause = (ap (λ k. first_cause k old.cause) finished ∙ ap (first_cause (Some Cause.Finished)) h.facts.uncaused) i }
