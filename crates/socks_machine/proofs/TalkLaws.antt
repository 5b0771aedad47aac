-- A turn that talks with the client: what it takes, as the record in hand has it.
use Rattle.std.proofs.Common.{sym, ℕ, ◌≡◌, refl, Bool, true, false, Some, None, List, [], ◌∷◌, ◌++◌, ap, subst, ◌∙◌}
use Rattle.std.proofs.lemmas.List.{append-nil}
use mathlib.Core.List.{IsPrefix}
use Rattle.socks_machine.specs.declared.record.Record.{Record}
use Rattle.socks_machine.specs.declared.world.TurnEvent.{TurnEvent}
use Rattle.socks_machine.specs.Basis.{Basis}
use Rattle.socks_machine.specs.Calls.{Context}
use Rattle.socks_machine.specs.Datagrams.{owed_datagrams}
use Rattle.socks_machine.specs.Decisions.{granted}
use Rattle.socks_machine.specs.Front.{Front}
use Rattle.socks_machine.specs.InTurn.{Grows, Shuts, Reading, with_sendings, in_hand}
use Rattle.socks_machine.specs.Owed.{owed_to_client, owed_to_target}
use Rattle.socks_machine.specs.Phase.{Phase, phase}
use Rattle.socks_machine.specs.PhaseFacts.{PhaseFacts, HasReached}
use Rattle.socks_machine.specs.Settle.{cause_in, first_cause, settled}
use Rattle.socks_machine.specs.Socks.{socks_front}
use Rattle.socks_machine.specs.Taking.{reads_client, with_client_bytes}
use Rattle.socks_machine.specs.View.{view}
use Rattle.socks_machine.proofs.ActLaws.{reading-c, reading-end-c, taken_c, ended_c, still-open}
use Rattle.socks_machine.proofs.CallLaws.{Early, early-grows, nothing-to-target}
use Rattle.socks_machine.proofs.OwedLaws.{talk-owes}
use Rattle.socks_machine.proofs.PhaseFactsLaws.{phase-says}

-- ---- the record in hand

-- what is in hand is what is behind the takings, but for what was sent and shut
pub hand-is : (basis : Basis) (c t : Bool) (a r : Record) → Shuts basis c t (with_sendings a r) r → r ≡ in_hand a r
hand-is basis c t a r h =
    h.is ∙ (λ i. record a { sent_c = r.sent_c; sent_t = r.sent_t; sent_u = r.sent_u; shut_c = ap (λ z. z.shut_c) (sym h.is) i; shut_t = ap (λ z. z.shut_t) (sym h.is) i })

-- what was sent and shut fixes no cause but in a relay
pub cause-same : (basis : Basis) (x r : Record) (p : Phase) → (p ≡ Phase.Relay → ⊥) → cause_in basis (in_hand x r) p ≡ cause_in basis x p
cause-same basis x r Phase.Ended h = refl
cause-same basis x r Phase.Closing h = refl
cause-same basis x r Phase.Accept h = refl
cause-same basis x r Phase.Talk h = refl
cause-same basis x r (Phase.Seek name) h = refl
cause-same basis x r (Phase.Judging q) h = refl
cause-same basis x r (Phase.Reach g) h = refl
cause-same basis x r Phase.Asking h = refl
cause-same basis x r (Phase.Door g) h = refl
cause-same basis x r Phase.Relay h = absurd (h refl)
cause-same basis x r Phase.Datagrams h = refl

pub settled-in-hand : (basis : Basis) (x r : Record) → (phase basis x ≡ Phase.Relay → ⊥) → in_hand (settled basis x) r ≡ settled basis (in_hand x r)
settled-in-hand basis x r h = λ i. record x {
  sent_c = r.sent_c;
  sent_t = r.sent_t;
  sent_u = r.sent_u;
  shut_c = r.shut_c;
  shut_t = r.shut_t;
  cause = first_cause (sym (cause-same basis x r (phase basis x) h) i) x.cause;
}

-- ---- without a grant there is no relay

ungranted-relay : (basis : Basis) (x : Record) (p : Phase) → PhaseFacts (view basis x) x p → granted x.decisions ≡ None → p ≡ Phase.Relay → ⊥
ungranted-relay basis x p facts none is = contradiction (subst (λ (q : Phase). PhaseFacts (view basis x) x q) is facts)
  where
    contradiction : HasReached (view basis x) x → ⊥
    contradiction h = let e : None ≡ Some h.grant = sym none ∙ h.granted'.granted' in cc

pub no-relay-yet : (basis : Basis) (x : Record) → granted x.decisions ≡ None → phase basis x ≡ Phase.Relay → ⊥
no-relay-yet basis x none is = ungranted-relay basis x (phase basis x) (phase-says (view basis x) x) none is

-- ---- what is owed to a client that talks

pub talk-grows : (s : Context) (a : Record) (bytes : List ℕ) → (s.basis).front ≡ socks_front → granted a.decisions ≡ None → Early a → Grows s.basis a (taken_c s bytes a)
talk-grows s a bytes fronted none early = record {
  to_client = subst P (sym fronted) (talk-owes (s.basis).users (s.basis).pubs s.generation (s.config).methods bytes a (taken_c s bytes a).cause none early.uncaused);
  to_target = (owed_to_target s.basis (taken_c s bytes a), ap (λ (z : List ℕ). z ++ owed_to_target s.basis (taken_c s bytes a)) (nothing-to-target s.basis a early));
  datagrams = ([], append-nil (owed_datagrams s.basis a));
}
  where
    P : Front → Type 0
    P front = IsPrefix (owed_to_client (record s.basis { front = front }) a)
        (owed_to_client (record s.basis { front = front }) (record (with_client_bytes s.generation (s.config).methods bytes a) { cause = (taken_c s bytes a).cause }))

-- ---- the laws

-- bytes of a client that talks: the record in hand takes them, and fixes what they fix
pub talk-c : (s : Context) (old : Record) (e : TurnEvent) (a r : Record) (b : ℕ) (bs : List ℕ) → Reading s old e a r
    → (s.basis).front ≡ socks_front → granted a.decisions ≡ None → Early a → e.end_c ≡ false → e.shut_c ≡ false → e.shut_t ≡ false
    → phase s.basis r ≡ Phase.Talk
    → Reading s old (record e { c = e.c ++ b ∷ bs }) (taken_c s (b ∷ bs) a) (taken_c s (b ∷ bs) r)
talk-c s old e a r b bs h fronted none early open_c unshut_c unshut_t talks =
    subst (λ (z : Record). Reading s old (record e { c = e.c ++ b ∷ bs }) (taken_c s (b ∷ bs) a) z) in-hand
    (reading-c s old e a r b bs h open_c early.uncaused (ap (reads_client s.basis e.idle e.full a) talks-a) (talk-grows s a (b ∷ bs) fronted none early)
    (still-open s.basis e.shut_c e.shut_t (with_sendings (taken_c s (b ∷ bs) a) r) unshut_c unshut_t))
  where
    is : r ≡ in_hand a r
    is = hand-is s.basis e.shut_c e.shut_t a r h.shuts

    talks-a : phase s.basis a ≡ Phase.Talk
    talks-a = sym (ap (phase s.basis) is) ∙ talks

    in-hand : in_hand (taken_c s (b ∷ bs) a) r ≡ taken_c s (b ∷ bs) r
    in-hand = settled-in-hand s.basis (with_client_bytes s.generation (s.config).methods (b ∷ bs) a) r (no-relay-yet s.basis (with_client_bytes s.generation (s.config).methods (b ∷ bs) a) none)
        ∙ ap (taken_c s (b ∷ bs)) (sym is)

-- the end of a client that talks
pub talk-end-c : (s : Context) (old : Record) (e : TurnEvent) (a r : Record) → Reading s old e a r
    → granted a.decisions ≡ None → Early a → e.end_c ≡ false → e.shut_c ≡ false → e.shut_t ≡ false
    → phase s.basis r ≡ Phase.Talk
    → Reading s old (record e { end_c = true }) (ended_c s a) (ended_c s r)
talk-end-c s old e a r h none early open_c unshut_c unshut_t talks =
    subst (λ (z : Record). Reading s old (record e { end_c = true }) (ended_c s a) z) in-hand
    (reading-end-c s old e a r h open_c (ap (reads_client s.basis e.idle e.full a) talks-a) (early-grows s.basis a a.decisions (ended_c s a).cause true early)
    (still-open s.basis e.shut_c e.shut_t (with_sendings (ended_c s a) r) unshut_c unshut_t))
  where
    is : r ≡ in_hand a r
    is = hand-is s.basis e.shut_c e.shut_t a r h.shuts

    talks-a : phase s.basis a ≡ Phase.Talk
    talks-a = sym (ap (phase s.basis) is) ∙ talks

    in-hand : in_hand (ended_c s a) r ≡ ended_c s r
    in-hand = settled-in-hand s.basis (record a { end_c = true }) r (no-relay-yet s.basis (record a { end_c = true }) none)
        ∙ ap (ended_c s) (sym is)
