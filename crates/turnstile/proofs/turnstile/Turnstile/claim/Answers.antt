use Rattle.std.proofs.Common.{◌∙◌, ◌≡◌, ◌∷◌, ap, subst, sym}
use Rattle.atomic_table.specs.Table.{rest}
use Rattle.turnstile.specs.declared.mark.Mark.TheVariants.{AtHome, Out}
use Rattle.turnstile.specs.Views.{View, Holding, AllAtHome, mark_of, slots_of, unmarked, with_slot}
use Rattle.turnstile.proofs.ViewLemmas.{same_table, in_slots, in_words, mark_here, unmarked_cons, unmarked_none, holding_is}
use Rattle.turnstile.proofs.RuleKept.{claims, settles_at, in_hand}
use Rattle.turnstile.proofs.turnstile.Turnstile.claim.Goals as goal

pub compare_exchange-found-requires : goal.compare_exchange-found-requires
compare_exchange-found-requires g c = (
  same_table c.pass.view_is c.requires.turnstile c.self.view_is,
  in_words c.self.view_is c.self.invariant c.requires.slot,
  claims _ _ _ _ _ (in_slots c.self.view_is c.requires.slot),
)

pub exchange-unit-requires : goal.exchange-unit-requires
exchange-unit-requires g c = let found = c.compare_exchange-found.ensures in let taken = found.2.1 c.if-found-ne-PARKED_WOKEN.false in (
  found.0 ∙ same_table c.pass.view_is c.requires.turnstile c.self.view_is,
  in_hand _ _ _ _ taken.2.1,
)

pub load-requires : goal.load-requires
load-requires g c = let found = c.compare_exchange-found.ensures in let taken = found.2.1 c.if-found-ne-PARKED_WOKEN.false in let emptied = c.exchange-unit.ensures in (
  emptied.0 ∙ found.0 ∙ same_table c.pass.view_is c.requires.turnstile c.self.view_is,
  in_words c.self.view_is c.self.invariant c.requires.slot,
  settles_at _ _ _ Out _ _ (in_slots c.self.view_is c.requires.slot)
      (ap (λ (m : View × _). mark_of c.args.slot m.0) emptied.3 ∙ ap (mark_of c.args.slot) taken.1 ∙ mark_here c.args.slot Out c.pass.inside.seat.me.0)
      (ap (λ (m : View × _). m.1) emptied.3),
)

-- the view after the last step is the one before the first, with the slot
view_after : (g : _) (c : goal.In-Some g) → c.load.new.seat.me.0 ≡ (c.args.slot, AtHome) ∷ c.pass.inside.seat.me.0
view_after g c = let taken = c.compare_exchange-found.ensures.2.1 c.if-found-ne-PARKED_WOKEN.false in let slot = c.args.slot in let before = c.pass.inside.seat.me.0 in
    c.load.ensures.2.0 ∙ ap (λ (m : View × _). (slot, AtHome) ∷ unmarked slot m.0) c.exchange-unit.ensures.3 ∙ ap (λ (w : View). (slot, AtHome) ∷ unmarked slot w) taken.1
    ∙ ap (λ (w : View). (slot, AtHome) ∷ w) (unmarked_cons slot Out before ∙ unmarked_none slot before taken.0)

pub invariant_of-pass-2 : goal.invariant_of-pass-2
invariant_of-pass-2 g c = let taken = c.compare_exchange-found.ensures.2.1 c.if-found-ne-PARKED_WOKEN.false in (
  c.load.ensures.2.1 ∙ ap (λ (m : View × _). rest m.1) c.exchange-unit.ensures.3 ∙ ap rest taken.2.1 ∙ c.pass.invariant.0,
  subst AllAtHome (sym (view_after g c)) (tt, c.pass.invariant.1),
)

pub returns-clause-pass : goal.returns-clause-pass
returns-clause-pass g c = holding_is (c.load.ensures.0 ∙ c.exchange-unit.ensures.0 ∙ c.compare_exchange-found.ensures.0) (ap slots_of (view_after g c)) ∙ ap (with_slot c.args.slot) c.pass.view_is

pub returns-clause-left : goal.returns-clause-left
returns-clause-left g c = let slot = c.args.slot in
    ((slot, Out) ∷ c.pass.inside.seat.me.0, ap (λ (h : Holding). slot ∷ h.held) c.pass.view_is, (c.compare_exchange-found.ensures.2.1 c.if-found-ne-PARKED_WOKEN.false).3)
