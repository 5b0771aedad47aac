use Rattle.std.proofs.Common.{◌∙◌, ◌≡◌, ap, subst, sym}
use Rattle.atomic_table.specs.Table.{rest}
use Rattle.turnstile.specs.declared.mark.Mark.TheVariants.{Placed}
use Rattle.turnstile.specs.Views.{View, Holding, AllAtHome, mark_of, slots_of, unmarked}
use Rattle.turnstile.proofs.ViewLemmas.{same_table, in_slots, in_words, mark_here, unmarked_cons, unmarked_none, holding_is}
use Rattle.turnstile.proofs.RuleKept.{places, readies_at}
use Rattle.turnstile.proofs.turnstile.Turnstile.place.Goals as goal

pub compare_exchange-found-requires : goal.compare_exchange-found-requires
compare_exchange-found-requires g c = (
  same_table c.pass.view_is c.requires.turnstile c.self.view_is,
  in_words c.self.view_is c.self.invariant c.requires.slot,
  places _ _ _ _ _ (in_slots c.self.view_is c.requires.slot),
)

pub compare_exchange-requires : goal.compare_exchange-requires
compare_exchange-requires g c = let found = c.compare_exchange-found.ensures in let taken = found.2.1 c.if-found-ne-EMPTY.false in let filled = c.exchange.ensures in (
  filled.0 ∙ found.0 ∙ same_table c.pass.view_is c.requires.turnstile c.self.view_is,
  in_words c.self.view_is c.self.invariant c.requires.slot,
  readies_at _ _ _ c.args.unit _ _ (in_slots c.self.view_is c.requires.slot)
      (ap (λ (m : View × _). mark_of c.args.slot m.0) filled.3 ∙ ap (mark_of c.args.slot) taken.1 ∙ mark_here c.args.slot Placed c.pass.inside.seat.me.0)
      (ap (λ (m : View × _). m.1) filled.3),
)

-- the view after the last step is the one before the first
view_after : (g : _) (c : goal.After-compare_exchange g) → c.compare_exchange.new.seat.me.0 ≡ c.pass.inside.seat.me.0
view_after g c = let taken = c.compare_exchange-found.ensures.2.1 c.if-found-ne-EMPTY.false in let slot = c.args.slot in let before = c.pass.inside.seat.me.0 in
    c.compare_exchange.ensures.2.0 ∙ ap (λ (m : View × _). unmarked slot m.0) c.exchange.ensures.3 ∙ ap (unmarked slot) taken.1 ∙ unmarked_cons slot Placed before ∙ unmarked_none slot before taken.0

pub invariant_of-pass-2 : goal.invariant_of-pass-2
invariant_of-pass-2 g c = let taken = c.compare_exchange-found.ensures.2.1 c.if-found-ne-EMPTY.false in (
  c.compare_exchange.ensures.2.1 ∙ ap (λ (m : View × _). rest m.1) c.exchange.ensures.3 ∙ ap rest taken.2 ∙ c.pass.invariant.0,
  subst AllAtHome (sym (view_after g c)) c.pass.invariant.1,
)

pub returns-clause-pass : goal.returns-clause-pass
returns-clause-pass g c =
    holding_is (c.compare_exchange.ensures.0 ∙ c.exchange.ensures.0 ∙ c.compare_exchange-found.ensures.0) (ap slots_of (view_after g c)) ∙ c.pass.view_is

pub returns-clause-left : goal.returns-clause-left
returns-clause-left g c = let readied = c.compare_exchange.ensures.2 in
    (unmarked c.args.slot c.exchange.new.seat.me.0, sym (ap slots_of readied.0) ∙ ap slots_of (view_after g c) ∙ ap (λ (h : Holding). h.held) c.pass.view_is, readied.2)
