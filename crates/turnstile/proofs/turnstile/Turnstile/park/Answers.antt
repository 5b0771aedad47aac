use Rattle.std.proofs.Common.{rules, ◌∙◌, ◌≡◌, ◌∷◌, ap, subst, sym, List, ℕ}
use Rattle.atomic_table.specs.Table.{rest}
use Rattle.turnstile.specs.declared.mark.Mark.TheVariants.{AtHome, Out}
use Rattle.turnstile.specs.Views.{View, Holding, AllAtHome, mark_of, slots_of, unmarked, with_slot, without, without_slot}
use Rattle.turnstile.proofs.ViewLemmas.{same_table, in_slots, in_words, held_mark, mark_here, unmarked_cons, unmarked_again, home_unmarked, slots_unmarked, holding_is}
use Rattle.turnstile.proofs.RuleKept.{lifts, parks_at, settles_at, in_hand}
use Rattle.turnstile.proofs.turnstile.Turnstile.park.Goals as goal

pub load-requires : goal.load-requires
load-requires g c = (
  same_table c.pass.view_is c.requires.turnstile c.self.view_is,
  in_words c.self.view_is c.self.invariant c.requires.slot,
  lifts _ _ _ _ _ (in_slots c.self.view_is c.requires.slot) (held_mark c.pass.inside.seat.table_id c.pass.inside.seat.me.0 c.pass.view_is c.pass.invariant.1 c.requires.held),
)

pub compare_exchange-requires : goal.compare_exchange-requires
compare_exchange-requires g c = let lifted = c.load.ensures in let filled = c.exchange.ensures in (
  filled.0 ∙ lifted.0 ∙ same_table c.pass.view_is c.requires.turnstile c.self.view_is,
  in_words c.self.view_is c.self.invariant c.requires.slot,
  parks_at _ _ _ c.args.unit _ _ (in_slots c.self.view_is c.requires.slot)
      (ap (λ (m : View × _). mark_of c.args.slot m.0) filled.3 ∙ ap (mark_of c.args.slot) lifted.2.0 ∙ mark_here c.args.slot Out (unmarked c.args.slot c.pass.inside.seat.me.0))
      (ap (λ (m : View × _). m.1) filled.3),
)

-- ---- Done

-- the view after the step that parks
view_parked : (g : _) (c : goal.Then-compare_exchange-eq-HELD g) → c.compare_exchange.new.seat.me.0 ≡ unmarked c.args.slot c.pass.inside.seat.me.0
view_parked g c = let slot = c.args.slot in let before = c.pass.inside.seat.me.0 in
    (c.compare_exchange.ensures.2.1 c.if-compare_exchange-eq-HELD.true).0 ∙ ap (λ (m : View × _). unmarked slot m.0) c.exchange.ensures.3 ∙ ap (unmarked slot) c.load.ensures.2.0
    ∙ unmarked_cons slot Out (unmarked slot before) ∙ unmarked_again slot before

pub invariant_of-pass : goal.invariant_of-pass
invariant_of-pass g c = (
  (c.compare_exchange.ensures.2.1 c.if-compare_exchange-eq-HELD.true).1 ∙ ap (λ (m : View × _). rest m.1) c.exchange.ensures.3 ∙ ap rest c.load.ensures.2.1 ∙ c.pass.invariant.0,
  subst AllAtHome (sym (view_parked g c)) (home_unmarked c.args.slot c.pass.inside.seat.me.0 c.pass.invariant.1),
)

pub returns-then-compare_exchange-eq-HELD-clause-pass :
    goal.returns-then-compare_exchange-eq-HELD-clause-pass
returns-then-compare_exchange-eq-HELD-clause-pass g c =
    holding_is (c.compare_exchange.ensures.0 ∙ c.exchange.ensures.0 ∙ c.load.ensures.0) (ap slots_of (view_parked g c) ∙ slots_unmarked c.args.slot c.pass.inside.seat.me.0)
    ∙ ap (without_slot c.args.slot) c.pass.view_is

pub returns-then-compare_exchange-eq-HELD-clause-answer :
    goal.returns-then-compare_exchange-eq-HELD-clause-answer
returns-then-compare_exchange-eq-HELD-clause-answer g c = let slot = c.args.slot in (
  c.compare_exchange.result,
  (
    c.exchange.new.seat.me.0,
    ap (λ (m : View × _). slots_of m.0) c.exchange.ensures.3 ∙ ap slots_of c.load.ensures.2.0
        ∙ ap (λ (l : List ℕ). slot ∷ l) (slots_unmarked slot c.pass.inside.seat.me.0 ∙ ap (λ (h : Holding). without slot h.held) c.pass.view_is),
    c.compare_exchange.ensures.2.0,
  ),
  c.if-compare_exchange-eq-HELD.true,
)

pub returns-then-compare_exchange-eq-HELD-clause-left :
    goal.returns-then-compare_exchange-eq-HELD-clause-left
returns-then-compare_exchange-eq-HELD-clause-left g c = let parked = c.compare_exchange.ensures.2.1 c.if-compare_exchange-eq-HELD.true in let slot = c.args.slot in (
  unmarked slot c.exchange.new.seat.me.0,
  sym (ap slots_of parked.0) ∙ ap slots_of (view_parked g c) ∙ slots_unmarked slot c.pass.inside.seat.me.0 ∙ ap (λ (h : Holding). without slot h.held) c.pass.view_is,
  parked.2,
)

-- ---- Woken

pub exchange-unit-requires : goal.exchange-unit-requires
exchange-unit-requires g c = let stays = c.compare_exchange.ensures.2.2 c.if-compare_exchange-eq-HELD.false in (
  c.compare_exchange.ensures.0 ∙ c.exchange.ensures.0 ∙ c.load.ensures.0 ∙ same_table c.pass.view_is c.requires.turnstile c.self.view_is,
  in_hand _ _ _ _ (ap (λ (m : View × _). m.1) stays.1 ∙ ap (λ (m : View × _). m.1) c.exchange.ensures.3),
)

pub load-requires-2 : goal.load-requires-2
load-requires-2 g c = let stays = c.compare_exchange.ensures.2.2 c.if-compare_exchange-eq-HELD.false in let slot = c.args.slot in (
  c.exchange-unit.ensures.0 ∙ c.compare_exchange.ensures.0 ∙ c.exchange.ensures.0 ∙ c.load.ensures.0 ∙ same_table c.pass.view_is c.requires.turnstile c.self.view_is,
  in_words c.self.view_is c.self.invariant c.requires.slot,
  settles_at _ _ _ Out _ _ (in_slots c.self.view_is c.requires.slot)
      (ap (λ (m : View × _). mark_of slot m.0) c.exchange-unit.ensures.3 ∙ ap (λ (m : View × _). mark_of slot m.0) stays.1 ∙ ap (λ (m : View × _). mark_of slot m.0) c.exchange.ensures.3
      ∙ ap (mark_of slot) c.load.ensures.2.0 ∙ mark_here slot Out (unmarked slot c.pass.inside.seat.me.0))
      (ap (λ (m : View × _). m.1) c.exchange-unit.ensures.3),
)

-- the view after the last step
view_woken : (g : _) (c : goal.In-Some g) → c.load-2.new.seat.me.0 ≡ (c.args.slot, AtHome) ∷ unmarked c.args.slot c.pass.inside.seat.me.0
view_woken g c = let stays = c.compare_exchange.ensures.2.2 c.if-compare_exchange-eq-HELD.false in let slot = c.args.slot in let before = c.pass.inside.seat.me.0 in
    c.load-2.ensures.2.0 ∙ ap (λ (m : View × _). (slot, AtHome) ∷ unmarked slot m.0) c.exchange-unit.ensures.3 ∙ ap (λ (m : View × _). (slot, AtHome) ∷ unmarked slot m.0) stays.1
    ∙ ap (λ (m : View × _). (slot, AtHome) ∷ unmarked slot m.0) c.exchange.ensures.3 ∙ ap (λ (w : View). (slot, AtHome) ∷ unmarked slot w) c.load.ensures.2.0
    ∙ ap (λ (w : View). (slot, AtHome) ∷ w) (unmarked_cons slot Out (unmarked slot before) ∙ unmarked_again slot before)

pub invariant_of-pass-2 : goal.invariant_of-pass-2
invariant_of-pass-2 g c = let stays = c.compare_exchange.ensures.2.2 c.if-compare_exchange-eq-HELD.false in (
  c.load-2.ensures.2.1 ∙ ap (λ (m : View × _). rest m.1) c.exchange-unit.ensures.3 ∙ ap (λ (m : View × _). rest m.1) stays.1 ∙ ap (λ (m : View × _). rest m.1) c.exchange.ensures.3
      ∙ ap rest c.load.ensures.2.1 ∙ c.pass.invariant.0,
  subst AllAtHome (sym (view_woken g c)) (tt, home_unmarked c.args.slot c.pass.inside.seat.me.0 c.pass.invariant.1),
)

pub returns-clause-pass : goal.returns-clause-pass
returns-clause-pass g c =
    holding_is (c.load-2.ensures.0 ∙ c.exchange-unit.ensures.0 ∙ c.compare_exchange.ensures.0 ∙ c.exchange.ensures.0 ∙ c.load.ensures.0)
    (ap slots_of (view_woken g c) ∙ ap (λ (l : List ℕ). c.args.slot ∷ l) (slots_unmarked c.args.slot c.pass.inside.seat.me.0))
    ∙ ap (λ (h : Holding). with_slot c.args.slot (without_slot c.args.slot h)) c.pass.view_is

pub returns-clause-answer : goal.returns-clause-answer
returns-clause-answer g c = let slot = c.args.slot in (
  c.compare_exchange.result,
  (
    c.exchange.new.seat.me.0,
    ap (λ (m : View × _). slots_of m.0) c.exchange.ensures.3 ∙ ap slots_of c.load.ensures.2.0
        ∙ ap (λ (l : List ℕ). slot ∷ l) (slots_unmarked slot c.pass.inside.seat.me.0 ∙ ap (λ (h : Holding). without slot h.held) c.pass.view_is),
    c.compare_exchange.ensures.2.0,
  ),
  ((c.compare_exchange.ensures.2.2 c.if-compare_exchange-eq-HELD.false).0, search rules),
)
