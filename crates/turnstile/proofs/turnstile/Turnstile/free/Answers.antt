use Rattle.std.proofs.Common.{◌∙◌, ap, subst, sym}
use Rattle.turnstile.specs.Views.{AllAtHome, slots_of, without_slot}
use Rattle.turnstile.proofs.ViewLemmas.{same_table, in_slots, in_words, held_mark, home_unmarked, slots_unmarked, holding_is}
use Rattle.turnstile.proofs.RuleKept.{frees}
use Rattle.turnstile.proofs.turnstile.Turnstile.free.Goals as goal

pub swap-requires : goal.swap-requires
swap-requires g c = (
  same_table c.pass.view_is c.requires.turnstile c.self.view_is,
  in_words c.self.view_is c.self.invariant c.requires.slot,
  frees _ _ _ _ _ (in_slots c.self.view_is c.requires.slot) (held_mark c.pass.inside.seat.table_id c.pass.inside.seat.me.0 c.pass.view_is c.pass.invariant.1 c.requires.held),
)

pub invariant_of-pass : goal.invariant_of-pass
invariant_of-pass g c = let freed = c.swap.ensures.2 in (
  freed.1 ∙ c.pass.invariant.0,
  subst AllAtHome (sym freed.0) (home_unmarked c.args.slot c.pass.inside.seat.me.0 c.pass.invariant.1),
)

pub returns : goal.returns
returns g c = holding_is c.swap.ensures.0 (ap slots_of c.swap.ensures.2.0 ∙ slots_unmarked c.args.slot c.pass.inside.seat.me.0) ∙ ap (without_slot c.args.slot) c.pass.view_is
