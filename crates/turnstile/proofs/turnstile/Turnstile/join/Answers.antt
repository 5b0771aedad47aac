use Rattle.std.proofs.Common.{◌∙◌, ap, subst, sym}
use Rattle.turnstile.specs.Views.{View, AllAtHome}
use Rattle.turnstile.proofs.ViewLemmas.{same_table, in_words, home_both}
use Rattle.turnstile.proofs.RuleKept.{joins}
use Rattle.turnstile.proofs.turnstile.Turnstile.join.Goals as goal

pub join_seat-requires : goal.join_seat-requires
join_seat-requires g c = (
  same_table c.pass.view_is c.requires.turnstile c.self.view_is,
  same_table c.other.view_is c.requires.other c.self.view_is,
  c.other.invariant.0,
  in_words c.self.view_is c.self.invariant c.requires.slots,
  joins _ _ _ _,
)

pub invariant_of-pass : goal.invariant_of-pass
invariant_of-pass g c = let after = c.join_seat.ensures.2 in (
  ap (λ (m : View × _). m.1) after ∙ c.pass.invariant.0,
  subst AllAtHome (sym (ap (λ (m : View × _). m.0) after)) (home_both c.pass.inside.seat.me.0 c.other.inside.seat.me.0 c.pass.invariant.1 c.other.invariant.1),
)
