use Rattle.turnstile.proofs.ViewLemmas.{same_table, in_slots, in_words, held_mark}
use Rattle.turnstile.proofs.RuleKept.{clears}
use Rattle.turnstile.proofs.turnstile.Turnstile.clear.Goals as goal

pub fetch_and-requires : goal.fetch_and-requires
fetch_and-requires g c = (
  same_table c.pass.view_is c.requires.turnstile c.self.view_is,
  in_words c.self.view_is c.self.invariant c.requires.slot,
  clears _ _ _ _ _ (in_slots c.self.view_is c.requires.slot) (held_mark c.pass.inside.seat.table_id c.pass.inside.seat.me.0 c.pass.view_is c.pass.invariant.1 c.requires.held),
)
