use Rattle.turnstile.proofs.ViewLemmas.{same_table, in_slots, in_words}
use Rattle.turnstile.proofs.RuleKept.{wakes}
use Rattle.turnstile.proofs.turnstile.Turnstile.wake.Goals as goal

pub fetch_or-requires : goal.fetch_or-requires
fetch_or-requires g c = (
  same_table c.pass.view_is c.requires.turnstile c.self.view_is,
  in_words c.self.view_is c.self.invariant c.requires.slot,
  wakes _ _ _ _ _ (in_slots c.self.view_is c.requires.slot),
)
