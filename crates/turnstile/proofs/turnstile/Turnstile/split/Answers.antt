use Rattle.turnstile.proofs.ViewLemmas.{same_table, in_words}
use Rattle.turnstile.proofs.RuleKept.{splits}
use Rattle.turnstile.proofs.turnstile.Turnstile.split.Goals as goal

pub split_seat-seat-requires : goal.split_seat-seat-requires
split_seat-seat-requires g c = (same_table c.pass.view_is c.requires.turnstile c.self.view_is, in_words c.self.view_is c.self.invariant c.requires.slots, splits _ _)
