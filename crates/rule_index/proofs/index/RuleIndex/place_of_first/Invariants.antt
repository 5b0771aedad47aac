use Rattle.std.proofs.Common.{length}
use Rattle.rule_index.proofs.Candidates.{HasTried}
use Rattle.rule_index.proofs.index.RuleIndex.place_of_first.Given as goal

abbrev pub invariant-loop-class : goal.invariant-loop-class
invariant-loop-class l = HasTried l.rules l.facts l.self.classes (length l.self.links.heads) l.class-index l.best
