use Rattle.std.proofs.Common.{◌-◌, length}
use Rattle.rule_index.proofs.Walking.{HasComeTo}
use Rattle.rule_index.proofs.links.Links.least.Given as goal

abbrev pub invariant-loop-at : goal.invariant-loop-at
invariant-loop-at l = HasComeTo l.rules l.facts (length l.self.heads) l.slot l.at

abbrev pub decreases-loop-at : goal.decreases-loop-at
decreases-loop-at l = l.best - l.at
