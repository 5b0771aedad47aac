use Rattle.addr_pattern.proofs.PatternsInRange.{pattern-in_range}
use Rattle.addr_pattern.proofs.laws.pattern_in_range.Goals as goal

pub returns : goal.returns
returns c = pattern-in_range
