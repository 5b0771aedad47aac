use Rattle.addr_pattern.proofs.ReadPatterns.{pattern-inverse}
use Rattle.addr_pattern.proofs.laws.pattern_read_again.Goals as goal

pub returns : goal.returns
returns c = pattern-inverse
