use Rattle.socks_grammar.proofs.GrammarLaws.{split-extends}
use Rattle.socks_grammar.proofs.laws.split_is_stable.Goals as goal

pub returns : goal.returns
returns c = split-extends
