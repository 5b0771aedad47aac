use Rattle.published.proofs.Steps.{opens}
use Rattle.published.proofs.board.Board.make.Goals as goal

pub of_words-requires : goal.of_words-requires
of_words-requires c = opens
