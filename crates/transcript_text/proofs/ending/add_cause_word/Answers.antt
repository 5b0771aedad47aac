use Rattle.transcript_text.specs.Endings.{cause_word}
use Rattle.transcript_text.proofs.ending.add_cause_word.Goals as goal

pub returns : goal.returns
unfolding cause_word
returns c = c.add_cause.ensures
