use Rattle.transcript_text.specs.Pieces.{digits}
use Rattle.transcript_text.proofs.number.add_number.Goals as goal

pub returns : goal.returns
unfolding digits
returns c = c.add_digits.ensures
