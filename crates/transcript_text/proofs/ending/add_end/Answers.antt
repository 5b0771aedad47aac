use Rattle.transcript_text.proofs.Endings.{adds_end}
use Rattle.transcript_text.proofs.ending.add_end.Goals as goal

pub returns : goal.returns
returns c = adds_end c.add_end_word.result c.args.out.now c.add_end_word.new.out c.args.record.now c.add_end_word.ensures
