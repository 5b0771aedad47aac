use Rattle.transcript_text.proofs.Endings.{adds_ends}
use Rattle.transcript_text.proofs.ending.add_ends.Goals as goal

pub returns : goal.returns
returns c = adds_ends c.add_end_lines.result c.args.out.now c.add_end_lines.new.out c.args.record.now c.add_end_lines.ensures
