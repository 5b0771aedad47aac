use Rattle.std.proofs.Common.{[], ◌∷◌, codes}
use Rattle.transcript_text.proofs.Numbers.{adds_line}
use Rattle.transcript_text.proofs.event.add_open.Goals as goal

pub returns : goal.returns
returns c = adds_line c.add_counted_line.result c.args.out.now c.add_counted_line.new.out (codes "open") (c.args.worker ∷ c.args.number ∷ []) (rw c.from.ensures at c.add_counted_line.ensures)
