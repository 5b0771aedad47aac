use Rattle.transcript_text.proofs.Endings.{adds_turn}
use Rattle.transcript_text.proofs.turn.add_turn.Goals as goal

pub returns : goal.returns
returns c =
    adds_turn c.add_turn_line.result c.args.out.now c.add_turn_line.new.out c.args.worker c.args.generation c.args.took.0 c.args.took.1 c.args.sent.0 c.args.sent.1 c.args.next
    c.args.record.now c.add_turn_line.ensures
