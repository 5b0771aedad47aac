use Rattle.transcript_text.proofs.CauseTexts.{adds_cause}
use Rattle.transcript_text.proofs.cause.add_cause.Goals as goal

pub returns : goal.returns
returns c = adds_cause c.add_named.result c.args.out.now c.add_named.new.out c.args.cause.now c.add_named.ensures
