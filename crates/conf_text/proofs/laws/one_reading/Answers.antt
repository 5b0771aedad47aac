use Rattle.conf_text.proofs.Deciding.{readings_agree}
use Rattle.conf_text.proofs.laws.one_reading.Goals as goal

pub returns : goal.returns
returns c = readings_agree
