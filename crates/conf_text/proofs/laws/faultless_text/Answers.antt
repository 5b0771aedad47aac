use Rattle.conf_text.proofs.Deciding.{text_faultless}
use Rattle.conf_text.proofs.laws.faultless_text.Goals as goal

pub returns : goal.returns
returns c = text_faultless
