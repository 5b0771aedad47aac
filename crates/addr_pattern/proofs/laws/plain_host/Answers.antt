use Rattle.addr_pattern.proofs.PlainTexts.{plain-host-text}
use Rattle.addr_pattern.proofs.laws.plain_host.Goals as goal

pub returns : goal.returns
returns c = plain-host-text
