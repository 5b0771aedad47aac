use Rattle.addr_pattern.proofs.PlainTexts.{plain-addr}
use Rattle.addr_pattern.proofs.laws.plain_addr.Goals as goal

pub returns : goal.returns
returns c = plain-addr
