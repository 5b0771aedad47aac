use Rattle.handshake_core.proofs.Running.{name-run5}
use Rattle.handshake_core.proofs.run.run5.Goals as goal

pub returns : goal.returns
returns c = name-run5 c.args.message.now c.from.result c.saturating_sub.result c.if-message-lt5.false c.requires c.if-message-ne3.false c.from.ensures c.saturating_sub.ensures
