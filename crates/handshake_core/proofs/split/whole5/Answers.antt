use Rattle.handshake_core.proofs.Whole.{greeting-missing}
use Rattle.handshake_core.proofs.split.whole5.Goals as goal

pub returns-in_default : goal.returns-in_default
returns-in_default c = greeting-missing c.args.users.now c.args.method c.args.bytes.now c.read_greeting.result c.read_greeting.ensures c.in_default.not-Whole
