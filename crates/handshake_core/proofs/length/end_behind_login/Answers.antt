use Rattle.handshake_core.proofs.Whole.{login-ends, login-ends-missing}
use Rattle.handshake_core.proofs.length.end_behind_login.Goals as goal

pub returns-in-Whole : goal.returns-in-Whole
returns-in-Whole c = login-ends c.args.bytes.now c.args.at c.in-Whole.value c.in-Whole.len c.end_at.result c.in-Whole.ensures c.end_at.ensures

pub returns-in_default : goal.returns-in_default
returns-in_default c = login-ends-missing c.args.bytes.now c.args.at c.read_login.result c.read_login.ensures c.in_default.not-Whole
