use Rattle.std.proofs.Common.{sym}
use Rattle.handshake_core.proofs.Whole.{has-login, has-no-login}
use Rattle.handshake_core.proofs.length.has_login_at.Goals as goal

pub returns-in-Whole : goal.returns-in-Whole
returns-in-Whole c = sym (has-login c.args.bytes.now c.args.at c.in-Whole.value c.in-Whole.len c.in-Whole.ensures)

pub returns-in_default : goal.returns-in_default
returns-in_default c = sym (has-no-login c.args.bytes.now c.args.at c.read_login.result c.read_login.ensures c.in_default.not-Whole)
