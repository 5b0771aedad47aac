use Rattle.std.proofs.Common.{◌∙◌}
use Rattle.handshake_core.proofs.Whole.{login-found, login-unfit, login-missing}
use Rattle.handshake_core.proofs.split.behind_login.Goals as goal

pub returns-in_default : goal.returns-in_default
returns-in_default c = login-missing c.args.users.now c.args.bytes.now c.args.at c.read_login.result c.read_login.ensures c.in_default.not-Whole

pub returns-in_err-user : goal.returns-in_err-user
returns-in_err-user c = rw c.from_residual.ensures (login-unfit c.args.users.now c.args.bytes.now c.args.at c.in-Whole.value c.in-Whole.len c.in-Whole.ensures c.in_err-user.ensures)

pub returns : goal.returns
returns c =
    login-found c.args.users.now c.args.bytes.now c.args.at c.in-Whole.value c.in-Whole.len c.copy.result c.whole_at.result c.in-Whole.ensures
    c.in_ok-user.ensures.0 (c.copy.ensures ∙ c.in_ok-user.ensures.1) c.whole_at.ensures
