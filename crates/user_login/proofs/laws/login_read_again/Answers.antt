use Rattle.user_login.proofs.Messages.{login-again}
use Rattle.user_login.proofs.laws.login_read_again.Goals as goal

pub returns : goal.returns
returns c = login-again
