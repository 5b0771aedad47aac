use Rattle.user_login.proofs.Prefixes.{logins-stop}
use Rattle.user_login.proofs.laws.logins_stop_exactly.Goals as goal

pub returns : goal.returns
returns c = logins-stop
