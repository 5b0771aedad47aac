use Rattle.user_login.proofs.Prefixes.{statuses-stop}
use Rattle.user_login.proofs.laws.statuses_stop_exactly.Goals as goal

pub returns : goal.returns
returns c = statuses-stop
