use Rattle.user_login.proofs.Limits.{users-keep}
use Rattle.user_login.proofs.laws.users_keep_limits.Goals as goal

pub returns : goal.returns
returns c = users-keep
