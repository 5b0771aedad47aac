use Rattle.user_login.proofs.Limits.{users-keep}
use Rattle.user_login.proofs.users.Users.read.Goals as goal

pub invariant_of-result : goal.invariant_of-result
invariant_of-result c = users-keep c.args.text.now c.in_ok-users.users c.in_ok-users.ensures
