use Rattle.std.proofs.Common.{◌≡◌, take}
use Rattle.user_login.proofs.users.copy_users.Given as goal

abbrev pub invariant-loop-user : goal.invariant-loop-user
invariant-loop-user l = l.copy ≡ take l.user-index l.users
