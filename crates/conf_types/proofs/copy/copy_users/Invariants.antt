use Rattle.std.proofs.Common.{◌≡◌, take}
use Rattle.conf_types.proofs.copy.copy_users.Given as goal

abbrev pub invariant-loop-user : goal.invariant-loop-user
invariant-loop-user l = l.copy ≡ take l.user-index l.users
