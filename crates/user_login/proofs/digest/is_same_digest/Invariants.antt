use Rattle.std.proofs.Common.{◌≡◌, ◌==◌, take, bytes_eq}
use Rattle.user_login.proofs.digest.is_same_digest.Given as goal

abbrev pub invariant-loop-i : goal.invariant-loop-i
invariant-loop-i l = (l.differing == 0) ≡ bytes_eq (take l.i l.a) (take l.i l.b)
