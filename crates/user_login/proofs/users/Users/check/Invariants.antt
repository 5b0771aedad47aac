use Rattle.std.proofs.Common.{◌≡◌, ◌+◌, drop}
use Rattle.sha2.specs.Sha256.{sha256}
use Rattle.socks_grammar.specs.Users.{is_user}
use Rattle.user_login.specs.Checking.{number_from}
use Rattle.user_login.proofs.users.Users.check.Given as goal

abbrev pub invariant-loop-i : goal.invariant-loop-i
invariant-loop-i l =
    number_from 1 (is_user l.name (sha256 l.password)) l.users ≡ number_from (l.i + 1) (is_user l.name (sha256 l.password)) (drop l.i l.users)
