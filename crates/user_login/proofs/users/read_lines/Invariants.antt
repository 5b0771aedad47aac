use Rattle.std.proofs.Common.{◌≡◌, ◌≤◌, ◌+◌, [], length}
use Rattle.user_login.specs.UsersFile.{lines_onto, lines}
use Rattle.user_login.proofs.users.read_lines.Given as goal

abbrev pub invariant-lines : goal.invariant-lines
invariant-lines l = record {
  so_far : lines_onto 1 [] (lines l.text) ≡ lines_onto l.line l.users (lines l.rest);
  room : l.line + length l.rest ≤ 1048577;
}

abbrev pub decreases-lines : goal.decreases-lines
decreases-lines l = length l.rest
