use Rattle.std.proofs.Common.{◌≡◌, ◌≤◌, ◌+◌, drop}
use Rattle.socks_machine.specs.Follows.{opens_of as opens_in}
use Rattle.replay_run.proofs.play.opens_of.Given as goal

-- the count, with that of the lines that are left, is that of all lines
abbrev pub invariant-counting : goal.invariant-counting
invariant-counting l = record {
  counted : l.opens + opens_in (drop l.line-index l.lines) ≡ opens_in l.lines;
  few : l.opens ≤ l.line-index;
}
