use Rattle.std.proofs.Common.{◌≡◌, drop}
use Rattle.socks_machine.specs.Follows.{users_of as users_in}
use Rattle.replay_script.specs.declared.state.State.{State}
use Rattle.replay_script.specs.Conditions.{IsServedFrom}
use Rattle.replay_run.proofs.play.users_of.Given as goal

-- no line so far gives users, and those that are left are served
abbrev pub invariant-looking : goal.invariant-looking
invariant-looking l = record {
  state : State;
  served : IsServedFrom state (drop l.line-index l.lines);
  same : users_in (drop l.line-index l.lines) ≡ users_in l.lines;
}
