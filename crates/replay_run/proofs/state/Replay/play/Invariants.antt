use Rattle.std.proofs.Common.{take, drop}
use Rattle.replay_script.specs.declared.state.State.{State}
use Rattle.replay_script.specs.Conditions.{IsServedFrom}
use Rattle.replay_run.specs.Behind.{IsBehind}
use Rattle.replay_run.proofs.Foreseeing.{Foresees}
use Rattle.replay_run.proofs.state.Replay.play.Given as goal

-- the lines so far were played, and those that are left are served behind them, and say who the users are where none did so far
abbrev pub invariant-playing : goal.invariant-playing
invariant-playing l = record {
  state : State;
  behind : IsBehind l.users l.lines (take l.line-index l.lines) state l.self;
  served : IsServedFrom state (drop l.line-index l.lines);
  foreseen : Foresees l.users state (drop l.line-index l.lines);
}
