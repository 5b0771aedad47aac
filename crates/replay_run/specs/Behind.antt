-- What a replay holds between two lines of its script, and behind the last.
use Rattle.std.specs.Prelude.{ℕ, suc, ◌≡◌, Bool, true, false, Some, List, [], ◌∷◌, ◌++◌, drop}
use Rattle.socks_grammar.specs.declared.user.User.{User}
use Rattle.session_desk.specs.Standings.{StandsFor}
use Rattle.socks_machine.specs.declared.script.ScriptLine.{ScriptLine}
use Rattle.socks_machine.specs.declared.world.World.{World}
use Rattle.socks_machine.specs.Follows.{IsReplay}
use Rattle.socks_machine.specs.Script.{Surroundings, going_from, next_in_round}
use Rattle.socks_machine.specs.Transcript.{ends}
use Rattle.replay_run.specs.declared.state.Replay.{Replay}
use Rattle.replay_run.specs.Mirrors.{HasSeen, HasUsers, Mirrors, Matches}
use Rattle.replay_run.specs.Played.{Played, InRounds}
use Rattle.replay_run.specs.Shown.{close_shown}
use Rattle.replay_script.specs.declared.state.State.{State}
use Rattle.replay_script.specs.Conditions.{IsServedForm, allows, after}

-- these lines were played over these users, the reader's state behind them is this one, and the replay holds what came of them
pub record IsBehind (users : List User) (script lines : List ScriptLine) (state : State) (r : Replay) : Type 0 where
  pub s : Surroundings
  pub w : World
  pub played : Played script lines s w r.out
  pub mirrors : Mirrors users (StandsFor r.desk) r.desk.cap r.moment s w r.gens r.slots
  pub matches : Matches users state s r.gens

-- a line that is served there
pub record IsDue (l : ScriptLine) (r : Replay) : Type 0 where
  pub users : List User
  pub script : List ScriptLine
  pub lines : List ScriptLine
  pub state : State
  pub form : IsServedForm l
  pub allowed : allows state l ≡ true
  pub behind : IsBehind users script lines state r

-- whatever lines the replay was behind, over these users, it is behind this one more
abbrev pub GoesBehind : List User → ScriptLine → Replay → Replay → Type 0
GoesBehind users l old new = (script lines : List ScriptLine) (state : State) → IsServedForm l → allows state l ≡ true → HasUsers users (after state l)
    → IsBehind users script lines state old → IsBehind users script (lines ++ l ∷ []) (after state l) new

-- in the closing rounds: the associations from this place on are still to come in this round, and whether it was still so far
pub record IsInRound (users : List User) (script : List ScriptLine) (at : ℕ) (still : Bool) (r : Replay) : Type 0 where
  pub s : Surroundings
  pub w : World
  pub lines_out : List ℕ
  pub out : List ℕ
  pub rounds : InRounds script s w (next_in_round (going_from (suc at) (drop at w.records)) still (Some w)).0
      (next_in_round (going_from (suc at) (drop at w.records)) still (Some w)).1 lines_out out
  pub written : r.out ≡ (lines_out ++ close_shown) ++ out
  pub mirrors : Mirrors users (StandsFor r.desk) r.desk.cap r.moment s w r.gens r.slots
  pub seen : HasSeen r.gens

-- all was played, and what became of each association is still to be written
pub record IsPlayedOut (users : List User) (script : List ScriptLine) (r : Replay) : Type 0 where
  pub s : Surroundings
  pub w : World
  pub done : IsReplay script w (r.out ++ ends w)
  pub mirrors : Mirrors users (StandsFor r.desk) r.desk.cap r.moment s w r.gens r.slots

-- a whole round: the rounds are over where it was still, else the next one begins
abbrev pub OnRound : List User → List ScriptLine → Bool → Replay → Type 0
OnRound users script true r = IsPlayedOut users script r
OnRound users script false r = IsInRound users script 0 true r
