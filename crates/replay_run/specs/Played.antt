-- How far a script has been played.
use Rattle.std.specs.Prelude.{ℕ, ◌≡◌, Bool, true, ◌&&◌, not, Some, List, ◌++◌}
use Rattle.std.specs.List.{list_all}
use Rattle.socks_machine.specs.declared.script.ScriptLine.{ScriptLine}
use Rattle.socks_machine.specs.declared.world.Event.{Event}
use Rattle.socks_machine.specs.declared.world.NextMark.{NextMark}
use Rattle.socks_machine.specs.declared.world.World.{World}
use Rattle.socks_machine.specs.Equal.{mark_eq}
use Rattle.socks_machine.specs.Follows.{Follows, Rounds, begins}
use Rattle.socks_machine.specs.Script.{Surroundings, first_surroundings}
use Rattle.socks_machine.specs.Step.{steps}
use Rattle.socks_machine.specs.Transcript.{traced}

-- these lines give these events: whatever goes on behind them goes on from their beginning
abbrev pub Plays : Surroundings → World → List ScriptLine → List Event → Surroundings → World → Type 0
Plays s0 w0 lines events s w = (rest : List ScriptLine) (more rounds : List Event) → Follows s w rest more rounds → Follows s0 w0 (lines ++ rest) (events ++ more) rounds

-- an event that is no turn which goes on, or for which memory was short
abbrev pub is_over : Event → Bool
is_over (Event.Turn ev) = not (mark_eq ev.next NextMark.Going) && not ev.memory
is_over _ = true

-- events that end in this world, with their lines of the transcript
pub record Traces (from : World) (events : List Event) (w : World) (out : List ℕ) : Type 0 where
  pub traced' : traced (Some from) events ≡ (out, Some w)
  pub ran : steps (Some from) events ≡ Some w
  pub over : list_all is_over events ≡ true

-- these lines of the script were played
pub record Played (script lines : List ScriptLine) (s : Surroundings) (w : World) (out : List ℕ) : Type 0 where
  pub events : List Event
  pub plays : Plays first_surroundings (begins script) lines events s w
  pub traces : Traces (begins script) events w out

-- all lines of the script were played, and these numbers are still to come in this round
pub record InRounds (script : List ScriptLine) (s : Surroundings) (w : World) (numbers : List ℕ) (still : Bool) (lines_out out : List ℕ) : Type 0 where
  pub events : List Event
  pub rounds : List Event
  pub between : World
  pub follows : (more : List Event) → Rounds s w numbers still more → Follows first_surroundings (begins script) script events (rounds ++ more)
  pub lines' : Traces (begins script) events between lines_out
  pub traces : Traces between rounds w out
