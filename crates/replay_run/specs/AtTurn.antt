-- A turn on the association at a place of the replay.
use Rattle.std.specs.Prelude.{ℕ, ◌≡◌, Bool, true, Option, Some, None, List, ◌++◌, slice_set}
use Rattle.socks_grammar.specs.declared.user.User.{User}
use Rattle.session_desk.specs.Standings.{StandsFor}
use Rattle.socks_machine.specs.declared.record.Record.{Record}
use Rattle.socks_machine.specs.declared.world.Event.{Event}
use Rattle.socks_machine.specs.declared.world.TurnEvent.{TurnEvent}
use Rattle.socks_machine.specs.declared.world.World.{World}
use Rattle.socks_machine.specs.Follows.{IsTurnOf}
use Rattle.socks_machine.specs.Script.{Surroundings, is_still, used_up}
use Rattle.socks_machine.specs.Step.{step}
use Rattle.socks_machine.specs.Transcript.{event_line}
use Rattle.replay_run.specs.declared.slot.Slot.{Slot}
use Rattle.replay_run.specs.declared.state.Replay.{Replay}
use Rattle.replay_run.specs.Mirrors.{Mirrors}
use Rattle.replay_run.specs.Played.{is_over}
use Rattle.replay_run.specs.Shown.{turn_shown}
use Rattle.std.specs.Prelude.{suc, slice_get}

-- the turn of the association at this place: its event, the world behind it, and that the replay
-- holds what that is
pub record IsTurned (users : List User) (s : Surroundings) (w : World) (k : ℕ) (old new : Replay) (still : Bool) : Type 0 where
  pub ev : TurnEvent
  pub left : Record
  pub world : World
  pub is_turn : IsTurnOf s w 1 (suc k) ev
  pub stepped : step w (Event.Turn ev) ≡ Some world
  pub over : is_over (Event.Turn ev) ≡ true
  pub mirrors : Mirrors users (StandsFor new.desk) new.desk.cap new.moment (used_up s ev) world new.gens new.slots
  pub still' : still ≡ is_still ev
  pub line : event_line world (Event.Turn ev) ≡ turn_shown old.gens.seen ev left
  pub out : new.out ≡ old.out ++ turn_shown old.gens.seen ev left
  pub gens : new.gens ≡ old.gens
  pub others : (j : ℕ) → (j ≡ k → ⊥) → slice_get world.records j ≡ slice_get w.records j
  pub count : (slot : Slot) × (new.slots ≡ slice_set old.slots k slot)

abbrev pub TurnsAt : List User → ℕ → Replay → Replay → Bool → Option Slot → Type 0
TurnsAt users k old new still (Some (Slot.Going a net)) = (s : Surroundings) (w : World) → Mirrors users (StandsFor old.desk) old.desk.cap old.moment s w old.gens old.slots → IsTurned users s w k old new still
TurnsAt users k old new still (Some (Slot.Over e)) = (new ≡ old) × (still ≡ true)
TurnsAt users k old new still (Some Slot.Away) = Unit {0}
TurnsAt users k old new still None = Unit {0}
