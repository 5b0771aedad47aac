-- The line `turn` of a script.
use Rattle.std.proofs.Common.{ℕ, suc, ◌≡◌, ◌<◌, ◌≤◌, ◌-◌, ◌∙◌, sym, ap, subst, refl, Bool, true, false, ◌&&◌, Option, Some, List, [], ◌∷◌, ◌++◌, length, map, arith}
use Rattle.std.specs.Prelude.{slice_get}
use Rattle.socks_grammar.specs.declared.user.User.{User}
use Rattle.generation.specs.Published.{Generations}
use Rattle.socks_machine.specs.declared.record.Record.{Record}
use Rattle.socks_machine.specs.declared.script.ScriptLine.{ScriptLine}
use Rattle.socks_machine.specs.declared.world.Event.{Event}
use Rattle.socks_machine.specs.declared.world.World.{World}
use Rattle.socks_machine.specs.Basis.{Basis}
use Rattle.socks_machine.specs.Script.{Outside, is_over, is_silent, used_up}
use Rattle.socks_machine.specs.Step.{basis_of}
use Rattle.replay_script.specs.declared.state.AssociationState.{AssociationState}
use Rattle.replay_script.specs.declared.state.State.{State}
use Rattle.replay_script.specs.Conditions.{allows}
use Rattle.replay_run.specs.declared.slot.Slot.{Slot}
use Rattle.replay_run.specs.declared.state.Replay.{Replay}
use Rattle.replay_run.specs.AtTurn.{IsTurned, TurnsAt}
use Rattle.replay_run.specs.Behind.{GoesBehind, IsBehind, IsDue}
use Rattle.replay_run.specs.Mirrors.{HasSeen, IsSlot, Matches, record_of}
use Rattle.replay_run.specs.Played.{Played}
use Rattle.replay_run.proofs.Places.{IsPlace, placed, place-within}
use Rattle.replay_run.proofs.Playing.{plays-event, plays-silent}
use Rattle.replay_run.proofs.Slots.{get-map-at, matches-used}

both : (a b : Bool) → a && b ≡ true → (a ≡ true) × (b ≡ true)
both true true h = (refl, refl)
both true false h = cc
both false b h = cc

abbrev any_side : AssociationState → Bool
any_side side = true

place-of : (users : List User) (number : ℕ) (script lines : List ScriptLine) (state : State) (r : Replay) → allows state (ScriptLine.Turn 1 number) ≡ true
    → (b : IsBehind users script lines state r) → IsPlace (basis_of b.w) number any_side state.sides (b.s).outsides r.slots
place-of users number script lines state r allowed b =
    placed (basis_of b.w) state number any_side (b.s).outsides r.slots (b.matches).sides (b.mirrors).slots' (both state.seen _ allowed).1

-- the association that takes its turn is there
pub turn-within : (number : ℕ) (r : Replay) → IsDue (ScriptLine.Turn 1 number) r → number - 1 < length r.slots
turn-within number r due =
    let p = place-of due.users number due.script due.lines due.state r due.allowed due.behind in
    let within = place-within r.slots p.k p.slot p.slot-at in
    let is = p.number' in
    omega (arith, within, is)

-- ---- a turn that happens

happens : (users : List User) (script lines : List ScriptLine) (state : State) (old new : Replay) (still : Bool) (k : ℕ)
    → (b : IsBehind users script lines state old) → is_silent b.w (ScriptLine.Turn 1 (suc k)) ≡ false → IsTurned users b.s b.w k old new still
    → IsBehind users script (lines ++ ScriptLine.Turn 1 (suc k) ∷ []) state new
happens users script lines state old new still k b loud t = record {
  s = used_up b.s t.ev;
  w = t.world;
  played = subst (λ (out : List ℕ). Played script (lines ++ ScriptLine.Turn 1 (suc k) ∷ []) (used_up b.s t.ev) t.world out)
      (ap (λ (z : List ℕ). old.out ++ z) t.line ∙ sym t.out)
      (plays-event script lines b.s b.w t.world old.out (ScriptLine.Turn 1 (suc k)) (Event.Turn t.ev) b.played loud (t.ev, refl, t.is_turn) t.stepped t.over);
  mirrors = t.mirrors;
  matches = subst (λ (gens : Generations). Matches users state (used_up b.s t.ev) gens) (sym t.gens) (matches-used users state b.s old.gens t.ev b.matches);
}

rests : (users : List User) (script lines : List ScriptLine) (state : State) (old : Replay) (number : ℕ)
    → (b : IsBehind users script lines state old) → is_silent b.w (ScriptLine.Turn 1 number) ≡ true
    → IsBehind users script (lines ++ ScriptLine.Turn 1 number ∷ []) state old
rests users script lines state old number b silent = record {
  s = b.s;
  w = b.w;
  played = plays-silent script lines b.s b.w old.out (ScriptLine.Turn 1 number) b.played silent;
  mirrors = b.mirrors;
  matches = b.matches;
}

silent-as : (w : World) (slots : List Slot) (k : ℕ) (slot : Slot) → w.records ≡ map record_of slots → slice_get slots k ≡ Some slot
    → is_silent w (ScriptLine.Turn 1 (suc k)) ≡ (record_of slot).done
silent-as w slots k slot records at = ap is_over (ap (λ (z : List Record). slice_get z k) records ∙ get-map-at record_of slots k slot at)

-- whether an association that is there goes on
abbrev GoesOrOver : Slot → Type 0
GoesOrOver (Slot.Going a net) = (a.state).done ≡ false
GoesOrOver (Slot.Over e) = (e.state).done ≡ true
GoesOrOver Slot.Away = ⊥

goes-or-over : (basis : Basis) (number : ℕ) (slot : Slot) (o : Outside) → IsSlot basis number slot o → GoesOrOver slot
goes-or-over basis number (Slot.Going a net) o h = (h.stands).plain.undone
goes-or-over basis number (Slot.Over e) o h = h.0
goes-or-over basis number Slot.Away o h = h

by-slot : (users : List User) (script lines : List ScriptLine) (state : State) (old new : Replay) (still : Bool) (k : ℕ) (slot : Slot)
    → (b : IsBehind users script lines state old) → slice_get old.slots k ≡ Some slot → GoesOrOver slot
    → TurnsAt users k old new still (Some slot)
    → IsBehind users script (lines ++ ScriptLine.Turn 1 (suc k) ∷ []) state new
by-slot users script lines state old new still k (Slot.Going a net) b at there t =
    happens users script lines state old new still k b (silent-as b.w old.slots k (Slot.Going a net) (b.mirrors).records at ∙ there) (t b.s b.w b.mirrors)
by-slot users script lines state old new still k (Slot.Over e) b at there t =
    subst (λ (r : Replay). IsBehind users script (lines ++ ScriptLine.Turn 1 (suc k) ∷ []) state r) (sym t.0)
    (rests users script lines state old (suc k) b (silent-as b.w old.slots k (Slot.Over e) (b.mirrors).records at ∙ there))
by-slot users script lines state old new still k Slot.Away b at there t = absurd there

pub turn-goes : (users : List User) (number : ℕ) (old new : Replay) (still : Bool) → TurnsAt users (number - 1) old new still (slice_get old.slots (number - 1))
    → GoesBehind users (ScriptLine.Turn 1 number) old new
turn-goes users number old new still t script lines state form allowed has b =
    let p = place-of users number script lines state old allowed b in
    let is : number - 1 ≡ p.k = let n = p.number' in omega (arith, n) in
    let turned : TurnsAt users p.k old new still (Some p.slot) =
    subst (λ (x : Option Slot). TurnsAt users p.k old new still x) p.slot-at (subst (λ (n : ℕ). TurnsAt users n old new still (slice_get old.slots n)) is t) in
    subst (λ (n : ℕ). IsBehind users script (lines ++ ScriptLine.Turn 1 n ∷ []) state new) (sym p.number')
    (by-slot users script lines state old new still p.k p.slot b p.slot-at (goes-or-over (basis_of b.w) (suc p.k) p.slot p.o p.stands) turned)

-- a turn is due only where the worker has seen what was published
pub turn-seen : (number : ℕ) (r : Replay) → IsDue (ScriptLine.Turn 1 number) r → HasSeen r.gens
turn-seen number r due = record { seen = ((due.behind).matches).seen' (both (due.state).seen _ due.allowed).0; plain = ((due.behind).matches).plain }

pub see-some : (r : Replay) → IsDue (ScriptLine.See 1) r → 0 < length (r.gens).configs
see-some r due = ((due.behind).matches).published' due.allowed

pub due-below : (l : ScriptLine) (r : Replay) → IsDue l r → (r.gens).seen ≤ length (r.gens).configs
due-below l r due = ((due.behind).mirrors).below
