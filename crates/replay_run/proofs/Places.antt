-- Where an association of a script stands: in the reader's state, outside, and in the replay.
use Rattle.std.proofs.Common.{ℕ, zero, suc, ◌≡◌, ◌<◌, ◌+◌, subst, refl, Bool, true, Option, Some, None, List, [], ◌∷◌, ◌++◌, length, arith, slice_set}
use Rattle.std.specs.Prelude.{slice_get}
use Rattle.socks_machine.specs.Basis.{Basis}
use Rattle.socks_machine.specs.Script.{Outside}
use Rattle.replay_script.specs.declared.state.AssociationState.{AssociationState}
use Rattle.replay_script.specs.declared.state.State.{State}
use Rattle.replay_script.specs.Conditions.{on_side, side_of}
use Rattle.replay_run.specs.declared.slot.Slot.{Slot}
use Rattle.replay_run.specs.Mirrors.{AreSides, AreSlots, IsSlot}

-- what the reader keeps of an association is what is outside
abbrev pub IsSide : AssociationState → Outside → Type 0
IsSide side o = (side.c ≡ o.c) × (side.end_c ≡ o.end_c) × (side.end_t ≡ o.end_t)

-- an association that is open, and passes a test
pub record IsPlace (basis : Basis) (number : ℕ) (test : AssociationState → Bool) (sides : List AssociationState) (os : List Outside) (slots : List Slot) : Type 0 where
  pub k : ℕ
  pub side : AssociationState
  pub o : Outside
  pub slot : Slot
  pub number' : number ≡ suc k
  pub side-at : slice_get sides k ≡ Some side
  pub outside-at : slice_get os k ≡ Some o
  pub slot-at : slice_get slots k ≡ Some slot
  pub is : IsSide side o
  pub passes : test side ≡ true
  pub stands : IsSlot basis (suc k) slot o

same-some : {A : Type 0} (a b : A) → Some a ≡ Some b → a ≡ b
same-some a b h = cc

outside-of : (sides : List AssociationState) (os : List Outside) (k : ℕ) (side : AssociationState) → AreSides sides os → slice_get sides k ≡ Some side
    → (o : Outside) × (slice_get os k ≡ Some o) × IsSide side o
outside-of [] os k side h at = cc
outside-of (x ∷ xs) [] k side h at = absurd h
outside-of (x ∷ xs) (o ∷ os) zero side h at = (o, refl, subst (λ z. IsSide z o) (same-some x side at) (h.0, h.1, h.2))
outside-of (x ∷ xs) (o ∷ os) (suc k) side h at = outside-of xs os k side h.3 at

slot-of : (basis : Basis) (number : ℕ) (slots : List Slot) (os : List Outside) (k : ℕ) (o : Outside) → AreSlots basis number slots os → slice_get os k ≡ Some o
    → (slot : Slot) × (slice_get slots k ≡ Some slot) × IsSlot basis (number + k) slot o
slot-of basis number [] [] k o h at = cc
slot-of basis number [] (x ∷ os) k o h at = absurd h
slot-of basis number (s ∷ ss) [] k o h at = absurd h
slot-of basis number (s ∷ ss) (x ∷ os) zero o h at = (s, refl, subst (λ z. IsSlot basis (number + 0) s z) (same-some x o at) (subst (λ (n : ℕ). IsSlot basis n s x) (omega arith) h.0))
slot-of basis number (s ∷ ss) (x ∷ os) (suc k) o h at =
    let r = slot-of basis (suc number) ss os k o h.1 at in (r.0, r.1, subst (λ (n : ℕ). IsSlot basis n r.0 o) (omega arith) r.2)

passed : (x : Option AssociationState) (test : AssociationState → Bool) → on_side x test ≡ true → (side : AssociationState) × (x ≡ Some side) × (test side ≡ true)
passed None test h = cc
passed (Some side) test h = (side, refl, h)

pub placed : (basis : Basis) (state : State) (number : ℕ) (test : AssociationState → Bool) (os : List Outside) (slots : List Slot) → AreSides state.sides os → AreSlots basis 1 slots os
    → on_side (side_of state number) test ≡ true → IsPlace basis number test state.sides os slots
placed basis state zero test os slots sides are h = cc
placed basis state (suc k) test os slots sides are h =
    let p = passed (slice_get state.sides k) test h in
    let o = outside-of state.sides os k p.0 sides p.1 in
    let s = slot-of basis 1 slots os k o.0 are o.1 in record {
      k = k;
      side = p.0;
      o = o.0;
      slot = s.0;
      number' = refl;
      side-at = p.1;
      outside-at = o.1;
      slot-at = s.1;
      is = o.2;
      passes = p.2;
      stands = subst (λ (n : ℕ). IsSlot basis n s.0 o.0) (omega arith) s.2;
    }

pub sides-set : (sides : List AssociationState) (os : List Outside) (k : ℕ) (side : AssociationState) (o : Outside) → AreSides sides os → IsSide side o
    → AreSides (slice_set sides k side) (slice_set os k o)
sides-set [] [] k side o h is = tt
sides-set [] (x ∷ os) k side o h is = absurd h
sides-set (y ∷ ys) [] k side o h is = absurd h
sides-set (y ∷ ys) (x ∷ os) zero side o h is = (is.0, is.1, is.2, h.3)
sides-set (y ∷ ys) (x ∷ os) (suc k) side o h is = (h.0, h.1, h.2, sides-set ys os k side o h.3 is)

pub sides-more : (sides : List AssociationState) (os : List Outside) (side : AssociationState) (o : Outside) → AreSides sides os → IsSide side o → AreSides (sides ++ side ∷ []) (os ++ o ∷ [])
sides-more [] [] side o h is = (is.0, is.1, is.2, tt)
sides-more [] (x ∷ os) side o h is = absurd h
sides-more (y ∷ ys) [] side o h is = absurd h
sides-more (y ∷ ys) (x ∷ os) side o h is = (h.0, h.1, h.2, sides-more ys os side o h.3 is)

-- a place in the list
pub place-within : {A : Type 0} (xs : List A) (k : ℕ) (x : A) → slice_get xs k ≡ Some x → k < length xs
place-within [] k x h = cc
place-within (y ∷ ys) zero x h = omega arith
place-within (y ∷ ys) (suc k) x h = let r = place-within ys k x h in omega (arith, r)

-- a test of an association is passed only where one is open
pub side-open : (state : State) (number : ℕ) (test : AssociationState → Bool) → on_side (side_of state number) test ≡ true → 0 < length state.sides
side-open state zero test h = cc
side-open state (suc k) test h =
    let p = passed (slice_get state.sides k) test h in
    let within = place-within state.sides k p.0 p.1 in
    omega (arith, within)
