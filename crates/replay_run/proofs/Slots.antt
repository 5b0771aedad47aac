-- Lists of associations and of their outsides, place by place.
use Rattle.std.proofs.Common.{ℕ, zero, suc, ◌≡◌, ◌+◌, ◌∙◌, sym, ap, subst, refl, not, filter, is_some, if◌then◌else◌, Option, Some, None, List, [], ◌∷◌, ◌++◌, length, map, arith, slice_set}
use Rattle.std.specs.Prelude.{slice_get}
use Rattle.socks_machine.specs.declared.world.TurnEvent.{TurnEvent}
use Rattle.socks_machine.specs.Basis.{Basis}
use Rattle.socks_grammar.specs.declared.user.User.{User}
use Rattle.generation.specs.Published.{Generations}
use Rattle.socks_machine.specs.Script.{Outside, Surroundings, change, change_at, is_among, used_up}
use Rattle.replay_run.specs.declared.slot.Slot.{Slot}
use Rattle.replay_script.specs.declared.state.AssociationState.{AssociationState}
use Rattle.replay_script.specs.declared.state.State.{State}
use Rattle.replay_run.specs.Mirrors.{AreSides, AreSlots, IsSlot, Matches}

pub set-same : {A : Type 0} (xs : List A) (k : ℕ) (x : A) → slice_get xs k ≡ Some x → slice_set xs k x ≡ xs
set-same [] k x h = refl
set-same (y ∷ ys) zero x h = ap (λ z. z ∷ ys) (the-same y x h)
  where
    the-same : {A : Type 0} (a b : A) → Some a ≡ Some b → b ≡ a
    the-same a b h = cc
set-same (y ∷ ys) (suc k) x h = ap (λ zs. y ∷ zs) (set-same ys k x h)

-- the second item that is set at a place stays
pub set-set : {A : Type 0} (xs : List A) (k : ℕ) (x y : A) → slice_set (slice_set xs k x) k y ≡ slice_set xs k y
set-set [] k x y = refl
set-set (z ∷ zs) zero x y = refl
set-set (z ∷ zs) (suc k) x y = ap (λ ys. z ∷ ys) (set-set zs k x y)

pub map-set-at : {A B : Type 0} (f : A → B) (xs : List A) (k : ℕ) (x : A) → map f (slice_set xs k x) ≡ slice_set (map f xs) k (f x)
map-set-at f [] k x = refl
map-set-at f (y ∷ ys) zero x = refl
map-set-at f (y ∷ ys) (suc k) x = ap (λ zs. f y ∷ zs) (map-set-at f ys k x)

pub get-map-at : {A B : Type 0} (f : A → B) (xs : List A) (k : ℕ) (x : A) → slice_get xs k ≡ Some x → slice_get (map f xs) k ≡ Some (f x)
get-map-at f [] k x h = cc
get-map-at f (y ∷ ys) zero x h = ap (λ (z : Option _). elim z [ Some a ↦ Some (f a) | None ↦ None ]) h
get-map-at f (y ∷ ys) (suc k) x h = get-map-at f ys k x h

pub get-set-at : {A : Type 0} (xs : List A) (k : ℕ) (x y : A) → slice_get xs k ≡ Some x → slice_get (slice_set xs k y) k ≡ Some y
get-set-at [] k x y h = cc
get-set-at (z ∷ zs) zero x y h = refl
get-set-at (z ∷ zs) (suc k) x y h = get-set-at zs k x y h

-- an association at its place, with its outside
pub slot-at : (basis : Basis) (number : ℕ) (slots : List Slot) (os : List Outside) (k : ℕ) (slot : Slot) → AreSlots basis number slots os → slice_get slots k ≡ Some slot
    → (o : Outside) × (slice_get os k ≡ Some o) × IsSlot basis (number + k) slot o
slot-at basis number [] os k slot h g = cc
slot-at basis number (s ∷ ss) [] k slot h g = absurd h
slot-at basis number (s ∷ ss) (o ∷ os) zero slot h g = (o, refl, subst (λ (z : Slot). IsSlot basis (number + 0) z o) (the-same s slot g) (subst (λ (n : ℕ). IsSlot basis n s o) (omega arith) h.0))
  where
    the-same : (a b : Slot) → Some a ≡ Some b → a ≡ b
    the-same a b h = cc
slot-at basis number (s ∷ ss) (o ∷ os) (suc k) slot h g =
    let r = slot-at basis (suc number) ss os k slot h.1 g in (r.0, r.1, subst (λ (n : ℕ). IsSlot basis n slot r.0) (omega arith) r.2)

-- another association and outside at a place
pub slots-set : (basis : Basis) (number : ℕ) (slots : List Slot) (os : List Outside) (k : ℕ) (slot : Slot) (o : Outside) → AreSlots basis number slots os
    → IsSlot basis (number + k) slot o → AreSlots basis number (slice_set slots k slot) (slice_set os k o)
slots-set basis number [] [] k slot o h is = tt
slots-set basis number [] (o' ∷ os) k slot o h is = absurd h
slots-set basis number (s ∷ ss) [] k slot o h is = absurd h
slots-set basis number (s ∷ ss) (o' ∷ os) zero slot o h is = (subst (λ (n : ℕ). IsSlot basis n slot o) (omega arith) is, h.1)
slots-set basis number (s ∷ ss) (o' ∷ os) (suc k) slot o h is = (h.0, slots-set basis (suc number) ss os k slot o h.1 (subst (λ (n : ℕ). IsSlot basis n slot o) (omega arith) is))

-- one more at the end
pub slots-more : (basis : Basis) (number : ℕ) (slots : List Slot) (os : List Outside) (slot : Slot) (o : Outside) → AreSlots basis number slots os
    → IsSlot basis (number + length slots) slot o → AreSlots basis number (slots ++ slot ∷ []) (os ++ o ∷ [])
slots-more basis number [] [] slot o h is = (subst (λ (n : ℕ). IsSlot basis n slot o) (omega arith) is, tt)
slots-more basis number [] (o' ∷ os) slot o h is = absurd h
slots-more basis number (s ∷ ss) [] slot o h is = absurd h
slots-more basis number (s ∷ ss) (o' ∷ os) slot o h is = (h.0, slots-more basis (suc number) ss os slot o h.1 (subst (λ (n : ℕ). IsSlot basis n slot o) (omega arith) is))

-- what is left outside behind a turn
abbrev pub after_turn : TurnEvent → Outside → Outside
after_turn ev o = record o { faults = filter (λ f. not (is_among ev.failed f)) o.faults; peer = (if is_some ev.came then None else o.peer) }

pub used-at : (s : Surroundings) (ev : TurnEvent) (k : ℕ) (o : Outside) → ev.number ≡ suc k → slice_get s.outsides k ≡ Some o
    → used_up s ev ≡ record s { outsides = slice_set s.outsides k (after_turn ev o) }
used-at s ev k o number at = ap (λ n. change s n (after_turn ev)) number ∙ ap (change_at s (suc k) (after_turn ev)) at

same-some : {A : Type 0} (a b : A) → Some a ≡ Some b → a ≡ b
same-some a b h = cc

-- what the reader keeps of the associations is still what is outside
sides-kept : (ev : TurnEvent) (sides : List AssociationState) (os : List Outside) (k : ℕ) (o : Outside) → slice_get os k ≡ Some o → AreSides sides os
    → AreSides sides (slice_set os k (after_turn ev o))
sides-kept ev [] [] k o at h = tt
sides-kept ev [] (x ∷ os) k o at h = absurd h
sides-kept ev (y ∷ ys) [] k o at h = absurd h
sides-kept ev (y ∷ ys) (x ∷ os) zero o at h = let e = same-some x o at in
    (h.0 ∙ ap (λ (z : Outside). z.c) e, h.1 ∙ ap (λ (z : Outside). z.end_c) e, h.2 ∙ ap (λ (z : Outside). z.end_t) e, h.3)
sides-kept ev (y ∷ ys) (x ∷ os) (suc k) o at h = (h.0, h.1, h.2, sides-kept ev ys os k o at h.3)

sides-used : (s : Surroundings) (ev : TurnEvent) (sides : List AssociationState) (n : ℕ) → AreSides sides s.outsides → AreSides sides (change s n (after_turn ev)).outsides
sides-used s ev sides zero h = h
sides-used s ev sides (suc k) h = by (slice_get s.outsides k) refl
  where
    by : (x : Option Outside) → slice_get s.outsides k ≡ x → AreSides sides (change_at s (suc k) (after_turn ev) x).outsides
    by None at = h
    by (Some o) at = sides-kept ev sides s.outsides k o at h

same-moment : (s : Surroundings) (n : ℕ) (f : Outside → Outside) → (change s n f).now ≡ s.now
same-moment s zero f = refl
same-moment s (suc k) f = by (slice_get s.outsides k)
  where
    by : (x : Option Outside) → (change_at s (suc k) f x).now ≡ s.now
    by None = refl
    by (Some o) = refl

-- the reader's state is still what was played
pub matches-used : (users : List User) (state : State) (s : Surroundings) (gens : Generations) (ev : TurnEvent) → Matches users state s gens
    → Matches users state (used_up s ev) gens
matches-used users state s gens ev h = record {
  users' = h.users';
  published' = h.published';
  seen' = h.seen';
  moment = h.moment ∙ sym (same-moment s ev.number (after_turn ev));
  sides = sides-used s ev state.sides ev.number h.sides;
  plain = h.plain;
}
