-- One association's part is changed.
use Rattle.std.proofs.Common.{◌≡◌, ◌+◌, ◌-◌, ℕ, Bool, List, Option, Some, slice_get, slice_set, sym, ap, ◌∙◌, arith, add-one}
use Rattle.std.proofs.lemmas.List.{set-set}
use Rattle.replay_script.specs.declared.state.AssociationState.{AssociationState}
use Rattle.replay_script.specs.declared.state.State.{State}
use Rattle.replay_script.specs.Conditions.{side_of, with_side, on_side}

pub side_is : (s : State) (n at : ℕ) (side : AssociationState) → n ≡ at + 1 → slice_get s.sides at ≡ Some side → side_of s n ≡ Some side
side_is s n at side is got = ap (λ (z : ℕ). side_of s z) (is ∙ add-one at) ∙ got

pub tested : (s : State) (n at : ℕ) (side : AssociationState) (test : AssociationState → Bool) → n ≡ at + 1 → slice_get s.sides at ≡ Some side → on_side (side_of s n) test ≡ test side
tested s n at side test is got = ap (λ (z : Option AssociationState). on_side z test) (side_is s n at side is got)

pub changed : (s : State) (n at : ℕ) (change : AssociationState → AssociationState) (side gap : AssociationState) (mid new : List AssociationState) → n ≡ at + 1 → slice_get s.sides at ≡ Some side →
    mid ≡ slice_set s.sides at gap → new ≡ slice_set mid at (change side) → record s { sides = new } ≡ with_side s n change (side_of s n)
changed s n at change side gap mid new is got mid_is new_is =
    let e : new ≡ slice_set s.sides at (change side) = new_is ∙ (ap (λ (z : List AssociationState). slice_set z at (change side)) mid_is ∙ set-set s.sides at gap (change side)) in
    let p : n - 1 ≡ at = omega arith in
    ap (λ (z : List AssociationState). let t : State = record s { sides = z } in t) (e ∙ ap (λ (z : ℕ). slice_set s.sides z (change side)) (sym p))
    ∙ ap (λ (z : Option AssociationState). with_side s n change z) (sym (side_is s n at side is got))
