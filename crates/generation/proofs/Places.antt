-- Snapshots by their place in a list.
use Rattle.std.proofs.Common.{ℕ, zero, suc, ◌≡◌, ◌<◌, ◌≤◌, ◌-◌, Some, List, [], ◌∷◌, ◌++◌, length, get_or, ◌⊎◌, inl, inr, refl, sym, ◌∙◌, ap, subst, arith, Bool, true, false, cond, length-append}
use Rattle.std.specs.Prelude.{option_map, slice_get}
use Rattle.std.specs.Arc.{arc_value}
use Rattle.std.proofs.lemmas.Option.{none-some, same_Some, slice_get-map, slice_get_read}
use Rattle.generation.specs.declared.snap.Snap.{Snap}
use Rattle.generation.specs.Published.{AreNumbered, IsSnap, configs_of}

-- what stands in a list with one more item stood in it before, or is that item at its end
before_or_last : {X : Type 0} (xs : List X) (y : X) (k : ℕ) (z : X) → slice_get (xs ++ y ∷ []) k ≡ Some z
    → (slice_get xs k ≡ Some z) ⊎ ((k ≡ length xs) × (y ≡ z))
before_or_last [] y zero z h = inr (refl, same_Some y z h)
before_or_last [] y (suc k) z h = absurd (none-some z h)
before_or_last (x ∷ xs) y zero z h = inl h
before_or_last (x ∷ xs) y (suc k) z h =
    elim (before_or_last xs y k z h) [ inl same ↦ inl same | inr last ↦ inr (ap suc last.0, last.1) ]

pub numbered_with : (snaps : List Snap) (snap : Snap) → AreNumbered snaps → snap.number ≡ suc (length snaps) → AreNumbered (snaps ++ snap ∷ [])
numbered_with snaps snap numbered next k s h =
    elim (before_or_last snaps snap k s h) [
      | inl same ↦ numbered k s same
      | inr last ↦ ap (λ (t : Snap). t.number) (sym last.1) ∙ (next ∙ ap suc (sym last.0))
    ]

-- the snapshot at the place of a number is one of that number
pub snap_at : (snaps : List Snap) (number : ℕ) (s : Snap) → AreNumbered snaps → 0 < number → number ≤ length snaps
    → s ≡ get_or snaps (number - 1) s → IsSnap (Some (configs_of snaps)) number s
snap_at snaps zero s numbered some within h = absurd (omega arith)
snap_at snaps (suc k) s numbered some within h =
    let place : suc k - 1 ≡ k = omega arith in
    let below : k < length snaps = omega arith in
    let here : s ≡ get_or snaps k s = subst (λ (i : ℕ). s ≡ get_or snaps i s) place h in
    let found : slice_get snaps k ≡ Some s = slice_get_read snaps (length snaps) k s refl below here in
    record {
      number' = numbered k s found;
      config' = slice_get-map (λ (t : Snap). arc_value t.config) snaps k ∙ ap (option_map (λ (t : Snap). arc_value t.config)) found;
    }

-- a list that one more snapshot was to be put behind, and either was or not
pub numbered_if : (b : Bool) (snaps now : List Snap) (snap : Snap) (seen : ℕ) → AreNumbered snaps → seen ≤ length snaps → snap.number ≡ suc (length snaps)
    → now ≡ cond b (snaps ++ snap ∷ []) snaps → AreNumbered now × (seen ≤ length now)
numbered_if true snaps now snap seen numbered within next h =
    let longer : seen ≤ length (snaps ++ snap ∷ []) = grind (arith, length-append) in
    subst (λ (t : List Snap). AreNumbered t × (seen ≤ length t)) (sym h) (numbered_with snaps snap numbered next, longer)
numbered_if false snaps now snap seen numbered within next h =
    subst (λ (t : List Snap). AreNumbered t × (seen ≤ length t)) (sym h) (numbered, within)
