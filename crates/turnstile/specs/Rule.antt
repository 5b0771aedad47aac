-- The rule of a turnstile. It holds between any two steps of any passes.
use Rattle.std.specs.Prelude.{◌≡◌, ◌⊎◌, ℕ, ◌<◌, ◌==◌, length, slice_index, Option, Some, None, if◌then◌else◌}
use mathlib.Core.Option.{some}
use mathlib.Core.Option as maybe
use lib.ListN.{get_elem?}
use Rattle.atomic_table.specs.Table.{State}
use Rattle.turnstile.specs.declared.mark.Mark.{Mark}
use Rattle.turnstile.specs.Views.{View, mark_of, IsAtHome, IsPlaced}

-- ---- the words of a slot

abbrev pub empty : ℕ
empty = 4

abbrev pub parked : ℕ
parked = 1

abbrev pub parked_woken : ℕ
parked_woken = 5

abbrev pub held : ℕ
held = 3

abbrev pub held_woken : ℕ
held_woken = 7

-- ---- the rule

-- the seat that holds a slot, and its mark for it
abbrev pub Owner : Type 0
Owner = ℕ × Mark

-- what the view of this seat says of a slot that has this owner
abbrev pub mark_for : ℕ → Option Owner → Option Mark
mark_for seat None = None
mark_for seat (Some o) = if o.0 == seat then Some o.1 else None

-- The home of a slot is `some none` while it is out with a seat, and else `some (some x)` with what stands there.
abbrev pub Home : Type 0 → Type 0
Home U = maybe.Option (maybe.Option (Option U))

module _ {U : Type 0} where
  -- nobody's, and no unit in it
  abbrev pub IsEmpty : ℕ → Home U → Option Owner → Type 0
  IsEmpty word home owner = (word ≡ empty) × (home ≡ some (some None)) × (owner ≡ None)

  -- nobody's, and a unit in it
  abbrev pub IsParked : ℕ → Home U → Option Owner → Type 0
  IsParked word home owner = ((word ≡ parked) ⊎ (word ≡ parked_woken)) × ((unit : U) × (home ≡ some (some (Some unit)))) × (owner ≡ None)

  -- a seat's: woken where it was only placed, and no unit in it where it is at home
  abbrev pub IsHeld : ℕ → Home U → Option Owner → Type 0
  IsHeld word home owner =
      ((word ≡ held) ⊎ (word ≡ held_woken))
      × ((seat : ℕ) × (mark : Mark) × (owner ≡ Some (seat, mark)) × (IsPlaced mark → word ≡ held_woken) × (IsAtHome mark → home ≡ some (some None)))

  abbrev pub IsLawful : ℕ → Home U → Option Owner → Type 0
  IsLawful word home owner = IsEmpty word home owner ⊎ (IsParked word home owner ⊎ IsHeld word home owner)

  -- Each slot has at most one owner, and the view of each seat has just the slots that it owns.
  pub record Rule (s : State (Option U) View) : Type 0 where
    pub owner : ℕ → Option Owner
    pub wide : length s.homes ≡ length s.words
    pub slots : (k : ℕ) → k < length s.words → IsLawful (slice_index s.words k) (get_elem? s.homes k) (owner k)
    pub views : (seat : ℕ) (v : View) → get_elem? s.views seat ≡ some v → (k : ℕ) → mark_of k v ≡ mark_for seat (owner k)
    pub seated : (k seat : ℕ) (mark : Mark) → owner k ≡ Some (seat, mark) → (k < length s.words) × (seat < length s.views)
