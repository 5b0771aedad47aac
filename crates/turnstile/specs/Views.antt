-- What a pass knows: the slots that it holds, each with a mark.
use Rattle.std.specs.Prelude.{ℕ, ◌==◌, List, [], ◌∷◌, Option, Some, None, if◌then◌else◌, map}
use Rattle.atomic_table.specs.Seated.{TableId}
use Rattle.turnstile.specs.declared.mark.Mark.{Mark}
use Rattle.turnstile.specs.declared.mark.Mark.TheVariants.{AtHome, Out, Placed}

-- the slots that a pass holds, the one that it took last first
abbrev pub View : Type 0
View = List (ℕ × Mark)

-- the mark of a slot in a view, if the view has it
abbrev pub mark_of : ℕ → View → Option Mark
mark_of k [] = None
mark_of k (x ∷ xs) = if x.0 == k then Some x.1 else mark_of k xs

-- a view without a slot
abbrev pub unmarked : ℕ → View → View
unmarked k [] = []
unmarked k (x ∷ xs) = if x.0 == k then unmarked k xs else x ∷ unmarked k xs

abbrev pub IsAtHome : Mark → Type 0
IsAtHome AtHome = Unit {0}
IsAtHome Out = ⊥
IsAtHome Placed = ⊥

abbrev pub IsPlaced : Mark → Type 0
IsPlaced AtHome = ⊥
IsPlaced Out = ⊥
IsPlaced Placed = Unit {0}

-- each slot of the view is at home, as it is between two calls
abbrev pub AllAtHome : View → Type 0
AllAtHome [] = Unit {0}
AllAtHome (x ∷ xs) = IsAtHome x.1 × AllAtHome xs

-- the slots of a view
abbrev pub slots_of : View → List ℕ
slots_of v = map (λ x. x.0) v

-- what callers see of a pass: its turnstile, and the slots that it holds
pub record Holding : Type 0 where
  pub turnstile : TableId
  pub held : List ℕ

-- a pass that holds no slot
abbrev pub holds_none : TableId → Holding
holds_none t = record { turnstile = t; held = [] }

-- a list of slots without one
abbrev pub without : ℕ → List ℕ → List ℕ
without k [] = []
without k (x ∷ xs) = if x == k then without k xs else x ∷ without k xs

-- the pass holds this slot too
abbrev pub with_slot : ℕ → Holding → Holding
with_slot k p = record p { held = k ∷ p.held }

-- the pass holds this slot no longer
abbrev pub without_slot : ℕ → Holding → Holding
without_slot k p = record p { held = without k p.held }
