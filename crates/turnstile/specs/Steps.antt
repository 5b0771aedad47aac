-- What each step on a word tells the pass that makes it: of the word that it found, and of the pass before and after.
use Rattle.std.specs.Prelude.{◌≡◌, ◌≢◌, ◌⊎◌, ℕ, ◌∷◌, slice_index, Option, Some, None, bit_or}
use mathlib.Core.Option.{some}
use lib.ListN.{get_elem?}
use Rattle.atomic_table.specs.Table.{State, Me, Step, rest}
use Rattle.turnstile.specs.declared.mark.Mark.TheVariants.{AtHome, Out, Placed}
use Rattle.turnstile.specs.Views.{View, mark_of, unmarked}
use Rattle.turnstile.specs.Rule.{Rule, empty, parked, parked_woken, held, held_woken}

abbrev pub IsWord : ℕ → Type 0
IsWord n = (n ≡ empty) ⊎ ((n ≡ parked) ⊎ (n ≡ parked_woken)) ⊎ ((n ≡ held) ⊎ (n ≡ held_woken))

-- at some moment, just before or after a step, the rule held, the word of the slot was this, and a seat had this view
abbrev pub Stood : (U : Type 0) → ℕ → ℕ → View → Type 0
Stood U k n v = (s : State (Option U) View) × (seat : ℕ) × Rule s × (slice_index s.words k ≡ n) × (get_elem? s.views seat ≡ some v)

-- at some moment the rule held, the slot was parked and woken, and this unit stood in it
abbrev pub StoodIn : {U : Type 0} → ℕ → U → Type 0
StoodIn {U} k unit = (s : State (Option U) View) × Rule s × (slice_index s.words k ≡ parked_woken) × (get_elem? s.homes k ≡ some (some (Some unit)))

-- a seat: its view, and the slots that are out with it
abbrev Seated : Type 0 → Type 0
Seated U = Me (Option U) View

module _ {U : Type 0} where
  -- place, first: the slot is taken where it was empty
  abbrev pub placed : Step (Option U) → Seated U → ℕ → Seated U → Type 0
  placed st m n m' =
      Stood U st.word n m.0
      × (n ≡ empty → (mark_of st.word m.0 ≡ None) × (m'.0 ≡ (st.word, Placed) ∷ m.0) × (m'.1 ≡ (st.word, None) ∷ m.1))
      × (n ≢ empty → m' ≡ m)

  -- place, last: the slot is given back, parked and woken
  abbrev pub readied : Step (Option U) → Seated U → ℕ → Seated U → Type 0
  readied st m n m' = (m'.0 ≡ unmarked st.word m.0) × (m'.1 ≡ rest m.1) × Stood U st.word parked_woken (unmarked st.word m.0)

  -- wake: the word that was found, and then that word with the wake bit
  abbrev pub woke : Step (Option U) → Seated U → ℕ → Seated U → Type 0
  woke st m n m' = (m' ≡ m) × IsWord n × Stood U st.word n m.0 × Stood U st.word (bit_or n 4) m.0

  -- claim: the slot is taken where it was parked and woken
  abbrev pub claimed : Step (Option U) → Seated U → ℕ → Seated U → Type 0
  claimed st m n m' =
      Stood U st.word n m.0
      × (n ≡ parked_woken → (mark_of st.word m.0 ≡ None) × (m'.0 ≡ (st.word, Out) ∷ m.0) × ((unit : U) × (m'.1 ≡ (st.word, Some unit) ∷ m.1) × StoodIn st.word unit) × Stood U st.word held ((st.word, Out) ∷ m.0))
      × (n ≢ parked_woken → m' ≡ m)

  -- the slot goes home, and is still held
  abbrev pub settled : Step (Option U) → Seated U → ℕ → Seated U → Type 0
  settled st m n m' = (m'.0 ≡ (st.word, AtHome) ∷ unmarked st.word m.0) × (m'.1 ≡ rest m.1)

  -- the slot goes out
  abbrev pub lifted : Step (Option U) → Seated U → ℕ → Seated U → Type 0
  lifted st m n m' = (m'.0 ≡ (st.word, Out) ∷ unmarked st.word m.0) × (m'.1 ≡ (st.word, None) ∷ m.1)

  -- park: the slot is given back where nobody woke it
  abbrev pub gave_back : Step (Option U) → Seated U → ℕ → Seated U → Type 0
  gave_back st m n m' = Stood U st.word n m.0 × (n ≡ held → (m'.0 ≡ unmarked st.word m.0) × (m'.1 ≡ rest m.1) × Stood U st.word parked (unmarked st.word m.0)) × (n ≢ held → (n ≡ held_woken) × (m' ≡ m))

  -- clear
  abbrev pub cleared : Step (Option U) → Seated U → ℕ → Seated U → Type 0
  cleared st m n m' = (m' ≡ m) × Stood U st.word held m.0

  -- free
  abbrev pub freed : Step (Option U) → Seated U → ℕ → Seated U → Type 0
  freed st m n m' = (m'.0 ≡ unmarked st.word m.0) × (m'.1 ≡ m.1)
