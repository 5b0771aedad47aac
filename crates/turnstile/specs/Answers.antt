-- When each answer comes.
use Rattle.std.specs.Prelude.{◌≡◌, ◌≢◌, ◌⊎◌, ℕ, List, ◌∷◌}
use Rattle.turnstile.specs.Views.{View, Holding, slots_of, without, with_slot, without_slot}
use Rattle.turnstile.specs.Rule.{empty, parked, parked_woken, held, held_woken}
use Rattle.turnstile.specs.Steps.{Stood, StoodIn}
use Rattle.turnstile.specs.declared.answer.Placed.{Placed}
use Rattle.turnstile.specs.declared.answer.Woke.{Woke}
use Rattle.turnstile.specs.declared.answer.Claimed.{Claimed}
use Rattle.turnstile.specs.declared.answer.Parked.{Parked}
use Rattle.turnstile.specs.declared.answer.Placed.TheVariants as place
use Rattle.turnstile.specs.declared.answer.Woke.TheVariants as wake
use Rattle.turnstile.specs.declared.answer.Claimed.TheVariants as claim
use Rattle.turnstile.specs.declared.answer.Parked.TheVariants as park

-- at some moment between two steps the rule held, the word of the slot was this, and a pass held these slots
abbrev pub Showed : (U : Type 0) → ℕ → ℕ → List ℕ → Type 0
Showed U slot word slots = (v : View) × (slots_of v ≡ slots) × Stood U slot word v

-- each answer of `wake` is that of a word
abbrev pub AnswersWake : ℕ → Woke → Type 0
AnswersWake word wake.Ready = word ≡ parked
AnswersWake word wake.Noted = (word ≡ held) ⊎ ((word ≡ parked_woken) ⊎ (word ≡ held_woken))
AnswersWake word wake.Empty = word ≡ empty

module _ {U : Type 0} where
  -- the word that `place` found, with its unit where the slot isn't empty
  abbrev pub AnswersPlace : ℕ → U → Placed U → Type 0
  AnswersPlace word unit place.Done = word ≡ empty
  AnswersPlace word unit (place.Taken shown back) = (shown ≡ word) × (word ≢ empty) × (back ≡ unit)

  -- the word that `claim` found: only a slot that is parked and woken is claimed
  abbrev pub AnswersClaim : ℕ → Claimed U → Type 0
  AnswersClaim word (claim.Got unit) = word ≡ parked_woken
  AnswersClaim word (claim.NotReady shown) = (shown ≡ word) × (word ≢ parked_woken)

  -- the unit that is got stood in the slot
  abbrev pub GotFrom : ℕ → Claimed U → Type 0
  GotFrom slot (claim.Got unit) = StoodIn slot unit
  GotFrom slot (claim.NotReady shown) = Unit {0}

  -- the word that `place` leaves
  abbrev pub LeavesPlaced : ℕ → List ℕ → Placed U → Type 0
  LeavesPlaced slot slots place.Done = Showed U slot parked_woken slots
  LeavesPlaced slot slots (place.Taken shown back) = Unit {0}

  -- the word that `claim` leaves
  abbrev pub LeavesClaimed : ℕ → List ℕ → Claimed U → Type 0
  LeavesClaimed slot slots (claim.Got unit) = Showed U slot held (slot ∷ slots)
  LeavesClaimed slot slots (claim.NotReady shown) = Unit {0}

  -- the word that `park` leaves
  abbrev pub LeavesParked : ℕ → List ℕ → Parked U → Type 0
  LeavesParked slot slots park.Done = Showed U slot parked (without slot slots)
  LeavesParked slot slots (park.Woken back) = Unit {0}

  -- the pass before and after `claim`
  abbrev pub HoldsClaimed : ℕ → Holding → Holding → Claimed U → Type 0
  HoldsClaimed slot before after (claim.Got unit) = after ≡ with_slot slot before
  HoldsClaimed slot before after (claim.NotReady shown) = after ≡ before

  -- the word that `park` found: the unit comes back exactly where the wake bit was set
  abbrev pub AnswersPark : ℕ → U → Parked U → Type 0
  AnswersPark word unit park.Done = word ≡ held
  AnswersPark word unit (park.Woken back) = (word ≡ held_woken) × (back ≡ unit)

  -- the pass before and after `park`
  abbrev pub HoldsParked : ℕ → Holding → Holding → Parked U → Type 0
  HoldsParked slot before after park.Done = after ≡ without_slot slot before
  HoldsParked slot before after (park.Woken back) = after ≡ with_slot slot (without_slot slot before)
