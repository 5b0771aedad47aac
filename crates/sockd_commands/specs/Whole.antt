-- What was read from a source and written to a sink, over many calls.
use Rattle.std.specs.Prelude.{◌≡◌, ◌<◌, ◌≤◌, ℕ, Bool, true, false, Option, Some, None, List, ◌++◌, length}
use mathlib.Core.List.{IsPrefix}
use Rattle.net_ends.specs.Counts.{Rose}
use Rattle.net_ends.specs.Streams.{SourceTold}
use Rattle.net_ends.specs.Told.{more}
use Rattle.sockd_commands.specs.declared.whole.Input.{Input}

-- the source gave these bytes meanwhile, where it tells
abbrev pub Gave : Option SourceTold → Option SourceTold → List ℕ → Type 0
Gave None new bytes = new ≡ None
Gave (Some old) None bytes = ⊥
Gave (Some old) (Some new) bytes = (new.given ≡ old.given ++ bytes) × (new.whole ≡ old.whole)

-- it has given all that it has to give, where it tells
abbrev pub HasEnded : Option SourceTold → Type 0
HasEnded None = Unit {0}
HasEnded (Some told) = told.given ≡ told.whole

-- what it has given is the front of all that it has to give, where it tells
abbrev pub IsFront : Option SourceTold → Type 0
IsFront None = Unit {0}
IsFront (Some told) = IsPrefix told.given told.whole

-- what the source gave, by what was made of it
abbrev pub OnInput : ℕ → Option SourceTold → Option SourceTold → ℕ → ℕ → Input → Type 0
OnInput limit old new before now (Input.Whole bytes) = Gave old new bytes × HasEnded new × (length bytes ≤ limit)
OnInput limit old new before now (Input.TooLong bytes) = Gave old new bytes × IsFront new × (limit < length bytes)
OnInput limit old new before now Input.Failed = Rose before now
OnInput limit old new before now Input.Memory = Unit {0}

-- the sink took all of the text, or a part from its front, and its count of faults rose
abbrev pub Wrote : Option (List ℕ) → Option (List ℕ) → ℕ → ℕ → List ℕ → Bool → Type 0
Wrote old new before now text true = new ≡ more old text
Wrote old new before now text false = (part : List ℕ) × (new ≡ more old part) × IsPrefix part text × Rose before now
