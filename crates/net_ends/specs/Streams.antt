-- What a source and a sink tell of themselves, and how an answer changes it.
use Rattle.std.specs.Prelude.{◌≡◌, ◌<◌, ◌≤◌, ℕ, Option, Some, None, List, ◌++◌, take}
use mathlib.Core.List.{IsPrefix}
use Rattle.net_ends.specs.declared.stream.Taking.{Taking}
use Rattle.net_ends.specs.declared.stream.Giving.{Giving}
use Rattle.net_ends.specs.Counts.{Rose}
use Rattle.net_ends.specs.Told.{more}

-- what a source has given, and all that it has to give, what it has given included
pub record SourceTold : Type 0 where
  pub given : List ℕ
  pub whole : List ℕ

-- What an answer to a read does to what a source tells: it gives the buffer's first bytes, which are the next of all that it
-- has, and it ends only behind all of that.
abbrev pub Gives : SourceTold → SourceTold → Taking → List ℕ → Type 0
Gives old new (Taking.Got n) buffer = (new.given ≡ old.given ++ take n buffer) × (new.whole ≡ old.whole) × IsPrefix new.given new.whole
Gives old new Taking.End buffer = (new ≡ old) × (old.given ≡ old.whole)
Gives old new Taking.Failed buffer = new ≡ old

-- a source that tells goes on telling
abbrev pub GivesTold : Option SourceTold → Option SourceTold → Taking → List ℕ → Type 0
GivesTold None new answer buffer = new ≡ None
GivesTold (Some old) None answer buffer = ⊥
GivesTold (Some old) (Some new) answer buffer = Gives old new answer buffer

-- which answers a read may give into a buffer of this length
abbrev pub MayGive : ℕ → Taking → Type 0
MayGive room (Taking.Got n) = (0 < n) × (n ≤ room)
MayGive room Taking.End = Unit {0}
MayGive room Taking.Failed = Unit {0}

abbrev pub TakingCause : ℕ → ℕ → Taking → Type 0
TakingCause before now (Taking.Got n) = Unit {0}
TakingCause before now Taking.End = Unit {0}
TakingCause before now Taking.Failed = Rose before now

-- what a sink has taken behind an answer
abbrev pub after_giving : Option (List ℕ) → Giving → List ℕ → Option (List ℕ)
after_giving told (Giving.Took n) bytes = more told (take n bytes)
after_giving told Giving.Failed bytes = told

-- a write of that many bytes takes some of them
abbrev pub MayTake : ℕ → Giving → Type 0
MayTake len (Giving.Took n) = (0 < n) × (n ≤ len)
MayTake len Giving.Failed = Unit {0}

abbrev pub GivingCause : ℕ → ℕ → Giving → Type 0
GivingCause before now (Giving.Took n) = Unit {0}
GivingCause before now Giving.Failed = Rose before now
