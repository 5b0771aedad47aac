-- What a link tells of itself, and how an answer changes it.
use Rattle.std.specs.Prelude.{◌≡◌, ◌≢◌, ◌<◌, ◌≤◌, ℕ, Bool, true, false, Option, Some, None, List, [], ◌++◌, take, length}
use mathlib.Core.List.{IsPrefix}
use Rattle.net_ends.specs.declared.link.Reading.{Reading}
use Rattle.net_ends.specs.declared.link.Writing.{Writing}
use Rattle.net_ends.specs.declared.link.Shutting.{Shutting}

-- what has arrived at a link, given or not, and whether the end stands behind it
pub record Arrival : Type 0 where
  pub bytes : List ℕ
  pub ends : Bool

-- What a link has given and taken, where it tells. It always says whether it has answered its end, and whether a shut of
-- it was done. A link of memory tells more: what has arrived at it, how many bytes it can take in all, the most that one write
-- takes of it, where that is bounded, and that none of its calls fails any more.
pub record Told : Type 0 where
  pub given : Option (List ℕ)
  pub taken : Option (List ℕ)
  pub ended : Bool
  pub shut : Bool
  pub arrived : Option Arrival
  pub cap : Option ℕ
  pub room : Option ℕ
  pub unfailing : Bool

-- what was told, with more behind it
abbrev pub more : Option (List ℕ) → List ℕ → Option (List ℕ)
more None bytes = None
more (Some told) bytes = Some (told ++ bytes)

-- what an answer to a read leaves, of which the buffer's first bytes are those that it gave
abbrev pub after_read : Told → Reading → List ℕ → Told
after_read told (Reading.Got n) buffer = record told { given = more told.given (take n buffer) }
after_read told Reading.End buffer = record told { ended = true }
after_read told Reading.NotYet buffer = told
after_read told Reading.Failed buffer = told

abbrev pub after_write : Told → Writing → List ℕ → Told
after_write told (Writing.Took n) bytes = record told { taken = more told.taken (take n bytes) }
after_write told Writing.NotYet bytes = told
after_write told Writing.Failed bytes = told

abbrev pub after_shut : Told → Shutting → Told
after_shut told Shutting.Done = record told { shut = true }
after_shut told Shutting.Failed = told

-- which answers a read may give into a buffer of this length; behind its end a link gives nothing more
abbrev pub MayRead : Told → ℕ → Reading → Type 0
MayRead told room (Reading.Got n) = (0 < n) × (n ≤ room) × (told.ended ≡ false)
MayRead told room Reading.End = Unit {0}
MayRead told room Reading.NotYet = told.ended ≡ false
MayRead told room Reading.Failed = told.unfailing ≡ false

-- a write of that many bytes takes some of them, within the room of a write, or none where there is no room
abbrev pub MayWrite : Told → ℕ → Writing → Type 0
MayWrite told len (Writing.Took n) = (0 < n) × (n ≤ len) × ((room : ℕ) → told.room ≡ Some room → n ≤ room)
MayWrite told len Writing.NotYet = told.room ≢ Some 0 → (cap : ℕ) (taken : List ℕ) → told.cap ≡ Some cap → told.taken ≡ Some taken → cap ≤ length taken
MayWrite told len Writing.Failed = told.unfailing ≡ false

abbrev pub MayShut : Told → Shutting → Type 0
MayShut told Shutting.Done = Unit {0}
MayShut told Shutting.Failed = told.unfailing ≡ false

-- where it tells what has arrived: it gives the next bytes of that, it ends only behind all of it where the end stands
-- there, and it answers NotYet only behind all of it where no end stands
abbrev pub IsGivenFrom : Arrival → List ℕ → Reading → Type 0
IsGivenFrom arrival given (Reading.Got n) = IsPrefix given arrival.bytes
IsGivenFrom arrival given Reading.End = (given ≡ arrival.bytes) × (arrival.ends ≡ true)
IsGivenFrom arrival given Reading.NotYet = (given ≡ arrival.bytes) × (arrival.ends ≡ false)
IsGivenFrom arrival given Reading.Failed = Unit {0}

abbrev pub GivesArrived : Told → Reading → Type 0
GivesArrived new answer = (arrival : Arrival) (given : List ℕ) → new.arrived ≡ Some arrival → new.given ≡ Some given → IsGivenFrom arrival given answer

-- it has given and taken nothing yet, where it tells, has not ended and wasn't shut
pub record IsFresh (told : Told) : Type 0 where
  pub given : (bytes : List ℕ) → told.given ≡ Some bytes → bytes ≡ []
  pub taken : (bytes : List ℕ) → told.taken ≡ Some bytes → bytes ≡ []
  pub unended : told.ended ≡ false
  pub unshut : told.shut ≡ false
