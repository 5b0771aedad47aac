-- What a wire may answer. It tells of itself what a link tells, and an answer changes that as one of a link does.
use Rattle.std.specs.Prelude.{◌≡◌, ◌<◌, ◌≤◌, ℕ, true, false}
use Rattle.net_ends.specs.declared.link.Reading.{Reading}
use Rattle.net_ends.specs.declared.link.Writing.{Writing}
use Rattle.net_ends.specs.declared.stream.Taking.{Taking}
use Rattle.net_ends.specs.declared.stream.Giving.{Giving}
use Rattle.net_ends.specs.Told.{Told, MayWrite, GivesArrived}

-- the answer of a read that waits, among those of one that doesn't
abbrev pub as_reading : Taking → Reading
as_reading (Taking.Got n) = Reading.Got n
as_reading Taking.End = Reading.End
as_reading Taking.Failed = Reading.Failed

abbrev pub as_writing : Giving → Writing
as_writing (Giving.Took n) = Writing.Took n
as_writing Giving.Failed = Writing.Failed

-- Which answers a read that waits may give into a buffer of this length; behind its end a wire gives nothing more. Where none
-- of its calls is to fail, only a read fails that would wait for good: all that arrived was given, and no end stands there.
abbrev pub WireMayRead : Told → ℕ → Taking → Type 0
WireMayRead told room (Taking.Got n) = (0 < n) × (n ≤ room) × (told.ended ≡ false)
WireMayRead told room Taking.End = Unit {0}
WireMayRead told room Taking.Failed = told.unfailing ≡ true → GivesArrived told Reading.NotYet

-- a write of that many bytes takes some of them; where none of the calls is to fail, it fails only where there is no room
abbrev pub WireMayWrite : Told → ℕ → Giving → Type 0
WireMayWrite told len (Giving.Took n) = MayWrite told len (Writing.Took n)
WireMayWrite told len Giving.Failed = told.unfailing ≡ true → MayWrite told len Writing.NotYet
