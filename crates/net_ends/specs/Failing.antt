-- Which calls of an object in memory are to fail, by their numbers.
use Rattle.std.specs.Prelude.{ℕ, ◌+◌, ◌-◌, ◌^◌, ◌==◌, Bool, true, false, List, [], ◌∷◌, ◌++◌, min}
use Rattle.std.specs.List.{list_any}
use Rattle.net_ends.specs.declared.link.Reading.{Reading}
use Rattle.net_ends.specs.declared.link.Writing.{Writing}
use Rattle.net_ends.specs.declared.link.Shutting.{Shutting}
use Rattle.net_ends.specs.declared.store.Stored.{Stored}
use Rattle.net_ends.specs.declared.stream.Taking.{Taking}
use Rattle.net_ends.specs.declared.stream.Giving.{Giving}

-- the numbers of the calls that are to fail, counted from 1, and how many calls there were
pub record Failing : Type 0 where
  pub numbers : List ℕ
  pub calls : ℕ

-- no call was made, and none is to fail
abbrev pub none_failing : Failing
none_failing = record { numbers = []; calls = 0 }

-- the call of this number is to fail too
abbrev pub with_failure : Failing → ℕ → Failing
with_failure failing number = record failing { numbers = failing.numbers ++ number ∷ [] }

-- one call more was made; the count stays at its type's end
abbrev pub after_call : Failing → Failing
after_call failing = record failing { calls = min (failing.calls + 1) (2 ^ 64 - 1) }

-- whether the call that was made last is to fail
abbrev pub is_to_fail : Failing → Bool
is_to_fail failing = list_any (λ number. number == failing.calls) failing.numbers

-- whether an answer is that of a failure
abbrev pub is_failed_reading : Reading → Bool
is_failed_reading (Reading.Got n) = false
is_failed_reading Reading.End = false
is_failed_reading Reading.NotYet = false
is_failed_reading Reading.Failed = true

abbrev pub is_failed_writing : Writing → Bool
is_failed_writing (Writing.Took n) = false
is_failed_writing Writing.NotYet = false
is_failed_writing Writing.Failed = true

abbrev pub is_failed_shutting : Shutting → Bool
is_failed_shutting Shutting.Done = false
is_failed_shutting Shutting.Failed = true

abbrev pub is_failed_taking : Taking → Bool
is_failed_taking (Taking.Got n) = false
is_failed_taking Taking.End = false
is_failed_taking Taking.Failed = true

abbrev pub is_failed_giving : Giving → Bool
is_failed_giving (Giving.Took n) = false
is_failed_giving Giving.Failed = true

abbrev pub is_failed_stored : Stored → Bool
is_failed_stored (Stored.Read text) = false
is_failed_stored Stored.Failed = true
is_failed_stored Stored.Memory = false
