-- What a store tells of its files, and what it gives of them.
use Rattle.std.specs.Prelude.{◌≡◌, ◌+◌, ℕ, Option, Some, List, take, option_map}
use Rattle.net_ends.specs.declared.store.Stored.{Stored}
use Rattle.net_ends.specs.Counts.{Rose}

-- what the file of a name holds, or none where there is no such file
abbrev pub Files : Type 0
Files = List ℕ → Option (List ℕ)

-- Where a store tells, what it read is the front of the file of that name, one byte longer than the limit at most. So it
-- reads no file that isn't there.
abbrev pub MayReadFile : Option Files → List ℕ → ℕ → Stored → Type 0
MayReadFile told name limit (Stored.Read text) = (files : Files) → told ≡ Some files → option_map (take (limit + 1)) (files name) ≡ Some text
MayReadFile told name limit Stored.Failed = Unit {0}
MayReadFile told name limit Stored.Memory = Unit {0}

abbrev pub StoredCause : ℕ → ℕ → Stored → Type 0
StoredCause before now (Stored.Read text) = Unit {0}
StoredCause before now Stored.Failed = Rose before now
StoredCause before now Stored.Memory = Unit {0}

-- a fact for the answer Failed
abbrev pub IfStoreFailed : Stored → Type 0 → Type 0
IfStoreFailed (Stored.Read text) p = Unit {0}
IfStoreFailed Stored.Failed p = p
IfStoreFailed Stored.Memory p = Unit {0}
