-- Counts of faults and of NotYet, which never fall, and which kinds of calls are due to fail.
use Rattle.std.specs.Prelude.{◌≤◌, ◌+◌, ◌-◌, ◌^◌, ℕ, min, Option}
use Rattle.net_ends.specs.declared.kinds.Kinds.{Kinds}
use Rattle.net_ends.specs.declared.link.Reading.{Reading}
use Rattle.net_ends.specs.declared.link.Writing.{Writing}
use Rattle.net_ends.specs.declared.link.Shutting.{Shutting}

-- a count rose, or stands at its type's end
abbrev pub Rose : ℕ → ℕ → Type 0
Rose before now = min (before + 1) (2 ^ 64 - 1) ≤ now

-- A link of memory tells which kinds of calls are due: the next call of each such kind fails, and no other call does.
pub record Counts : Type 0 where
  pub faults : ℕ
  pub idle_reads : ℕ
  pub idle_writes : ℕ
  pub due : Option Kinds

-- no count fell
pub record Later (old new : Counts) : Type 0 where
  pub faults : old.faults ≤ new.faults
  pub idle_reads : old.idle_reads ≤ new.idle_reads
  pub idle_writes : old.idle_writes ≤ new.idle_writes

-- the count that an answer names rose
abbrev pub ReadCause : Counts → Counts → Reading → Type 0
ReadCause old new (Reading.Got n) = Unit {0}
ReadCause old new Reading.End = Unit {0}
ReadCause old new Reading.NotYet = Rose old.idle_reads new.idle_reads
ReadCause old new Reading.Failed = Rose old.faults new.faults

abbrev pub WriteCause : Counts → Counts → Writing → Type 0
WriteCause old new (Writing.Took n) = Unit {0}
WriteCause old new Writing.NotYet = Rose old.idle_writes new.idle_writes
WriteCause old new Writing.Failed = Rose old.faults new.faults

abbrev pub ShutCause : Counts → Counts → Shutting → Type 0
ShutCause old new Shutting.Done = Unit {0}
ShutCause old new Shutting.Failed = Rose old.faults new.faults
