-- Which kinds of calls on a link are due to fail, and what calls on it come to then.
use Rattle.std.specs.Prelude.{◌≡◌, ◌≢◌, Bool, true, false, Option, Some, None, IfSome}
use Rattle.net_ends.specs.declared.kinds.Kind.{Kind}
use Rattle.net_ends.specs.declared.kinds.Kinds.{Kinds}
use Rattle.net_ends.specs.declared.link.Reading.{Reading}
use Rattle.net_ends.specs.declared.link.Writing.{Writing}
use Rattle.net_ends.specs.declared.link.Shutting.{Shutting}
use Rattle.net_ends.specs.Counts.{Counts, Rose}

abbrev pub no_kind : Kinds
no_kind = record { reads = false; writes = false; shuts = false }

abbrev pub is_among : Kinds → Kind → Bool
is_among kinds Kind.Read = kinds.reads
is_among kinds Kind.Write = kinds.writes
is_among kinds Kind.Shut = kinds.shuts

abbrev pub with_kind : Kinds → Kind → Kinds
with_kind kinds Kind.Read = record kinds { reads = true }
with_kind kinds Kind.Write = record kinds { writes = true }
with_kind kinds Kind.Shut = record kinds { shuts = true }

abbrev pub without_kind : Kinds → Kind → Kinds
without_kind kinds Kind.Read = record kinds { reads = false }
without_kind kinds Kind.Write = record kinds { writes = false }
without_kind kinds Kind.Shut = record kinds { shuts = false }

-- what is due behind calls of which the last failed, or none
abbrev pub without : Kinds → Option Kind → Kinds
without kinds None = kinds
without kinds (Some kind) = without_kind kinds kind

-- Calls on a link, of which only the last may have failed. Where the link tells which kinds are due to fail, a failed call was
-- of such a kind, which isn't due any more, and no call of such a kind was done: so Reads is to say that no read was done, and
-- Writes and Shuts the same of the other kinds. The count of faults rose where a call failed, and stays where none did.
pub record Tried (old new : Counts) (Reads Writes Shuts : Type 0) (failed : Option Kind) : Type 0 where
  pub reads : (due : Kinds) → old.due ≡ Some due → due.reads ≡ true → Reads
  pub writes : (due : Kinds) → old.due ≡ Some due → due.writes ≡ true → Writes
  pub shuts : (due : Kinds) → old.due ≡ Some due → due.shuts ≡ true → Shuts
  pub was_due : (due : Kinds) → old.due ≡ Some due → IfSome failed (λ kind. is_among due kind ≡ true)
  pub left : (due : Kinds) → old.due ≡ Some due → new.due ≡ Some (without due failed)
  pub faults : failed ≡ None → new.faults ≡ old.faults
  pub rose : failed ≢ None → Rose old.faults new.faults

-- one read: where a read is due to fail, it does
abbrev pub ReadTried : Counts → Counts → Reading → Type 0
ReadTried old new (Reading.Got n) = Tried old new ⊥ (Unit {0}) (Unit {0}) None
ReadTried old new Reading.End = Tried old new ⊥ (Unit {0}) (Unit {0}) None
ReadTried old new Reading.NotYet = Tried old new ⊥ (Unit {0}) (Unit {0}) None
ReadTried old new Reading.Failed = Tried old new (Unit {0}) (Unit {0}) (Unit {0}) (Some Kind.Read)

-- one write
abbrev pub WriteTried : Counts → Counts → Writing → Type 0
WriteTried old new (Writing.Took n) = Tried old new (Unit {0}) ⊥ (Unit {0}) None
WriteTried old new Writing.NotYet = Tried old new (Unit {0}) ⊥ (Unit {0}) None
WriteTried old new Writing.Failed = Tried old new (Unit {0}) (Unit {0}) (Unit {0}) (Some Kind.Write)

-- one shut
abbrev pub ShutTried : Counts → Counts → Shutting → Type 0
ShutTried old new Shutting.Done = Tried old new (Unit {0}) (Unit {0}) ⊥ None
ShutTried old new Shutting.Failed = Tried old new (Unit {0}) (Unit {0}) (Unit {0}) (Some Kind.Shut)
