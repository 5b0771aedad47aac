-- What a call did to the bytes that a reader has left and a writer holds, where those are known.
use Rattle.std.specs.Prelude.{ℕ, Option, None, false, List, [], take}
use Rattle.std.specs.Io.KnownBytes.{Appends, Consumes, IsAtEnd, Keeps}
use Rattle.net_ends.specs.declared.stream.Giving.{Giving}
use Rattle.net_ends.specs.declared.stream.Taking.{Taking}
use Rattle.net_ends.specs.Told.{Told}

-- the reader gave what was answered: these bytes, or its end, or nothing
abbrev pub HasRead : Option (List ℕ) → Option (List ℕ) → Taking → List ℕ → Type 0
HasRead old new (Taking.Got n) buffer = Consumes old new (take n buffer)
HasRead old new Taking.End buffer = Consumes old new [] × IsAtEnd new
HasRead old new Taking.Failed buffer = Keeps old new

-- the writer took what was answered: so many bytes, or none
abbrev pub HasWritten : Option (List ℕ) → Option (List ℕ) → Giving → List ℕ → Type 0
HasWritten old new (Giving.Took n) bytes = Appends old new (take n bytes)
HasWritten old new Giving.Failed bytes = Appends old new []

-- what a wire tells that tells nothing
abbrev pub untold : Told
untold = record { given = None; taken = None; ended = false; shut = false; arrived = None; cap = None; room = None; unfailing = false }
