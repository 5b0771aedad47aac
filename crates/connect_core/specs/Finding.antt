-- One lookup of a name, and what it is answered with.
use Rattle.std.specs.Prelude.{◌≡◌, ℕ, List, Some, Result, Ok, Err}
use Rattle.addr_pattern.specs.declared.addr.Addr.{Addr}
use Rattle.net_ends.specs.declared.net.Lookup.{Lookup}
use Rattle.net_ends.specs.Nets.{LookupCause, NetTold, looked_up}
use Rattle.socks_machine.specs.declared.cause.Cause.{Cause}

-- the answer to a lookup that came out so: the address, or the cause
abbrev pub answer_of : Lookup → Result Addr Cause
answer_of (Lookup.Found addr) = Ok addr
answer_of Lookup.NotFound = Err Cause.NotFound
answer_of Lookup.Failed = Err Cause.NetFault

-- One lookup of that name, which came out as it is answered, and else all but the counts is told as before. Where the net tells its
-- plan it came out so. It failed only where the count of that failure rose.
pub record Finds (old new : NetTold) (name : List ℕ) (found : Result Addr Cause) : Type 0 where
  pub outcome : Lookup
  pub lookups : new ≡ record old { lookups = looked_up old.lookups (record { name = name; outcome = outcome }); counts = new.counts }
  pub answer : found ≡ answer_of outcome
  pub planned : (plan : Lookup) → old.lookup_plan ≡ Some plan → outcome ≡ plan
  pub cause : LookupCause old.counts new.counts outcome
