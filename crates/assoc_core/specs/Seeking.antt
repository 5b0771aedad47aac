-- A name that was looked up.
use Rattle.std.specs.Prelude.{ℕ, ◌≡◌, Option, Some, None, List, [], ◌∷◌, ◌++◌}
use Rattle.addr_pattern.specs.declared.addr.Addr.{Addr}
use Rattle.net_ends.specs.declared.net.Lookup.{Lookup}
use Rattle.net_ends.specs.Nets.{LookupCause, NetTold, looked_up}
use Rattle.socks_machine.specs.declared.cause.Cause.{Cause}
use Rattle.socks_machine.specs.declared.record.Decision.{Decision}
use Rattle.socks_machine.specs.declared.record.Record.{Record}
use Rattle.socks_machine.specs.Settle.{first_cause}

-- the address that was found
abbrev pub found_by : Lookup → Option Addr
found_by (Lookup.Found addr) = Some addr
found_by Lookup.NotFound = None
found_by Lookup.Failed = None

-- why a lookup that found none ends the association
abbrev pub cause_by : Lookup → Option Cause
cause_by (Lookup.Found addr) = None
cause_by Lookup.NotFound = Some Cause.NotFound
cause_by Lookup.Failed = Some Cause.NetFault

-- a record behind the lookup of a name that came out so
abbrev pub sought_behind : List ℕ → Lookup → Record → Record
sought_behind name outcome r = record r {
  decisions = r.decisions ++ Decision.Looked name (found_by outcome) ∷ [];
  cause = first_cause (cause_by outcome) r.cause;
}

-- the net was asked for the name once, and what it answered was decided
pub record Seeks (net net' : NetTold) (name : List ℕ) (old new : Record) : Type 0 where
  pub outcome : Lookup
  pub lookups : net' ≡ record net { lookups = looked_up net.lookups (record { name = name; outcome = outcome }); counts = net'.counts }
  pub planned : (plan : Lookup) → net.lookup_plan ≡ Some plan → outcome ≡ plan
  pub cause : LookupCause net.counts net'.counts outcome
  pub state' : new ≡ sought_behind name outcome old
