-- What a net tells of its lookups, its dials, and the doors and ports that it opened.
use Rattle.std.specs.Prelude.{◌≡◌, ◌≤◌, ℕ, Option, Some, None, List, [], ◌∷◌, ◌++◌}
use Rattle.addr_pattern.specs.declared.addr.Addr.{Addr}
use Rattle.addr_pattern.specs.declared.endpoint.Endpoint.{Endpoint}
use Rattle.net_ends.specs.declared.kinds.Kinds.{Kinds}
use Rattle.net_ends.specs.declared.net.Dialing.{Dialing}
use Rattle.net_ends.specs.declared.net.Lookup.{Lookup}
use Rattle.net_ends.specs.Counts.{Counts, Rose}
use Rattle.net_ends.specs.Openings.{Opened, PlannedDoor, PlannedPort}
use Rattle.net_ends.specs.Told.{Told}

-- how a dial came out
pub data DialOutcome : Type 0 where
  CameUp : Endpoint → DialOutcome
  WasRefused : DialOutcome
  NoHost : DialOutcome
  NoNet : DialOutcome
  Fault : DialOutcome

abbrev pub outcome_of : {L : Type 0} → Dialing L → DialOutcome
outcome_of (Dialing.Up link local) = CameUp local
outcome_of Dialing.Refused = WasRefused
outcome_of Dialing.HostUnreachable = NoHost
outcome_of Dialing.NetUnreachable = NoNet
outcome_of Dialing.Failed = Fault

-- a dial, with its outcome
pub record Dial : Type 0 where
  pub to : Endpoint
  pub outcome : DialOutcome

-- what a net of memory tells of its next dial: its outcome, and what the link tells that it gives, and which kinds of calls on that
-- are due to fail
pub record Plan : Type 0 where
  pub outcome : DialOutcome
  pub link : Told
  pub due : Option Kinds

-- a lookup of a name, with its outcome
pub record LookedUp : Type 0 where
  pub name : List ℕ
  pub outcome : Lookup

-- how often each failure was answered, whichever call answered it
pub record NetCounts : Type 0 where
  pub not_found : ℕ
  pub refused : ℕ
  pub no_host : ℕ
  pub no_net : ℕ
  pub faults : ℕ

-- The lookups, the dials and the openings of doors and of ports so far, where it tells, and how often each failure was answered. A
-- net of memory tells more: how its next lookup comes out, the plan of its next dial, and what the next door and the next port tell
-- that it opens, or that this fails.
pub record NetTold : Type 0 where
  pub lookups : Option (List LookedUp)
  pub dials : Option (List Dial)
  pub doors : Option (List Opened)
  pub ports : Option (List Opened)
  pub lookup_plan : Option Lookup
  pub plan : Option Plan
  pub door_plan : Option (Option PlannedDoor)
  pub port_plan : Option (Option PlannedPort)
  pub counts : NetCounts

abbrev pub looked_up : Option (List LookedUp) → LookedUp → Option (List LookedUp)
looked_up None lookup = None
looked_up (Some lookups) lookup = Some (lookups ++ lookup ∷ [])

abbrev pub dialled : Option (List Dial) → Dial → Option (List Dial)
dialled None dial = None
dialled (Some dials) dial = Some (dials ++ dial ∷ [])

-- no name was looked up, and the next lookup comes out as it was to
pub record SameLookups (old new : NetTold) : Type 0 where
  pub lookups : new.lookups ≡ old.lookups
  pub plan : new.lookup_plan ≡ old.lookup_plan

-- no door and no port was opened, and the next of each opens as it was to
pub record SameOpenings (old new : NetTold) : Type 0 where
  pub doors : new.doors ≡ old.doors
  pub ports : new.ports ≡ old.ports
  pub door_plan : new.door_plan ≡ old.door_plan
  pub port_plan : new.port_plan ≡ old.port_plan

-- no count fell
pub record NetLater (old new : NetCounts) : Type 0 where
  pub not_found : old.not_found ≤ new.not_found
  pub refused : old.refused ≤ new.refused
  pub no_host : old.no_host ≤ new.no_host
  pub no_net : old.no_net ≤ new.no_net
  pub faults : old.faults ≤ new.faults

-- the count that an outcome names rose
abbrev pub LookupCause : NetCounts → NetCounts → Lookup → Type 0
LookupCause old new (Lookup.Found addr) = Unit {0}
LookupCause old new Lookup.NotFound = Rose old.not_found new.not_found
LookupCause old new Lookup.Failed = Rose old.faults new.faults

abbrev pub DialCause : NetCounts → NetCounts → DialOutcome → Type 0
DialCause old new (CameUp local) = Unit {0}
DialCause old new WasRefused = Rose old.refused new.refused
DialCause old new NoHost = Rose old.no_host new.no_host
DialCause old new NoNet = Rose old.no_net new.no_net
DialCause old new Fault = Rose old.faults new.faults

abbrev pub IfUp : {L : Type 0} → Dialing L → (L → Type 0) → Type 0
IfUp (Dialing.Up link local) p = p link
IfUp Dialing.Refused p = Unit {0}
IfUp Dialing.HostUnreachable p = Unit {0}
IfUp Dialing.NetUnreachable p = Unit {0}
IfUp Dialing.Failed p = Unit {0}

-- the dial came out as planned
pub record AsPlanned {L : Type 0} (told : L → Told) (counts : L → Counts) (plan : Plan) (dialing : Dialing L) : Type 0 where
  pub outcome : outcome_of dialing ≡ plan.outcome
  pub link : IfUp dialing (λ link. told link ≡ plan.link)
  pub due' : IfUp dialing (λ link. (counts link).due ≡ plan.due)

-- a dial that gave no link leaves the plan as it was
abbrev pub KeepsPlan : {L : Type 0} → Dialing L → Option Plan → Option Plan → Type 0
KeepsPlan (Dialing.Up link local) old new = Unit {0}
KeepsPlan Dialing.Refused old new = new ≡ old
KeepsPlan Dialing.HostUnreachable old new = new ≡ old
KeepsPlan Dialing.NetUnreachable old new = new ≡ old
KeepsPlan Dialing.Failed old new = new ≡ old
