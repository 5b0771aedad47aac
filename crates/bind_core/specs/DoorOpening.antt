-- One opening of a door, and what it is answered with.
use Rattle.std.specs.Prelude.{◌≡◌, Option, Some, None, Result, Ok, Err}
use Rattle.addr_pattern.specs.declared.addr.Addr.{Addr}
use Rattle.addr_pattern.specs.declared.endpoint.Endpoint.{Endpoint}
use Rattle.net_ends.specs.Counts.{Counts, Rose}
use Rattle.net_ends.specs.Doors.{DoorTold, with_one}
use Rattle.net_ends.specs.Nets.{NetTold}
use Rattle.net_ends.specs.Openings.{PlannedDoor}
use Rattle.socks_machine.specs.declared.cause.Cause.{Cause}

-- where the door was opened, or none
abbrev pub local_in : {D : Type 0} → (D → DoorTold) → Result D Cause → Option Endpoint
local_in told (Ok door) = Some (told door).local
local_in told (Err cause) = None

-- what the door tells and which calls on it are due to fail, or none
abbrev pub planned_in : {D : Type 0} → (D → DoorTold) → (D → Counts) → Result D Cause → Option PlannedDoor
planned_in told counts (Ok door) = Some (record { told = told door; due = (counts door).due })
planned_in told counts (Err cause) = None

-- an opening fails with one cause alone, where the net's count of failures rose, and it leaves the plan
abbrev pub FailsFor : {D : Type 0} → NetTold → NetTold → Result D Cause → Type 0
FailsFor old new (Ok door) = Unit {0}
FailsFor old new (Err cause) = (cause ≡ Cause.NetFault) × Rose old.counts.faults new.counts.faults × (new.door_plan ≡ old.door_plan)

-- One opening of a door at that address, which came out as it is answered; else the net tells all as before but its counts and the
-- plan of its next door. Where it told that plan the opening came out so.
pub record Opens {D : Type 0} (told : D → DoorTold) (counts : D → Counts) (old new : NetTold) (at : Addr) (opened : Result D Cause) : Type 0 where
  pub doors : new ≡ record old { doors = with_one old.doors (record { at = at; local = local_in told opened }); door_plan = new.door_plan; counts = new.counts }
  pub planned : (plan : Option PlannedDoor) → old.door_plan ≡ Some plan → planned_in told counts opened ≡ plan
  pub failed : FailsFor old new opened
