-- Openings of doors and ports: how each came out, and how it was to.
use Rattle.std.specs.Prelude.{◌≡◌, ℕ, Option, Some, None}
use Rattle.addr_pattern.specs.declared.addr.Addr.{Addr}
use Rattle.addr_pattern.specs.declared.endpoint.Endpoint.{Endpoint}
use Rattle.net_ends.specs.declared.kinds.Kinds.{Kinds}
use Rattle.net_ends.specs.declared.opening.Opening.{Opening}
use Rattle.net_ends.specs.Counts.{Counts, Rose}
use Rattle.net_ends.specs.Doors.{DoorTold}
use Rattle.net_ends.specs.Ports.{PortTold}

-- an opening at an address: the local endpoint of what was opened, or none where it failed
pub record Opened : Type 0 where
  pub at : Addr
  pub local : Option Endpoint

-- what a door that a net of memory is to open tells, and which kinds of calls on it are due to fail
pub record PlannedDoor : Type 0 where
  pub told : DoorTold
  pub due : Option Kinds

-- the same of a port
pub record PlannedPort : Type 0 where
  pub told : PortTold
  pub due : Option Kinds

abbrev pub opened_door : {D : Type 0} → (D → DoorTold) → (D → Counts) → Opening D → Option PlannedDoor
opened_door told counts (Opening.Open door) = Some (record { told = told door; due = (counts door).due })
opened_door told counts Opening.Failed = None

abbrev pub opened_port : {P : Type 0} → (P → PortTold) → (P → Counts) → Opening P → Option PlannedPort
opened_port told counts (Opening.Open port) = Some (record { told = told port; due = (counts port).due })
opened_port told counts Opening.Failed = None

-- where it was opened
abbrev pub local_of : {T : Type 0} → (T → Endpoint) → Opening T → Option Endpoint
local_of at (Opening.Open opened) = Some (at opened)
local_of at Opening.Failed = None

-- a fact on what was opened
abbrev pub IfOpened : {T : Type 0} → Opening T → (T → Type 0) → Type 0
IfOpened (Opening.Open opened) p = p opened
IfOpened Opening.Failed p = Unit {0}

-- an opening that failed leaves the plan as it was
abbrev pub KeepsOpening : {T P : Type 0} → Opening T → Option P → Option P → Type 0
KeepsOpening (Opening.Open opened) old new = Unit {0}
KeepsOpening Opening.Failed old new = new ≡ old

-- an opening fails only where the count of that rose
abbrev pub OpeningCause : {T : Type 0} → ℕ → ℕ → Opening T → Type 0
OpeningCause before now (Opening.Open opened) = Unit {0}
OpeningCause before now Opening.Failed = Rose before now
