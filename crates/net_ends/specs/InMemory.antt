-- The outside in memory: what each object holds, and what it tells of that.
use Rattle.std.specs.Prelude.{◌≡◌, ◌+◌, ◌<◌, ◌≤◌, ◌++◌, ℕ, Bool, true, false, nat_le, Option, Some, None, List, [], ◌∷◌, find, length, take, drop, option_map, bytes_eq}
use Rattle.addr_pattern.specs.declared.addr.Addr.{Addr}
use Rattle.addr_pattern.specs.declared.endpoint.Endpoint.{Endpoint}
use Rattle.net_ends.specs.declared.datagram.Addressed.{Addressed}
use Rattle.net_ends.specs.declared.datagram.Datagram.{Datagram}
use Rattle.net_ends.specs.declared.kinds.Kind.{Kind}
use Rattle.net_ends.specs.declared.kinds.Kinds.{Kinds}
use Rattle.net_ends.specs.declared.net.Lookup.{Lookup}
use Rattle.net_ends.specs.declared.opening.OpenPlan.{OpenPlan}
use Rattle.net_ends.specs.Callers.{CallCounts, CallOutcome, CallerTold, returned_of}
use Rattle.net_ends.specs.Counts.{Counts}
use Rattle.net_ends.specs.Doors.{Coming, DoorTold}
use Rattle.net_ends.specs.Failing.{Failing, none_failing}
use Rattle.net_ends.specs.Faults.{no_kind, with_kind}
use Rattle.net_ends.specs.Nets.{DialOutcome, NetTold, NetCounts}
use Rattle.net_ends.specs.Openings.{PlannedDoor, PlannedPort}
use Rattle.net_ends.specs.Ports.{PortRoom, PortTold}
use Rattle.net_ends.specs.Stores.{Files}
use Rattle.net_ends.specs.Streams.{SourceTold}
use Rattle.net_ends.specs.Told.{Told}

-- a link: what arrived at it and what it gave of that, what it took and how many bytes it can take in all, and the most that
-- one write takes, where that is bounded; none of its calls is to fail where it is unfailing, else the numbered ones and the next of
-- each kind of these
pub record LinkInMemory : Type 0 where
  pub arrived : List ℕ
  pub ends : Bool
  pub given : List ℕ
  pub taken : List ℕ
  pub cap : ℕ
  pub room : Option ℕ
  pub ended : Bool
  pub shut : Bool
  pub unfailing : Bool
  pub failing : Failing
  pub next_fail : Kinds
  pub counts : Counts

-- it tells all of that
abbrev pub told_of_link : LinkInMemory → Told
told_of_link link = record {
  given = Some link.given;
  taken = Some link.taken;
  ended = link.ended;
  shut = link.shut;
  arrived = Some (record { bytes = link.arrived; ends = link.ends });
  cap = Some link.cap;
  room = link.room;
  unfailing = link.unfailing;
}

-- which kinds are due: where calls are to fail by their numbers, it doesn't tell
abbrev pub due_of : List ℕ → Kinds → Option Kinds
due_of [] kinds = Some kinds
due_of (number ∷ numbers) kinds = None

-- the next call of this kind is to fail too; where it tells which kinds are due, that one is among them
abbrev pub with_next : LinkInMemory → Kind → LinkInMemory
with_next link kind = record link {
  unfailing = false;
  next_fail = with_kind link.next_fail kind;
  counts = record link.counts { due = option_map (λ kinds. with_kind kinds kind) link.counts.due };
}

-- nothing arrived at it, and it can take that many bytes
abbrev pub fresh_link : ℕ → LinkInMemory
fresh_link cap = record {
  arrived = [];
  ends = false;
  given = [];
  taken = [];
  cap = cap;
  room = None;
  ended = false;
  shut = false;
  unfailing = true;
  failing = none_failing;
  next_fail = no_kind;
  counts = record { faults = 0; idle_reads = 0; idle_writes = 0; due = Some no_kind };
}

-- it has given and taken nothing yet, has not answered its end and wasn't shut
pub record IsUnused (link : LinkInMemory) : Type 0 where
  pub given : link.given ≡ []
  pub taken : link.taken ≡ []
  pub unended : link.ended ≡ false
  pub unshut : link.shut ≡ false

-- a door: the peer that comes next, if any does, and the link that it then gives; none of its accepts is to fail where it is
-- unfailing, else the numbered ones, and the next where reads are among its kinds
pub record DoorInMemory : Type 0 where
  pub local : Endpoint
  pub peer : Option Endpoint
  pub link : LinkInMemory
  pub unfailing : Bool
  pub failing : Failing
  pub next_fail : Kinds
  pub counts : Counts

abbrev pub coming_with : LinkInMemory → Endpoint → Coming
coming_with link peer = record { peer = peer; link = told_of_link link; due = link.counts.due }

-- It tells who comes next. An accept takes no memory, so it keeps no list of the peers that it gave.
abbrev pub told_of_door : DoorInMemory → DoorTold
told_of_door door = record {
  local = door.local;
  peers = None;
  next = Some (option_map (coming_with door.link) door.peer);
  unfailing = door.unfailing;
}

-- nobody comes to it yet, and the link that waits can take that many bytes
abbrev pub fresh_door : Endpoint → ℕ → DoorInMemory
fresh_door local cap = record {
  local = local;
  peer = None;
  link = fresh_link cap;
  unfailing = true;
  failing = none_failing;
  next_fail = no_kind;
  counts = record { faults = 0; idle_reads = 0; idle_writes = 0; due = Some no_kind };
}

-- the next accept is to fail too; where it tells what is due, that is among it
abbrev pub with_next_accept : DoorInMemory → DoorInMemory
with_next_accept door = record door {
  unfailing = false;
  next_fail = with_kind door.next_fail Kind.Read;
  counts = record door.counts { due = option_map (λ kinds. with_kind kinds Kind.Read) door.counts.due };
}

-- a port: the datagrams that arrived and those that it gave of them, those that it took, and how much more it can take; which of
-- its calls are to fail, as with a link
pub record PortInMemory : Type 0 where
  pub local : Endpoint
  pub arrived : List Datagram
  pub given : List Datagram
  pub taken : List Datagram
  pub room : PortRoom
  pub unfailing : Bool
  pub failing : Failing
  pub next_fail : Kinds
  pub counts : Counts

-- it tells all of that
abbrev pub told_of_port : PortInMemory → PortTold
told_of_port port = record {
  local = port.local;
  given = Some port.given;
  taken = Some port.taken;
  arrived = Some port.arrived;
  room = Some port.room;
  unfailing = port.unfailing;
}

abbrev pub is_datagram : Datagram → Bool
is_datagram datagram = nat_le (length datagram.bytes) 65535

-- of these datagrams the one at a place, whose length and sender these are, and whose bytes stand at the front of a buffer; or
-- none where they are no more than that
abbrev pub IsReceived : List Datagram → ℕ → List ℕ → Option (ℕ × Endpoint) → Type 0
IsReceived datagrams at buffer None = length datagrams ≤ at
IsReceived datagrams at buffer (Some (len, from)) = (at < length datagrams) × (len ≤ 65535) × (take (at + 1) datagrams ≡ take at datagrams ++ record { peer = from; bytes = take len buffer } ∷ [])

-- the datagrams whose bytes stand one behind the other
abbrev pub cut : List Addressed → List ℕ → List Datagram
cut [] bytes = []
cut (head ∷ heads) bytes = record { peer = head.to; bytes = take head.len bytes } ∷ cut heads (drop head.len bytes)

-- how many bytes these have
abbrev pub total : List Addressed → ℕ
total [] = 0
total (head ∷ heads) = head.len + total heads

-- nothing arrived at it, and it can take this much
abbrev pub fresh_port : Endpoint → PortRoom → PortInMemory
fresh_port local room = record {
  local = local;
  arrived = [];
  given = [];
  taken = [];
  room = room;
  unfailing = true;
  failing = none_failing;
  next_fail = no_kind;
  counts = record { faults = 0; idle_reads = 0; idle_writes = 0; due = Some no_kind };
}

-- the next receive is to fail too, or the next send
abbrev pub with_next_call : PortInMemory → Kind → PortInMemory
with_next_call port kind = record port {
  unfailing = false;
  next_fail = with_kind port.next_fail kind;
  counts = record port.counts { due = option_map (λ kinds. with_kind kinds kind) port.counts.due };
}

-- it has given and taken nothing yet
pub record IsUnusedPort (port : PortInMemory) : Type 0 where
  pub given : port.given ≡ []
  pub taken : port.taken ≡ []

-- a net: how its lookups come out, how its next dial comes out, the link that it then gives, how its next openings come out, the
-- door and the port that they then give, which name was looked up last, and where the last dial and the last opening were
pub record NetInMemory : Type 0 where
  pub lookup : Lookup
  pub outcome : DialOutcome
  pub link : LinkInMemory
  pub door_plan : OpenPlan
  pub door : DoorInMemory
  pub port_plan : OpenPlan
  pub port : PortInMemory
  pub last_lookup : Option (List ℕ)
  pub last : Option Endpoint
  pub last_opening : Option Addr
  pub counts : NetCounts

-- the door that waits, as it opens, or none where that fails; so the port
abbrev pub planned_door : OpenPlan → DoorInMemory → Option PlannedDoor
planned_door (OpenPlan.Open local) door = Some (record { told = told_of_door (record door { local = local }); due = door.counts.due })
planned_door OpenPlan.Failed door = None

abbrev pub planned_port : OpenPlan → PortInMemory → Option PlannedPort
planned_port (OpenPlan.Open local) port = Some (record { told = told_of_port (record port { local = local }); due = port.counts.due })
planned_port OpenPlan.Failed port = None

-- It tells its counts, how its next lookup comes out, and the plans of its next dial and its next openings. None of these takes
-- memory, so it keeps no list of them.
abbrev pub told_of_net : NetInMemory → NetTold
told_of_net net = record {
  lookups = None;
  dials = None;
  doors = None;
  ports = None;
  lookup_plan = Some net.lookup;
  plan = Some (record { outcome = net.outcome; link = told_of_link net.link; due = net.link.counts.due });
  door_plan = Some (planned_door net.door_plan net.door);
  port_plan = Some (planned_port net.port_plan net.port);
  counts = net.counts;
}

-- the endpoint at which a door or a port stands that isn't open yet
abbrev pub nowhere : Endpoint
nowhere = record { addr = Addr.V4 0; port = 0 }

abbrev pub no_room : PortRoom
no_room = record { datagrams = 0; bytes = 0 }

-- it finds no name, its next dial is refused, its next openings fail, and the link that waits can take that many bytes
abbrev pub fresh_net : ℕ → NetInMemory
fresh_net cap = record {
  lookup = Lookup.NotFound;
  outcome = DialOutcome.WasRefused;
  link = fresh_link cap;
  door_plan = OpenPlan.Failed;
  door = fresh_door nowhere 0;
  port_plan = OpenPlan.Failed;
  port = fresh_port nowhere no_room;
  last_lookup = None;
  last = None;
  last_opening = None;
  counts = record { not_found = 0; refused = 0; no_host = 0; no_net = 0; faults = 0 };
}

-- what a dial leaves: a link is given once, and then the next dial is refused
abbrev pub outcome_left : DialOutcome → DialOutcome
outcome_left (DialOutcome.CameUp local) = DialOutcome.WasRefused
outcome_left DialOutcome.WasRefused = DialOutcome.WasRefused
outcome_left DialOutcome.NoHost = DialOutcome.NoHost
outcome_left DialOutcome.NoNet = DialOutcome.NoNet
outcome_left DialOutcome.Fault = DialOutcome.Fault

abbrev pub link_left : DialOutcome → LinkInMemory → LinkInMemory
link_left (DialOutcome.CameUp local) link = fresh_link 0
link_left DialOutcome.WasRefused link = link
link_left DialOutcome.NoHost link = link
link_left DialOutcome.NoNet link = link
link_left DialOutcome.Fault link = link

-- what opening a door leaves: it is given once, and then the next opening fails
abbrev pub door_left : OpenPlan → DoorInMemory → DoorInMemory
door_left (OpenPlan.Open local) door = fresh_door nowhere 0
door_left OpenPlan.Failed door = door

abbrev pub port_left : OpenPlan → PortInMemory → PortInMemory
port_left (OpenPlan.Open local) port = fresh_port nowhere no_room
port_left OpenPlan.Failed port = port

-- a source: all that it has to give, and what it gave of that
pub record SourceInMemory : Type 0 where
  pub whole : List ℕ
  pub given : List ℕ
  pub failing : Failing
  pub faults : ℕ

-- a sink: what it took, and how many bytes it can take in all
pub record SinkInMemory : Type 0 where
  pub taken : List ℕ
  pub cap : ℕ
  pub failing : Failing
  pub faults : ℕ

-- they tell all of that
abbrev pub told_of_source : SourceInMemory → Option SourceTold
told_of_source source = Some (record { given = source.given; whole = source.whole })

abbrev pub told_of_sink : SinkInMemory → Option (List ℕ)
told_of_sink sink = Some sink.taken

-- nothing was put into it yet
abbrev pub fresh_source : SourceInMemory
fresh_source = record { whole = []; given = []; failing = none_failing; faults = 0 }

-- it took nothing yet, and can take that many bytes
abbrev pub fresh_sink : ℕ → SinkInMemory
fresh_sink cap = record { taken = []; cap = cap; failing = none_failing; faults = 0 }

-- a store: its files, each a name and what it holds, in the order in which they were put; none of its calls is to fail where
-- it is unfailing
pub record StoreInMemory : Type 0 where
  pub files : List (List ℕ × List ℕ)
  pub unfailing : Bool
  pub failing : Failing
  pub faults : ℕ

-- nothing was put into it yet
abbrev pub fresh_store : StoreInMemory
fresh_store = record { files = []; unfailing = true; failing = none_failing; faults = 0 }

abbrev pub is_named : List ℕ → List ℕ × List ℕ → Bool
is_named name file = bytes_eq file.0 name

-- what the first file of a name holds
abbrev pub content_of : List (List ℕ × List ℕ) → Files
content_of files name = option_map (λ file. file.1) (find (is_named name) files)

-- it tells what its files hold
abbrev pub told_of_store : StoreInMemory → Option Files
told_of_store store = Some (content_of store.files)

-- a wire, which holds what a link does, that never failed and wasn't used
pub record IsUnusedWire (wire : LinkInMemory) : Type 0 where
  pub unused : IsUnused wire
  pub faultless : wire.counts.faults ≡ 0

-- a caller: how its next call comes out, the wire that it then gives, where the last call went and the wire that came back last
pub record CallerInMemory : Type 0 where
  pub outcome : CallOutcome
  pub wire : LinkInMemory
  pub last : Option Endpoint
  pub returned : Option LinkInMemory
  pub counts : CallCounts

-- It tells the plan of its next call, and all of the wire that came back. It keeps no list of its calls.
abbrev pub told_of_caller : CallerInMemory → CallerTold
told_of_caller caller = record {
  calls = None;
  plan = Some (record { outcome = caller.outcome; wire = told_of_link caller.wire });
  returned = option_map (λ wire. returned_of (told_of_link wire) wire.counts) caller.returned;
}

-- its next call is refused, and the wire that waits can take that many bytes
abbrev pub fresh_caller : ℕ → CallerInMemory
fresh_caller cap = record {
  outcome = CallOutcome.WasRefused;
  wire = fresh_link cap;
  last = None;
  returned = None;
  counts = record { refused = 0; no_host = 0; no_net = 0; faults = 0 };
}

-- what a call leaves: a wire is given once, and then the next call is refused
abbrev pub call_left : CallOutcome → CallOutcome
call_left CallOutcome.CameUp = CallOutcome.WasRefused
call_left CallOutcome.WasRefused = CallOutcome.WasRefused
call_left CallOutcome.NoHost = CallOutcome.NoHost
call_left CallOutcome.NoNet = CallOutcome.NoNet
call_left CallOutcome.Fault = CallOutcome.Fault

abbrev pub wire_left : CallOutcome → LinkInMemory → LinkInMemory
wire_left CallOutcome.CameUp wire = fresh_link 0
wire_left CallOutcome.WasRefused wire = wire
wire_left CallOutcome.NoHost wire = wire
wire_left CallOutcome.NoNet wire = wire
wire_left CallOutcome.Fault wire = wire
