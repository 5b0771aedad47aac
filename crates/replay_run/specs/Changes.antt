-- What a line changes of one association.
use Rattle.std.specs.Prelude.{◌≡◌, ◌+◌, ℕ, true, false, Option, Some, None, List, ◌++◌, length}
use Rattle.addr_pattern.specs.declared.endpoint.Endpoint.{Endpoint}
use Rattle.net_ends.specs.declared.kinds.Kind.{Kind}
use Rattle.net_ends.specs.InMemory.{LinkInMemory, NetInMemory, fresh_link, fresh_net, with_next}
use Rattle.net_ends.specs.declared.net.Lookup.{Lookup}
use Rattle.net_ends.specs.Nets.{DialOutcome}
use Rattle.socks_machine.specs.declared.script.CallKind.{CallKind}
use Rattle.socks_machine.specs.declared.world.Object.{Object}
use Rattle.socks_machine.specs.Step.{fresh}
use Rattle.replay_run.specs.declared.slot.Slot.{Slot}

-- what changes of the target's link, where it is there, and else of the link that waits in the net
abbrev pub change_target : (LinkInMemory → LinkInMemory) → Option LinkInMemory → Option LinkInMemory
change_target f None = None
change_target f (Some link) = Some (f link)

abbrev pub change_net : (LinkInMemory → LinkInMemory) → Option LinkInMemory → NetInMemory → NetInMemory
change_net f None net = record net { link = f net.link }
change_net f (Some link) net = net

abbrev pub with_room : ℕ → LinkInMemory → LinkInMemory
with_room n link = record link { cap = link.cap + n }

abbrev pub with_bytes : List ℕ → LinkInMemory → LinkInMemory
with_bytes bytes link = record link { arrived = link.arrived ++ bytes }

abbrev pub with_end : LinkInMemory → LinkInMemory
with_end link = record link { ends = true }

abbrev pub with_narrow : ℕ → LinkInMemory → LinkInMemory
with_narrow n link = record link { room = Some n }

abbrev pub with_failure : Kind → LinkInMemory → LinkInMemory
with_failure kind link = with_next link kind

abbrev pub with_found : Lookup → NetInMemory → NetInMemory
with_found outcome net = record net { lookup = outcome }

abbrev pub with_outcome : DialOutcome → NetInMemory → NetInMemory
with_outcome outcome net = record net { outcome = outcome }

-- bytes of the client, and room for them on their way to the target
abbrev pub with_arrival : List ℕ → Slot → Slot
with_arrival bytes (Slot.Going a net) = Slot.Going (record a { client = with_bytes bytes a.client; target = change_target (with_room (length bytes)) a.target })
    (change_net (with_room (length bytes)) a.target net)
with_arrival bytes slot = slot

-- bytes of the target, and room for them on their way to the client
abbrev pub with_target_arrival : List ℕ → Slot → Slot
with_target_arrival bytes (Slot.Going a net) = Slot.Going (record a { client = with_room (length bytes) a.client; target = change_target (with_bytes bytes) a.target })
    (change_net (with_bytes bytes) a.target net)
with_target_arrival bytes slot = slot

abbrev pub with_client_end : Slot → Slot
with_client_end (Slot.Going a net) = Slot.Going (record a { client = with_end a.client }) net
with_client_end slot = slot

abbrev pub with_target_end : Slot → Slot
with_target_end (Slot.Going a net) = Slot.Going (record a { target = change_target with_end a.target }) (change_net with_end a.target net)
with_target_end slot = slot

-- each write to a side takes so many bytes at most
abbrev pub with_client_narrow : ℕ → Slot → Slot
with_client_narrow n (Slot.Going a net) = Slot.Going (record a { client = with_narrow n a.client }) net
with_client_narrow n slot = slot

abbrev pub with_target_narrow : ℕ → Slot → Slot
with_target_narrow n (Slot.Going a net) = Slot.Going (record a { target = change_target (with_narrow n) a.target }) (change_net (with_narrow n) a.target net)
with_target_narrow n slot = slot

abbrev pub with_side_narrow : Object → ℕ → Slot → Slot
with_side_narrow Object.Client n slot = with_client_narrow n slot
with_side_narrow Object.Target n slot = with_target_narrow n slot
with_side_narrow _ n slot = slot

-- the kind of call on a link that a line names
abbrev pub kind_of : CallKind → Kind
kind_of CallKind.Reading = Kind.Read
kind_of CallKind.Writing = Kind.Write
kind_of CallKind.Shutting = Kind.Shut

-- the next call of this kind on a side's link fails
abbrev pub with_client_failure : Kind → Slot → Slot
with_client_failure kind (Slot.Going a net) = Slot.Going (record a { client = with_failure kind a.client }) net
with_client_failure kind slot = slot

abbrev pub with_target_failure : Kind → Slot → Slot
with_target_failure kind (Slot.Going a net) = Slot.Going (record a { target = change_target (with_failure kind) a.target }) (change_net (with_failure kind) a.target net)
with_target_failure kind slot = slot

abbrev pub with_side_failure : Object → Kind → Slot → Slot
with_side_failure Object.Client kind slot = with_client_failure kind slot
with_side_failure Object.Target kind slot = with_target_failure kind slot
with_side_failure _ kind slot = slot

abbrev pub with_plan : DialOutcome → Slot → Slot
with_plan outcome (Slot.Going a net) = Slot.Going a (with_outcome outcome net)
with_plan outcome slot = slot

abbrev pub with_lookup : Lookup → Slot → Slot
with_lookup outcome (Slot.Going a net) = Slot.Going a (with_found outcome net)
with_lookup outcome slot = slot

-- more can arrive from the client
abbrev pub MayArrive : Slot → Type 0
MayArrive (Slot.Going a net) = a.client.ends ≡ false
MayArrive slot = Unit {0}

-- more can arrive at the target's link, where it is there, and else at the one that waits in the net
abbrev pub IsUnended : Option LinkInMemory → NetInMemory → Type 0
IsUnended None net = net.link.ends ≡ false
IsUnended (Some link) net = link.ends ≡ false

abbrev pub MayArriveAtTarget : Slot → Type 0
MayArriveAtTarget (Slot.Going a net) = IsUnended a.target net
MayArriveAtTarget slot = Unit {0}

-- room for all replies of the proxy
abbrev pub room_for_replies : ℕ
room_for_replies = 64

-- an association that was opened at this moment and on which nothing has happened, with the net whose next dial is refused
abbrev pub opened_slot : ℕ → Endpoint → Endpoint → ℕ → Slot
opened_slot number peer local now = Slot.Going (record { state = fresh number peer local now; client = fresh_link room_for_replies; target = None }) (fresh_net 0)
