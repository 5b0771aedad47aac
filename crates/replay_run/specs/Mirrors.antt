-- What a replay holds, beside the world and the outside of its script.
use Rattle.std.specs.List.{list_any}
use Rattle.std.specs.Prelude.{ℕ, zero, suc, ◌≡◌, ◌<◌, ◌≤◌, ◌+◌, Bool, true, false, Option, Some, None, List, [], ◌∷◌, length, map, All}
use Rattle.addr_pattern.specs.declared.addr.Addr.{Addr}
use Rattle.addr_pattern.specs.declared.endpoint.Endpoint.{Endpoint}
use Rattle.conf_types.specs.declared.entries.Entries.{Entries}
use Rattle.socks_grammar.specs.declared.user.User.{User}
use Rattle.conf_types.specs.Plain.{IsPlain}
use Rattle.generation.specs.Published.{Generations}
use Rattle.net_ends.specs.declared.kinds.Kinds.{Kinds}
use Rattle.net_ends.specs.InMemory.{LinkInMemory, NetInMemory, told_of_link}
use Rattle.socks_machine.specs.declared.cause.StopBy.{StopBy}
use Rattle.socks_machine.specs.declared.lines.Line.{Line}
use Rattle.socks_machine.specs.declared.record.Record.{Record}
use Rattle.socks_machine.specs.declared.world.Object.{Object}
use Rattle.socks_machine.specs.declared.world.World.{World}
use Rattle.socks_machine.specs.Basis.{Basis}
use Rattle.socks_machine.specs.History.{last_mark}
use Rattle.socks_machine.specs.Inputs.{is_served_input}
use Rattle.socks_machine.specs.Phase.{is_udp}
use Rattle.socks_machine.specs.declared.script.CallKind.{CallKind}
use Rattle.socks_machine.specs.FailedCalls.{Failing}
use Rattle.socks_machine.specs.Script.{Outside, Surroundings, is_fault}
use Rattle.socks_machine.specs.Step.{basis_of, fresh}
use Rattle.socks_machine.specs.Taking.{holds}
use Rattle.assoc_core.specs.declared.assoc.Assoc.{Assoc}
use Rattle.assoc_core.specs.Stands.{Stands}
use Rattle.assoc_core.specs.Turns.{looked_as, outer_of}
use Rattle.replay_run.specs.declared.slot.Slot.{Slot}
use Rattle.replay_script.specs.declared.state.AssociationState.{AssociationState}
use Rattle.replay_script.specs.declared.state.State.{State}

-- ---- one association

-- what no line that is served changes
pub record Quiet (o : Outside) : Type 0 where
  pub grams : o.grams ≡ []
  pub peer : o.peer ≡ None

-- which kinds of calls on the link of this object are to fail
abbrev pub due_on : Object → List Failing → Kinds
due_on x faults = record {
  reads = list_any (is_fault x CallKind.Reading) faults;
  writes = list_any (is_fault x CallKind.Writing) faults;
  shuts = list_any (is_fault x CallKind.Shutting) faults;
}

-- those calls are due to fail on this link that the script says of the object
abbrev pub FailsAs : LinkInMemory → Object → Outside → Type 0
FailsAs link x o = link.counts.due ≡ Some (due_on x o.faults)

-- whether a write that takes so many bytes at most takes nothing
abbrev pub takes_nothing : Option ℕ → Bool
takes_nothing None = false
takes_nothing (Some zero) = true
takes_nothing (Some (suc n)) = false

-- a link of the target, at which arrived what the script says, with room for all that the client sends, and whose writes take
-- nothing where the script says so
pub record TargetIs (link : LinkInMemory) (o : Outside) : Type 0 where
  pub arrived : link.arrived ≡ o.t
  pub ends : link.ends ≡ o.end_t
  pub cap : length o.c ≤ link.cap
  pub room : takes_nothing link.room ≡ holds Object.Target o.no_room

-- the target's link is there, or waits for the dial, which comes out as the script says; its calls fail as the script says
abbrev pub TargetMirrors : Option LinkInMemory → NetInMemory → Outside → Type 0
TargetMirrors None net o = TargetIs net.link o × FailsAs net.link Object.Target o × (outer_of net.outcome ≡ o.dial)
TargetMirrors (Some link) net o = TargetIs link o × FailsAs link Object.Target o

-- the client's link has room for all replies and for all that arrives from the target, its writes take nothing where the script
-- says so, and its calls fail as it says; so does a lookup come out
pub record IsGoing (basis : Basis) (number : ℕ) (a : Assoc LinkInMemory) (net : NetInMemory) (o : Outside) : Type 0 where
  pub number' : a.state.number ≡ number
  pub stands : Stands told_of_link basis a
  pub arrived : a.client.arrived ≡ o.c
  pub ends : a.client.ends ≡ o.end_c
  pub fails : FailsAs a.client Object.Client o
  pub cap : 64 + length o.t ≤ a.client.cap
  pub room : takes_nothing a.client.room ≡ holds Object.Client o.no_room
  pub served : is_served_input basis.users o.c ≡ true
  pub target : TargetMirrors a.target net o
  pub lookup : looked_as net.lookup ≡ o.lookup
  pub quiet : Quiet o

abbrev pub IsSlot : Basis → ℕ → Slot → Outside → Type 0
IsSlot basis number (Slot.Going a net) o = IsGoing basis number a net o
IsSlot basis number (Slot.Over e) o = (e.state.done ≡ true) × (is_udp e.state ≡ false) × (e.state.sent_u ≡ [])
IsSlot basis number Slot.Away o = ⊥

-- ---- all associations

abbrev pub nowhere : Endpoint
nowhere = record { addr = Addr.V4 0; port = 0 }

abbrev pub record_of : Slot → Record
record_of (Slot.Going a net) = a.state
record_of (Slot.Over e) = e.state
record_of Slot.Away = fresh 0 nowhere nowhere 0

abbrev pub AreSlots : Basis → ℕ → List Slot → List Outside → Type 0
AreSlots basis number [] [] = Unit {0}
AreSlots basis number (slot ∷ slots) (o ∷ os) = IsSlot basis number slot o × AreSlots basis (suc number) slots os
AreSlots basis number _ _ = ⊥

-- what was seen by the reactor and by worker 1
abbrev pub seen_by_workers : ℕ → List ℕ
seen_by_workers seen = 0 ∷ seen ∷ []

-- the replay holds what the world, with these users, and the outside are at this moment
pub record Mirrors (users : List User) (stands : List Line → List StopBy → Type 0) (cap moment : ℕ) (s : Surroundings) (w : World) (gens : Generations) (slots : List Slot) : Type 0 where
  pub moment' : s.now ≡ moment
  pub users' : w.users ≡ users
  pub pubs : w.pubs ≡ gens.configs
  pub seen' : w.seen ≡ seen_by_workers gens.seen
  pub below : gens.seen ≤ length gens.configs
  pub records : w.records ≡ map record_of slots
  pub slots' : AreSlots (basis_of w) 1 slots s.outsides
  pub desk : stands w.h w.marks
  pub cap' : cap ≡ w.cap
  pub marks : last_mark w.marks ≡ None

-- ---- the conditions of the script

abbrev pub AreSides : List AssociationState → List Outside → Type 0
AreSides [] [] = Unit {0}
AreSides (side ∷ sides) (o ∷ os) = (side.c ≡ o.c) × (side.end_c ≡ o.end_c) × (side.end_t ≡ o.end_t) × AreSides sides os
AreSides _ _ = ⊥

-- the reader takes these for the users as soon as an association is open
abbrev pub HasUsers : List User → State → Type 0
HasUsers users state = 0 < length state.sides → state.users ≡ users

-- the reader's state is what was played
pub record Matches (users : List User) (state : State) (s : Surroundings) (gens : Generations) : Type 0 where
  pub users' : HasUsers users state
  pub published' : state.published ≡ true → 0 < length gens.configs
  pub seen' : state.seen ≡ true → 0 < gens.seen
  pub moment : state.moment ≡ s.now
  pub sides : AreSides state.sides s.outsides
  pub plain : All IsPlain gens.configs

-- a worker has seen one of the configurations that were published
pub record HasSeen (gens : Generations) : Type 0 where
  pub seen : 0 < gens.seen
  pub plain : All IsPlain gens.configs
