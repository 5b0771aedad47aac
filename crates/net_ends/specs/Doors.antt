-- What a door tells of itself and of the peers that it gave, and how an answer changes that.
use Rattle.std.specs.Prelude.{◌≡◌, ℕ, Bool, false, Option, Some, None, List, [], ◌∷◌, ◌++◌}
use Rattle.addr_pattern.specs.declared.endpoint.Endpoint.{Endpoint}
use Rattle.net_ends.specs.declared.door.Accepting.{Accepting}
use Rattle.net_ends.specs.declared.kinds.Kinds.{Kinds}
use Rattle.net_ends.specs.declared.link.Reading.{Reading}
use Rattle.net_ends.specs.Counts.{Counts}
use Rattle.net_ends.specs.Told.{Told}

-- the peer that comes next to a door of memory, what its link tells, and which kinds of calls on that are due to fail
pub record Coming : Type 0 where
  pub peer : Endpoint
  pub link : Told
  pub due : Option Kinds

-- The local endpoint of a door, and the peers that it has given, where it tells. A door of memory tells more: who comes next, or
-- that nobody does, and that none of its accepts fails any more.
pub record DoorTold : Type 0 where
  pub local : Endpoint
  pub peers : Option (List Endpoint)
  pub next : Option (Option Coming)
  pub unfailing : Bool

-- what was told, with one more
abbrev pub with_one : {A : Type 0} → Option (List A) → A → Option (List A)
with_one None item = None
with_one (Some items) item = Some (items ++ item ∷ [])

-- what an answer to an accept leaves: only a peer that was given changes what is told, and then who comes next
abbrev pub after_accept : {L : Type 0} → DoorTold → Accepting L → Option (Option Coming) → DoorTold
after_accept told (Accepting.Got link peer) next = record told { peers = with_one told.peers peer; next = next }
after_accept told Accepting.NotYet next = told
after_accept told Accepting.Failed next = told

-- which answers an accept may give: where it tells who comes next, that peer with that link, and NotYet where nobody does
abbrev pub MayAccept : {L : Type 0} → (L → Told) → (L → Counts) → DoorTold → Accepting L → Type 0
MayAccept told counts door (Accepting.Got link peer) = (next : Option Coming) → door.next ≡ Some next → next ≡ Some (record { peer = peer; link = told link; due = (counts link).due })
MayAccept told counts door Accepting.NotYet = (next : Option Coming) → door.next ≡ Some next → next ≡ None
MayAccept told counts door Accepting.Failed = door.unfailing ≡ false

-- an accept, as a read that gave one peer: it counts as one
abbrev pub as_read : {L : Type 0} → Accepting L → Reading
as_read (Accepting.Got link peer) = Reading.Got 1
as_read Accepting.NotYet = Reading.NotYet
as_read Accepting.Failed = Reading.Failed

-- a fact on the link that came with a peer
abbrev pub IfCame : {L : Type 0} → Accepting L → (L → Type 0) → Type 0
IfCame (Accepting.Got link peer) p = p link
IfCame Accepting.NotYet p = Unit {0}
IfCame Accepting.Failed p = Unit {0}

-- it has given no peer yet, where it tells
abbrev pub IsFreshDoor : DoorTold → Type 0
IsFreshDoor told = (peers : List Endpoint) → told.peers ≡ Some peers → peers ≡ []
