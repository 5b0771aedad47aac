-- The first peer that comes to a door, and what waiting for it is answered with.
use Rattle.std.specs.Prelude.{◌≡◌, ◌||◌, Bool, true, false, Option, Some, None}
use Rattle.addr_pattern.specs.declared.addr.Addr.{Addr}
use Rattle.addr_pattern.specs.declared.endpoint.Endpoint.{Endpoint}
use Rattle.addr_pattern.specs.Equal.{addr_eq, is_unspecified}
use Rattle.net_ends.specs.declared.link.Reading.{Reading}
use Rattle.net_ends.specs.Counts.{Counts, ReadCause}
use Rattle.net_ends.specs.Doors.{Coming, DoorTold, with_one}
use Rattle.net_ends.specs.Faults.{ReadTried}
use Rattle.net_ends.specs.Told.{Told}
use Rattle.bind_core.specs.declared.peer.Waited.{Waited}

-- a peer of this address is the one that was asked for; all zeros ask for any
abbrev pub is_asked : Addr → Endpoint → Bool
is_asked asked peer = is_unspecified asked || addr_eq peer.addr asked

-- the answer compares the address of the peer that came
abbrev pub IsCompared : {L : Type 0} → Addr → Waited L → Type 0
IsCompared asked (Waited.Peer link peer) = is_asked asked peer ≡ true
IsCompared asked (Waited.Wrong peer) = is_asked asked peer ≡ false
IsCompared asked Waited.NotYet = Unit {0}
IsCompared asked Waited.Failed = Unit {0}

-- one peer came, or none: only then does a door tell something new, and then who comes next
abbrev pub behind : {L : Type 0} → DoorTold → Waited L → Option (Option Coming) → DoorTold
behind told (Waited.Peer link peer) next = record told { peers = with_one told.peers peer; next = next }
behind told (Waited.Wrong peer) next = record told { peers = with_one told.peers peer; next = next }
behind told Waited.NotYet next = told
behind told Waited.Failed next = told

-- where the door tells who comes next, that peer came, with the link that it told, or nobody did
abbrev pub IsNext : {L : Type 0} → (L → Told) → (L → Counts) → Option Coming → Waited L → Type 0
IsNext told counts next (Waited.Peer link peer) = next ≡ Some (record { peer = peer; link = told link; due = (counts link).due })
IsNext told counts None (Waited.Wrong peer) = ⊥
IsNext told counts (Some coming) (Waited.Wrong peer) = coming.peer ≡ peer
IsNext told counts next Waited.NotYet = next ≡ None
IsNext told counts next Waited.Failed = Unit {0}

-- where it fails, the door may
abbrev pub MayFail : {L : Type 0} → DoorTold → Waited L → Type 0
MayFail told (Waited.Peer link peer) = Unit {0}
MayFail told (Waited.Wrong peer) = Unit {0}
MayFail told Waited.NotYet = Unit {0}
MayFail told Waited.Failed = told.unfailing ≡ false

-- the one accept, as a read that gave one peer
abbrev pub as_read : {L : Type 0} → Waited L → Reading
as_read (Waited.Peer link peer) = Reading.Got 1
as_read (Waited.Wrong peer) = Reading.Got 1
as_read Waited.NotYet = Reading.NotYet
as_read Waited.Failed = Reading.Failed

-- a fact on the link of the peer that was asked for
abbrev pub IfPeer : {L : Type 0} → Waited L → (L → Type 0) → Type 0
IfPeer (Waited.Peer link peer) p = p link
IfPeer (Waited.Wrong peer) p = Unit {0}
IfPeer Waited.NotYet p = Unit {0}
IfPeer Waited.Failed p = Unit {0}

-- One accept, of the first peer that comes, with its address compared. NotYet and a failure come only where the door's count of that
-- rose; where the door tells that an accept is due to fail, this one does, and it is then no longer due.
pub record Waits {L : Type 0} (told : L → Told) (counts : L → Counts) (old new : DoorTold) (before now : Counts) (asked : Addr) (waited : Waited L) : Type 0 where
  pub compared : IsCompared asked waited
  pub peers : new ≡ behind old waited new.next
  pub next : (coming : Option Coming) → old.next ≡ Some coming → IsNext told counts coming waited
  pub may_fail : MayFail old waited
  pub cause : ReadCause before now (as_read waited)
  pub tried : ReadTried before now (as_read waited)
