-- What a port tells of the datagrams that it gave and took, and how an answer changes that.
use Rattle.std.specs.Prelude.{◌≡◌, ◌≤◌, ◌-◌, ◌&&◌, ℕ, Bool, true, false, nat_le, nat_lt, Option, Some, None, List, [], ◌∷◌, take, length, option_map}
use mathlib.Core.List.{IsPrefix}
use Rattle.addr_pattern.specs.declared.endpoint.Endpoint.{Endpoint}
use Rattle.net_ends.specs.declared.datagram.Datagram.{Datagram}
use Rattle.net_ends.specs.declared.link.Reading.{Reading}
use Rattle.net_ends.specs.declared.link.Writing.{Writing}
use Rattle.net_ends.specs.declared.port.Receiving.{Receiving}
use Rattle.net_ends.specs.declared.port.Sending.{Sending}
use Rattle.net_ends.specs.Doors.{with_one}

-- how many more datagrams a port can take, and how many bytes in these
pub record PortRoom : Type 0 where
  pub datagrams : ℕ
  pub bytes : ℕ

abbrev pub has_room : PortRoom → ℕ → Bool
has_room room len = nat_lt 0 room.datagrams && nat_le len room.bytes

abbrev pub room_behind : ℕ → PortRoom → PortRoom
room_behind len room = record { datagrams = room.datagrams - 1; bytes = room.bytes - len }

-- The local endpoint of a port, and the datagrams that it has given and taken, where it tells. A port of memory tells more: which
-- have arrived, given or not, how much more it can take, and that none of its calls fails any more.
pub record PortTold : Type 0 where
  pub local : Endpoint
  pub given : Option (List Datagram)
  pub taken : Option (List Datagram)
  pub arrived : Option (List Datagram)
  pub room : Option PortRoom
  pub unfailing : Bool

-- what an answer to a receive leaves, of which the buffer's first bytes are those of the datagram that it gave
abbrev pub after_receive : PortTold → Receiving → List ℕ → PortTold
after_receive told (Receiving.Got len from) buffer = record told { given = with_one told.given (record { peer = from; bytes = take len buffer }) }
after_receive told Receiving.NotYet buffer = told
after_receive told Receiving.Failed buffer = told

abbrev pub after_send : PortTold → Sending → Endpoint → List ℕ → PortTold
after_send told Sending.Took to bytes = record told { taken = with_one told.taken (record { peer = to; bytes = bytes }); room = option_map (room_behind (length bytes)) told.room }
after_send told Sending.NotYet to bytes = told
after_send told Sending.Failed to bytes = told

-- which answers a receive may give
abbrev pub MayReceive : PortTold → Receiving → Type 0
MayReceive told (Receiving.Got len from) = len ≤ 65535
MayReceive told Receiving.NotYet = Unit {0}
MayReceive told Receiving.Failed = told.unfailing ≡ false

-- a datagram of that many bytes is taken where there is room for it, and none where there isn't
abbrev pub MaySend : PortTold → ℕ → Sending → Type 0
MaySend told len Sending.Took = (room : PortRoom) → told.room ≡ Some room → has_room room len ≡ true
MaySend told len Sending.NotYet = (room : PortRoom) → told.room ≡ Some room → has_room room len ≡ false
MaySend told len Sending.Failed = told.unfailing ≡ false

-- where it tells what has arrived: it gives the next datagram of that, and it answers NotYet only behind all of it
abbrev pub AreGivenFrom : List Datagram → List Datagram → Receiving → Type 0
AreGivenFrom arrived given (Receiving.Got len from) = IsPrefix given arrived
AreGivenFrom arrived given Receiving.NotYet = given ≡ arrived
AreGivenFrom arrived given Receiving.Failed = Unit {0}

abbrev pub GivesDatagrams : PortTold → Receiving → Type 0
GivesDatagrams new answer = (arrived given : List Datagram) → new.arrived ≡ Some arrived → new.given ≡ Some given → AreGivenFrom arrived given answer

-- a receive, as a read that gave one datagram, and a send, as a write that took one: they count as these
abbrev pub as_read : Receiving → Reading
as_read (Receiving.Got len from) = Reading.Got 1
as_read Receiving.NotYet = Reading.NotYet
as_read Receiving.Failed = Reading.Failed

abbrev pub as_write : Sending → Writing
as_write Sending.Took = Writing.Took 1
as_write Sending.NotYet = Writing.NotYet
as_write Sending.Failed = Writing.Failed

-- it has given and taken nothing yet, where it tells
pub record IsFreshPort (told : PortTold) : Type 0 where
  pub given : (datagrams : List Datagram) → told.given ≡ Some datagrams → datagrams ≡ []
  pub taken : (datagrams : List Datagram) → told.taken ≡ Some datagrams → datagrams ≡ []
