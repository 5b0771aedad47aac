-- An association between two turns, and the record that it stands for over what is published.
use Rattle.std.specs.Prelude.{ℕ, ◌≡◌, ◌≤◌, Bool, true, false, Option, Some, None, List, [], length, IfSome, option_and_then}
use mathlib.Core.List.{IsPrefix}
use Rattle.net_ends.specs.Told.{Told, Arrival}
use Rattle.addr_pattern.specs.declared.endpoint.Endpoint.{Endpoint}
use Rattle.socks_grammar.specs.declared.protocol.Command.{Command}
use Rattle.socks_grammar.specs.declared.user.User.{User}
use Rattle.socks_machine.specs.declared.record.Decision.{Decision}
use Rattle.socks_machine.specs.declared.record.Record.{Record}
use Rattle.socks_machine.specs.Basis.{Basis}
use Rattle.socks_machine.specs.Decisions.{Grant, granted, reached_at}
use Rattle.socks_machine.specs.Inputs.{is_served_input}
use Rattle.socks_machine.specs.View.{proxy_of_grant}
use Rattle.assoc_core.specs.declared.assoc.Assoc.{Assoc}
use Rattle.assoc_core.specs.Plain.{IsPlainRecord}

-- a link that has given and taken this, where it tells
pub record Holds (told : Told) (given taken : List ℕ) (ended shut : Bool) : Type 0 where
  pub given' : (x : List ℕ) → told.given ≡ Some x → x ≡ given
  pub taken' : (x : List ℕ) → told.taken ≡ Some x → x ≡ taken
  pub ended' : told.ended ≡ ended
  pub shut' : told.shut ≡ shut

-- its end was read only behind all that arrived
abbrev pub EndsBehind : Told → Type 0
EndsBehind told = (arrival : Arrival) (given : List ℕ) → told.arrived ≡ Some arrival → told.given ≡ Some given → told.ended ≡ true → (given ≡ arrival.bytes) × (arrival.ends ≡ true)

-- what it gave is the first of what arrived
abbrev pub GivesFirst : Told → Type 0
GivesFirst told = (arrival : Arrival) (given : List ℕ) → told.arrived ≡ Some arrival → told.given ≡ Some given → IsPrefix given arrival.bytes

-- the target's link is there exactly where the target was reached
abbrev pub HoldsTarget : {L : Type 0} → (L → Told) → Record → Option L → Type 0
HoldsTarget told r None = (reached_at r.decisions ≡ None) × (r.t ≡ []) × (r.sent_t ≡ []) × (r.end_t ≡ false)
HoldsTarget told r (Some link) = ((at : Endpoint) × (reached_at r.decisions ≡ Some at)) × Holds (told link) r.t r.sent_t r.end_t r.shut_t × EndsBehind (told link) × GivesFirst (told link)

-- it tells what has arrived, and that is served
pub record TellsServed (users : List User) (told : Told) : Type 0 where
  pub arrival : Arrival
  pub given : List ℕ
  pub arrived' : told.arrived ≡ Some arrival
  pub given' : told.given ≡ Some given
  pub served : is_served_input users arrival.bytes ≡ true

-- a CONNECT was granted, or nothing was, and then nothing was reached
abbrev pub IsConnect : Option Grant → Option Endpoint → Type 0
IsConnect None at = at ≡ None
IsConnect (Some g) at = g.facts.command ≡ Command.Connect

-- the grant, where there is one, is of a published configuration, and the route that it keeps leads to no proxy there
pub record GoesDirect (basis : Basis) (ds : List Decision) : Type 0 where
  pub direct : option_and_then (proxy_of_grant basis) (granted ds) ≡ None
  pub known : IfSome (granted ds) (λ g. g.generation ≤ length basis.pubs)
  pub connects : IsConnect (granted ds) (reached_at ds)

-- the association stands for its record
pub record Stands {L : Type 0} (told : L → Told) (basis : Basis) (a : Assoc L) : Type 0 where
  pub plain : IsPlainRecord basis.users a.state
  pub direct : GoesDirect basis (a.state).decisions
  pub client : Holds (told a.client) a.state.c a.state.sent_c a.state.end_c a.state.shut_c
  pub client_ends : EndsBehind (told a.client)
  pub client_first : GivesFirst (told a.client)
  pub target : HoldsTarget told a.state a.target
