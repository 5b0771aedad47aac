-- What each phase says of a record.
use Rattle.std.specs.Prelude.{ℕ, ◌≡◌, true, false, Some, None, is_some}
use Rattle.addr_pattern.specs.declared.host.Host.{Host}
use Rattle.socks_machine.specs.declared.record.Record.{Record}
use Rattle.socks_machine.specs.Decisions.{Opening, Grant, opened, granted, reached}
use Rattle.socks_grammar.specs.Handshake.{Request, Split}
use Rattle.socks_machine.specs.Phase.{Phase, phase_in}
use Rattle.socks_machine.specs.View.{View}

-- neither done, nor with a cause
pub record IsGoing (r : Record) : Type 0 where
  pub undone : r.done ≡ false
  pub uncaused : is_some r.cause ≡ false

-- and with a whole request behind an open
pub record HasAsked (v : View) (r : Record) (q : Request) : Type 0 where
  pub going : IsGoing r
  pub opening : Opening
  pub opened' : opened r.decisions ≡ Some opening
  pub length' : ℕ
  pub whole : v.split ≡ Split.Whole q length'

-- and granted
pub record IsGranted (v : View) (r : Record) (g : Grant) : Type 0 where
  pub request : Request
  pub asked : HasAsked v r request
  pub granted' : granted r.decisions ≡ Some g

-- and reached
pub record HasReached (v : View) (r : Record) : Type 0 where
  pub grant : Grant
  pub granted' : IsGranted v r grant
  pub reached' : is_some (reached r.decisions) ≡ true

abbrev pub PhaseFacts : View → Record → Phase → Type 0
PhaseFacts v r Phase.Ended = r.done ≡ true
PhaseFacts v r Phase.Closing = is_some r.cause ≡ true
PhaseFacts v r Phase.Accept = IsGoing r × (opened r.decisions ≡ None)
PhaseFacts v r Phase.Talk = IsGoing r
PhaseFacts v r (Phase.Seek name) = (q : Request) × HasAsked v r q × (q.host ≡ Host.Name name)
PhaseFacts v r (Phase.Judging q) = HasAsked v r q × (granted r.decisions ≡ None)
PhaseFacts v r (Phase.Reach g) = IsGranted v r g × (is_some (reached r.decisions) ≡ false)
PhaseFacts v r Phase.Asking = HasReached v r
PhaseFacts v r (Phase.Door g) = IsGranted v r g × (is_some (reached r.decisions) ≡ true)
PhaseFacts v r Phase.Relay = HasReached v r
PhaseFacts v r Phase.Datagrams = HasReached v r

abbrev pub PhaseSays : Type 0
PhaseSays = (v : View) (r : Record) → PhaseFacts v r (phase_in v r)
