-- What a caller tells of its calls, and of the wire that came back.
use Rattle.std.specs.Prelude.{◌≡◌, ◌≤◌, ℕ, Bool, Option, Some, None, List, [], ◌∷◌, ◌++◌}
use Rattle.addr_pattern.specs.declared.endpoint.Endpoint.{Endpoint}
use Rattle.net_ends.specs.declared.caller.Calling.{Calling}
use Rattle.net_ends.specs.Counts.{Counts, Rose}
use Rattle.net_ends.specs.Told.{Told, IsFresh}

-- how a call came out
pub data CallOutcome : Type 0 where
  CameUp : CallOutcome
  WasRefused : CallOutcome
  NoHost : CallOutcome
  NoNet : CallOutcome
  Fault : CallOutcome

abbrev pub outcome_of_call : {W : Type 0} → Calling W → CallOutcome
outcome_of_call (Calling.Up wire) = CameUp
outcome_of_call Calling.Refused = WasRefused
outcome_of_call Calling.HostUnreachable = NoHost
outcome_of_call Calling.NetUnreachable = NoNet
outcome_of_call Calling.Failed = Fault

-- a call, with its outcome
pub record Call : Type 0 where
  pub to : Endpoint
  pub outcome : CallOutcome

-- what a caller of memory tells of its next call: its outcome, and what the wire tells that it gives
pub record PlannedCall : Type 0 where
  pub outcome : CallOutcome
  pub wire : Told

-- of a wire that came back: how often it failed, whether it has answered its end, and what it has given and taken, where it
-- tells
pub record Returned : Type 0 where
  pub faults : ℕ
  pub ended : Bool
  pub given : Option (List ℕ)
  pub taken : Option (List ℕ)

abbrev pub returned_of : Told → Counts → Returned
returned_of told counts = record { faults = counts.faults; ended = told.ended; given = told.given; taken = told.taken }

-- the calls so far and the plan of the next, where it tells, and the wire that came back last, if any did
pub record CallerTold : Type 0 where
  pub calls : Option (List Call)
  pub plan : Option PlannedCall
  pub returned : Option Returned

abbrev pub called : Option (List Call) → Call → Option (List Call)
called None call = None
called (Some calls) call = Some (calls ++ call ∷ [])

-- how often each failure was answered
pub record CallCounts : Type 0 where
  pub refused : ℕ
  pub no_host : ℕ
  pub no_net : ℕ
  pub faults : ℕ

-- no count fell
pub record CallsLater (old new : CallCounts) : Type 0 where
  pub refused : old.refused ≤ new.refused
  pub no_host : old.no_host ≤ new.no_host
  pub no_net : old.no_net ≤ new.no_net
  pub faults : old.faults ≤ new.faults

-- the count that an outcome names rose
abbrev pub CallCause : CallCounts → CallCounts → CallOutcome → Type 0
CallCause old new CameUp = Unit {0}
CallCause old new WasRefused = Rose old.refused new.refused
CallCause old new NoHost = Rose old.no_host new.no_host
CallCause old new NoNet = Rose old.no_net new.no_net
CallCause old new Fault = Rose old.faults new.faults

abbrev pub IfCalled : {W : Type 0} → Calling W → (W → Type 0) → Type 0
IfCalled (Calling.Up wire) p = p wire
IfCalled Calling.Refused p = Unit {0}
IfCalled Calling.HostUnreachable p = Unit {0}
IfCalled Calling.NetUnreachable p = Unit {0}
IfCalled Calling.Failed p = Unit {0}

-- a wire that has given and taken nothing yet, where it tells, has not ended and never failed
pub record IsNewWire (told : Told) (counts : Counts) : Type 0 where
  pub fresh : IsFresh told
  pub faultless : counts.faults ≡ 0

-- the call came out as planned
pub record CallsAsPlanned {W : Type 0} (told : W → Told) (plan : PlannedCall) (calling : Calling W) : Type 0 where
  pub outcome : outcome_of_call calling ≡ plan.outcome
  pub wire : IfCalled calling (λ wire. told wire ≡ plan.wire)

-- a call that gave no wire leaves the plan as it was
abbrev pub KeepsPlannedCall : {W : Type 0} → Calling W → Option PlannedCall → Option PlannedCall → Type 0
KeepsPlannedCall (Calling.Up wire) old new = Unit {0}
KeepsPlannedCall Calling.Refused old new = new ≡ old
KeepsPlannedCall Calling.HostUnreachable old new = new ≡ old
KeepsPlannedCall Calling.NetUnreachable old new = new ≡ old
KeepsPlannedCall Calling.Failed old new = new ≡ old
