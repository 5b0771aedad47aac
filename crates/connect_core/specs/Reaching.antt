-- One dial, and what it is answered with.
use Rattle.std.specs.Prelude.{◌≡◌, Option, Some, None}
use Rattle.addr_pattern.specs.declared.endpoint.Endpoint.{Endpoint}
use Rattle.net_ends.specs.Counts.{Counts}
use Rattle.net_ends.specs.Nets.{DialCause, DialOutcome, NetTold, Plan, dialled}
use Rattle.net_ends.specs.Told.{Told}
use Rattle.socks_machine.specs.declared.cause.Cause.{Cause}
use Rattle.connect_core.specs.declared.dial.Reached.{Reached}

-- why a dial gave no link
abbrev pub cause_of : DialOutcome → Option Cause
cause_of (DialOutcome.CameUp local) = None
cause_of DialOutcome.WasRefused = Some Cause.Refused
cause_of DialOutcome.NoHost = Some Cause.HostUnreachable
cause_of DialOutcome.NoNet = Some Cause.NetUnreachable
cause_of DialOutcome.Fault = Some Cause.NetFault

-- the answer to a dial that came out so: the local endpoint of its link, or the cause
abbrev pub IsAnswer : {L : Type 0} → DialOutcome → Reached L → Type 0
IsAnswer outcome (Reached.Up link local) = outcome ≡ DialOutcome.CameUp local
IsAnswer outcome (Reached.Failed cause) = cause_of outcome ≡ Some cause

-- a fact on the link, where one came up
abbrev pub IfReached : {L : Type 0} → Reached L → (L → Type 0) → Type 0
IfReached (Reached.Up link local) p = p link
IfReached (Reached.Failed cause) p = Unit {0}

-- a fact where no link came up
abbrev pub OnFailed : {L : Type 0} → Reached L → Type 0 → Type 0
OnFailed (Reached.Up link local) p = Unit {0}
OnFailed (Reached.Failed cause) p = p

-- One dial of that endpoint, which came out as it is answered. Where the net tells its plan it came out so, and the link is the
-- planned one, of which the same calls are due to fail. It failed only where the count of that failure rose.
pub record Reaches {L : Type 0} (told : L → Told) (counts : L → Counts) (old new : NetTold) (to : Endpoint) (reached : Reached L) : Type 0 where
  pub outcome : DialOutcome
  pub dials : new.dials ≡ dialled old.dials (record { to = to; outcome = outcome })
  pub answer : IsAnswer outcome reached
  pub planned : (plan : Plan) → old.plan ≡ Some plan → outcome ≡ plan.outcome
  pub link : (plan : Plan) → old.plan ≡ Some plan → IfReached reached (λ link. told link ≡ plan.link)
  pub due' : (plan : Plan) → old.plan ≡ Some plan → IfReached reached (λ link. (counts link).due ≡ plan.due)
  pub cause : DialCause old.counts new.counts outcome
