-- A dial that gave no link.
use Rattle.std.proofs.Common.{◌≡◌, Some}
use Rattle.addr_pattern.specs.declared.endpoint.Endpoint.{Endpoint}
use Rattle.net_ends.specs.Counts.{Counts}
use Rattle.net_ends.specs.Nets.{DialCause, DialOutcome, NetTold, Plan, dialled}
use Rattle.net_ends.specs.Told.{Told}
use Rattle.socks_machine.specs.declared.cause.Cause.{Cause}
use Rattle.connect_core.specs.declared.dial.Reached.{Reached}
use Rattle.connect_core.specs.Reaching.{Reaches, cause_of}

-- it is answered with the cause of its outcome
pub reaches-failed : {L : Type 0} (told : L → Told) (counts : L → Counts) (old new : NetTold) (to : Endpoint) (outcome : DialOutcome) (cause : Cause) → cause_of outcome ≡ Some cause
    → new.dials ≡ dialled old.dials (record { to = to; outcome = outcome }) → ((plan : Plan) → old.plan ≡ Some plan → outcome ≡ plan.outcome) → DialCause old.counts new.counts outcome
    → Reaches told counts old new to (Reached.Failed cause)
reaches-failed told counts old new to outcome cause is dials planned rose = record {
  outcome = outcome;
  dials = dials;
  answer = is;
  planned = planned;
  link = λ plan e. tt;
  due' = λ plan e. tt;
  cause = rose;
}
