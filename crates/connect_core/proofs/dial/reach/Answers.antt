use Rattle.std.proofs.Common.{refl}
use Rattle.net_ends.specs.Nets.{DialOutcome}
use Rattle.connect_core.proofs.Failures.{reaches-failed}
use Rattle.connect_core.proofs.dial.reach.Goals as goal

pub returns-in-Refused-clause-dial : goal.returns-in-Refused-clause-dial
returns-in-Refused-clause-dial g c = reaches-failed _ _ _ _ _ DialOutcome.WasRefused _ refl c.in-Refused.ensures.told (λ plan e. (c.in-Refused.ensures.planned plan e).outcome) c.in-Refused.ensures.cause

pub returns-in-HostUnreachable-clause-dial : goal.returns-in-HostUnreachable-clause-dial
returns-in-HostUnreachable-clause-dial g c = reaches-failed _ _ _ _ _ DialOutcome.NoHost _ refl c.in-HostUnreachable.ensures.told (λ plan e. (c.in-HostUnreachable.ensures.planned plan e).outcome) c.in-HostUnreachable.ensures.cause

pub returns-in-NetUnreachable-clause-dial : goal.returns-in-NetUnreachable-clause-dial
returns-in-NetUnreachable-clause-dial g c = reaches-failed _ _ _ _ _ DialOutcome.NoNet _ refl c.in-NetUnreachable.ensures.told (λ plan e. (c.in-NetUnreachable.ensures.planned plan e).outcome) c.in-NetUnreachable.ensures.cause

pub returns-in-Failed-clause-dial : goal.returns-in-Failed-clause-dial
returns-in-Failed-clause-dial g c = reaches-failed _ _ _ _ _ DialOutcome.Fault _ refl c.in-Failed.ensures.told (λ plan e. (c.in-Failed.ensures.planned plan e).outcome) c.in-Failed.ensures.cause
