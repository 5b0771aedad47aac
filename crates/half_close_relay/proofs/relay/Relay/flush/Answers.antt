use Rattle.std.proofs.Common.{refl}
use Rattle.half_close_relay.proofs.Going.{flush-halts, flush-rests}
use Rattle.half_close_relay.proofs.relay.Relay.flush.Goals as goal

pub returns-in-Err-clause-flushes : goal.returns-in-Err-clause-flushes
returns-in-Err-clause-flushes g c = flush-halts _ _ _ _ _ _ _ c.in-Err.ensures

pub returns-then-is_through-clause-flushes : goal.returns-then-is_through-clause-flushes
returns-then-is_through-clause-flushes g c = flush-rests _ _ _ _ _ _ _ _ c.in_default.ensures (λ rest. c.is_through.ensures.0 c.if-is_through.true) (refl, refl)

pub returns-clause-flushes : goal.returns-clause-flushes
returns-clause-flushes g c = flush-rests _ _ _ _ _ _ _ _ c.in_default.ensures (λ rest. (rest.target_written, rest.client_written)) (refl, refl)
