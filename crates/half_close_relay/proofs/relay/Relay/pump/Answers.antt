use Rattle.std.proofs.Common.{refl, arith}
use Rattle.half_close_relay.proofs.Going.{starts, leaves, falls, halts, rests, either}
use Rattle.half_close_relay.proofs.relay.Relay.pump.Goals as goal

pub loop-took-init : goal.loop-took-init
loop-took-init g c = starts _ _ _ _ _ (omega (arith, c.requires))

pub returns-in-Err-clause-pumps : goal.returns-in-Err-clause-pumps
returns-in-Err-clause-pumps g c = halts _ _ _ _ _ _ _ _ _ _ _ _ _ c.loop-took.invariant c.in-Err.ensures

pub loop-took-smaller : goal.loop-took-smaller
loop-took-smaller g c = falls _ _ _ _ _ _ _ _ _ c.in-Ok.ensures c.else-took-eq0.either

pub loop-took-preserved : goal.loop-took-preserved
loop-took-preserved g c = leaves _ _ _ _ _ _ _ _ _ _ _ _ _ c.loop-took.invariant c.in-Ok.ensures

pub returns-then-is_through-clause-pumps : goal.returns-then-is_through-clause-pumps
returns-then-is_through-clause-pumps g c =
    rests _ _ _ _ _ _ _ _ _ _ _ _ _ _ c.loop-took.invariant c.in-Ok.ensures c.if-took-eq0.true c.if-took-eq0-2.true (λ rest. c.is_through.ensures.0 c.if-is_through.true) (refl, refl)

pub returns-then-left-eq0-clause-pumps : goal.returns-then-left-eq0-clause-pumps
returns-then-left-eq0-clause-pumps g c =
    rests _ _ _ _ _ _ _ _ _ _ _ _ _ _ c.loop-took.invariant c.in-Ok.ensures c.if-took-eq0.true c.if-took-eq0-2.true (λ rest. (rest, either c.then-left-eq0.either)) (refl, refl)

pub returns-clause-pumps : goal.returns-clause-pumps
returns-clause-pumps g c =
    rests _ _ _ _ _ _ _ _ _ _ _ _ _ _ c.loop-took.invariant c.in-Ok.ensures c.if-took-eq0.true c.if-took-eq0-2.true (λ rest. (rest, omega (arith, c.if-left-eq0.false), omega (arith, c.if-left-eq0-2.false))) (refl, refl)
