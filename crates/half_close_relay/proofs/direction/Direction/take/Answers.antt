use Rattle.std.proofs.Common.{refl, arith}
use Rattle.half_close_relay.proofs.Tryings.{read-undue}
use Rattle.half_close_relay.proofs.Pieces.{unread, stops, unmoved, ends-here, gives-same, gives-none, still-open}
use Rattle.half_close_relay.proofs.direction.Direction.take.Goals as goal

pub returns-then-self : goal.returns-then-self
returns-then-self g c = rw (← c.self.view_is) (unread _ _ _ c.then-self.either)

pub returns-then-is_err : goal.returns-then-is_err
returns-then-is_err g c = rw (← c.self.view_is)
    (stops _ _ _ _ _ _ c.reserve.ensures.items (gives-none _) (unmoved _ _ c.if-self.false (still-open _ _ c.self.invariant c.if-self.false) (omega (arith, c.if-left-eq0.false)), refl))

pub returns-in-End : goal.returns-in-End
returns-in-End g c = rw (← c.self.view_is) (ends-here _ _ _ _ _ c.reserve.ensures.items c.if-self.false (omega (arith, c.if-left-eq0.false)) c.in-End.ensures.told c.in-End.ensures.later c.in-End.ensures.tried c.in-End.ensures.arrived)

pub returns-in-NotYet : goal.returns-in-NotYet
returns-in-NotYet g c = rw (← c.self.view_is)
    (stops _ _ _ _ _ _ c.reserve.ensures.items (gives-same _ _ _ c.in-NotYet.ensures.told c.in-NotYet.ensures.later c.in-NotYet.ensures.tried) (refl, λ z. record { idle = λ e some. (c.in-NotYet.ensures.arrived, c.in-NotYet.ensures.cause, read-undue c.in-NotYet.ensures.tried) }))

pub returns-in-Failed : goal.returns-in-Failed
returns-in-Failed g c = rw (← c.self.view_is)
    (stops _ _ _ _ _ _ c.reserve.ensures.items (gives-same _ _ _ c.in-Failed.ensures.told c.in-Failed.ensures.later c.in-Failed.ensures.tried) (record { rose = c.in-Failed.ensures.cause; allowed = c.in-Failed.ensures.answer }, unmoved _ _ c.if-self.false (still-open _ _ c.self.invariant c.if-self.false) (omega (arith, c.if-left-eq0.false))))
