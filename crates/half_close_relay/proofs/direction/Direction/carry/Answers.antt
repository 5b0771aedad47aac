use Rattle.std.proofs.lemmas.Result.{err_from_is_err_and}
use Rattle.half_close_relay.proofs.Carrying.{carries-halted, carries-on, carries-unsent}
use Rattle.half_close_relay.proofs.direction.Direction.carry.Goals as goal

pub returns-in_err-took : goal.returns-in_err-took
returns-in_err-took g c = let p = err_from_is_err_and c.from_residual.result c.from_residual.ensures.1 in rw (p.1, p.2) (carries-halted _ _ _ _ _ _ _ c.in_err-took.ensures)

pub returns-in_err-give : goal.returns-in_err-give
returns-in_err-give g c = let p = err_from_is_err_and c.from_residual-in_err-give.result c.from_residual-in_err-give.ensures.1 in
    rw (p.1, p.2) (carries-unsent _ _ _ _ _ _ _ _ _ _ c.in_ok-took.ensures c.in_err-give.ensures)

pub returns : goal.returns
returns g c = carries-on _ _ _ _ _ _ _ _ _ _ c.in_ok-took.ensures c.in_ok-give.ensures
