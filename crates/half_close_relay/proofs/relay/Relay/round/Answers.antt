use Rattle.half_close_relay.proofs.Rounding.{rounds-up, rounds-down, rounds-both}
use Rattle.half_close_relay.proofs.relay.Relay.round.Goals as goal

pub returns-in-Err : goal.returns-in-Err
returns-in-Err g c = rw (← c.self.view_is) (rounds-up _ _ _ _ _ _ _ _ _ _ c.answer.ensures c.in-Err.ensures)

pub returns-in-Err-carry : goal.returns-in-Err-carry
returns-in-Err-carry g c = rw (← c.self.view_is) (rounds-down _ _ _ _ _ _ _ _ _ _ _ _ _ _ c.answer-in-Err-carry.ensures c.in-Ok.ensures c.in-Err-carry.ensures)

pub returns : goal.returns
returns g c = rw (← c.self.view_is) (rounds-both _ _ _ _ _ _ _ _ _ _ _ _ _ c.in-Ok.ensures c.in-Ok-carry.ensures)
