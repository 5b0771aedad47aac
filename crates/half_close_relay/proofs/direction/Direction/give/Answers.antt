use Rattle.std.proofs.Common.{◌<◌, ◌^◌, rules}
use Rattle.half_close_relay.specs.Ways.{Way}
use Rattle.half_close_relay.proofs.Carrying.{sent-some, sends-then, sends-full, sends-failed}
use Rattle.half_close_relay.proofs.direction.Direction.give.Goals as goal

pub returns-in-All : goal.returns-in-All
returns-in-All g c =
    let way : Way = record { waiting = c.self.inside.waiting.items; ended = c.self.inside.ended; shut = c.self.inside.shut; took = c.self.inside.took; sent = c.self.inside.sent } in
    let fits : c.self.inside.sent < 2 ^ 64 = search rules in
    let h = sent-some way _ _ _ _ _ _ _ c.as_slice.ensures.value c.drop_front.ensures c.send_all-n.ensures.within fits c.saturating_add-self-inside.ensures c.send_all-n.ensures.told c.send_all-n.ensures.later
    (rw c.in-All.is at c.send_all-n.ensures.tried) in
    rw (← c.self.view_is) (sends-then _ _ h.sent _ _ _ _ _ _ h.waiting' h.sum' h.takes c.close.ensures)

pub returns-in-Full : goal.returns-in-Full
returns-in-Full g c =
    let way : Way = record { waiting = c.self.inside.waiting.items; ended = c.self.inside.ended; shut = c.self.inside.shut; took = c.self.inside.took; sent = c.self.inside.sent } in
    let fits : c.self.inside.sent < 2 ^ 64 = search rules in
    let h = sent-some way _ _ _ _ _ _ _ c.as_slice.ensures.value c.drop_front.ensures c.send_all-n.ensures.within fits c.saturating_add-self-inside.ensures c.send_all-n.ensures.told c.send_all-n.ensures.later
    (rw c.in-Full.is at c.send_all-n.ensures.tried) in
    rw (← c.self.view_is) (sends-full way _ _ _ _ _ _ c.as_slice.ensures.value c.drop_front.ensures h (rw c.in-Full.is at c.send_all-n.ensures.ends))

pub returns-in-Failed : goal.returns-in-Failed
returns-in-Failed g c =
    let way : Way = record { waiting = c.self.inside.waiting.items; ended = c.self.inside.ended; shut = c.self.inside.shut; took = c.self.inside.took; sent = c.self.inside.sent } in
    let fits : c.self.inside.sent < 2 ^ 64 = search rules in
    let h = sent-some way _ _ _ _ _ _ _ c.as_slice.ensures.value c.drop_front.ensures c.send_all-n.ensures.within fits c.saturating_add-self-inside.ensures c.send_all-n.ensures.told c.send_all-n.ensures.later
    (rw c.in-Failed.is at c.send_all-n.ensures.tried) in
    rw (← c.self.view_is) (sends-failed way _ _ _ _ _ _ c.self.invariant c.as_slice.ensures.value c.drop_front.ensures c.send_all-n.ensures.within h (rw c.in-Failed.is at c.send_all-n.ensures.ends))
