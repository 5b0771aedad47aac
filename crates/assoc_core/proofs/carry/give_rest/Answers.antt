use Rattle.std.proofs.Common.{length}
use Rattle.assoc_core.proofs.Courses.{if-ok}
use Rattle.assoc_core.proofs.Owing.{pieces-are, pieces-given, piece-full, piece-failed, rest-kept}
use Rattle.assoc_core.proofs.carry.give_rest.Goals as goal

pub returns-in-Some : goal.returns-in-Some
returns-in-Some g c = rest-kept _ _ _ _ _ _ _ _ c.in-Some.is

pub returns-in-All : goal.returns-in-All
returns-in-All g c =
    let cut = pieces-are c.args.due.now.front c.args.due.now.skip c.args.text.now _ _ _ (length c.args.sent.now) _ _ _ c.len.ensures c.front_left-front.ensures c.len-2.ensures c.past_front.ensures c.behind.ensures c.behind-rest.ensures in
    if-ok c.give_to.result _ _ (λ give k. pieces-given _ _ _ _ _ _ _ _ _ _ _ _ _ _ _ _ give c.in_default.is cut (rw c.in-All.is at c.in_ok-send_pending.ensures) k) c.give_to.ensures

pub returns-in-Full : goal.returns-in-Full
returns-in-Full g c =
    let cut = pieces-are c.args.due.now.front c.args.due.now.skip c.args.text.now _ _ _ (length c.args.sent.now) _ _ _ c.len.ensures c.front_left-front.ensures c.len-2.ensures c.past_front.ensures c.behind.ensures c.behind-rest.ensures in
    piece-full _ _ _ _ _ _ _ _ _ _ _ _ c.in_default.is cut (rw c.in-Full.is at c.in_ok-send_pending.ensures)

pub returns-in-Failed : goal.returns-in-Failed
returns-in-Failed g c =
    let cut = pieces-are c.args.due.now.front c.args.due.now.skip c.args.text.now _ _ _ (length c.args.sent.now) _ _ _ c.len.ensures c.front_left-front.ensures c.len-2.ensures c.past_front.ensures c.behind.ensures c.behind-rest.ensures in
    piece-failed _ _ _ _ _ _ _ _ _ _ _ _ c.in_default.is cut (rw c.in-Failed.is at c.in_ok-send_pending.ensures)
