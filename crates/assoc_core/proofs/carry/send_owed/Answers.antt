use Rattle.std.proofs.Common.{length}
use Rattle.assoc_core.specs.declared.send.Sent.{Sent}
use Rattle.assoc_core.proofs.Courses.{if-ok}
use Rattle.assoc_core.proofs.Owing.{pieces-are, pieces-sent, piece-stopped}
use Rattle.assoc_core.proofs.carry.send_owed.Goals as goal

pub returns-in-All : goal.returns-in-All
returns-in-All g c =
    let cut = pieces-are c.args.due.now.front c.args.due.now.skip c.args.text.now _ _ _ (length c.args.sent.now) _ _ _ c.len.ensures c.front_left-front.ensures c.len-2.ensures c.past_front.ensures c.behind.ensures c.behind-rest.ensures in
    if-ok c.send_pending-in-All.result _ _ (λ outcome k. pieces-sent _ _ _ _ _ _ _ _ _ _ _ _ outcome cut (rw c.in-All.is at c.in_ok-send_pending.ensures) k) c.send_pending-in-All.ensures

pub returns-in-Full : goal.returns-in-Full
returns-in-Full g c =
    let cut = pieces-are c.args.due.now.front c.args.due.now.skip c.args.text.now _ _ _ (length c.args.sent.now) _ _ _ c.len.ensures c.front_left-front.ensures c.len-2.ensures c.past_front.ensures c.behind.ensures c.behind-rest.ensures in
    piece-stopped _ _ _ _ _ _ _ _ _ Sent.Full cut (λ e. cc) (rw c.in-Full.is at c.in_ok-send_pending.ensures)

pub returns-in-Failed : goal.returns-in-Failed
returns-in-Failed g c =
    let cut = pieces-are c.args.due.now.front c.args.due.now.skip c.args.text.now _ _ _ (length c.args.sent.now) _ _ _ c.len.ensures c.front_left-front.ensures c.len-2.ensures c.past_front.ensures c.behind.ensures c.behind-rest.ensures in
    piece-stopped _ _ _ _ _ _ _ _ _ Sent.Failed cut (λ e. cc) (rw c.in-Failed.is at c.in_ok-send_pending.ensures)
