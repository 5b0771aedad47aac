use Rattle.assoc_core.proofs.Owing.{few-wait, many-wait, room-was, room-failed, room-made, room-full}
use Rattle.assoc_core.proofs.carry.make_room.Goals as goal

pub returns-then-waiting-lt-PIECE : goal.returns-then-waiting-lt-PIECE
returns-then-waiting-lt-PIECE g c = room-was _ _ _ _ _ _ (few-wait c.args.due.now.front c.args.due.now.skip c.args.text.now _ _ _ c.waiting.ensures c.len.ensures c.if-waiting-lt-PIECE.true)

pub returns-in-Failed : goal.returns-in-Failed
returns-in-Failed g c = room-failed _ _ _ _ _ _ _ _ _ (rw c.in-Failed.is at c.in_ok-outcome.ensures)

pub returns-then-waiting-lt-PIECE-2 : goal.returns-then-waiting-lt-PIECE-2
returns-then-waiting-lt-PIECE-2 g c = room-made _ _ _ _ _ _ _ _ _ _ c.in_ok-outcome.ensures c.in_default.not-Failed (few-wait c.args.due.now.front c.args.due.now.skip c.args.text.now _ _ _ c.waiting-2.ensures c.len-2.ensures c.if-waiting-lt-PIECE-2.true)

pub returns : goal.returns
returns g c = room-full _ _ _ _ _ _ _ _ _ _ c.in_ok-outcome.ensures c.in_default.not-Failed (many-wait c.args.due.now.front c.args.due.now.skip c.args.text.now _ _ _ c.waiting-2.ensures c.len-2.ensures c.if-waiting-lt-PIECE-2.false)
