use Rattle.replay_run.proofs.Writing.{writes}
use Rattle.replay_run.proofs.turns.write_turn.Goals as goal

pub returns : goal.returns
returns c = writes c.args.generation c.args.before c.since-made.result c.of.result c.args.next.now c.record_of-left.result.now c.args.out.now c.show_turn.new.out c.mark_of-mark.result c.is_still.result
    c.record_of-left.ensures c.of.ensures
    (record { took_c = c.since-made.ensures.took_c; took_t = c.since-made.ensures.took_t; sent_c = c.since-made.ensures.sent_c; sent_t = c.since-made.ensures.sent_t })
    c.mark_of-mark.ensures c.is_still.ensures c.in_ok-show_turn.ensures
