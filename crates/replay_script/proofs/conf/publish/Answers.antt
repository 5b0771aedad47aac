use Rattle.replay_script.specs.Conf.{publish_word}
use Rattle.replay_script.specs.Counted.{Counts}
use Rattle.replay_script.proofs.Publishing.{unserved}
use Rattle.replay_script.proofs.RefusedTexts.{config_refused}
use Rattle.replay_script.proofs.conf.publish.Goals as goal

pub returns-clause-read : goal.returns-clause-read
returns-clause-read c =
    let found : Counts publish_word c.args.text.now c.in-Some.counted.now c.in-Some.lines c.in-Some.behind.now = rw c.in-Some.is at c.in_ok-counted.ensures in
    unserved c.args.text.now c.in-Some.counted.now c.in-Ok.config c.in-Some.lines c.in-Some.behind.now found c.in-Ok.ensures c.if-is_plain.ensures

pub returns-in-Err-clause-refused : goal.returns-in-Err-clause-refused
returns-in-Err-clause-refused c =
    let found : Counts publish_word c.args.text.now c.in-Some.counted.now c.in-Some.lines c.in-Some.behind.now = rw c.in-Some.is at c.in_ok-counted.ensures in
    config_refused c.args.text.now c.in-Err.fault c.from.result c.from.ensures (λ known. record {
      counted = c.in-Some.counted.now;
      lines = c.in-Some.lines;
      behind = c.in-Some.behind.now;
      publish = found;
      faulty = c.in-Err.ensures;
      known = known;
    })
