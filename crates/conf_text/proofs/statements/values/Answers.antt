use Rattle.conf_text.specs.Tokens.{left}
use Rattle.conf_text.proofs.Joining.{values_end}
use Rattle.conf_text.proofs.statements.values.Goals as goal

pub returns-clause-read : goal.returns-clause-read
returns-clause-read c =
    values_end c.args.reach (left c.args.words.now) (left c.loop-text.words) c.loop-text.values c.loop-text.invariant.so_far c.in_default.ensures.read
