use Rattle.std.proofs.Common.{refl}
use Rattle.replay_script.specs.Script.{header}
use Rattle.replay_script.proofs.Reading.{one_first}
use Rattle.replay_script.proofs.Serving.{read_served}
use Rattle.replay_script.proofs.script.read_script.Goals as goal

pub returns-then-not-same-clause-read : goal.returns-then-not-same-clause-read
returns-then-not-same-clause-read c = record {
  small = c.if-text-gt67108864.false;
  missing = λ behind h. c.if-not-same.ensures (one_first c.args.text.now c.in-Some.line.now header c.in-Some.behind.now behind c.in-Some.ensures.found h).0;
  number_is = refl;
}

pub returns-clause-served : goal.returns-clause-served
returns-clause-served c = read_served c.in-Some.behind.now c.read_lines.result c.read_lines.ensures
