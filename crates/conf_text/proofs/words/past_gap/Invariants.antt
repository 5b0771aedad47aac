use Rattle.std.proofs.Common.{◌≡◌, ◌≤◌, ◌+◌, drop}
use Rattle.conf_text.specs.Words.{words_from}
use Rattle.conf_text.proofs.Scanning.{words_in}
use Rattle.conf_text.proofs.words.past_gap.Given as goal

abbrev pub invariant-loop-i : goal.invariant-loop-i
invariant-loop-i l = record {
  same : words_from l.fn.from.line l.text ≡ words_in l.line l.comment (drop l.i l.text);
  room : l.line ≤ l.fn.from.line + l.i;
}
