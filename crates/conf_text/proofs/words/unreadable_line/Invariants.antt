use Rattle.std.proofs.Common.{◌≡◌, ◌≤◌, ◌+◌, drop}
use Rattle.conf_text.specs.Words.{unreadable_from}
use Rattle.conf_text.proofs.Scanning.{unreadable_in}
use Rattle.conf_text.proofs.words.unreadable_line.Given as goal

abbrev pub invariant-loop-byte : goal.invariant-loop-byte
invariant-loop-byte l = record {
  same : unreadable_from 1 l.text ≡ unreadable_in l.line l.comment (drop l.byte-index l.text);
  room : l.line ≤ 1 + l.byte-index;
}
