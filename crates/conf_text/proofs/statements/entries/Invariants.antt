use Rattle.std.proofs.Common.{◌≤◌, ◌++◌, List, length}
use Rattle.conf_text.specs.declared.statement.Entry.{Entry}
use Rattle.conf_text.specs.Words.{Word}
use Rattle.conf_text.specs.Tokens.{left}
use Rattle.conf_text.specs.Statements.{Entries}
use Rattle.conf_text.proofs.statements.entries.Given as goal

-- whatever entries come next, they stand behind those that were read
abbrev pub invariant-loop-line : goal.invariant-loop-line
invariant-loop-line l = record {
  so_far : (more : List Entry) (rest : List Word) → Entries (left l.words) more rest → Entries (left l.initial.words) (l.entries ++ more) rest;
  within : length l.words.rest.now ≤ length l.initial.words.rest.now;
}

abbrev pub decreases-loop-line : goal.decreases-loop-line
decreases-loop-line l = length l.words.rest.now
