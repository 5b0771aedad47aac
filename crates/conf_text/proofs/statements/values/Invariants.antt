use Rattle.std.proofs.Common.{◌≤◌, ◌++◌, ℕ, List, length}
use Rattle.conf_text.specs.Words.{Word}
use Rattle.conf_text.specs.Tokens.{left}
use Rattle.conf_text.specs.Statements.{Values}
use Rattle.conf_text.proofs.statements.values.Given as goal

-- whatever values come next, they stand behind those that were read
abbrev pub invariant-loop-text : goal.invariant-loop-text
invariant-loop-text l = record {
  so_far : (texts : List (List ℕ)) (rest : List Word) → Values l.reach (left l.words) texts rest → Values l.reach (left l.initial.words) (l.values ++ texts) rest;
  within : length l.words.rest.now ≤ length l.initial.words.rest.now;
}

abbrev pub decreases-loop-text : goal.decreases-loop-text
decreases-loop-text l = length l.words.rest.now
