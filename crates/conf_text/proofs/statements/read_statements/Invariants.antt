use Rattle.std.proofs.Common.{◌++◌, List, length}
use Rattle.conf_text.specs.declared.statement.Statement.{Statement}
use Rattle.conf_text.specs.Words.{Word, words_from}
use Rattle.conf_text.specs.Tokens.{left}
use Rattle.conf_text.specs.Statements.{Statements}
use Rattle.conf_text.proofs.statements.read_statements.Given as goal

-- whatever statements come next, they stand behind those that were read
abbrev pub invariant-loop-statements : goal.invariant-loop-statements
invariant-loop-statements l =
    (more : List Statement) (rest : List Word) → Statements (left l.words) more rest → Statements (words_from 1 l.text) (l.statements ++ more) rest

abbrev pub decreases-loop-statements : goal.decreases-loop-statements
decreases-loop-statements l = length l.words.rest.now
