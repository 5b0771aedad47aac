use Rattle.std.proofs.Common.{List, sym, ◌∙◌, subst}
use Rattle.conf_text.specs.Words.{Word, words_from}
use Rattle.conf_text.specs.Tokens.{left}
use Rattle.conf_text.specs.Statements.{Statements, IsReadable}
use Rattle.conf_text.proofs.Joining.{statements_end, fault_behind, answer_fault}
use Rattle.conf_text.proofs.statements.read_statements.Goals as goal

pub returns-in_err-statement : goal.returns-in_err-statement
returns-in_err-statement c =
    let text = c.args.text.now in
    let all = statements_end (words_from 1 text) (left c.loop-statements.words) c.loop-statements.statements c.loop-statements.invariant in
    let plain : IsReadable text = record { small = c.if-text-gt1048576.false; readable = sym c.unreadable_line.ensures ∙ c.in_default.is } in
    answer_fault text c.in_err-statement.field-0.0 c.from_residual.result c.from_residual.ensures.1
    (fault_behind text c.loop-statements.statements (left c.loop-statements.words) (left c.statement.new.words) c.in_err-statement.field-0.0 plain all c.in_err-statement.ensures.read)

pub returns : goal.returns
returns c =
    let text = c.args.text.now in
    let all = statements_end (words_from 1 text) (left c.loop-statements.words) c.loop-statements.statements c.loop-statements.invariant in
    let none = rw c.in_default-2.is at c.in_ok-statement.ensures.read in
    record {
      plain = record { small = c.if-text-gt1048576.false; readable = sym c.unreadable_line.ensures ∙ c.in_default.is };
      said = subst (λ (z : List Word). Statements (words_from 1 text) c.loop-statements.statements z) none all;
    }
