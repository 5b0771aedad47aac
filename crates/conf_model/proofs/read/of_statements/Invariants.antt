use Rattle.std.proofs.Common.{◌≡◌, drop}
use Rattle.conf_model.specs.Settings.{default, statements_onto}
use Rattle.conf_model.proofs.read.of_statements.Given as goal

abbrev pub invariant-loop-statement : goal.invariant-loop-statement
invariant-loop-statement l = statements_onto default l.statements ≡ statements_onto l.entries (drop l.statement-index l.statements)
