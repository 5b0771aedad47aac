use Rattle.conf_model.proofs.Kept.KeptStatements.{answer-kept}
use Rattle.conf_model.proofs.Reading.{said-is-read}
use Rattle.conf_model.proofs.read.read_entries.Goals as goal

pub returns-clause-read : goal.returns-clause-read
returns-clause-read c = said-is-read c.args.text.now c.in-Ok.statements c.as_slice.result.now c.of_statements.result c.in-Ok.ensures c.as_slice.ensures c.of_statements.ensures.ok c.of_statements.ensures.err

pub returns-clause-kept : goal.returns-clause-kept
returns-clause-kept c = answer-kept c.args.text.now c.of_statements.result (said-is-read c.args.text.now c.in-Ok.statements c.as_slice.result.now c.of_statements.result c.in-Ok.ensures c.as_slice.ensures c.of_statements.ensures.ok c.of_statements.ensures.err)
