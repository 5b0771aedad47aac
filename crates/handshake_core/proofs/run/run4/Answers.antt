use Rattle.std.proofs.Common.{◌∙◌, sym}
use Rattle.std.proofs.lemmas.List.{take_rest}
use Rattle.handshake_core.proofs.Running.{user-run-at, name-run-at}
use Rattle.handshake_core.proofs.run.run4.Goals as goal

pub overflow_sub-result : goal.overflow_sub-result
overflow_sub-result c = (user-run-at c.args.message.now _ (take_rest c.args.message.now 8) c.if-message-lt8.false c.if-message-ne4.false c.requires (sym c.first_zero.ensures ∙ c.in-None.is)).few

pub overflow_sub-result-in-Some-3 : goal.overflow_sub-result-in-Some-3
overflow_sub-result-in-Some-3 c = (name-run-at c.args.message.now _ (take_rest c.args.message.now 8) c.if-message-lt8.false c.if-message-ne4.false c.requires c.in-Some.end (sym c.first_zero.ensures ∙ c.in-Some.is)).few

pub returns-in-None : goal.returns-in-None
returns-in-None c = (user-run-at c.args.message.now _ (take_rest c.args.message.now 8) c.if-message-lt8.false c.if-message-ne4.false c.requires (sym c.first_zero.ensures ∙ c.in-None.is)).stays

pub returns-in-Some : goal.returns-in-Some
returns-in-Some c = (name-run-at c.args.message.now _ (take_rest c.args.message.now 8) c.if-message-lt8.false c.if-message-ne4.false c.requires c.in-Some.end (sym c.first_zero.ensures ∙ c.in-Some.is)).stays
