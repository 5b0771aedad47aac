use Rattle.session_desk.proofs.Laws.{closes}
use Rattle.session_desk.proofs.Limits.{may_close, close_unfailing}
use Rattle.session_desk.proofs.desk.DeskDeskCall.close.Goals as goal

pub returns-clause-line : goal.returns-clause-line
returns-clause-line c = closes c.args.self.now c.answer_close.new.self c.args.line.now c.answer_close.result c.answer_close.ensures.said c.answer_close.ensures.book

pub returns-clause-answer : goal.returns-clause-answer
returns-clause-answer c = may_close c.args.self.now c.args.line.now c.answer_close.result c.answer_close.ensures.said

pub returns-clause-unfailing : goal.returns-clause-unfailing
returns-clause-unfailing c = close_unfailing c.args.self.now c.args.line.now c.answer_close.result c.answer_close.ensures.said
