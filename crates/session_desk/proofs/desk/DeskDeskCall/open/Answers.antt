use Rattle.session_desk.proofs.Laws.{opens}
use Rattle.session_desk.proofs.Limits.{may_open, open_unfailing}
use Rattle.session_desk.proofs.desk.DeskDeskCall.open.Goals as goal

pub returns-clause-line : goal.returns-clause-line
returns-clause-line c = opens c.args.self.now c.answer_open.new.self c.args.line.now c.answer_open.result c.answer_open.ensures.said c.answer_open.ensures.book

pub returns-clause-answer : goal.returns-clause-answer
returns-clause-answer c = may_open c.args.self.now c.args.line.now c.answer_open.result c.answer_open.ensures.said

pub returns-clause-unfailing : goal.returns-clause-unfailing
returns-clause-unfailing c = open_unfailing c.args.self.now c.args.line.now c.answer_open.result c.answer_open.ensures.said
