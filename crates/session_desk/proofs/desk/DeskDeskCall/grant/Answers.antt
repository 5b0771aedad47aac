use Rattle.session_desk.proofs.Laws.{grants}
use Rattle.session_desk.proofs.Limits.{may_grant, grant_unfailing}
use Rattle.session_desk.proofs.desk.DeskDeskCall.grant.Goals as goal

pub returns-clause-line : goal.returns-clause-line
returns-clause-line c = grants c.args.self.now c.answer_grant.new.self c.args.line.now c.answer_grant.result c.answer_grant.ensures.said c.answer_grant.ensures.book

pub returns-clause-answer : goal.returns-clause-answer
returns-clause-answer c = may_grant c.args.self.now c.args.line.now c.answer_grant.result c.answer_grant.ensures.said

pub returns-clause-unfailing : goal.returns-clause-unfailing
returns-clause-unfailing c = grant_unfailing c.args.self.now c.args.line.now c.answer_grant.result c.answer_grant.ensures.said
