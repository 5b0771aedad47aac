use Rattle.std.proofs.Common.{Some}
use Rattle.assoc_core.proofs.Courses.{if-ok}
use Rattle.assoc_core.proofs.Judging.{asked-again, judged-name, none-asked}
use Rattle.assoc_core.proofs.assoc.Assoc.judge.Goals as goal

pub returns-clause-turns : goal.returns-clause-turns
returns-clause-turns g c = if-ok c.grant.result _ _ (λ next f pubs h marks net now generation' rule sought desk standing tells published plain since uncaused opens.
    f c.args.users.now pubs h marks net now c.args.self (Some sought) desk
    (asked-again g.L.Link.told g.L.Link.counts c.args.users.now pubs c.args.generation c.args.config.now c.args.self generation' rule sought c.request_of.result c.in-Some.request standing tells published plain uncaused opens c.request_of.ensures c.in-Some.is)
    (judged-name g.L.Link.told g.L.Link.counts c.args.users.now pubs c.args.generation c.args.config.now c.args.self generation' rule sought c.request_of.result c.in-Some.request standing uncaused opens c.request_of.ensures c.in-Some.is)
    since) c.grant.ensures.turns

pub returns-in_default-clause-turns : goal.returns-in_default-clause-turns
returns-in_default-clause-turns g c = λ pubs h marks net now generation' rule sought desk standing tells published plain since uncaused opens.
    absurd (none-asked g.L.Link.told c.args.users.now pubs c.args.self generation' rule sought c.request_of.result standing opens c.request_of.ensures c.in_default.is)
