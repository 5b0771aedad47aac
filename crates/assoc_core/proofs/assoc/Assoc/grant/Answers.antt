use Rattle.assoc_core.proofs.Courses.{if-ok}
use Rattle.assoc_core.proofs.GrantTurns.{asks-connect, grants-turn}
use Rattle.assoc_core.proofs.assoc.Assoc.grant.Goals as goal

pub returns-clause-turns : goal.returns-clause-turns
returns-clause-turns g c = if-ok c.write_on.result _ _ (λ next w users pubs h marks net now a sought desk k named since.
    grants-turn g.L.Link.told g.L.Link.counts (g.K.DeskCall.stands c.ask_grant.new.desk) users pubs c.args.generation c.args.config.now (g.K.DeskCall.cap c.args.desk.now) h marks now net a c.args.self sought
    c.args.request.now c.ask_grant.new.state next k named (asks-connect g.L.Link.told g.L.Link.counts users pubs c.args.generation c.args.config.now a c.args.self sought c.args.request.now k) since
    (c.in_ok-ask_grant.ensures.asks h marks desk) w) c.write_on.ensures

pub returns-in_default-clause-turns : goal.returns-in_default-clause-turns
returns-in_default-clause-turns g c = λ users pubs h marks net now a sought desk k named since.
    absurd (c.in_default.not-Connect (asks-connect g.L.Link.told g.L.Link.counts users pubs c.args.generation c.args.config.now a c.args.self sought c.args.request.now k))
