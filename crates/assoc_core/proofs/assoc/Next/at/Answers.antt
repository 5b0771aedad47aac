use Rattle.std.proofs.Common.{sym, subst, ◌∙◌}
use Rattle.assoc_core.specs.declared.assoc.Next.{Next}
use Rattle.assoc_core.specs.Turns.{Turns, context}
use Rattle.assoc_core.proofs.Dating.{again-dated, done-dated, wait-dated, late-dated}
use Rattle.assoc_core.proofs.assoc.Next.at.Goals as goal

pub returns-then-is_late-clause-turns : goal.returns-then-is_late-clause-turns
returns-then-is_late-clause-turns g c = λ users pubs generation cap h marks net net' a t direct was.
    late-dated g.L.Link.told g.L.Link.counts (g.D.DeskCall.stands c.args.desk.now) (g.D.DeskCall.stands c.finish.new.desk) users pubs generation c.args.config.now cap h marks c.args.now c.moment-assoc.result net net' a c.in-Wait.assoc c.finish.result c.args.before c.cause_of-cause.result
    (subst (λ (n : Next g.row.L.Denot). Turns g.L.Link.told g.L.Link.counts (g.D.DeskCall.stands c.args.desk.now) (context users pubs generation c.args.config.now cap h marks) a.state.since net net' a n) c.in-Wait.is t) direct was c.moment-assoc.ensures
    (sym c.is_late.ensures ∙ c.if-is_late.true) c.cause_of-cause.ensures c.finish.ensures.closed

pub returns-else-is_late-clause-turns : goal.returns-else-is_late-clause-turns
returns-else-is_late-clause-turns g c = λ users pubs generation cap h marks net net' a t direct was.
    wait-dated g.L.Link.told g.L.Link.counts (g.D.DeskCall.stands c.args.desk.now) users pubs generation c.args.config.now cap h marks c.args.now c.moment-assoc.result net net' a c.in-Wait.assoc c.args.before
    (subst (λ (n : Next g.row.L.Denot). Turns g.L.Link.told g.L.Link.counts (g.D.DeskCall.stands c.args.desk.now) (context users pubs generation c.args.config.now cap h marks) a.state.since net net' a n) c.in-Wait.is t) direct was c.moment-assoc.ensures
    (sym c.is_late.ensures ∙ c.if-is_late.false)

pub returns-in-Again-clause-turns : goal.returns-in-Again-clause-turns
returns-in-Again-clause-turns g c = λ users pubs generation cap h marks net net' a t direct was.
    again-dated g.L.Link.told g.L.Link.counts (g.D.DeskCall.stands c.args.desk.now) users pubs generation c.args.config.now cap h marks c.args.now c.moment-assoc-in-Again.result net net' a c.in-Again.assoc c.args.before
    (subst (λ (n : Next g.row.L.Denot). Turns g.L.Link.told g.L.Link.counts (g.D.DeskCall.stands c.args.desk.now) (context users pubs generation c.args.config.now cap h marks) a.state.since net net' a n) c.in-Again.is t) direct was c.moment-assoc-in-Again.ensures

pub returns-in-Done-clause-turns : goal.returns-in-Done-clause-turns
returns-in-Done-clause-turns g c = λ users pubs generation cap h marks net net' a t direct was.
    done-dated g.L.Link.told g.L.Link.counts (g.D.DeskCall.stands c.args.desk.now) users pubs generation c.args.config.now cap h marks c.args.now c.moment-ended.result net net' a c.in-Done.ended c.args.before
    (subst (λ (n : Next g.row.L.Denot). Turns g.L.Link.told g.L.Link.counts (g.D.DeskCall.stands c.args.desk.now) (context users pubs generation c.args.config.now cap h marks) a.state.since net net' a n) c.in-Done.is t) direct was c.moment-ended.ensures
