use Rattle.assoc_core.proofs.ReachEnds.{refuses-turn, if-ok-more}
use Rattle.assoc_core.proofs.assoc.Assoc.refuse.Goals as goal

pub returns : goal.returns
returns g c = if-ok-more c.write_on.result _ _ (λ next w users pubs generation config most h marks net net' now a outcome k why.
    refuses-turn g.L.Link.told g.L.Link.counts users pubs generation config most h marks net net' now a c.args.self outcome c.args.cause c.first_cause-self.result next k why c.first_cause-self.ensures w) c.write_on.ensures
