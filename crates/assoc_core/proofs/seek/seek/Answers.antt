use Rattle.assoc_core.proofs.Courses.{if-ok}
use Rattle.assoc_core.proofs.SeekTurns.{seeks-turn}
use Rattle.assoc_core.proofs.seek.seek.Goals as goal

pub returns : goal.returns
returns g c = if-ok c.write_on.result _ _ (λ next w users pubs generation config most h marks now a request k named since.
    seeks-turn g.N.Link.Link.told g.N.Link.Link.counts users pubs generation config most h marks now (g.N.Net.told c.args.net.now) (g.N.Net.told c.look_up.new.net) a c.args.assoc request c.args.name.now c.look_up.new.state next
    k named since c.in_ok-look_up.ensures w) c.write_on.ensures
