use Rattle.assoc_core.proofs.HeardTurns.{hangs-up}
use Rattle.assoc_core.proofs.assoc.Assoc.hang_up.Goals as goal

pub returns-clause-turns : goal.returns-clause-turns
returns-clause-turns g c = λ users pubs generation config h marks net now a desk k since.
    hangs-up g.L.Link.told g.L.Link.counts (g.K.DeskCall.stands c.finish.new.desk) users pubs generation config (g.K.DeskCall.cap c.args.desk.now) h marks now net a c.args.self c.finish.result _
    k since c.len-at.ensures (c.finish.ensures.closed h marks desk)
