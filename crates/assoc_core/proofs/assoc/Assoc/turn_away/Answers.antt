use Rattle.std.proofs.Common.{rules, refl}
use Rattle.assoc_core.specs.declared.send.Sent.{Sent}
use Rattle.assoc_core.proofs.TurnsAway.{Closes, turns-away, waits-away}
use Rattle.assoc_core.proofs.assoc.Assoc.turn_away.Goals as goal

pub returns-in-All-clause-turns : goal.returns-in-All-clause-turns
returns-in-All-clause-turns g c = λ users pubs generation config h marks net now a desk k since.
    turns-away g.L.Link.told g.L.Link.counts (g.K.DeskCall.stands c.finish.new.desk) users pubs generation config (g.K.DeskCall.cap c.args.desk.now) h marks now net a c.args.self c.send_to_client.new.client c.send_to_client.new.state
    c.finish.result c.args.cause Sent.All k since c.in_ok-send_to_client.ensures.state (search rules) (λ rest ends. Closes.done refl ends) (c.finish.ensures.closed h marks desk)

pub returns-in-Full-clause-turns : goal.returns-in-Full-clause-turns
returns-in-Full-clause-turns g c = λ users pubs generation config h marks net now a desk k since.
    waits-away g.L.Link.told g.L.Link.counts (g.K.DeskCall.stands c.args.desk.now) users pubs generation config (g.K.DeskCall.cap c.args.desk.now) h marks now net a c.args.self c.send_to_client.new.client c.send_to_client.new.state
    c.args.cause k since desk c.in_ok-send_to_client.ensures.state (search rules)

pub returns-in-Failed-clause-turns : goal.returns-in-Failed-clause-turns
returns-in-Failed-clause-turns g c = λ users pubs generation config h marks net now a desk k since.
    turns-away g.L.Link.told g.L.Link.counts (g.K.DeskCall.stands c.finish-in-Failed.new.desk) users pubs generation config (g.K.DeskCall.cap c.args.desk.now) h marks now net a c.args.self c.send_to_client.new.client c.send_to_client.new.state
    c.finish-in-Failed.result c.args.cause Sent.Failed k since c.in_ok-send_to_client.ensures.state (search rules) (λ rest ends. Closes.failed' refl ends.0 ends.1 ends.2) (c.finish-in-Failed.ensures.closed h marks desk)
