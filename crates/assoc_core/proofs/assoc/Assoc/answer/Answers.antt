use Rattle.std.proofs.Common.{rules, refl, true, false}
use Rattle.assoc_core.specs.declared.send.Sent.{Sent}
use Rattle.assoc_core.proofs.Answering.{waits-for, writes-fail}
use Rattle.assoc_core.proofs.assoc.Assoc.answer.Goals as goal

pub returns-in-All-clause-turns : goal.returns-in-All-clause-turns
returns-in-All-clause-turns g c = λ users pubs generation config h marks net now a desk k since.
    waits-for g.L.Link.told g.L.Link.counts (g.K.DeskCall.stands c.args.desk.now) users pubs generation config (g.K.DeskCall.cap c.args.desk.now) h marks now net a c.args.self c.send_to_client.new.client c.send_to_client.new.state
    false Sent.All k since desk c.in_ok-send_to_client.ensures.state (search rules) (refl, refl) (λ rest ends. (λ e. ends, λ e. absurd (cc)))

pub returns-in-Full-clause-turns : goal.returns-in-Full-clause-turns
returns-in-Full-clause-turns g c = λ users pubs generation config h marks net now a desk k since.
    waits-for g.L.Link.told g.L.Link.counts (g.K.DeskCall.stands c.args.desk.now) users pubs generation config (g.K.DeskCall.cap c.args.desk.now) h marks now net a c.args.self c.send_to_client.new.client c.send_to_client.new.state
    true Sent.Full k since desk c.in_ok-send_to_client.ensures.state (search rules) (refl, refl) (λ rest ends. (λ e. absurd (cc), λ e. ends))

pub returns-in-Failed-clause-turns : goal.returns-in-Failed-clause-turns
returns-in-Failed-clause-turns g c = λ users pubs generation config h marks net now a desk k since.
    writes-fail g.L.Link.told g.L.Link.counts (g.K.DeskCall.stands c.finish.new.desk) users pubs generation config (g.K.DeskCall.cap c.args.desk.now) h marks now net a c.args.self c.send_to_client.new.client c.send_to_client.new.state
    c.finish.result k since c.in_ok-send_to_client.ensures.state (search rules) (c.finish.ensures.closed h marks desk)
