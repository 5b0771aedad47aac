use Rattle.std.proofs.Common.{rules, refl, true, false}
use Rattle.assoc_core.specs.declared.send.Sent.{Sent}
use Rattle.socks_machine.specs.Socks.{socks}
use Rattle.assoc_core.proofs.ReachEnds.{greets-turn, greets-none, has-greeted, unsent-behind, if-ok-more}
use Rattle.assoc_core.proofs.assoc.Assoc.greet.Goals as goal

pub returns-in-All : goal.returns-in-All
returns-in-All g c = if-ok-more c.send_payload.result _ _ (λ next h' users pubs generation config most h marks net net' now a local k v.
    h' users pubs generation config most h marks net net' now a c.args.self local false k v
    (has-greeted g.L.Link.told g.L.Link.counts c.args.self c.send_to_client.new.client c.send_to_client.new.state Sent.All c.in_ok-send_to_client.ensures.state (search rules) refl)) c.send_payload.ensures

pub returns-in-Full : goal.returns-in-Full
returns-in-Full g c = if-ok-more c.send_payload-in-Full.result _ _ (λ next h' users pubs generation config most h marks net net' now a local k v.
    h' users pubs generation config most h marks net net' now a c.args.self local true k v
    (has-greeted g.L.Link.told g.L.Link.counts c.args.self c.send_to_client.new.client c.send_to_client.new.state Sent.Full c.in_ok-send_to_client.ensures.state (search rules) refl)) c.send_payload-in-Full.ensures

pub returns-in-Failed : goal.returns-in-Failed
returns-in-Failed g c = λ users pubs generation config most h marks net net' now a local k v.
    greets-turn g.L.Link.told g.L.Link.counts users pubs generation config most h marks net net' now a c.args.self _ local c.args.link c.args.link _ _ _ _ _ _ _ k v
    (greets-none g.L.Link.told g.L.Link.counts c.args.self c.args.link c.send_to_client.new.client c.send_to_client.new.state c.first_cause-self.result
    c.in_ok-send_to_client.ensures.state (unsent-behind g.L.Link.told (socks users pubs) net net' now a c.args.self local k) (search rules) c.first_cause-self.ensures)
