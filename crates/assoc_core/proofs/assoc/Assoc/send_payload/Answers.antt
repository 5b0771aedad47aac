use Rattle.std.proofs.Common.{rules, refl}
use Rattle.assoc_core.specs.declared.send.Sent.{Sent}
use Rattle.assoc_core.proofs.ReachEnds.{sends-payload}
use Rattle.assoc_core.proofs.assoc.Assoc.send_payload.Goals as goal

pub returns-in-All : goal.returns-in-All
returns-in-All g c = λ users pubs generation config most h marks net net' now a b local full k v w.
    sends-payload g.L.Link.told g.L.Link.counts users pubs generation config most h marks net net' now a b c.args.self local c.args.link c.send_to_target.new.target c.send_to_target.new.state c.send_to_target.new.state.cause
    full Sent.All k v w c.in_ok-send_to_target.ensures.state (search rules) refl

pub returns-in-Full : goal.returns-in-Full
returns-in-Full g c = λ users pubs generation config most h marks net net' now a b local full k v w.
    sends-payload g.L.Link.told g.L.Link.counts users pubs generation config most h marks net net' now a b c.args.self local c.args.link c.send_to_target.new.target c.send_to_target.new.state c.send_to_target.new.state.cause
    full Sent.Full k v w c.in_ok-send_to_target.ensures.state (search rules) refl

pub returns-in-Failed : goal.returns-in-Failed
returns-in-Failed g c = λ users pubs generation config most h marks net net' now a b local full k v w.
    sends-payload g.L.Link.told g.L.Link.counts users pubs generation config most h marks net net' now a b c.args.self local c.args.link c.send_to_target.new.target c.send_to_target.new.state c.first_cause-self.result
    full Sent.Failed k v w c.in_ok-send_to_target.ensures.state (search rules) c.first_cause-self.ensures
