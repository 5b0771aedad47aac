use Rattle.std.proofs.Common.{ap, ◌∙◌}
use Rattle.socks_machine.specs.Calls.{refusal_said}
use Rattle.assoc_core.proofs.Accepting.{lets-in, refuses-in}
use Rattle.assoc_core.proofs.assoc.Assoc.accept.Goals as goal

pub returns-in-None-clause-turns : goal.returns-in-None-clause-turns
returns-in-None-clause-turns g c = λ users pubs h marks net now desk standing tells since undecided.
    lets-in g.L.Link.told g.L.Link.counts (g.K.DeskCall.stands c.open.new.self) users pubs c.args.generation c.args.config.now (g.K.DeskCall.cap c.args.desk.now) h marks now net c.args.self
    c.line_of-line.result c.open.result c.refusal_said-refused.result c.push.new.self c.set_last.new.self c.first_cause-self.result
    (record {
      line' = c.line_of-line.ensures;
      desk = c.open.ensures.line h marks desk;
      refused' = c.refusal_said-refused.ensures ∙ ap (λ z. refusal_said c.open.result z) c.blocked_client.ensures;
      pushed' = c.in_ok-push.ensures.ok;
      after' = c.set_last.ensures;
      cause' = c.first_cause-self.ensures;
    }) c.in-None.is standing since undecided

pub returns-in-Some-clause-turns : goal.returns-in-Some-clause-turns
returns-in-Some-clause-turns g c = λ users pubs h marks net now desk standing tells since undecided.
    refuses-in g.L.Link.told g.L.Link.counts (g.K.DeskCall.stands c.open.new.self) users pubs c.args.generation c.args.config.now (g.K.DeskCall.cap c.args.desk.now) h marks now net c.args.self
    c.line_of-line.result c.open.result c.refusal_said-refused.result c.push.new.self c.set_last.new.self c.first_cause-self.result c.in-Some.field-0 c.end.result
    (record {
      line' = c.line_of-line.ensures;
      desk = c.open.ensures.line h marks desk;
      refused' = c.refusal_said-refused.ensures ∙ ap (λ z. refusal_said c.open.result z) c.blocked_client.ensures;
      pushed' = c.in_ok-push.ensures.ok;
      after' = c.set_last.ensures;
      cause' = c.first_cause-self.ensures;
    }) c.in-Some.is c.end.ensures standing since undecided
