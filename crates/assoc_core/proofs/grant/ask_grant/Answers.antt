use Rattle.std.proofs.Common.{ap, ◌∙◌}
use Rattle.rule_list.specs.Rules.{route_of}
use Rattle.handshake_core.specs.Answers.{request_in}
use Rattle.assoc_core.proofs.GrantTurns.{asks}
use Rattle.assoc_core.proofs.grant.ask_grant.Goals as goal

pub returns-clause-asks : goal.returns-clause-asks
returns-clause-asks g c = λ h marks desk.
    asks (g.K.DeskCall.stands c.grant.new.self) h marks c.args.generation c.args.config.now (request_in c.args.request.now) c.args.state.now c.line_of-line.result c.facts_of-asked.result c.grant.result
    c.first_route-route.result c.refusal_full-refused.result c.blocked.result c.first_cause-state.result c.push.new.self c.set_last.new.self _
    c.line_of-line.ensures c.facts_of-asked.ensures (c.first_route-route.ensures ∙ ap (route_of c.args.config.now) c.facts_of-facts.ensures) (c.grant.ensures.line h marks desk) c.blocked.ensures c.refusal_full-refused.ensures c.in_ok-push.ensures.ok c.set_last.ensures c.first_cause-state.ensures
