use Rattle.conf_model.proofs.Adding.{adds_more, adds_then}
use Rattle.rule_list.specs.Rules.{judge}
use Rattle.verdict_text.specs.Decisions.{decision_lines, route_lines}
use Rattle.verdict_text.proofs.Endings.{blocked, passed}
use Rattle.verdict_text.proofs.text.add_decision.Goals as goal

pub returns-then-is_pass : goal.returns-then-is_pass
returns-then-is_pass c =
    adds_then _ _ _ _ _ (decision_lines c.args.config.now c.args.facts.now) c.in_ok-add_verdict.ensures
    (adds_more _ _ _ _ _ c.in_ok-add_routes.ensures c.in_ok-add_line.ensures)
    (passed c.judge-verdict.result (judge c.args.config.now c.args.facts.now) (route_lines c.args.config.now c.args.facts.now) c.judge-verdict.ensures c.if-is_pass.ensures)

pub returns : goal.returns
returns c =
    adds_then _ _ _ _ _ (decision_lines c.args.config.now c.args.facts.now) c.in_ok-add_verdict.ensures c.in_ok-add_line-2.ensures
    (blocked c.judge-verdict.result (judge c.args.config.now c.args.facts.now) (route_lines c.args.config.now c.args.facts.now) c.judge-verdict.ensures c.if-is_pass.ensures)
