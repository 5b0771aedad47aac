use Rattle.std.proofs.Common.{ap}
use Rattle.conf_model.proofs.Adding.{adds_flat, adds_nothing, adds_same}
use Rattle.conf_model.specs.Canonical.{socks_lines}
use Rattle.conf_model.proofs.write.add_socks_rules.Goals as goal

pub loop-rule-init : goal.loop-rule-init
loop-rule-init c = adds_nothing c.args.text.now

pub loop-rule-preserved : goal.loop-rule-preserved
loop-rule-preserved c =
    adds_flat _ _ _ socks_lines c.args.rules.now c.loop-rule.rule-index c.rule-item.result c.loop-rule-test.true c.loop-rule.invariant
    (adds_same _ _ _ _ c.in_ok-add_socks_rule.ensures (ap socks_lines c.rule-item.is))
