use Rattle.std.proofs.Common.{refl}
use Rattle.conf_model.proofs.Adding.{adds_same, adds_then}
use Rattle.verdict_text.specs.Decisions.{verdict_lines}
use Rattle.verdict_text.proofs.text.add_verdict.Goals as goal

pub returns-in_ok-add_line-in-ClientNone : goal.returns-in_ok-add_line-in-ClientNone
returns-in_ok-add_line-in-ClientNone c =
    adds_same _ _ _ (verdict_lines c.args.verdict) c.in_ok-add_line-in-ClientNone.ensures (rw c.in-ClientNone.is refl)

pub returns-in_ok-add_rule-in-ClientBlock : goal.returns-in_ok-add_rule-in-ClientBlock
returns-in_ok-add_rule-in-ClientBlock c =
    adds_same _ _ _ (verdict_lines c.args.verdict) c.in_ok-add_rule-in-ClientBlock.ensures (rw c.in-ClientBlock.is refl)

pub returns-in_ok-add_line-in-SocksNone : goal.returns-in_ok-add_line-in-SocksNone
returns-in_ok-add_line-in-SocksNone c =
    adds_then _ _ _ _ _ (verdict_lines c.args.verdict) c.in_ok-add_rule-in-SocksNone.ensures c.in_ok-add_line-in-SocksNone.ensures (rw c.in-SocksNone.is refl)

pub returns-in_ok-add_rule-in-SocksBlock-2 : goal.returns-in_ok-add_rule-in-SocksBlock-2
returns-in_ok-add_rule-in-SocksBlock-2 c =
    adds_then _ _ _ _ _ (verdict_lines c.args.verdict) c.in_ok-add_rule-in-SocksBlock.ensures c.in_ok-add_rule-in-SocksBlock-2.ensures (rw c.in-SocksBlock.is refl)

pub returns-in_ok-add_rule-in-Pass-2 : goal.returns-in_ok-add_rule-in-Pass-2
returns-in_ok-add_rule-in-Pass-2 c =
    adds_then _ _ _ _ _ (verdict_lines c.args.verdict) c.in_ok-add_rule-in-Pass.ensures c.in_ok-add_rule-in-Pass-2.ensures (rw c.in-Pass.is refl)
