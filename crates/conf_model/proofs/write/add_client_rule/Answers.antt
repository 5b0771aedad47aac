use Rattle.std.proofs.Common.{◌++◌, List, ℕ, refl}
use Rattle.std.specs.Prelude.{codes}
use Rattle.conf_model.proofs.Adding.{adds_more, adds_then, adds_value}
use Rattle.conf_model.specs.Canonical.{client_lines}
use Rattle.conf_model.proofs.write.add_client_rule.Goals as goal

pub returns : goal.returns
returns c =
    adds_then _ _ _ _ _ (client_lines c.args.rule.now)
    (adds_value _ _ (λ (key : List ℕ). key ++ codes " {") _ _ c.in_ok-add_head.ensures c.pass_or_block.ensures)
    (adds_more _ _ _ _ _ c.in_ok-add_patterns.ensures (adds_more _ _ _ _ _ c.in_ok-add_max.ensures c.in_ok-add_end.ensures))
    refl
