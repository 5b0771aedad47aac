use Rattle.std.proofs.Common.{◌∙◌, refl}
use Rattle.std.specs.Prelude.{codes}
use Rattle.conf_model.specs.Canonical.{inner}
use Rattle.conf_model.proofs.Adding.{adds_then, adds_value}
use Rattle.conf_model.specs.Canonical.{pattern_lines}
use Rattle.conf_model.proofs.write.add_patterns.Goals as goal

pub returns : goal.returns
returns c =
    adds_then _ _ _ _ _ (pattern_lines c.args.from.now c.args.to.now)
    (adds_value _ _ (inner (codes "from")) _ _ c.in_ok-add_inner.ensures (c.as_slice.ensures ∙ c.write.ensures))
    (adds_value _ _ (inner (codes "to")) _ _ c.in_ok-add_inner-2.ensures (c.as_slice-2.ensures ∙ c.write-2.ensures))
    refl
