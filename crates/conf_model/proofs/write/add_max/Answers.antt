use Rattle.std.proofs.Common.{[], ◌∙◌, refl}
use Rattle.std.specs.Prelude.{codes}
use Rattle.conf_model.specs.Canonical.{inner}
use Rattle.conf_model.proofs.Adding.{adds_nothing, adds_same, adds_value}
use Rattle.conf_model.specs.Canonical.{max_lines}
use Rattle.conf_model.proofs.write.add_max.Goals as goal

pub returns-in-None : goal.returns-in-None
returns-in-None c = adds_same _ _ [] (max_lines c.args.max) (adds_nothing c.args.text.now) (rw c.in-None.is refl)

pub returns-in_ok-add_inner-in-Some : goal.returns-in_ok-add_inner-in-Some
returns-in_ok-add_inner-in-Some c =
    adds_same _ _ _ (max_lines c.args.max)
    (adds_value _ _ (inner (codes "session.max")) _ _ c.in_ok-add_inner-in-Some.ensures (c.as_slice.ensures ∙ c.write_number.ensures))
    (rw c.in-Some.is refl)
