use Rattle.std.proofs.Common.{[], refl}
use Rattle.conf_model.specs.Canonical.{set_lines}
use Rattle.conf_model.proofs.Adding.{adds_nothing, adds_same}
use Rattle.conf_model.proofs.write.add_set.Goals as goal

pub returns-then-all : goal.returns-then-all
returns-then-all c = adds_same _ _ [] (set_lines c.args.key.now c.args.all c.args.words.now) (adds_nothing c.args.text.now) (rw c.if-all.true refl)
