use Rattle.std.proofs.Common.{[], refl}
use Rattle.conf_model.specs.Canonical.{login_lines}
use Rattle.conf_model.proofs.Adding.{adds_nothing, adds_same}
use Rattle.conf_model.proofs.write.add_login.Goals as goal

pub returns-in-None : goal.returns-in-None
returns-in-None c = adds_same _ _ [] (login_lines c.args.login.now) (adds_nothing c.args.text.now) (rw c.in-None.is refl)
