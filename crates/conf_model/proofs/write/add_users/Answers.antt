use Rattle.std.proofs.Common.{[], sym, ap}
use Rattle.conf_model.proofs.Adding.{adds_nothing, adds_same, empty-below}
use Rattle.conf_model.specs.Canonical.{user_lines}
use Rattle.conf_model.proofs.write.add_users.Goals as goal

pub returns-in-empty : goal.returns-in-empty
returns-in-empty c = adds_same _ _ [] (user_lines c.args.users.now) (adds_nothing c.args.text.now) (ap user_lines (sym (empty-below c.args.users.now c.in-empty.len_below)))
