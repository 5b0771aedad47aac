use Rattle.std.proofs.Common.{refl}
use Rattle.replay_script.specs.Conditions.{start}
use Rattle.replay_run.proofs.play.users_of.Goals as goal

pub looking-init : goal.looking-init
looking-init c = record { state = start; served = c.requires.served; same = refl }
