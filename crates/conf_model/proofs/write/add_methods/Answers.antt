use Rattle.std.proofs.Common.{◌∙◌}
use Rattle.std.specs.Prelude.{codes}
use Rattle.conf_model.proofs.Adding.{adds_set}
use Rattle.conf_model.proofs.write.add_methods.Goals as goal

pub returns : goal.returns
returns c = adds_set _ _ (codes "socksmethod") _ _ _ _ c.in_ok-add_set.ensures c.both-all.ensures (c.as_slice.ensures ∙ c.in_ok-words.ensures)
