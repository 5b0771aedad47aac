use Rattle.std.proofs.Common.{rules}
use Rattle.assoc_core.proofs.Lending.{target-kept}
use Rattle.assoc_core.proofs.assoc.Assoc.target_mut.Goals as goal

pub returns : goal.returns
returns g c = (search rules, record { writes_back = tt; value = search rules; stays = λ basis old link is h k. target-kept _ basis _ old link is h k })
