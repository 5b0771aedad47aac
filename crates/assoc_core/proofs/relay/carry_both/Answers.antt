use Rattle.assoc_core.proofs.Passing.{client-as, passes-both, passes-failed}
use Rattle.assoc_core.proofs.relay.carry_both.Goals as goal

pub returns-in-Failed : goal.returns-in-Failed
returns-in-Failed g c = passes-failed _ _ _ _ _ _ _ _ _ _ _ _ c.in_ok-took_c.ensures c.in-Failed.is

pub returns : goal.returns
returns g c = passes-both _ _ _ _ _ _ _ _ _ _ _ _ _ _ _ _ _ _ _ c.in_ok-took_c.ensures (client-as _ _ _ _ _ _ _ _ _ _ _ _ _ _ c.is_sound-reads.ensures c.in_ok-took_t.ensures) c.in_default.not-Failed
