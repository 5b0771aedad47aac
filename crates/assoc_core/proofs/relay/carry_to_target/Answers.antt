use Rattle.std.proofs.Common.{refl, sym}
use Rattle.assoc_core.proofs.Carryings.{was-read}
use Rattle.assoc_core.proofs.Owing.{carries-as, carries-due, read-failed, rest-as, rest-given}
use Rattle.assoc_core.proofs.relay.carry_to_target.Goals as goal

pub returns-in-Failed : goal.returns-in-Failed
returns-in-Failed g c = record {
  carries = carries-due _ _ _ _ _ _ _ _ _ _ _ _ _ _ _ _ _ _ _ _ _ _ _ _ c.make.ensures c.prelude_in.ensures (read-failed _ _ _ _ _ _ _ _ _ _ _ _ _ _ _ _ _ _ _ _ c.in-Failed.is c.in_ok-took_c.ensures);
  failed = λ e. refl;
  is = refl;
}

pub returns : goal.returns
returns g c = record {
  carries = carries-due _ _ _ _ _ _ _ _ _ _ _ _ _ _ _ _ _ _ _ _ _ _ _ _ c.make.ensures c.prelude_in.ensures (carries-as _ _ _ _ _ _ _ _ _ _ _ _ _ _ _ _ _ _ _ _ _ _ _ (sym (was-read c.in_ok-took_c.took_c c.in_default.not-Failed))
      (rest-given _ _ _ _ _ _ _ _ _ _ _ _ _ _ _ _ _ _ _ _ _ _ _ _ _ c.in_ok-took_c.ensures (rest-as _ _ _ _ _ _ _ _ _ _ _ _ _ _ _ _ c.as_slice.ensures c.has_ended.ensures c.in_ok-gave_t.ensures)));
  failed = λ e. absurd (c.in_default.not-Failed e);
  is = refl;
}
