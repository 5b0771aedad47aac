use Rattle.std.proofs.Common.{refl}
use Rattle.assoc_core.specs.Carrying.{has_ended}
use Rattle.assoc_core.proofs.Owing.{carries-due, rest-as, rest-given}
use Rattle.assoc_core.proofs.relay.carry_to_client.Goals as goal

pub returns : goal.returns
returns g c = record {
  carries = carries-due _ _ _ _ _ _ _ _ _ _ _ _ _ _ _ _ _ _ _ _ _ _ _ _ c.in_ok-replies_to_client.ensures refl
      (rest-given _ _ _ _ _ _ _ _ _ _ _ _ _ _ _ _ _ _ _ _ _ _ _ _ _ c.in_ok-took_t.ensures (rest-as _ _ _ _ c.take_from.new.sent c.give_rest.new.sent c.in_ok-replies_to_client.field-0 0 c.as_slice.result.now c.take_from.new.text c.has_ended.result (has_ended c.in_ok-took_t.took_t)
      c.args.state.now.shut_c c.give_rest.new.shut c.in_ok-took_t.stopped c.in_ok-gave_c.gave_c c.as_slice.ensures c.has_ended.ensures c.in_ok-gave_c.ensures));
  is = refl;
}
