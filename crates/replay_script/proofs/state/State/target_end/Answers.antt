use Rattle.std.proofs.Common.{◌≡◌, true, not, ap, ◌∙◌}
use Rattle.replay_script.specs.declared.state.AssociationState.{AssociationState}
use Rattle.replay_script.proofs.Sides.{tested, changed}
use Rattle.replay_script.proofs.state.State.target_end.Goals as goal

pub returns : goal.returns
returns c =
    let change : AssociationState → AssociationState = λ side. record side { end_t = true } in
    let test : not c.replace-side.result.end_t ≡ true = ap not c.if-side.false in (
      tested c.args.self.now c.args.number c.in-Some.at c.replace-side.result _ c.in-Some.ensures.0 c.replace-side.ensures.value ∙ test,
      changed c.args.self.now c.args.number c.in-Some.at change c.replace-side.result _ _ _ c.in-Some.ensures.0 c.replace-side.ensures.value c.replace-side.ensures.after c.set.ensures,
    )
