use Rattle.std.proofs.Common.{◌≡◌, ℕ, true, false, List, ◌++◌, slice_set, sym, ap, ◌∙◌}
use Rattle.replay_script.specs.declared.state.AssociationState.{AssociationState}
use Rattle.socks_machine.specs.Inputs.{is_served_input}
use Rattle.replay_script.specs.Conditions.{may_send}
use Rattle.replay_script.proofs.Sides.{tested, changed}
use Rattle.replay_script.proofs.state.State.client.Goals as goal

pub returns : goal.returns
returns c =
    let added : c.add.new.self ≡ c.replace-side.result.c ++ c.args.bytes.now = c.in_ok-add.ensures.ok in
    let change : AssociationState → AssociationState = λ side. record side { c = side.c ++ c.args.bytes.now } in
    let served : is_served_input c.args.self.now.users (c.replace-side.result.c ++ c.args.bytes.now) ≡ true =
    ap (is_served_input c.args.self.now.users) (sym (c.as_slice.ensures ∙ added)) ∙ (sym c.is_served_input.ensures ∙ c.if-not-is_served_input.false) in
    let test : may_send c.args.self.now.users c.args.bytes.now c.replace-side.result ≡ true = rw c.if-side.false served in
    let put : c.set.new.self ≡ slice_set c.replace-side.new.self c.in-Some.at (change c.replace-side.result) =
    c.set.ensures ∙ ap (λ (z : List ℕ). slice_set c.replace-side.new.self c.in-Some.at (let t : AssociationState = record c.replace-side.result { c = z } in t)) added in (
      tested c.args.self.now c.args.number c.in-Some.at c.replace-side.result _ c.in-Some.ensures.0 c.replace-side.ensures.value ∙ test,
      changed c.args.self.now c.args.number c.in-Some.at change c.replace-side.result _ _ _ c.in-Some.ensures.0 c.replace-side.ensures.value c.replace-side.ensures.after put,
    )

pub returns-then-not-is_served_input : goal.returns-then-not-is_served_input
returns-then-not-is_served_input c =
    let added : c.add.new.self ≡ c.replace-side.result.c ++ c.args.bytes.now = c.in_ok-add.ensures.ok in
    let unserved : is_served_input c.args.self.now.users (c.replace-side.result.c ++ c.args.bytes.now) ≡ false =
    ap (is_served_input c.args.self.now.users) (sym (c.as_slice.ensures ∙ added)) ∙ (sym c.is_served_input.ensures ∙ c.if-not-is_served_input.true) in
    let test : may_send c.args.self.now.users c.args.bytes.now c.replace-side.result ≡ false = rw c.if-side.false unserved in
    tested c.args.self.now c.args.number c.in-Some.at c.replace-side.result _ c.in-Some.ensures.0 c.replace-side.ensures.value ∙ test
