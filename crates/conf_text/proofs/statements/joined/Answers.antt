use Rattle.std.proofs.Common.{◌≡◌, ◌++◌, ◌∷◌, [], ℕ, List, get_or, take, sym, ap, ◌∙◌}
use Rattle.std.specs.List.{join_with_byte}
use Rattle.std.proofs.lemmas.List.{take_more}
use Rattle.conf_text.proofs.Joining.{join_more}
use Rattle.conf_text.proofs.statements.joined.Goals as goal

pub loop-other-preserved : goal.loop-other-preserved
loop-other-preserved c =
    let i = c.loop-other.other-index in
    let first = c.args.first.now in
    let others = c.args.others.now in
    let other : List ℕ = c.other-item.result in
    let at : get_or others i other ≡ other = sym c.other-item.is in
    c.in_ok-add.ensures.ok ∙ (ap (λ (z : List ℕ). z ++ c.as_slice.result.now) c.in_ok-push.ensures.ok
    ∙ (ap (λ (z : List ℕ). (c.loop-other.text ++ 32 ∷ []) ++ z) c.as_slice.ensures ∙ (ap (λ (z : List ℕ). (z ++ 32 ∷ []) ++ other) c.loop-other.invariant
    ∙ (sym (join_more first (take i others) other)
    ∙ ap (λ (z : List (List ℕ)). join_with_byte 32 (first ∷ z)) (sym (take_more others i other c.loop-other-test.true ∙ ap (λ (z : List ℕ). take i others ++ z ∷ []) at))))))
