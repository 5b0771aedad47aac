use Rattle.std.proofs.Common.{◌≡◌, ◌∙◌, ◌+◌, ℕ, ap, sym}
use Rattle.std.specs.Arc.{arc_value}
use Rattle.left_right.specs.Sides.{view}
use Rattle.conf_types.specs.declared.entries.Entries.{Entries}
use Rattle.published.specs.declared.knows.Knows.{Knows}
use Rattle.published.specs.declared.shown.Shown.{Shown}
use Rattle.published.proofs.Steps.{extends, latest}
use Rattle.published.proofs.shown.show.Goals as goal

pub publish_as-requires : goal.publish_as-requires
publish_as-requires g c next is = let snap = c.args.snap in let desk = c.append.ensures.desk in
    let state : (next.snap.number, arc_value next.snap.config) ≡ (snap.number, arc_value snap.config) = is ∙ latest _ _ _ _ c.in-Ok.ensures.pending in
    λ views. extends _ next.snap.number _ _ _ _ views
    (ap (λ d. (view {T = Shown} {V = Knows} d.place).extends) desk ∙ c.requires.owner)
    (ap (λ (p : ℕ × Entries). p.0) state ∙ c.requires.number ∙ sym (ap (λ d. d.shown.value.snap.number + 1) desk))
