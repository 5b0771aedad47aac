use Rattle.std.proofs.Common.{◌≡◌, ◌∙◌, ℕ, ap}
use Rattle.std.specs.Arc.{arc_value}
use Rattle.conf_types.specs.declared.entries.Entries.{Entries}
use Rattle.published.proofs.Steps.{begins, latest}
use Rattle.published.proofs.shown.begin.Goals as goal

pub publish_as-requires : goal.publish_as-requires
publish_as-requires g c next is = let first = c.args.first in
    let state : (next.snap.number, arc_value next.snap.config) ≡ (first.number, arc_value first.config) = is ∙ latest _ _ _ _ c.in-Ok.ensures.pending in
    λ views. begins _ next.snap.number _ _ _ _ views (ap (λ desk. desk.shown.value.snap.number) c.append.ensures.desk ∙ c.requires.unbegun)
    (ap (λ (p : ℕ × Entries). p.0) state ∙ c.requires.number)
