use Rattle.std.proofs.Common.{◌≡◌, ◌≤◌, ℕ, Some, length, subst, sym, ap, ◌∙◌}
use Rattle.std.proofs.lemmas.List.{length-map}
use Rattle.std.specs.Arc.{arc_value}
use Rattle.generation.specs.declared.snap.Snap.{Snap}
use Rattle.generation.specs.Published.{Generations, IsSnap}
use Rattle.generation.proofs.Places.{snap_at}
use Rattle.generation.proofs.list.ListGens.at.Goals as goal

pub returns : goal.returns
returns c =
    let same : length c.args.self.now.configs ≡ length c.self.inside.snaps.items =
    ap (λ (g : Generations). length g.configs) (sym c.self.view_is) ∙ length-map c.self.inside.snaps.items (λ (s : Snap). arc_value s.config) in
    let within : c.args.number ≤ length c.self.inside.snaps.items = subst (λ (n : ℕ). c.args.number ≤ n) same c.requires.published in
    subst (λ (g : Generations). IsSnap (Some g.configs) c.args.number c.index.result.now) c.self.view_is
    (snap_at c.self.inside.snaps.items c.args.number c.index.result.now c.self.invariant.0 c.requires.from_one within c.index.ensures)
