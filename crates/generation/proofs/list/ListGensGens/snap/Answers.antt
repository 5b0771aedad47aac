use Rattle.std.proofs.Common.{◌≡◌, ◌<◌, ℕ, Some, subst, sym, ap}
use Rattle.generation.specs.Published.{Generations, IsSnap}
use Rattle.generation.proofs.Places.{snap_at}
use Rattle.generation.proofs.list.ListGensGens.snap.Goals as goal

pub returns : goal.returns
returns c =
    let same : c.args.self.now.seen ≡ c.self.inside.seen = ap (λ (g : Generations). g.seen) (sym c.self.view_is) in
    let some : 0 < c.self.inside.seen = subst (λ (n : ℕ). 0 < n) same c.requires in
    subst (λ (g : Generations). IsSnap (Some g.configs) g.seen c.index.result.now) c.self.view_is
    (snap_at c.self.inside.snaps.items c.self.inside.seen c.index.result.now c.self.invariant.0 some c.self.invariant.1 c.index.ensures)
