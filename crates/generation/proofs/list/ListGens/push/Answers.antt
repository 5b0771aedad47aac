use Rattle.std.proofs.Common.{◌≡◌, ◌+◌, suc, length, arith}
use Rattle.std.specs.Prelude.{is_ok}
use Rattle.generation.proofs.Places.{numbered_if}
use Rattle.generation.proofs.list.ListGens.push.Goals as goal

pub invariant_of-self : goal.invariant_of-self
invariant_of-self c =
    let next : c.len.result + 1 ≡ suc (length c.self.inside.snaps.items) = omega (arith, c.len.ensures) in
    numbered_if (is_ok c.push.result) c.self.inside.snaps.items c.push.new.self.items _ c.self.inside.seen
    c.self.invariant.0 c.self.invariant.1 next c.push.ensures.items
