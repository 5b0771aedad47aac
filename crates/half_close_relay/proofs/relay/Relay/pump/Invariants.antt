use Rattle.std.proofs.Common.{◌+◌}
use Rattle.half_close_relay.specs.Ways.{seen}
use Rattle.half_close_relay.proofs.Going.{SoFar}
use Rattle.half_close_relay.proofs.relay.Relay.pump.Given as goal

abbrev pub invariant-loop-took : goal.invariant-loop-took
invariant-loop-took g l = SoFar l.taken l.left.client l.left.target l.initial.self l.self (seen (g.L.Link.told l.initial.client) (g.L.Link.counts l.initial.client)) (seen (g.L.Link.told l.client) (g.L.Link.counts l.client))
    (seen (g.L.Link.told l.initial.target) (g.L.Link.counts l.initial.target)) (seen (g.L.Link.told l.target) (g.L.Link.counts l.target))

abbrev pub decreases-loop-took : goal.decreases-loop-took
decreases-loop-took g l = l.left.client + l.left.target
