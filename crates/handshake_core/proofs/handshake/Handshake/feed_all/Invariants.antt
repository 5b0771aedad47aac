use Rattle.std.proofs.Common.{length}
use Rattle.handshake_core.specs.Taking.{IsAt}
use Rattle.handshake_core.proofs.handshake.Handshake.feed_all.Given as goal

abbrev pub invariant-taking : goal.invariant-taking
invariant-taking l = IsAt l.methods l.users l.initial.self l.input l.rest l.self

abbrev pub decreases-taking : goal.decreases-taking
decreases-taking l = length l.rest
