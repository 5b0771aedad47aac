use Rattle.std.proofs.Common.{length}
use Rattle.handshake_core.proofs.hear.+choose.Given as goal

abbrev pub decreases-choose : goal.decreases-choose
decreases-choose l = length l.methods.now
