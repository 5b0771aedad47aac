use Rattle.handshake_core.proofs.Lengths.{ends-there}
use Rattle.handshake_core.proofs.Places.{ends-within}
use Rattle.handshake_core.proofs.length.prelude_ends.Goals as goal

pub returns-clause-length : goal.returns-clause-length
returns-clause-length c = ends-there

pub returns-clause-within : goal.returns-clause-within
returns-clause-within c = ends-within
