use Rattle.handshake_core.proofs.Whole.{four-found, four-unfound}
use Rattle.handshake_core.proofs.split.whole4.Goals as goal

pub returns-in-Whole : goal.returns-in-Whole
returns-in-Whole c = rw c.request.ensures (four-found c.args.bytes.now c.in-Whole.value c.in-Whole.len c.in-Whole.ensures)

pub returns-in_default : goal.returns-in_default
returns-in_default c = four-unfound c.args.bytes.now c.read_asked4.result c.read_asked4.ensures c.in_default.not-Whole
