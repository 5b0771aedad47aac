use Rattle.std.proofs.Common.{arith}
use Rattle.rule_index.proofs.tests.at.Goals as goal

pub returns : goal.returns
returns c = record {
  endpoint = record { addr = c.ranges.addr.fits; port = c.ranges.port.fits };
  port = c.requires;
}
