use Rattle.std.proofs.Common.{arith}
use Rattle.published.proofs.tests.at.Goals as goal

pub returns : goal.returns
returns c = record {
  endpoint = record { addr = omega arith; port = c.ranges.port.fits };
  port = c.requires;
}
