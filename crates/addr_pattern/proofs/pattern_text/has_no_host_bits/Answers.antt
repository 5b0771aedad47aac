use Rattle.std.proofs.Common.{◌<◌, arith}
use Rattle.std.proofs.Math.Pow.{pow-lt}
use Rattle.addr_pattern.proofs.pattern_text.has_no_host_bits.Goals as goal

pub pow-requires-else-bits-eq0 : goal.pow-requires-else-bits-eq0
pow-requires-else-bits-eq0 c =
    let small : c.from-else-bits-eq0.result < 128 = omega arith in
    pow-lt small
