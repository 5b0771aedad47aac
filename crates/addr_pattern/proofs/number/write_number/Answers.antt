use Rattle.std.proofs.Common.{length, ap, arith}
use Rattle.addr_pattern.proofs.Numbers.{length-number_text-long}
use Rattle.addr_pattern.proofs.number.write_number.Goals as goal

pub add_digits-requires : goal.add_digits-requires
add_digits-requires c =
    let empty = ap length c.empty-text.ensures in
    let short = length-number_text-long c.args.number (omega arith) in
    omega (arith, empty, short)
