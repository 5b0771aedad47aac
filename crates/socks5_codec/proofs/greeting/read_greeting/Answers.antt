use Rattle.std.proofs.Common.{◌≡◌, get_or, arith}
use Rattle.std.proofs.lemmas.List.{take_rest}
use Rattle.socks5_codec.proofs.Numbers.{greeting-short, greeting-whole}
use Rattle.socks5_codec.proofs.greeting.read_greeting.Goals as goal

pub returns-then-rest-len : goal.returns-then-rest-len
returns-then-rest-len c =
    let version : get_or c.args.bytes.now 0 0 ≡ 5 = omega arith in
    greeting-short c.args.bytes.now _ c.from-len.result (take_rest c.args.bytes.now 2) c.in-5.len_at_least version c.from-len.ensures c.if-rest-len.true

pub returns-else-rest-len : goal.returns-else-rest-len
returns-else-rest-len c =
    let version : get_or c.args.bytes.now 0 0 ≡ 5 = omega arith in
    greeting-whole c.args.bytes.now _ c.from-len.result (take_rest c.args.bytes.now 2) c.in-5.len_at_least version c.from-len.ensures c.if-rest-len.false
