use Rattle.std.proofs.lemmas.List.{take_rest}
use Rattle.socks5_codec.proofs.Numbers.{ipv4-is}
use Rattle.socks5_codec.proofs.host.read_ipv4.Goals as goal

pub returns-in-Some : goal.returns-in-Some
returns-in-Some c =
    ipv4-is c.args.bytes.now _ c.in-Some.octets.now c.args.at c.from_be_bytes-addr.result (take_rest c.args.bytes.now c.args.at) c.requires
    c.in-Some.ensures.cases.enough c.in-Some.ensures.cases.same c.from_be_bytes-addr.ensures
