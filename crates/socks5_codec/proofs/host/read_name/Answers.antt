use Rattle.std.proofs.Common.{◌≢◌, ◌∙◌, sym, arith}
use Rattle.std.proofs.lemmas.List.{take_rest}
use Rattle.socks5_codec.proofs.Names.{name-wrong, name-short, name-whole}
use Rattle.socks5_codec.proofs.host.read_name.Goals as goal

pub returns-in-Some : goal.returns-in-Some
returns-in-Some c =
    let other : c.from-len.result ≢ 0 = omega arith in
    rw c.at-in-Some.ensures (name-wrong c.args.bytes.now _ _ c.args.at c.from-len.result c.min.result (take_rest c.args.bytes.now c.args.at) (take_rest _ 1)
    c.in-len1-up.len_at_least c.from-len.ensures other c.min.ensures c.in-Some.place (sym c.first_unfit.ensures ∙ c.in-Some.is))

pub returns-in-None : goal.returns-in-None
returns-in-None c =
    let other : c.from-len.result ≢ 0 = omega arith in
    name-short c.args.bytes.now _ _ c.args.at c.from-len.result c.min.result (take_rest c.args.bytes.now c.args.at) (take_rest _ 1)
    c.in-len1-up.len_at_least c.from-len.ensures other c.min.ensures (sym c.first_unfit.ensures ∙ c.in-None.is) c.if-name-len.true

pub returns-in-None-2 : goal.returns-in-None-2
returns-in-None-2 c =
    let other : c.from-len.result ≢ 0 = omega arith in
    name-whole c.args.bytes.now _ _ c.args.at c.from-len.result c.min.result (take_rest c.args.bytes.now c.args.at) (take_rest _ 1)
    c.in-len1-up.len_at_least c.from-len.ensures other c.min.ensures c.requires (sym c.first_unfit.ensures ∙ c.in-None.is) c.if-name-len.false
