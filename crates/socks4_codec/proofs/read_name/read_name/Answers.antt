use Rattle.std.proofs.Common.{◌∙◌, sym, arith}
use Rattle.std.proofs.lemmas.List.{take_rest}
use Rattle.socks4_codec.proofs.UserName.{name-whole, name-short, name-long, name-unfit, is-ended, not-ended}
use Rattle.socks4_codec.proofs.read_name.read_name.Goals as goal

pub returns-in-Some : goal.returns-in-Some
returns-in-Some c =
    let ends = is-ended c.in-Some.len _ (sym c.ends_name.ensures ∙ c.if-ends_name.true) in
    name-whole c.args.bytes.now _ c.args.at c.min.result (take_rest c.args.bytes.now c.args.at) c.min.ensures c.in-Some.len c.requires
    (sym c.first_unfit.ensures ∙ c.in-Some.is) ends.0 ends.1

pub returns-in-Some-2 : goal.returns-in-Some-2
returns-in-Some-2 c =
    rw c.at.ensures (name-unfit c.args.bytes.now _ c.args.at c.min.result (take_rest c.args.bytes.now c.args.at) c.min.ensures c.in-Some.len
    (sym c.first_unfit.ensures ∙ c.in-Some.is) (not-ended c.in-Some.len _ (sym c.ends_name.ensures ∙ c.if-ends_name.false)))

pub returns-in-None : goal.returns-in-None
returns-in-None c =
    name-short c.args.bytes.now _ c.args.at c.min.result (take_rest c.args.bytes.now c.args.at) c.min.ensures
    (sym c.first_unfit.ensures ∙ c.in-None.is) (omega arith)

pub returns-in-None-2 : goal.returns-in-None-2
returns-in-None-2 c =
    rw c.at-in-None-2.ensures (name-long c.args.bytes.now _ c.args.at c.min.result (take_rest c.args.bytes.now c.args.at) c.min.ensures
    (sym c.first_unfit.ensures ∙ c.in-None.is) (omega arith))
