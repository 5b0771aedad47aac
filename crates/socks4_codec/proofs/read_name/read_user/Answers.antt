use Rattle.std.proofs.Common.{◌∙◌, sym, arith}
use Rattle.std.proofs.lemmas.List.{take_rest}
use Rattle.socks4_codec.proofs.UserName.{user-whole, user-short, user-wrong}
use Rattle.socks4_codec.proofs.read_name.read_user.Goals as goal

pub returns-in-Some : goal.returns-in-Some
returns-in-Some c =
    user-whole c.args.bytes.now _ c.args.at c.min.result (take_rest c.args.bytes.now c.args.at) c.min.ensures c.in-Some.len c.requires
    (sym c.first_zero.ensures ∙ c.in-Some.is)

pub returns-in-None : goal.returns-in-None
returns-in-None c =
    user-short c.args.bytes.now _ c.args.at c.min.result (take_rest c.args.bytes.now c.args.at) c.min.ensures
    (sym c.first_zero.ensures ∙ c.in-None.is) (omega arith)

pub returns-in-None-2 : goal.returns-in-None-2
returns-in-None-2 c =
    rw c.at.ensures (user-wrong c.args.bytes.now _ c.args.at c.min.result (take_rest c.args.bytes.now c.args.at) c.min.ensures
    (sym c.first_zero.ensures ∙ c.in-None.is) (omega arith))
