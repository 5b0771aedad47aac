use Rattle.std.proofs.Common.{length, ap, arith}
use Rattle.replay_script.specs.Forms.{IsSent}
use Rattle.replay_script.proofs.Unique.{one_sent}
use Rattle.replay_script.proofs.forms.arrival.Goals as goal

pub returns-in_default : goal.returns-in_default
returns-in_default c = λ n bytes h. (rw c.in_default.is at c.in_ok-n.ensures) n bytes h.0

pub returns-then-len-gt-MOST_AT_ONCE : goal.returns-then-len-gt-MOST_AT_ONCE
returns-then-len-gt-MOST_AT_ONCE c = λ n bytes h.
    let found : IsSent c.args.front.now c.args.text.now c.in-Some.n c.in-Some.bytes = rw c.in-Some.is at c.in_ok-n.ensures in
    let same = (one_sent c.args.front.now c.args.text.now n c.in-Some.n bytes c.in-Some.bytes h.0 found).1 in
    let e = ap length same in
    let most = h.1 in
    let long = c.if-len-gt-MOST_AT_ONCE.true in
    let is = c.len.ensures in
    omega (arith, e, most, long, is)
