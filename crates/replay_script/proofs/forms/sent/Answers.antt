use Rattle.std.proofs.Common.{refl, arith}
use Rattle.replay_script.specs.Forms.{largest}
use Rattle.replay_script.proofs.Peeling.{peel_after, peel_number}
use Rattle.replay_script.proofs.forms.sent.Goals as goal

pub returns-in_default-3 : goal.returns-in_default-3
returns-in_default-3 c = λ n bytes h.
    let a = rw c.in-Some-2.is at c.in_ok-n.ensures in
    let h1 = peel_after c.args.front.now c.args.text.now _ _ c.in-Some.ensures h in
    let h2 = peel_number 32 largest _ _ _ _ refl (omega arith) a h1 in
    (rw c.in_default-3.is at c.in_ok-bytes.ensures) bytes h2.1

pub returns-in_default-2 : goal.returns-in_default-2
returns-in_default-2 c = λ n bytes h.
    let none = rw c.in_default-2.is at c.in_ok-n.ensures in
    let h1 = peel_after c.args.front.now c.args.text.now _ _ c.in-Some.ensures h in
    none h1.0 h1.1 h1.2
