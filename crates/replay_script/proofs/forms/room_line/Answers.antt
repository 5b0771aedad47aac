use Rattle.std.proofs.Common.{codes, refl, arith}
use Rattle.replay_script.specs.Forms.{largest}
use Rattle.replay_script.proofs.Peeling.{peel_after, peel_number}
use Rattle.replay_script.proofs.forms.room_line.Goals as goal

pub returns-in_default-3 : goal.returns-in_default-3
returns-in_default-3 c = λ n object most h.
    let a = rw c.in-Some-2.is at c.in_ok-n.ensures in
    let h1 = peel_after (codes "room ") c.args.text.now _ _ c.in-Some.ensures h in
    let h2 = peel_number 32 largest _ _ _ _ refl (omega arith) a h1 in
    (rw c.in_default-3.is at c.in_ok-object.ensures) object most h2.1
