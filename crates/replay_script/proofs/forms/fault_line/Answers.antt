use Rattle.std.proofs.Common.{codes, refl, arith}
use Rattle.replay_script.specs.Forms.{largest}
use Rattle.replay_script.proofs.Peeling.{peel_after, peel_number}
use Rattle.replay_script.proofs.forms.fault_line.Goals as goal

pub returns-in_default-call : goal.returns-in_default-call
returns-in_default-call c = λ n object kind h.
    let a = rw c.in-Some-2.is at c.in_ok-n.ensures in
    let h1 = peel_after (codes "fault ") c.args.text.now _ _ c.in-Some.ensures h in
    let h2 = peel_number 32 largest _ _ _ _ refl (omega arith) a h1 in
    (rw c.in_default-call.is at c.call.ensures) object kind h2.1
