use Rattle.std.proofs.Common.{codes, refl, arith}
use Rattle.replay_script.specs.Forms.{largest}
use Rattle.replay_script.proofs.Peeling.{peel_after, peel_number}
use Rattle.replay_script.proofs.forms.lookup_line.Goals as goal

pub returns-in_default-found : goal.returns-in_default-found
returns-in_default-found c = λ n outer h.
    let a = rw c.in-Some-2.is at c.in_ok-n.ensures in
    let h1 = peel_after (codes "lookup ") c.args.text.now _ _ c.in-Some.ensures h in
    let h2 = peel_number 32 largest _ _ _ _ refl (omega arith) a h1 in
    (rw c.in_default-found.is at c.found.ensures) outer h2.1
