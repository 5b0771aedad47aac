use Rattle.std.proofs.Common.{subst, refl, arith, codes}
use Rattle.replay_script.specs.Cuts.{Lacks}
use Rattle.replay_script.specs.Forms.{largest}
use Rattle.replay_script.proofs.Peeling.{peel_after, peel_cut, peel_number}
use Rattle.replay_script.proofs.forms.open_line.Goals as goal
use Rattle.replay_script.proofs.Cutting.{cut_none}

pub returns-in_default-cut : goal.returns-in_default-cut
returns-in_default-cut c = λ n peer at h.
    let a = rw c.in-Some-2.is at c.in_ok-n.ensures in
    let h1 = peel_after (codes "open 1 ") c.args.text.now _ _ c.in-Some.ensures h in
    let h2 = peel_number 32 largest _ _ _ _ refl (omega arith) a h1 in
    cut_none 32 h2.0 h2.1 (subst (Lacks 32) h2.2.1 c.in_default-cut.ensures)

pub returns-in_default-endpoint : goal.returns-in_default-endpoint
returns-in_default-endpoint c = λ n peer at h.
    let a = rw c.in-Some-2.is at c.in_ok-n.ensures in
    let h1 = peel_after (codes "open 1 ") c.args.text.now _ _ c.in-Some.ensures h in
    let h2 = peel_number 32 largest _ _ _ _ refl (omega arith) a h1 in
    let h3 = peel_cut 32 _ _ _ _ c.in-Some-cut.ensures h2 in
    (rw c.in_default-endpoint.is at c.endpoint.ensures) peer h3.1

pub returns-in_default-endpoint-2 : goal.returns-in_default-endpoint-2
returns-in_default-endpoint-2 c = λ n peer at h.
    let a = rw c.in-Some-2.is at c.in_ok-n.ensures in
    let h1 = peel_after (codes "open 1 ") c.args.text.now _ _ c.in-Some.ensures h in
    let h2 = peel_number 32 largest _ _ _ _ refl (omega arith) a h1 in
    let h3 = peel_cut 32 _ _ _ _ c.in-Some-cut.ensures h2 in
    (rw c.in_default-endpoint-2.is at c.endpoint-2.ensures) at h3.2
