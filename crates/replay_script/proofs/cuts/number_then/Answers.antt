use Rattle.std.proofs.Common.{◌<◌, ◌^◌, sym, subst, ◌∙◌, decimal, arith}
use Rattle.replay_script.specs.Cuts.{Lacks}
use Rattle.replay_script.proofs.Cutting.{cut_one, cut_none, lacks_decimal}
use Rattle.replay_script.proofs.cuts.number_then.Goals as goal

pub returns-in_default : goal.returns-in_default
returns-in_default c = λ n rest h. cut_none c.args.at (decimal n) rest (subst (Lacks c.args.at) h.spelled c.in_default.ensures)

pub returns-in_default-2 : goal.returns-in_default-2
returns-in_default-2 c = λ n rest h.
    let none = rw c.in_default-2.is at c.in_ok-n.ensures in
    let k = h.fits in
    let small : n < 2 ^ 64 = omega arith in
    let q = cut_one c.args.at (decimal n) c.in-Some.front.now rest c.in-Some.rest.now (lacks_decimal c.args.at n small c.requires) c.in-Some.ensures.0 (sym h.spelled ∙ c.in-Some.ensures.1) in
    none n (record { fits = h.fits; spelled = sym q.0 })
