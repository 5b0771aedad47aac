use Rattle.std.proofs.Common.{[], ◌∷◌, length, length-append, ap, sym, subst, All, arith}
use Rattle.std.proofs.lemmas.List.Elements.{All-push}
use Rattle.conf_types.specs.Kept.{IsSocksRule}
use Rattle.rule_index.proofs.tests.nets.Goals as goal

pub loop-number-preserved : goal.loop-number-preserved
loop-number-preserved c =
    let was = c.loop-number.invariant in let into = c.in_ok-push.ensures.ok in
    record {
      each = subst (All IsSocksRule) (sym into) (All-push IsSocksRule c.loop-number.rules c.pass_to.result was.each c.pass_to.ensures);
      count = let size = ap length into in let sum = length-append c.loop-number.rules (c.pass_to.result ∷ []) in let before = was.count in omega arith;
    }
