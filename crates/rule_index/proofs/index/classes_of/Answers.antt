use Rattle.std.proofs.Common.{length, refl, arith}
use Rattle.std.proofs.lemmas.Option.{slice_get_read, slice_get_within}
use Rattle.rule_index.proofs.Classes.{classes_more}
use Rattle.rule_index.proofs.index.classes_of.Goals as goal

pub loop-rule-preserved : goal.loop-rule-preserved
loop-rule-preserved c =
    let rules = c.args.rules.now in
    let stands = slice_get_read rules (length rules) c.loop-rule.rule-index c.rule-item.result refl (omega arith) c.rule-item.is in
    classes_more rules c.loop-rule.rule-index c.rule-item.result c.of.result c.loop-rule.classes c.add_class.new.classes stands c.of.ensures
    c.in_ok-add_class.ensures.added c.in_ok-add_class.ensures.kept c.loop-rule.invariant

pub returns : goal.returns
returns c = λ k rule h. let lt = slice_get_within c.args.rules.now k rule h in c.loop-rule.invariant k rule (omega arith) h
