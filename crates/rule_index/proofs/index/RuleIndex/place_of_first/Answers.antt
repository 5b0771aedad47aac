use Rattle.std.proofs.Common.{◌≡◌, ◌∙◌, List, length, sym, ap, subst, arith}
use Rattle.std.specs.List.{position_or_len}
use Rattle.conf_types.specs.declared.entries.Entries.{Entries}
use Rattle.conf_types.specs.declared.rule.SocksRule.{SocksRule}
use Rattle.rule_list.specs.Rules.{socks_rule_matches}
use Rattle.rule_index.specs.Index.{AreClassesOf}
use Rattle.rule_index.proofs.Candidates.{tried_none, tried_next, tried_all}
use Rattle.rule_index.proofs.index.RuleIndex.place_of_first.Goals as goal

pub loop-class-init : goal.loop-class-init
loop-class-init c = tried_none c.as_slice-rules.result.now c.args.facts.now c.args.self.now.classes (length c.args.self.now.links.heads)

pub loop-class-preserved : goal.loop-class-preserved
loop-class-preserved c =
    tried_next c.as_slice-rules.result.now c.args.facts.now c.args.self.now.classes c.as_slice-class-items.result.now (length c.args.self.now.links.heads) c.len-slots.result
    c.loop-class.class-index c.loop-class.best c.least-best.result c.slot-slot.result _ c.as_slice-class-items.ensures c.len-slots.ensures c.loop-class-test.true
    c.slot-slot.ensures.value c.least-best.ensures.below c.least-best.ensures.sound c.least-best.ensures.none c.loop-class.invariant

pub returns : goal.returns
returns c =
    let same : c.as_slice-rules.result.now ≡ c.args.config.now.socks = c.as_slice-rules.ensures ∙ ap (λ (k : Entries). k.socks) c.entries.ensures.same in
    let tried = tried_all c.as_slice-rules.result.now c.args.facts.now c.args.self.now.classes (length c.args.self.now.links.heads) c.loop-class.class-index c.loop-class.best
    (let count = ap length c.as_slice-class-items.ensures in let end = c.loop-class-test.false in omega arith)
    (subst (λ (rules : List SocksRule). AreClassesOf rules c.args.self.now.classes) (sym same) c.requires.classes') c.loop-class.invariant in
    tried ∙ ap (position_or_len (socks_rule_matches c.args.facts.now)) same
