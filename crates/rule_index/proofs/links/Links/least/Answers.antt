use Rattle.std.proofs.Common.{length, refl, sym, ◌∙◌, arith}
use Rattle.std.proofs.lemmas.Option.{slice_get_read}
use Rattle.rule_index.proofs.Walking.{goes_to, come_next}
use Rattle.rule_index.proofs.links.Links.least.Goals as goal

pub loop-at-smaller : goal.loop-at-smaller
loop-at-smaller c =
    let stands = slice_get_read c.args.rules.now (length c.args.rules.now) c.loop-at.at c.index-rules-at.result refl (omega arith) c.index-rules-at.is in
    let on = goes_to c.args.rules.now c.args.self.now.heads c.args.self.now.nexts c.as_slice-nexts.result.now c.loop-at.at c.index-rules-at.result c.requires.linked c.as_slice-nexts.ensures stands in
    let later = on.later in omega arith

pub loop-at-preserved : goal.loop-at-preserved
loop-at-preserved c =
    let stands = slice_get_read c.args.rules.now (length c.args.rules.now) c.loop-at.at c.index-rules-at.result refl (omega arith) c.index-rules-at.is in
    let on = goes_to c.args.rules.now c.args.self.now.heads c.args.self.now.nexts c.as_slice-nexts.result.now c.loop-at.at c.index-rules-at.result c.requires.linked c.as_slice-nexts.ensures stands in
    come_next c.args.rules.now c.args.facts.now (length c.args.self.now.heads) c.args.slot c.loop-at.at _ c.index-rules-at.result stands (sym c.matches_socks.ensures ∙ c.if-matches_socks.false) c.loop-at.invariant on
