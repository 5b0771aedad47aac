use Rattle.std.proofs.Common.{ℕ, ◌≡◌, ◌+◌, ◌-◌, ◌*◌, length, get_or, ◌∙◌, subst, arith, length-set}
use Rattle.std.proofs.lemmas.Option.{slice_get-get_or}
use Rattle.rule_index.specs.Classes.{slot_of}
use Rattle.rule_index.proofs.Linking.{IsLinkedFrom, linked_more}
use Rattle.rule_index.proofs.links.link.Goals as goal

pub loop-at-preserved : goal.loop-at-preserved
loop-at-preserved c =
    let was = c.loop-at.invariant in let rules = c.args.rules.now in let slot = c.slot_of-slot.result in let rule = get_or rules (c.loop-at.at - 1) c.index-rules-at.result in
    record {
      within = omega arith;
      slots = length-set c.loop-at.heads slot (c.loop-at.at - 1) ∙ was.slots;
      each = length-set c.loop-at.nexts (c.loop-at.at - 1) (get_or c.loop-at.heads slot 0) ∙ was.each;
      linked = linked_more rules (2 * length rules + 1) c.loop-at.heads c.loop-at.nexts (c.loop-at.at - 1) slot (get_or c.loop-at.heads slot 0) rule
          (slice_get-get_or rules (c.loop-at.at - 1) c.index-rules-at.result (omega arith))
          (subst (λ (n : ℕ). slot ≡ slot_of n rule.to) was.slots c.slot_of-slot.ensures.value)
          (slice_get-get_or c.loop-at.heads slot 0 (let lt = c.slot_of-slot.ensures.within in omega arith))
          (subst (λ (n : ℕ). IsLinkedFrom rules (2 * length rules + 1) c.loop-at.heads c.loop-at.nexts n) (omega arith) was.linked);
    }
