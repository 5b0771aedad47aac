-- Rules are linked from the last to the first.
use Rattle.std.proofs.Common.{ℕ, ◌≡◌, ◌≢◌, ◌≤◌, ◌+◌, ◌*◌, ⊎_elim, Some, List, set, length, sym, ap, ◌∙◌, subst, arith}
use Rattle.std.proofs.lemmas.Option.{none-some, slice_get_within, slice_get_past}
use Rattle.std.specs.List.{slice_get}
use mathlib.Core.Logic.{dite}
use native.Mathlib.Decide.{ℕ_discrete}
use Rattle.conf_types.specs.declared.rule.SocksRule.{SocksRule}
use Rattle.rule_index.specs.Classes.{slot_of}
use Rattle.rule_index.specs.Index.{IsFirstFrom, IsLinked}
use Rattle.rule_index.proofs.Places.{one_at, after_set}

-- the links of the rules from a place on, over so many slots
pub record IsLinkedFrom (rules : List SocksRule) (slots : ℕ) (heads nexts : List ℕ) (start : ℕ) : Type 0 where
  pub heads' : (slot at : ℕ) → slice_get heads slot ≡ Some at → IsFirstFrom rules slots slot start at
  pub nexts' : (k at : ℕ) (rule : SocksRule) → start ≤ k → slice_get nexts k ≡ Some at → slice_get rules k ≡ Some rule
      → IsFirstFrom rules slots (slot_of slots rule.to) (k + 1) at

-- behind the last rule no slot has any
pub first_of_none : (rules : List SocksRule) (slots slot : ℕ) → IsFirstFrom rules slots slot (length rules) (length rules)
first_of_none rules slots slot = record {
  later = omega arith;
  within = omega arith;
  here = λ rule h. absurd (none-some rule (sym (slice_get_past rules (length rules) (omega arith)) ∙ h));
  none = λ k rule le lt h is. absurd (omega arith);
}

-- a rule is the first of its slot from its own place on
pub first_here : (rules : List SocksRule) (slots at : ℕ) (rule : SocksRule) → slice_get rules at ≡ Some rule → IsFirstFrom rules slots (slot_of slots rule.to) at at
first_here rules slots at rule stands = let lt = slice_get_within rules at rule stands in record {
  later = omega arith;
  within = omega arith;
  here = λ r h. ap (λ (r : SocksRule). slot_of slots r.to) (one_at rules at r rule h stands);
  none = λ k r le lt h is. absurd (omega arith);
}

-- a rule of another slot changes nothing
pub first_earlier : (rules : List SocksRule) (slots slot start at : ℕ) (rule : SocksRule) → slice_get rules start ≡ Some rule → slot_of slots rule.to ≢ slot
    → IsFirstFrom rules slots slot (start + 1) at → IsFirstFrom rules slots slot start at
first_earlier rules slots slot start at rule stands other was = record {
  later = let le = was.later in omega arith;
  within = was.within;
  here = was.here;
  none = λ k r le lt h is. dite (ℕ_discrete k start)
      (λ e. other (ap (λ (r : SocksRule). slot_of slots r.to) (one_at rules start rule r stands (subst (λ (k : ℕ). slice_get rules k ≡ Some r) e h)) ∙ is))
      (λ ne. was.none k r (omega arith) lt h is);
}

-- one rule more: its slot leads to it, and it leads on to what its slot led to
pub linked_more : (rules : List SocksRule) (slots : ℕ) (heads nexts : List ℕ) (at slot next : ℕ) (rule : SocksRule)
    → slice_get rules at ≡ Some rule → slot ≡ slot_of slots rule.to → slice_get heads slot ≡ Some next
    → IsLinkedFrom rules slots heads nexts (at + 1) → IsLinkedFrom rules slots (set heads slot at) (set nexts at next) at
linked_more rules slots heads nexts at slot next rule stands is led was = record {
  heads' = λ s p h. ⊎_elim
      (λ same. subst (λ (s : ℕ). IsFirstFrom rules slots s at p) (sym (same.0 ∙ is)) (subst (λ (p : ℕ). IsFirstFrom rules slots (slot_of slots rule.to) at p) (sym same.1) (first_here rules slots at rule stands)))
      (λ other. first_earlier rules slots s at p rule stands (λ e. other.0 (sym (is ∙ e))) (was.heads' s p other.1))
      (after_set heads slot at s p h);
  nexts' = λ k p r le h g. ⊎_elim
      (λ same. let e = one_at rules at rule r stands (subst (λ (k : ℕ). slice_get rules k ≡ Some r) same.0 g) in
      subst (λ (k : ℕ). IsFirstFrom rules slots (slot_of slots r.to) (k + 1) p) (sym same.0)
      (subst (λ (p : ℕ). IsFirstFrom rules slots (slot_of slots r.to) (at + 1) p) (sym same.1)
      (subst (λ (s : ℕ). IsFirstFrom rules slots s (at + 1) next) (is ∙ ap (λ (r : SocksRule). slot_of slots r.to) e) (was.heads' slot next led))))
      (λ other. let ne = other.0 in was.nexts' k p r (omega arith) other.1 g)
      (after_set nexts at next k p h);
}

-- all rules are linked
pub linked_all : (rules : List SocksRule) (slots : ℕ) (heads nexts : List ℕ) → length rules ≤ 4096 → slots ≡ 2 * length rules + 1 → length heads ≡ slots → length nexts ≡ length rules
    → IsLinkedFrom rules slots heads nexts 0 → IsLinked rules heads nexts
linked_all rules slots heads nexts few twice so_many each was =
    let same = subst (λ (n : ℕ). IsLinkedFrom rules n heads nexts 0) (sym so_many) was in record {
      some_slot = omega arith;
      few_slots = omega arith;
      heads' = same.heads';
      each = each;
      nexts' = λ k p r h g. same.nexts' k p r (omega arith) h g;
    }
