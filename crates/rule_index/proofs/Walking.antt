-- A search goes from each rule of a slot to the next.
use Rattle.std.proofs.Common.{ℕ, ◌≡◌, ◌≤◌, ◌<◌, ◌+◌, false, Some, List, length, get_or, sym, ap, ◌∙◌, subst, arith}
use Rattle.std.proofs.lemmas.Option.{slice_get_within, slice_get-get_or}
use Rattle.std.specs.List.{slice_get}
use mathlib.Core.Logic.{dite}
use native.Mathlib.Decide.{ℕ_discrete, dec_le}
use Rattle.conf_types.specs.declared.rule.SocksRule.{SocksRule}
use Rattle.rule_list.specs.declared.facts.Facts.{Facts}
use Rattle.rule_list.specs.Rules.{socks_rule_matches}
use Rattle.rule_index.specs.Classes.{slot_of}
use Rattle.rule_index.specs.Index.{IsFirstFrom, IsLinked}
use Rattle.rule_index.specs.Search.{NoneBefore}
use Rattle.rule_index.proofs.Places.{one_at}

-- the search of a slot has come to a place: the rule there is of the slot, and none before it matches
pub record HasComeTo (rules : List SocksRule) (facts : Facts) (slots slot at : ℕ) : Type 0 where
  pub within : at ≤ length rules
  pub here : (rule : SocksRule) → slice_get rules at ≡ Some rule → slot_of slots rule.to ≡ slot
  pub none : NoneBefore rules facts slots slot at

-- what doesn't match before a place doesn't before an earlier one
pub none_earlier : (rules : List SocksRule) (facts : Facts) (slots slot at best : ℕ) → best ≤ at → NoneBefore rules facts slots slot at → NoneBefore rules facts slots slot best
none_earlier rules facts slots slot at best le none = λ k rule lt h is. none k rule (omega arith) h is

pub come_first : (rules : List SocksRule) (facts : Facts) (slots slot at : ℕ) → IsFirstFrom rules slots slot 0 at → HasComeTo rules facts slots slot at
come_first rules facts slots slot at first = record {
  within = first.within;
  here = first.here;
  none = λ k rule lt h is. absurd (first.none k rule (omega arith) lt h is);
}

pub come_next : (rules : List SocksRule) (facts : Facts) (slots slot at next : ℕ) (rule : SocksRule) → slice_get rules at ≡ Some rule → socks_rule_matches facts rule ≡ false
    → HasComeTo rules facts slots slot at → IsFirstFrom rules slots (slot_of slots rule.to) (at + 1) next → HasComeTo rules facts slots slot next
come_next rules facts slots slot at next rule stands fails was on =
    let first = subst (λ (s : ℕ). IsFirstFrom rules slots s (at + 1) next) (was.here rule stands) on in record {
      within = first.within;
      here = first.here;
      none = λ k r lt h is. dite (ℕ_discrete k at)
          (λ e. ap (socks_rule_matches facts) (one_at rules at r rule (subst (λ (k : ℕ). slice_get rules k ≡ Some r) e h) stands) ∙ fails)
          (λ ne. dite (dec_le k at)
          (λ le. was.none k r (omega arith) h is)
          (λ gt. absurd (first.none k r (omega arith) lt h is)));
    }

-- where the search of a slot begins
pub begins_at : (rules : List SocksRule) (heads nexts read : List ℕ) (slot : ℕ) → IsLinked rules heads nexts → read ≡ heads → slot < length heads
    → IsFirstFrom rules (length heads) slot 0 (get_or read slot 0)
begins_at rules heads nexts read slot linked same lt =
    linked.heads' slot (get_or read slot 0) (subst (λ (xs : List ℕ). slice_get heads slot ≡ Some (get_or xs slot 0)) (sym same) (slice_get-get_or heads slot 0 lt))

-- where it goes on behind a rule
pub goes_to : (rules : List SocksRule) (heads nexts read : List ℕ) (at : ℕ) (rule : SocksRule) → IsLinked rules heads nexts → read ≡ nexts → slice_get rules at ≡ Some rule
    → IsFirstFrom rules (length heads) (slot_of (length heads) rule.to) (at + 1) (get_or read at 0)
goes_to rules heads nexts read at rule linked same stands =
    let each = linked.each in let lt = slice_get_within rules at rule stands in
    linked.nexts' at (get_or read at 0) rule (subst (λ (xs : List ℕ). slice_get nexts at ≡ Some (get_or xs at 0)) (sym same) (slice_get-get_or nexts at 0 (omega arith))) stands
