-- What an index holds of the socks rules of a configuration.
use Rattle.std.specs.Prelude.{ℕ, ◌≡◌, ◌≤◌, ◌<◌, ◌+◌, true, List, length, slice_get, Some}
use Rattle.std.specs.List.{list_any}
use Rattle.conf_types.specs.declared.entries.Entries.{Entries}
use Rattle.conf_types.specs.declared.rule.SocksRule.{SocksRule}
use Rattle.rule_index.specs.declared.class.Class.{Class}
use Rattle.rule_index.specs.declared.index.RuleIndex.{RuleIndex}
use Rattle.rule_index.specs.Classes.{class_of, class_eq, slot_of}

-- `at` is the place of the first rule of a slot from `start` on, or the number of rules where there is none
pub record IsFirstFrom (rules : List SocksRule) (slots slot start at : ℕ) : Type 0 where
  pub later : start ≤ at
  pub within : at ≤ length rules
  pub here : (rule : SocksRule) → slice_get rules at ≡ Some rule → slot_of slots rule.to ≡ slot
  pub none : (k : ℕ) (rule : SocksRule) → start ≤ k → k < at → slice_get rules k ≡ Some rule → slot_of slots rule.to ≡ slot → ⊥

-- the heads lead to the first rule of each slot, and each rule leads on to the next one of its slot
pub record IsLinked (rules : List SocksRule) (heads nexts : List ℕ) : Type 0 where
  pub some_slot : 0 < length heads
  pub few_slots : length heads ≤ 8193
  pub heads' : (slot at : ℕ) → slice_get heads slot ≡ Some at → IsFirstFrom rules (length heads) slot 0 at
  pub each : length nexts ≡ length rules
  pub nexts' : (k at : ℕ) (rule : SocksRule) → slice_get nexts k ≡ Some at → slice_get rules k ≡ Some rule
      → IsFirstFrom rules (length heads) (slot_of (length heads) rule.to) (k + 1) at

-- the class of each rule is one of these
abbrev pub AreClassesOf : List SocksRule → List Class → Type 0
AreClassesOf rules classes = (k : ℕ) (rule : SocksRule) → slice_get rules k ≡ Some rule → list_any (class_eq (class_of rule.to)) classes ≡ true

-- the index was built from the configuration
pub record IsIndexOf (config : Entries) (index : RuleIndex) : Type 0 where
  pub linked : IsLinked config.socks index.links.heads index.links.nexts
  pub classes' : AreClassesOf config.socks index.classes
