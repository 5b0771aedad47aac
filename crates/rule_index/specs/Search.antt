-- How far a search of the socks rules has come.
use Rattle.std.specs.Prelude.{ℕ, ◌≡◌, ◌<◌, true, false, List, slice_get, Some}
use Rattle.conf_types.specs.declared.rule.SocksRule.{SocksRule}
use Rattle.rule_list.specs.declared.facts.Facts.{Facts}
use Rattle.rule_list.specs.Rules.{socks_rule_matches}
use Rattle.rule_index.specs.Classes.{slot_of}

-- the rule at this place matches, if there is one
abbrev pub MatchesAt : List SocksRule → Facts → ℕ → Type 0
MatchesAt rules facts at = (rule : SocksRule) → slice_get rules at ≡ Some rule → socks_rule_matches facts rule ≡ true

-- no rule of the slot before this place matches
abbrev pub NoneBefore : List SocksRule → Facts → ℕ → ℕ → ℕ → Type 0
NoneBefore rules facts slots slot at =
    (k : ℕ) (rule : SocksRule) → k < at → slice_get rules k ≡ Some rule → slot_of slots rule.to ≡ slot → socks_rule_matches facts rule ≡ false
