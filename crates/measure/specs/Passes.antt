-- The passes of many judgements of one request.
use Rattle.std.specs.Prelude.{ℕ, if◌then◌else◌}
use Rattle.conf_types.specs.declared.entries.Entries.{Entries}
use Rattle.rule_list.specs.declared.facts.Facts.{Facts}
use Rattle.rule_list.specs.Rules.{judge, is_pass}

-- each of the judgements, or none
abbrev pub passes_of : ℕ → Entries → Facts → ℕ
passes_of count k f = if is_pass (judge k f) then count else 0
