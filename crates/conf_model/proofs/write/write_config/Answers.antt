use Rattle.std.proofs.Common.{◌≡◌, ℕ, List, Result, IfOk, OnOk, subst}
use Rattle.conf_types.specs.declared.entries.Entries.{Entries}
use Rattle.conf_model.specs.Canonical.{canonical_text}
use Rattle.conf_model.specs.Reads.{IsReadAgain}
use Rattle.conf_model.proofs.write.write_config.Goals as goal

pub returns-clause-canonical : goal.returns-clause-canonical
returns-clause-canonical c = subst (λ (k : Entries). IfOk c.write_entries.result (λ text. text ≡ canonical_text k)) c.entries.ensures.same c.write_entries.ensures.canonical

pub returns-clause-read_again : goal.returns-clause-read_again
returns-clause-read_again c = subst (λ (k : Entries). OnOk c.write_entries.result (IsReadAgain k)) c.entries.ensures.same c.write_entries.ensures.read_again
