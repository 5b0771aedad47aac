-- A configuration that is published later changes nothing of what is seen of a record.
use Rattle.std.specs.Prelude.{ℕ, ◌≡◌, ◌≤◌, List, ◌++◌, length, IfSome}
use Rattle.std.specs.List.{AllByRecursion}
use Rattle.conf_types.specs.declared.entries.Entries.{Entries}
use Rattle.socks_machine.specs.declared.record.Record.{Record}
use Rattle.socks_machine.specs.Basis.{Basis}
use Rattle.socks_machine.specs.Decisions.{granted}
use Rattle.socks_machine.specs.Owed.{owed_to_client, owed_to_target}
use Rattle.socks_machine.specs.Phase.{phase}

-- every generation that the record names is one of the first ones
pub record NamesBelow (n : ℕ) (r : Record) : Type 0 where
  pub granted' : IfSome (granted r.decisions) (λ g. g.generation ≤ n)
  pub grams : AllByRecursion (λ d. d.generation ≤ n) r.grams

abbrev pub with_more : Basis → List Entries → Basis
with_more basis more = record basis { pubs = basis.pubs ++ more }

pub record SameLater (basis : Basis) (more : List Entries) (r : Record) : Type 0 where
  pub phase' : phase (with_more basis more) r ≡ phase basis r
  pub to_client : owed_to_client (with_more basis more) r ≡ owed_to_client basis r
  pub to_target : owed_to_target (with_more basis more) r ≡ owed_to_target basis r

abbrev pub Later : Type 0
Later = (basis : Basis) (more : List Entries) (r : Record) → NamesBelow (length basis.pubs) r → SameLater basis more r
