-- What was decided on an association: each kind of decision is made at most once.
use Rattle.std.specs.Prelude.{ℕ, Bool, true, false, Option, Some, None, List, [], ◌∷◌, is_none, option_and_then}
use Rattle.addr_pattern.specs.declared.addr.Addr.{Addr}
use Rattle.addr_pattern.specs.declared.endpoint.Endpoint.{Endpoint}
use Rattle.rule_list.specs.declared.facts.Facts.{Facts}
use Rattle.rule_list.specs.declared.verdict.Verdict.{Verdict}
use Rattle.socks_machine.specs.declared.cause.Cause.{Cause}
use Rattle.socks_machine.specs.declared.record.Decision.{Decision}

pub record Opening : Type 0 where
  pub generation : ℕ
  pub rule : Option ℕ
  pub refused : Option Cause

pub record Lookup : Type 0 where
  pub host : List ℕ
  pub found : Option Addr

pub record Grant : Type 0 where
  pub generation : ℕ
  pub facts : Facts
  pub verdict : Verdict
  pub route : Option ℕ
  pub refused : Option Cause

pub record Reaching : Type 0 where
  pub to : Endpoint
  pub at : Option Endpoint

pub record Coming : Type 0 where
  pub generation : ℕ
  pub peer : Endpoint
  pub verdict : Verdict
  pub refused : Option Cause

abbrev pub opened : List Decision → Option Opening
opened [] = None
opened (Decision.Opened g rule refused ∷ ds) = Some (record { generation = g; rule = rule; refused = refused })
opened (_ ∷ ds) = opened ds

abbrev pub looked : List Decision → Option Lookup
looked [] = None
looked (Decision.Looked host found ∷ ds) = Some (record { host = host; found = found })
looked (_ ∷ ds) = looked ds

abbrev pub granted : List Decision → Option Grant
granted [] = None
granted (Decision.Granted g facts verdict route refused ∷ ds) =
    Some (record { generation = g; facts = facts; verdict = verdict; route = route; refused = refused })
granted (_ ∷ ds) = granted ds

abbrev pub reached : List Decision → Option Reaching
reached [] = None
reached (Decision.Reached to at ∷ ds) = Some (record { to = to; at = at })
reached (_ ∷ ds) = reached ds

abbrev pub came : List Decision → Option Coming
came [] = None
came (Decision.Came g peer verdict refused ∷ ds) = Some (record { generation = g; peer = peer; verdict = verdict; refused = refused })
came (_ ∷ ds) = came ds

-- an open that passed
abbrev pub passed : Option Opening → Bool
passed None = false
passed (Some o) = is_none o.refused

abbrev pub is_opened : List Decision → Bool
is_opened ds = passed (opened ds)

-- where the outside was reached, without a failure
abbrev pub reached_at : List Decision → Option Endpoint
reached_at ds = option_and_then (λ r. r.at) (reached ds)

abbrev pub let_in : Option Coming → Option Endpoint
let_in None = None
let_in (Some c) = elim (is_none c.refused) [ true ↦ Some c.peer | false ↦ None ]

-- the peer of a BIND that passed
abbrev pub peer_let_in : List Decision → Option Endpoint
peer_let_in ds = let_in (came ds)
