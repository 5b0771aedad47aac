-- What holds of every record of a run, whatever happened: nothing is reached, let in or sent but what the rules pass.
use Rattle.std.specs.Prelude.{ℕ, ◌≡◌, Bool, true, ◌&&◌, IsTrue, nat_lt, Some, None, List, [], ◌∷◌, map, IfSome, IfNone, All}
use mathlib.Core.List.{IsPrefix}
use Rattle.addr_pattern.specs.declared.addr.Addr.{Addr}
use Rattle.addr_pattern.specs.declared.host.Host.{Host}
use Rattle.rule_list.specs.declared.facts.Facts.{Facts}
use Rattle.rule_list.specs.declared.verdict.Verdict.{Verdict}
use Rattle.socks_machine.specs.declared.record.Decision.{Decision}
use Rattle.socks_machine.specs.declared.record.Record.{Record}
use Rattle.socks_machine.specs.declared.world.World.{World}
use Rattle.socks_machine.specs.Calls.{grant_facts, peer_facts, reach_to}
use Rattle.socks_machine.specs.Datagrams.{owed_datagrams}
use Rattle.socks_machine.specs.Decisions.{Grant, Reaching, Coming, granted, looked, reached, came, is_opened}
use Rattle.socks_grammar.specs.Handshake.{Request, Split}
use Rattle.socks_machine.specs.Owed.{owed_to_client, owed_to_target}
use Rattle.socks_machine.specs.Basis.{Basis}
use Rattle.socks_machine.specs.View.{split_of}
use Rattle.rule_list.specs.Rules.{numbered, judge, is_pass}
use Rattle.socks_machine.specs.Step.{basis_of}
use Rattle.conf_types.specs.declared.entries.Entries.{Entries}

abbrev pub place_of : Decision → ℕ
place_of (Decision.Opened g rule refused) = 0
place_of (Decision.Looked host found) = 1
place_of (Decision.Granted g facts verdict route refused) = 2
place_of (Decision.Reached to at) = 3
place_of (Decision.Came g peer verdict refused) = 4

abbrev pub is_rising : List ℕ → Bool
is_rising [] = true
is_rising (n ∷ []) = true
is_rising (n ∷ m ∷ ms) = nat_lt n m && is_rising (m ∷ ms)

-- in one published generation the rules pass these facts, by this verdict
pub record PassesIn (basis : Basis) (generation : ℕ) (facts : Facts) (verdict : Verdict) : Type 0 where
  pub config : Entries
  pub published : numbered basis.pubs generation ≡ Some config
  pub judged : verdict ≡ judge config facts
  pub passed : IsTrue (is_pass verdict)

-- the host is an address, or its name was looked up and found
abbrev pub WasFound : Record → Host → Type 0
WasFound r (Host.Addr a) = Unit {0}
WasFound r (Host.Name name) = (a : Addr) × (looked r.decisions ≡ Some (record { host = name; found = Some a }))

-- what was reached rests on an open that passed, and on a grant that wasn't refused
pub record RestsOnGrant (basis : Basis) (r : Record) (x : Reaching) : Type 0 where
  pub opened : IsTrue (is_opened r.decisions)
  pub grant : Grant
  pub granted' : granted r.decisions ≡ Some grant
  pub not_refused : grant.refused ≡ None
  pub passes : PassesIn basis grant.generation grant.facts grant.verdict
  pub request : Request
  pub length' : ℕ
  pub asked : split_of basis r ≡ Split.Whole request length'
  pub facts : grant.facts ≡ grant_facts r request
  pub found : WasFound r request.host
  pub goes : x.to ≡ reach_to basis r grant

-- a peer that was let in rests on a judgement of its own
pub record RestsOnJudgement (basis : Basis) (r : Record) (c : Coming) : Type 0 where
  pub grant : Grant
  pub granted' : granted r.decisions ≡ Some grant
  pub passes : PassesIn basis c.generation (peer_facts r grant c.peer) c.verdict

pub record IsGuarded (basis : Basis) (r : Record) : Type 0 where
  pub in_order : IsTrue (is_rising (map place_of r.decisions))
  pub reached' : IfSome (reached r.decisions) (RestsOnGrant basis r)
  pub came' : IfSome (came r.decisions) (λ c. IfNone c.refused (RestsOnJudgement basis r c))
  pub to_client : IsPrefix r.sent_c (owed_to_client basis r)
  pub to_target : IsPrefix r.sent_t (owed_to_target basis r)
  pub datagrams : IsPrefix r.sent_u (owed_datagrams basis r)

abbrev pub Guarded : World → Type 0
Guarded w = All (IsGuarded (basis_of w)) w.records
