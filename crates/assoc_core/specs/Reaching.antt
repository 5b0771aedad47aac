-- A granted destination that was dialled.
use Rattle.std.specs.Prelude.{ℕ, ◌≡◌, ◌<◌, Bool, true, false, length, drop, Option, Some, None, List, [], ◌∷◌, ◌++◌}
use Rattle.addr_pattern.specs.declared.endpoint.Endpoint.{Endpoint}
use Rattle.net_ends.specs.Nets.{DialCause, DialOutcome, NetTold, Plan, SameLookups, dialled}
use Rattle.net_ends.specs.Counts.{Counts, Later, Rose}
use Rattle.net_ends.specs.Faults.{Tried}
use Rattle.net_ends.specs.Told.{Told, IsFresh, more}
use Rattle.rule_list.specs.declared.facts.Facts.{Facts}
use Rattle.rule_list.specs.declared.verdict.Verdict.{Verdict}
use Rattle.socks_machine.specs.declared.cause.StopBy.{StopBy}
use Rattle.socks_machine.specs.declared.lines.Line.{Line}
use Rattle.socks_machine.specs.declared.record.Decision.{Decision}
use Rattle.socks_machine.specs.Basis.{Basis}
use Rattle.assoc_core.specs.declared.assoc.Assoc.{Assoc}
use Rattle.assoc_core.specs.Plain.{Sought, behind_lookup, owed_c}
use Rattle.assoc_core.specs.Stands.{Stands}
use Rattle.assoc_core.specs.Turns.{IsFull}

abbrev pub at_of : DialOutcome → Option Endpoint
at_of (DialOutcome.CameUp local) = Some local
at_of _ = None

-- the desk wasn't asked
abbrev pub SameDesk : List Line → List StopBy → List Line → List StopBy → Type 0
SameDesk h marks h' marks' = (h' ≡ h) × (marks' ≡ marks)

-- b is a with the decision of a dial that came out so
pub record HasDialled {L : Type 0} (told : L → Told) (basis : Basis) (net net' : NetTold) (now : ℕ) (a b : Assoc L) (outcome : DialOutcome) : Type 0 where
  pub stands : Stands told basis a
  pub g : ℕ
  pub rule : Option ℕ
  pub sought : Option Sought
  pub g' : ℕ
  pub facts : Facts
  pub verdict : Verdict
  pub route : Option ℕ
  pub granted' : (a.state).decisions ≡ Decision.Opened g rule None ∷ behind_lookup sought (Decision.Granted g' facts verdict route None ∷ [])
  pub uncaused : (a.state).cause ≡ None
  pub since : (a.state).since ≡ now
  pub state' : b.state ≡ (let r = a.state in record r { since = now; decisions = r.decisions ++ Decision.Reached facts.to (at_of outcome) ∷ [] })
  pub client' : b.client ≡ a.client
  pub target' : b.target ≡ a.target
  pub dials : net'.dials ≡ dialled net.dials (record { to = facts.to; outcome = outcome })
  pub lookups : SameLookups net net'
  pub planned : (plan : Plan) → net.plan ≡ Some plan → outcome ≡ plan.outcome
  pub kept : at_of outcome ≡ None → net'.plan ≡ net.plan
  pub cause : DialCause net.counts net'.counts outcome

-- the link that came up
pub record IsNewLink (told : Told) (counts : Counts) (net : NetTold) : Type 0 where
  pub fresh : IsFresh told
  pub planned : (plan : Plan) → net.plan ≡ Some plan → told ≡ plan.link
  pub due' : (plan : Plan) → net.plan ≡ Some plan → counts.due ≡ plan.due

-- z is b with a part of what was pending written to its client
pub record HasGreeted {L : Type 0} (told : L → Told) (counts : L → Counts) (b z : Assoc L) (full : Bool) : Type 0 where
  pub bytes : List ℕ
  pub rest : List ℕ
  pub pending' : bytes ++ rest ≡ drop (length (b.state).sent_c) (owed_c b.state)
  pub state' : z.state ≡ (let r = b.state in record r { sent_c = r.sent_c ++ bytes })
  pub target' : z.target ≡ b.target
  pub told' : told z.client ≡ (let t = told b.client in record t { taken = more t.taken bytes })
  pub stuck : (told b.client).room ≡ Some 0 → bytes ≡ []
  pub later : Later (counts b.client) (counts z.client)
  pub tried : Tried (counts b.client) (counts z.client) (Unit {0}) (((z.state).sent_c ≡ (b.state).sent_c) × (full ≡ false)) (Unit {0}) None
  pub full' : full ≡ true → (0 < length rest) × IsFull (told z.client) × Rose (counts b.client).idle_writes (counts z.client).idle_writes
