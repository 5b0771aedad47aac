-- What the desk answers to a call, and what it stands for behind it.
use Rattle.std.specs.Prelude.{◌≡◌, ◌≤◌, ℕ, Bool, true, Some, List}
use Rattle.rule_list.specs.declared.verdict.Verdict.{Verdict}
use Rattle.socks_machine.specs.declared.cause.ListKind.{ListKind}
use Rattle.socks_machine.specs.declared.cause.Standing.{Standing}
use Rattle.socks_machine.specs.declared.cause.StopBy.{StopBy}
use Rattle.socks_machine.specs.declared.lines.OpenLine.{OpenLine}
use Rattle.socks_machine.specs.declared.lines.GrantLine.{GrantLine}
use Rattle.socks_machine.specs.declared.lines.CloseLine.{CloseLine}
use Rattle.socks_machine.specs.declared.lines.Said.{Said}
use Rattle.socks_machine.specs.declared.lines.Shut.{Shut}
use Rattle.socks_machine.specs.declared.lines.Line.{Line}
use Rattle.socks_machine.specs.History.{at_open, at_grant, at_close}

-- Each of these says, of a desk that stood for these lines and stop marks: its line was written or not, the answer is
-- the history's, and afterwards the desk stands for what the history then is. The first parameter is what the desk
-- then stands for.
pub record Opens (stands : List Line → List StopBy → Type 0) (h : List Line) (marks : List StopBy) (cap : ℕ) (line : OpenLine) (said : Said) : Type 0 where
  pub logged : Bool
  pub said' : said ≡ (at_open h marks cap line logged).said
  pub stands' : stands (at_open h marks cap line logged).h (at_open h marks cap line logged).marks

pub record Grants (stands : List Line → List StopBy → Type 0) (h : List Line) (marks : List StopBy) (line : GrantLine) (said : Said) : Type 0 where
  pub logged : Bool
  pub said' : said ≡ (at_grant h marks line logged).said
  pub stands' : stands (at_grant h marks line logged).h (at_grant h marks line logged).marks

pub record Closes (stands : List Line → List StopBy → Type 0) (h : List Line) (marks : List StopBy) (line : CloseLine) (said : Shut) : Type 0 where
  pub logged : Bool
  pub said' : said ≡ (at_close h marks line logged).said
  pub stands' : stands (at_close h marks line logged).h (at_close h marks line logged).marks

-- ---- when any desk may refuse, whatever it stands for

-- a line of this verdict has this limit, on the rule of this number in that list
abbrev pub IsLimitOf : Verdict → GrantLine → ListKind → ℕ → ℕ → Type 0
IsLimitOf (Verdict.Pass c s) l ListKind.Client rule limit = (rule ≡ c) × (l.client_max ≡ Some limit)
IsLimitOf (Verdict.Pass c s) l ListKind.Socks rule limit = (rule ≡ s) × (l.socks_max ≡ Some limit)
IsLimitOf _ l kind rule limit = ⊥

-- Crowded comes only to a passing line, and with as many live ones as may be
abbrev pub MayOpen : ℕ → OpenLine → Said → Type 0
MayOpen cap l (Said.Crowded live most) = (l.pass ≡ true) × (live ≡ cap) × (most ≡ cap)
MayOpen cap l (Said.Full kind rule held limit) = ⊥
MayOpen cap l (Said.OutOfTurn stand) = stand ≡ Standing.Absent → ⊥
MayOpen cap l said = Unit {0}

-- Full comes only with a limit of the line, which is held
abbrev pub MayGrant : GrantLine → Said → Type 0
MayGrant l (Said.Full kind rule held limit) = IsLimitOf l.verdict l kind rule limit × (limit ≤ held)
MayGrant l (Said.Crowded live most) = ⊥
MayGrant l (Said.OutOfTurn stand) = stand ≡ Standing.Opened → ⊥
MayGrant l said = Unit {0}

abbrev pub MayClose : Shut → Type 0
MayClose (Shut.OutOfTurn stand) = stand ≡ Standing.Absent
MayClose said = Unit {0}
