-- What the desk keeps, and how each call changes it.
use Rattle.std.specs.Prelude.{ℕ, ◌+◌, ◌-◌, ◌^◌, ◌==◌, min, nat_lt, nat_le, if◌then◌else◌, Bool, Option, Some, None, List, [], ◌∷◌, ◌++◌, length}
use Rattle.rule_list.specs.declared.verdict.Verdict.{Verdict}
use Rattle.socks_machine.specs.declared.cause.ListKind.{ListKind}
use Rattle.socks_machine.specs.declared.cause.Standing.{Standing}
use Rattle.socks_machine.specs.declared.cause.StopBy.{StopBy}
use Rattle.socks_machine.specs.declared.lines.OpenLine.{OpenLine}
use Rattle.socks_machine.specs.declared.lines.GrantLine.{GrantLine}
use Rattle.socks_machine.specs.declared.lines.CloseLine.{CloseLine}
use Rattle.socks_machine.specs.declared.lines.Said.{Said}
use Rattle.socks_machine.specs.declared.lines.Shut.{Shut}
use Rattle.socks_machine.specs.History.{standing, is_log}
use Rattle.session_desk.specs.declared.entry.Live.{Live}
use Rattle.session_desk.specs.declared.entry.LiveAssociation.{LiveAssociation}
use Rattle.session_desk.specs.Entries.{standing_in, renewed, without, held_in}

-- how many may be live, the live ones, how many lines there were, up to 2^64 - 1, and the stop mark
pub record Book : Type 0 where
  pub cap : ℕ
  pub entries : List LiveAssociation
  pub lines : ℕ
  pub stopped : Option StopBy

-- an answer, and the book behind it
pub record Answered (A : Type 0) : Type 0 where
  pub said : A
  pub book : Book

-- one line more, and the stop mark where no further one can be numbered
abbrev pub counted : Book → Book
counted b = record b {
  lines = min (b.lines + 1) (2 ^ 64 - 1);
  stopped = if nat_lt (b.lines + 1) (2 ^ 64 - 1) then b.stopped else Some StopBy.Log;
}

-- the number of the line that was counted last
abbrev pub with_line : Book → Answered Said
with_line b = record { said = Said.Done b.lines; book = b }

abbrev pub unchanged : {A : Type 0} → Book → A → Answered A
unchanged b said = record { said = said; book = b }

abbrev pub unless_stopped : Book → Option StopBy → Answered Said → Answered Said
unless_stopped b None answer = answer
unless_stopped b (Some by) answer = unchanged b (Said.Stopped by)

-- ---- open

abbrev pub with_entry : Book → ℕ → Book
with_entry b n = record b { entries = b.entries ++ record { number = n; live = Live.Opened } ∷ [] }

abbrev pub admitted : Book → ℕ → Bool → Answered Said
admitted b n pass =
    if pass then (if length b.entries == b.cap then unchanged b (Said.Crowded b.cap b.cap) else with_line (counted (with_entry b n)))
    else with_line (counted b)

abbrev pub opened_standing : Book → ℕ → Bool → Standing → Answered Said
opened_standing b n pass Standing.Absent = admitted b n pass
opened_standing b n pass stand = unchanged b (Said.OutOfTurn stand)

abbrev pub opened : Book → OpenLine → Answered Said
opened b l = unless_stopped b b.stopped (opened_standing b l.number l.pass (standing (standing_in b.entries l.number)))

-- ---- grant

-- the limit of this rule is reached
abbrev pub full_in : Book → ℕ → ListKind → ℕ → Option ℕ → Option Said
full_in b generation kind rule None = None
full_in b generation kind rule (Some limit) =
    if nat_le limit (held_in b.entries generation kind rule) then Some (Said.Full kind rule (held_in b.entries generation kind rule) limit) else None

abbrev pub or_full : Option Said → Option Said → Option Said
or_full None y = y
or_full (Some x) y = Some x

abbrev pub with_grant : Book → ℕ → Live → Book
with_grant b n live = record b { entries = renewed n live b.entries }

abbrev pub granted_unless : Book → ℕ → Live → Option Said → Answered Said
granted_unless b n live None = with_line (counted (with_grant b n live))
granted_unless b n live (Some said) = record { said = said; book = counted b }

abbrev pub granted_verdict : Book → GrantLine → Verdict → Answered Said
granted_verdict b l (Verdict.Pass c s) =
    granted_unless b l.number (Live.Granted l.generation c s)
    (or_full (full_in b l.generation ListKind.Client c l.client_max) (full_in b l.generation ListKind.Socks s l.socks_max))
granted_verdict b l _ = with_line (counted b)

abbrev pub granted_standing : Book → GrantLine → Standing → Answered Said
granted_standing b l Standing.Opened = granted_verdict b l l.verdict
granted_standing b l stand = unchanged b (Said.OutOfTurn stand)

abbrev pub granted : Book → GrantLine → Answered Said
granted b l = unless_stopped b b.stopped (granted_standing b l (standing (standing_in b.entries l.number)))

-- ---- close

abbrev pub without_entry : Book → ℕ → Book
without_entry b n = record b { entries = without n b.entries }

abbrev pub shut : Book → Book → Answered Shut
shut b after = if is_log b.stopped then record { said = Shut.Unlogged; book = after } else record { said = Shut.Done after.lines; book = after }

abbrev pub closed_standing : Book → ℕ → Standing → Answered Shut
closed_standing b n Standing.Absent = unchanged b (Shut.OutOfTurn Standing.Absent)
closed_standing b n stand = shut b (counted (without_entry b n))

abbrev pub closed : Book → CloseLine → Answered Shut
closed b l = closed_standing b l.number (standing (standing_in b.entries l.number))
