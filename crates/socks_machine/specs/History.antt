-- The decision history: which associations are live, how many are held under a rule, and what the desk answers.
use Rattle.std.specs.Prelude.{ℕ, ◌+◌, ◌-◌, ◌^◌, Bool, true, false, ◌&&◌, ◌==◌, nat_lt, nat_le, if◌then◌else◌, Option, Some, None, List, [], ◌∷◌, ◌++◌, length, count_by, fold, filter_map}
use Rattle.std.specs.List.{list_any}
use Rattle.rule_list.specs.declared.verdict.Verdict.{Verdict}
use Rattle.socks_machine.specs.declared.cause.ListKind.{ListKind}
use Rattle.socks_machine.specs.declared.cause.Standing.{Standing}
use Rattle.socks_machine.specs.declared.cause.StopBy.{StopBy}
use Rattle.socks_machine.specs.declared.lines.OpenLine.{OpenLine}
use Rattle.socks_machine.specs.declared.lines.GrantLine.{GrantLine}
use Rattle.socks_machine.specs.declared.lines.PeerLine.{PeerLine}
use Rattle.socks_machine.specs.declared.lines.CloseLine.{CloseLine}
use Rattle.socks_machine.specs.declared.lines.Said.{Said}
use Rattle.socks_machine.specs.declared.lines.Shut.{Shut}
use Rattle.socks_machine.specs.declared.lines.Line.{Line}
use Rattle.socks_machine.specs.Equal.{stop_by_eq}

-- ---- how a number stands

-- not live; opened; or granted in a generation, under a client rule and a socks rule
pub data Stand : Type 0 where
  Gone : Stand
  Open : Stand
  Under : ℕ → ℕ → ℕ → Stand

abbrev pub stand_granted : Stand → ℕ → Verdict → Said → Stand
stand_granted Open generation (Verdict.Pass c s) (Said.Done n) = Under generation c s
stand_granted stand _ _ _ = stand

abbrev pub stand_opened : Bool → Stand → Stand
stand_opened true stand = Open
stand_opened false stand = stand

-- how a number stands behind one more line
abbrev pub stand_after : ℕ → Stand → Line → Stand
stand_after n stand (Line.Open l) = if l.number == n then stand_opened l.pass stand else stand
stand_after n stand (Line.Grant l said) = if l.number == n then stand_granted stand l.generation l.verdict said else stand
stand_after n stand (Line.Peer l) = stand
stand_after n stand (Line.Close l) = if l.number == n then Gone else stand

abbrev pub stand_of : List Line → ℕ → Stand
stand_of h n = fold (stand_after n) Gone h

abbrev pub standing : Stand → Standing
standing Gone = Standing.Absent
standing Open = Standing.Opened
standing (Under g c s) = Standing.Granted

abbrev pub is_live : Stand → Bool
is_live Gone = false
is_live _ = true

-- ---- the live numbers, each once

abbrev pub opened_number : Line → Option ℕ
opened_number (Line.Open l) = if l.pass then Some l.number else None
opened_number _ = None

abbrev pub distinct : List ℕ → List ℕ
distinct [] = []
distinct (n ∷ ns) = if list_any (λ m. m == n) ns then distinct ns else n ∷ distinct ns

abbrev pub opened_numbers : List Line → List ℕ
opened_numbers h = distinct (filter_map opened_number h)

abbrev pub live_count : List Line → ℕ
live_count h = count_by (λ n. is_live (stand_of h n)) (opened_numbers h)

abbrev pub is_under : ℕ → ListKind → ℕ → Stand → Bool
is_under generation ListKind.Client rule (Under g c s) = g == generation && (c == rule)
is_under generation ListKind.Socks rule (Under g c s) = g == generation && (s == rule)
is_under generation _ rule _ = false

-- how many live associations were granted in this generation under this rule
abbrev pub held : List Line → ℕ → ListKind → ℕ → ℕ
held h generation kind rule = count_by (λ n. is_under generation kind rule (stand_of h n)) (opened_numbers h)

-- ---- what the desk answers

abbrev pub last_mark : List StopBy → Option StopBy
last_mark [] = None
last_mark (m ∷ []) = Some m
last_mark (m ∷ n ∷ ms) = last_mark (n ∷ ms)

-- the first limit that is reached, the client rule's before the socks rule's
abbrev pub at_limit : List Line → ℕ → ListKind → ℕ → Option ℕ → Option Said
at_limit h generation kind rule None = None
at_limit h generation kind rule (Some limit) =
    if nat_le limit (held h generation kind rule) then Some (Said.Full kind rule (held h generation kind rule) limit) else None

abbrev pub or_done : List Line → Option Said → Said
or_done h None = Said.Done (length h + 1)
or_done h (Some said) = said

abbrev pub or_else : Option Said → Option Said → Option Said
or_else None y = y
or_else (Some x) y = Some x

-- what a grant finds, whether or not its line is written
abbrev pub finding_of : List Line → GrantLine → Verdict → Said
finding_of h l (Verdict.Pass c s) =
    or_done h (or_else (at_limit h l.generation ListKind.Client c l.client_max) (at_limit h l.generation ListKind.Socks s l.socks_max))
finding_of h l _ = Said.Done (length h + 1)

abbrev pub finding : List Line → GrantLine → Said
finding h l = finding_of h l l.verdict

-- an answer, and the history and the stop marks behind it
pub record Desked (A : Type 0) : Type 0 where
  pub said : A
  pub h : List Line
  pub marks : List StopBy

abbrev pub is_log : Option StopBy → Bool
is_log None = false
is_log (Some by) = stop_by_eq by StopBy.Log

-- the mark Log is set, where it doesn't stand last
abbrev pub mark_log : List StopBy → List StopBy
mark_log marks = if is_log (last_mark marks) then marks else marks ++ StopBy.Log ∷ []

-- a line was due: the step stands, and a line that wasn't written or is the last that can be numbered sets the mark
abbrev pub stepped : {A : Type 0} → List Line → List StopBy → Bool → Line → A → A → Desked A
stepped h marks logged line said unlogged = record {
  said = if logged then said else unlogged;
  h = h ++ line ∷ [];
  marks = if logged && nat_lt (length h + 1) (2 ^ 64 - 1) then marks else mark_log marks;
}

abbrev pub refused_at : {A : Type 0} → List Line → List StopBy → A → Desked A
refused_at h marks said = record { said = said; h = h; marks = marks }

abbrev pub open_stood : List Line → List StopBy → ℕ → OpenLine → Bool → Stand → Desked Said
open_stood h marks cap l logged Gone =
    if l.pass && (live_count h == cap) then refused_at h marks (Said.Crowded (live_count h) cap)
    else stepped h marks logged (Line.Open l) (Said.Done (length h + 1)) Said.LogFault
open_stood h marks cap l logged stand = refused_at h marks (Said.OutOfTurn (standing stand))

abbrev pub unless_stopped : List Line → List StopBy → Option StopBy → Desked Said → Desked Said
unless_stopped h marks None answer = answer
unless_stopped h marks (Some by) answer = refused_at h marks (Said.Stopped by)

abbrev pub at_open : List Line → List StopBy → ℕ → OpenLine → Bool → Desked Said
at_open h marks cap l logged = unless_stopped h marks (last_mark marks) (open_stood h marks cap l logged (stand_of h l.number))

abbrev pub grant_stood : List Line → List StopBy → GrantLine → Bool → Stand → Desked Said
grant_stood h marks l logged Open = stepped h marks logged (Line.Grant l (finding h l)) (finding h l) Said.LogFault
grant_stood h marks l logged stand = refused_at h marks (Said.OutOfTurn (standing stand))

abbrev pub at_grant : List Line → List StopBy → GrantLine → Bool → Desked Said
at_grant h marks l logged = unless_stopped h marks (last_mark marks) (grant_stood h marks l logged (stand_of h l.number))

abbrev pub peer_stood : List Line → List StopBy → PeerLine → Bool → Stand → Desked Said
peer_stood h marks l logged (Under g c s) = stepped h marks logged (Line.Peer l) (Said.Done (length h + 1)) Said.LogFault
peer_stood h marks l logged stand = refused_at h marks (Said.OutOfTurn (standing stand))

abbrev pub at_peer : List Line → List StopBy → PeerLine → Bool → Desked Said
at_peer h marks l logged = unless_stopped h marks (last_mark marks) (peer_stood h marks l logged (stand_of h l.number))

-- under the mark Log no line is due, and the entry is removed
abbrev pub unlogged_close : List Line → List StopBy → CloseLine → Desked Shut
unlogged_close h marks l = record { said = Shut.Unlogged; h = h ++ Line.Close l ∷ []; marks = marks }

abbrev pub close_stood : List Line → List StopBy → CloseLine → Bool → Stand → Desked Shut
close_stood h marks l logged Gone = refused_at h marks (Shut.OutOfTurn Standing.Absent)
close_stood h marks l logged stand =
    if is_log (last_mark marks) then unlogged_close h marks l
    else stepped h marks logged (Line.Close l) (Shut.Done (length h + 1)) Shut.LogFault

abbrev pub at_close : List Line → List StopBy → CloseLine → Bool → Desked Shut
at_close h marks l logged = close_stood h marks l logged (stand_of h l.number)
