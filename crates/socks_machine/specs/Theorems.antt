-- The theorems on the definitions, as statements.
use Rattle.std.specs.Prelude.{ℕ, ◌+◌, ◌≡◌, ◌≢◌, ◌==◌, Bool, true, false, not, nat_le, if◌then◌else◌, IsTrue, Option, Some, None, List, [], ◌∷◌, length, drop, slice_get, IfSome, All, Contains, is_none, ◌&&◌, ◌||◌}
use Rattle.std.specs.List.{list_any}
use Rattle.addr_pattern.specs.declared.addr.Addr.{Addr}
use mathlib.Core.List.{IsPrefix}
use Rattle.addr_pattern.specs.declared.endpoint.Endpoint.{Endpoint}
use Rattle.socks_grammar.specs.declared.protocol.Command.{Command}
use Rattle.socks_grammar.specs.declared.user.User.{User}
use Rattle.socks_grammar.specs.declared.protocol.Version.{Version}
use Rattle.socks_machine.specs.declared.cause.Cause.{Cause}
use Rattle.socks_machine.specs.declared.cause.StopBy.{StopBy}
use Rattle.socks_machine.specs.declared.fine.FineStep.{FineStep}
use Rattle.socks_machine.specs.declared.lines.Line.{Line}
use Rattle.socks_machine.specs.declared.lines.OpenLine.{OpenLine}
use Rattle.socks_machine.specs.declared.lines.GrantLine.{GrantLine}
use Rattle.socks_machine.specs.declared.lines.PeerLine.{PeerLine}
use Rattle.socks_machine.specs.declared.lines.CloseLine.{CloseLine}
use Rattle.socks_machine.specs.declared.lines.Shut.{Shut}
use Rattle.socks_machine.specs.declared.lines.Said.{Said}
use Rattle.socks_machine.specs.declared.record.Record.{Record}
use Rattle.socks_machine.specs.declared.world.Event.{Event}
use Rattle.socks_machine.specs.declared.world.NextMark.{NextMark}
use Rattle.socks_machine.specs.declared.world.TurnEvent.{TurnEvent}
use Rattle.socks_machine.specs.declared.world.World.{World}
use Rattle.socks_machine.specs.Basis.{Basis}
use Rattle.socks_machine.specs.Calls.{Context, TurnResult, sent, took, is_connect}
use Rattle.socks_machine.specs.Decisions.{Grant, granted}
use Rattle.socks_grammar.specs.Dialogue.{Wish, Outcome, outcome, said}
use Rattle.socks_machine.specs.Fine.{Coarse, Fine, coarse, fine_steps, fine_start, Hand, hand_of}
use Rattle.socks_machine.specs.Front.{Proxy}
use Rattle.socks_machine.specs.Guarded.{Guarded, IsGuarded}
use Rattle.socks_grammar.specs.Handshake.{Split}
use Rattle.socks_machine.specs.History.{Stand, stand_of, is_live, opened_numbers, Desked, at_open, at_grant, at_peer, at_close, is_log, last_mark}
use Rattle.socks_machine.specs.LogText.{log_text}
use Rattle.socks_machine.specs.Phase.{client_payload, is_udp}
use Rattle.socks_machine.specs.Ranges.{IsInRange}
use Rattle.rule_list.specs.Rules.{numbered}
use Rattle.socks_machine.specs.Stands.{Association, Stands, Counts, counts_of, LinkView, PortView, TellsTheRecord}
use Rattle.socks_machine.specs.Step.{run, step, basis_of}
use Rattle.socks_machine.specs.Turn.{turn}
use Rattle.socks_machine.specs.View.{proxy_of}

-- ---- every lawful run is guarded

abbrev pub RunsAreGuarded : Type 0
RunsAreGuarded = (users : List User) (cap workers : ℕ) (es : List Event) (w : World) → run users cap workers es ≡ Some w → Guarded w

-- ---- an event has at most one new world, since `step` is a function; the plain step answers it

abbrev pub IsLawful : World → Event → Type 0
IsLawful w e = (new : World) × (step w e ≡ Some new)

-- ---- a turn of the code stands for a turn of the machine

-- what an ended association held
pub record Left : Type 0 where
  pub client : LinkView
  pub target : Option LinkView
  pub has_door : Bool
  pub port : Option PortView

-- an ended association, with the number with which the desk's close answered Done
pub record Ended : Type 0 where
  pub number : ℕ
  pub cause : Cause
  pub took' : ℕ × ℕ
  pub sent' : ℕ × ℕ
  pub counts : Counts
  pub line : Option ℕ
  pub left : Left

abbrev pub ended_cause : Option Cause → Option Cause → Option Cause
ended_cause (Some at_close) cause = Some at_close
ended_cause None cause = cause

abbrev pub is_close : Line → Bool
is_close (Line.Close l) = true
is_close _ = false

-- the number with which the close of this turn answered Done: its line was written, and the mark Log didn't stand before it
abbrev pub closed_line : Context → TurnResult → Option ℕ
closed_line s m =
    if list_any is_close (drop (length s.h) m.h) && is_none (m.left).at_close && not (is_log (last_mark s.marks)) then Some (length s.h + 1) else None

-- an ended association stands for a record
pub record EndedStands (basis : Basis) (line : Option ℕ) (e : Ended) (r : Record) : Type 0 where
  pub over : r.done ≡ true
  pub number' : e.number ≡ r.number
  pub cause' : Some e.cause ≡ ended_cause r.at_close r.cause
  pub took'' : e.took' ≡ took r
  pub sent'' : e.sent' ≡ sent r
  pub counts' : e.counts ≡ counts_of basis r
  pub line' : e.line ≡ line
  pub in_range : IsInRange r
  pub tells : TellsTheRecord (e.left).client (e.left).target (e.left).port r
  pub client_ended : IsTrue r.end_c → ((e.left).client).ended ≡ true
  pub target_ended : IsTrue r.end_t → IfSome (e.left).target (λ l. l.ended ≡ true)
  pub client_shut : ((e.left).client).shut ≡ r.shut_c
  pub target_shut : IfSome (e.left).target (λ l. l.shut ≡ r.shut_t)

-- what a turn of the code answers
pub data Next : Type 0 where
  Wait : Association → Next
  Again : Association → Next
  Done : Ended → Next

abbrev pub Answers : Basis → Option ℕ → TurnEvent → Next → Record → Type 0
Answers basis line ev (Wait a) r = (ev.next ≡ NextMark.Wait) × Stands basis a r
Answers basis line ev (Again a) r = (ev.next ≡ NextMark.Again) × Stands basis a r
Answers basis line ev (Done e) r = (ev.next ≡ NextMark.Done) × EndedStands basis line e r

-- From every record that the association stands for, what the code answers stands for the record of one lawful turn, made
-- over this scene, in which the outside did what it told.
pub record IsTurn (s : Context) (a : Association) (now : ℕ) (stop : Option StopBy) (next : Next) (Told : TurnEvent → Type 0) (r : Record) : Type 0 where
  pub event : TurnEvent
  pub made : TurnResult
  pub lawful : turn s event r ≡ Some made
  pub moment : event.now ≡ now
  pub stop' : event.stop ≡ stop
  pub told : Told event
  pub answer : Answers s.basis (closed_line s made) event next made.left

-- ---- the desk

-- a desk, as contracts see it: its live entries, the count of lines, the mark that stands, and the log where it tells
pub record DeskView : Type 0 where
  pub cap : ℕ
  pub live : List (ℕ × Stand)
  pub count : ℕ
  pub mark : Option StopBy
  pub log : Option (List ℕ)

abbrev pub only_live : List Line → List ℕ → List (ℕ × Stand)
only_live h [] = []
only_live h (n ∷ ns) = keep (is_live (stand_of h n)) (n, stand_of h n) (only_live h ns)
  where
    keep : Bool → ℕ × Stand → List (ℕ × Stand) → List (ℕ × Stand)
    keep true x xs = x ∷ xs
    keep false x xs = xs

abbrev pub live_entries : List Line → List (ℕ × Stand)
live_entries h = only_live h (opened_numbers h)

abbrev pub is_whole : Option StopBy → Type 0
is_whole (Some StopBy.Log) = ⊥
is_whole _ = Unit {0}

pub record DeskStands (d : DeskView) (h : List Line) (marks : List StopBy) : Type 0 where
  pub entries : (n : ℕ) (s : Stand) → (x : ℕ) × (slice_get d.live x ≡ Some (n, s)) → (y : ℕ) × (slice_get (live_entries h) y ≡ Some (n, s))
  pub entries' : (n : ℕ) (s : Stand) → (y : ℕ) × (slice_get (live_entries h) y ≡ Some (n, s)) → (x : ℕ) × (slice_get d.live x ≡ Some (n, s))
  pub mark' : d.mark ≡ last_mark marks
  pub count' : is_whole d.mark → d.count ≡ length h
  pub whole : is_whole d.mark → IfSome d.log (λ x. x ≡ log_text h)
  pub prefix : IfSome d.log (λ x. IsPrefix x (log_text h))

-- a desk that was made has the given cap, and stands for the empty history
abbrev pub IsMade : ℕ → DeskView → Type 0
IsMade cap new = (new.cap ≡ cap) × DeskStands new [] []

-- each call of the desk is one step from every history that it stands for
pub record StepsTo {A : Type 0} (old new : DeskView) (said : A) (by : List Line → List StopBy → Desked A) : Type 0 where
  pub cap' : new.cap ≡ old.cap
  pub answers : (h : List Line) (marks : List StopBy) → DeskStands old h marks → said ≡ (by h marks).said
  pub stands : (h : List Line) (marks : List StopBy) → DeskStands old h marks → DeskStands new (by h marks).h (by h marks).marks

abbrev pub OpensBy : DeskView → DeskView → OpenLine → Said → Bool → Type 0
OpensBy old new line said logged = StepsTo old new said (λ h marks. at_open h marks old.cap line logged)

abbrev pub GrantsBy : DeskView → DeskView → GrantLine → Said → Bool → Type 0
GrantsBy old new line said logged = StepsTo old new said (λ h marks. at_grant h marks line logged)

abbrev pub PeersBy : DeskView → DeskView → PeerLine → Said → Bool → Type 0
PeersBy old new line said logged = StepsTo old new said (λ h marks. at_peer h marks line logged)

abbrev pub ClosesBy : DeskView → DeskView → CloseLine → Shut → Bool → Type 0
ClosesBy old new line said logged = StepsTo old new said (λ h marks. at_close h marks line logged)

-- a stop sets the mark where none stands, and answers the mark that stands then
abbrev pub at_stop : StopBy → List Line → List StopBy → Desked (Option StopBy)
at_stop by h [] = record { said = Some by; h = h; marks = by ∷ [] }
at_stop by h (m ∷ ms) = record { said = last_mark (m ∷ ms); h = h; marks = m ∷ ms }

abbrev pub StopsBy : DeskView → DeskView → StopBy → StopBy → Type 0
StopsBy old new by said = StepsTo old new (Some said) (at_stop by)

-- ---- any interleaving of atomic steps is an order of turns

abbrev pub holds_record : Fine → World → ℕ → ℕ → Option Hand → Type 0
holds_record f w worker number None = Unit {0}
holds_record f w worker number (Some hand) = (hand.number ≡ number) → in_hand hand.desk
  where
    in_hand : Option World → Type 0
    in_hand None = numbered w.records number ≡ Some hand.begun
    in_hand (Some x) = numbered w.records number ≡ Some hand.now'

abbrev pub nobody_holds : Fine → ℕ → Type 0
nobody_holds f number = (worker : ℕ) → IfSome (hand_of f worker) (λ hand. hand.number ≢ number)

pub record SameWorlds (f : Fine) (w : World) : Type 0 where
  pub pubs' : w.pubs ≡ (f.world).pubs
  pub seen' : w.seen ≡ (f.world).seen
  pub h' : w.h ≡ (f.world).h
  pub marks' : w.marks ≡ (f.world).marks
  pub hands' : (worker number : ℕ) → holds_record f w worker number (hand_of f worker)
  pub others : (number : ℕ) → nobody_holds f number → numbered w.records number ≡ numbered (f.world).records number

abbrev pub StepsAreTurns : Type 0
StepsAreTurns = (users : List User) (cap workers slots : ℕ) (ss : List FineStep) (f : Fine)
    → fine_steps (Some (fine_start users cap workers slots)) ss ≡ Some f
    → (es : List Event) × (w : World) × (coarse (FineStep.Start users cap workers slots ∷ ss) ≡ Coarse.Events es) × (run users cap workers es ≡ Some w) × SameWorlds f w

-- ---- across both programs

-- all that a client of a proxy has said once it said its request, read by a server, is a request for just its host and port
abbrev pub method_heard : Version → List ℕ → Option ℕ
method_heard Version.V4 heard = None
method_heard Version.V5 heard = slice_get heard 1

abbrev pub IsAnswered : Wish → List ℕ → Type 0
IsAnswered w heard = (e : Endpoint) × (n : ℕ) × (outcome w heard ≡ Outcome.Up e n)

abbrev pub AsksFor : Wish → Split → Type 0
AsksFor w (Split.Whole q n) = (q.command ≡ Command.Connect) × (q.host ≡ w.host) × (q.port ≡ w.port)
AsksFor w _ = ⊥

-- in SOCKS 4 an address of IPv6 can't be asked for, and 0.0.0.x with x other than 0 is the sign of a name
abbrev pub can_be_asked : Version → Addr → Bool
can_be_asked Version.V4 (Addr.V4 a) = a == 0 || nat_le 256 a
can_be_asked Version.V4 (Addr.V6 a) = false
can_be_asked Version.V5 a = true

-- a record that was granted a CONNECT over a route with a proxy, which can be asked for the destination
pub record GoesOn (basis : Basis) (r : Record) : Type 0 where
  pub grant : Grant
  pub granted' : granted r.decisions ≡ Some grant
  pub connects : IsTrue (is_connect grant && is_none grant.refused)
  pub proxy : Proxy
  pub over : proxy_of basis r ≡ Some proxy
  pub asked : IsTrue (can_be_asked proxy.version (grant.facts).to.addr)

-- a chain of records: each but the last goes on over a proxy, and the input of the next is what it sent; the last goes
-- directly, and is no UDP ASSOCIATE
abbrev pub Linked : List (Basis × Record) → Type 0
Linked [] = ⊥
Linked ((basis, r) ∷ []) = (proxy_of basis r ≡ None) × IsTrue (not (is_udp r))
Linked ((basis, r) ∷ (basis', r') ∷ rest) = GoesOn basis r × (r'.c ≡ r.sent_t) × Linked ((basis', r') ∷ rest)

abbrev pub last_sent : List (Basis × Record) → List ℕ
last_sent [] = []
last_sent ((basis, r) ∷ []) = r.sent_t
last_sent ((basis, r) ∷ x ∷ rest) = last_sent (x ∷ rest)

abbrev pub first_payload : List (Basis × Record) → List ℕ
first_payload [] = []
first_payload ((basis, r) ∷ rest) = client_payload basis r

-- what the last target gets is a prefix of the first client's payload
abbrev pub ChainsRelay : Type 0
ChainsRelay = (chain : List (Basis × Record)) → Linked chain → All (λ x. IsGuarded x.0 x.1) chain → IsPrefix (last_sent chain) (first_payload chain)

-- a record of a lawful run
pub record IsOfRun (basis : Basis) (r : Record) : Type 0 where
  pub users : List User
  pub cap : ℕ
  pub workers : ℕ
  pub events : List Event
  pub world : World
  pub ran : run users cap workers events ≡ Some world
  pub basis' : basis ≡ basis_of world
  pub there : Contains world.records r

abbrev pub EndedFinished : Record → Type 0
EndedFinished r = (r.done ≡ true) × (ended_cause r.at_close r.cause ≡ Some Cause.Finished)

-- .. and all of it where each record ended Finished
abbrev pub ChainsFinish : Type 0
ChainsFinish = (chain : List (Basis × Record)) → Linked chain → All (λ x. IsOfRun x.0 x.1) chain → All (λ x. EndedFinished x.1) chain
    → last_sent chain ≡ first_payload chain
