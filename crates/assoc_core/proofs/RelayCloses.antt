-- The ends of a turn in a relay without a proxy: it closes, or waits in Closing.
use Rattle.std.proofs.Common.{◌≡◌, ℕ, Bool, true, false, ◌&&◌, ◌||◌, Option, Some, None, List, [], ◌++◌, refl, sym, ap, subst, ◌∙◌, is_some}
use Rattle.addr_pattern.specs.declared.endpoint.Endpoint.{Endpoint}
use Rattle.conf_types.specs.declared.entries.Entries.{Entries}
use Rattle.socks_grammar.specs.declared.user.User.{User}
use Rattle.socks_machine.specs.declared.cause.Cause.{Cause}
use Rattle.socks_machine.specs.declared.cause.StopBy.{StopBy}
use Rattle.socks_machine.specs.declared.lines.Line.{Line}
use Rattle.socks_machine.specs.declared.record.Record.{Record}
use Rattle.socks_machine.specs.declared.world.NextMark.{NextMark}
use Rattle.socks_machine.specs.declared.world.Object.{Object}
use Rattle.socks_machine.specs.declared.world.Outer.{Outer}
use Rattle.socks_machine.specs.declared.world.TurnEvent.{TurnEvent}
use Rattle.socks_machine.specs.Calls.{Context, keep, call_close, is_calling}
use Rattle.socks_machine.specs.Decisions.{is_opened}
use Rattle.socks_machine.specs.InTurn.{InTurn}
use Rattle.socks_machine.specs.Owed.{pending_to_client, pending_to_target}
use Rattle.socks_machine.specs.Phase.{phase}
use Rattle.socks_machine.specs.Relaying.{Relaying, relayed, due_c, due_t}
use Rattle.socks_machine.specs.Settle.{is_nothing}
use Rattle.socks_machine.specs.Socks.{socks}
use Rattle.socks_machine.specs.Taking.{holds}
use Rattle.socks_machine.specs.Turn.{turn, aged, marked, rests, sinks_rest, is_late, close_is_due, is_quiet, nothing_pending, fault_fits}
use Rattle.socks_machine.proofs.CallLaws.{closes}
use Rattle.socks_machine.proofs.RelayLaws.{relay-owes-c, relay-owes-t}
use Rattle.socks_machine.proofs.StartLaws.{relay-finish-c}
use Rattle.assoc_core.proofs.RelayFinish.{relay-finish-t}
use Rattle.assoc_core.specs.Plain.{is_login_failed}
use Rattle.assoc_core.specs.Turns.{Acts, event_of, context, links}
use Rattle.assoc_core.proofs.Rests.{aged-same}
use Rattle.assoc_core.proofs.RelayEnds.{InRelay, desk_acts, owes-c, owes-t, drop-sent, idle-c, idle-t, both, opened-by, in-phase}
use Rattle.assoc_core.proofs.RelayRecords.{is-relayed, plain-relay-facts}
use Rattle.assoc_core.proofs.RelaySums.{Sums, summed, Begun, sum_acts, relays, shut-c, shut-t, all-sent, clash, unfailed-yet}

-- ---- what is pending of a record behind a relay's turn

pending-c : (users : List User) (pubs : List Entries) (old : Record) (at : Endpoint) (c t part_c rest_c part_t rest_t : List ℕ) (end_c end_t shut_c shut_t : Bool) (cause : Option Cause) → is_login_failed cause ≡ false
    → InRelay (socks users pubs) old at c t part_c rest_c part_t rest_t end_c end_t shut_c shut_t
    → pending_to_client (socks users pubs) (summed old c t part_c part_t end_c end_t shut_c shut_t cause) ≡ rest_c
pending-c users pubs old at c t part_c rest_c part_t rest_t end_c end_t shut_c shut_t cause f k =
    drop-sent (old.sent_c ++ part_c) rest_c _ (owes-c users pubs old at c t part_c rest_c part_t rest_t end_c end_t shut_c shut_t cause f k)

pending-t : (users : List User) (pubs : List Entries) (old : Record) (at : Endpoint) (c t part_c rest_c part_t rest_t : List ℕ) (end_c end_t shut_c shut_t : Bool) (cause : Option Cause) → is_login_failed cause ≡ false
    → InRelay (socks users pubs) old at c t part_c rest_c part_t rest_t end_c end_t shut_c shut_t
    → pending_to_target (socks users pubs) (summed old c t part_c part_t end_c end_t shut_c shut_t cause) ≡ rest_t
pending-t users pubs old at c t part_c rest_c part_t rest_t end_c end_t shut_c shut_t cause f k =
    drop-sent (old.sent_t ++ part_t) rest_t _ (owes-t users pubs old at c t part_c rest_c part_t rest_t end_c end_t shut_c shut_t cause f k)

-- ---- the close

-- a turn that has fixed a cause, and has nothing more to do, closes
pub closes-with : (s : Context) (old : Record) (worker number now : ℕ) (acts : Acts) (a d x : Record) (cause : Cause) (logged : Bool)
    → InTurn s old (event_of worker number now acts NextMark.Going) a (keep s a) d x
    → is_calling (phase s.basis a) None ≡ false → fault_fits s.basis acts.fault acts.unwritten a ≡ true → x.since ≡ now
    → x.cause ≡ Some cause → is_opened x.decisions ≡ true → nothing_pending s.basis x || acts.unwritten || is_quiet (Some cause) ≡ true
    → turn s (event_of worker number now (desk_acts acts (Outer.Desk logged)) NextMark.Done) old ≡ Some (marked NextMark.Done (call_close s.h s.marks x cause logged))
closes-with s old worker number now acts a d x cause logged h calls_none fits same fixed opened' due =
    closes s old e a d x cause logged h calls_none fits (subst (λ (z : Record). close_is_due s e z ≡ true) (sym aged-x) is-due) fixed
    ∙ (λ i. Some (marked NextMark.Done (call_close s.h s.marks (aged-x i) cause logged)))
  where
    e : TurnEvent
    e = event_of worker number now acts NextMark.Going

    aged-x : aged s.basis e old x ≡ x
    aged-x = aged-same s.basis e old x same

    or-more : (a b c d : Bool) → a || b || c ≡ true → a || b || c || d ≡ true
    or-more a b c d h = ap (λ z. z || d) h

    late : Bool
    late = rests s.basis e x && is_late s.basis s.config now x

    is-due : close_is_due s e x ≡ true
    is-due = ap (λ k. is_some k && is_opened x.decisions && (nothing_pending s.basis x || acts.unwritten || is_quiet k || late)) fixed
        ∙ (ap (λ b. b && (nothing_pending s.basis x || acts.unwritten || is_quiet (Some cause) || late)) opened'
        ∙ or-more (nothing_pending s.basis x) acts.unwritten (is_quiet (Some cause)) late due)

pub pending-none : (users : List User) (pubs : List Entries) (old : Record) (at : Endpoint) (c t part_c rest_c part_t rest_t : List ℕ) (end_c end_t shut_c shut_t : Bool) (cause : Option Cause) → is_login_failed cause ≡ false
    → InRelay (socks users pubs) old at c t part_c rest_c part_t rest_t end_c end_t shut_c shut_t
    → nothing_pending (socks users pubs) (summed old c t part_c part_t end_c end_t shut_c shut_t cause) ≡ is_nothing rest_c && is_nothing rest_t
pending-none users pubs old at c t part_c rest_c part_t rest_t end_c end_t shut_c shut_t cause f k =
    λ i. is_nothing (pending-c users pubs old at c t part_c rest_c part_t rest_t end_c end_t shut_c shut_t cause f k i) && is_nothing (pending-t users pubs old at c t part_c rest_c part_t rest_t end_c end_t shut_c shut_t cause f k i)

pub sinks-by : (users : List User) (pubs : List Entries) (old : Record) (at : Endpoint) (c t part_c rest_c part_t rest_t : List ℕ) (end_c end_t shut_c shut_t : Bool) (cause : Option Cause)
    (full_c full_t : Bool) (e : TurnEvent) → e.full ≡ links full_c full_t → is_login_failed cause ≡ false → InRelay (socks users pubs) old at c t part_c rest_c part_t rest_t end_c end_t shut_c shut_t
    → is_nothing rest_c || full_c ≡ true → is_nothing rest_t || full_t ≡ true → sinks_rest (socks users pubs) e (summed old c t part_c part_t end_c end_t shut_c shut_t cause) ≡ true
sinks-by users pubs old at c t part_c rest_c part_t rest_t end_c end_t shut_c shut_t cause full_c full_t e full f k sink_c sink_t =
    both _ _ (ap (λ z. is_nothing z || holds Object.Client e.full) (pending-c users pubs old at c t part_c rest_c part_t rest_t end_c end_t shut_c shut_t cause f k)
    ∙ (ap (λ z. is_nothing rest_c || holds Object.Client z) full ∙ (ap (λ b. is_nothing rest_c || b) (idle-c full_c full_t) ∙ sink_c)))
    (ap (λ z. is_nothing z || holds Object.Target e.full) (pending-t users pubs old at c t part_c rest_c part_t rest_t end_c end_t shut_c shut_t cause f k)
    ∙ (ap (λ z. is_nothing rest_t || holds Object.Target z) full ∙ (ap (λ b. is_nothing rest_t || b) (idle-t full_c full_t) ∙ sink_t)))

-- ---- both sides are shut

-- where a turn shuts the last side, it closes
abbrev Finishes : List User → List Entries → ℕ → Entries → ℕ → List Line → List StopBy → ℕ → ℕ → ℕ → Record → List ℕ → List ℕ → List ℕ → List ℕ → Bool → Bool → Bool → Bool → Bool → Bool → Bool → Bool → Bool → Type 0
Finishes users pubs generation config cap h marks worker number now old c t part_c part_t end_c end_t shut_c shut_t idle_c idle_t full_c full_t logged =
    turn (context users pubs generation config cap h marks)
    (event_of worker number now (desk_acts (sum_acts c t part_c part_t end_c end_t shut_c shut_t idle_c idle_t full_c full_t) (Outer.Desk logged)) NextMark.Done) old
    ≡ Some (marked NextMark.Done (call_close h marks (summed old c t part_c part_t end_c end_t shut_c shut_t (Some Cause.Finished)) Cause.Finished logged))

sends-rest-c : (users : List User) (pubs : List Entries) (generation : ℕ) (config : Entries) (cap : ℕ) (h : List Line) (marks : List StopBy)
    (old : Record) (at : Endpoint) (c t part_c rest_c part_t rest_t : List ℕ) (end_c end_t shut_c shut_t : Bool) → InRelay (socks users pubs) old at c t part_c rest_c part_t rest_t end_c end_t shut_c shut_t
    → (old.sent_c ++ part_c) ++ rest_c ≡ due_c (context users pubs generation config cap h marks) old t
sends-rest-c users pubs generation config cap h marks old at c t part_c rest_c part_t rest_t end_c end_t shut_c shut_t k =
    owes-c users pubs old at c t part_c rest_c part_t rest_t end_c end_t shut_c shut_t old.cause (unfailed-yet k.begun) k
    ∙ relay-owes-c (context users pubs generation config cap h marks) old c t (end_c || old.end_c) (end_t || old.end_t)
    (plain-relay-facts users pubs generation config cap h marks old at k.begun.plain k.begun.reaches k.begun.uncaused k.begun.direct)

sends-rest-t : (users : List User) (pubs : List Entries) (generation : ℕ) (config : Entries) (cap : ℕ) (h : List Line) (marks : List StopBy)
    (old : Record) (at : Endpoint) (c t part_c rest_c part_t rest_t : List ℕ) (end_c end_t shut_c shut_t : Bool) → InRelay (socks users pubs) old at c t part_c rest_c part_t rest_t end_c end_t shut_c shut_t
    → (old.sent_t ++ part_t) ++ rest_t ≡ due_t (context users pubs generation config cap h marks) old c
sends-rest-t users pubs generation config cap h marks old at c t part_c rest_c part_t rest_t end_c end_t shut_c shut_t k =
    owes-t users pubs old at c t part_c rest_c part_t rest_t end_c end_t shut_c shut_t old.cause (unfailed-yet k.begun) k
    ∙ relay-owes-t (context users pubs generation config cap h marks) old c t (end_c || old.end_c) (end_t || old.end_t)
    (plain-relay-facts users pubs generation config cap h marks old at k.begun.plain k.begun.reaches k.begun.uncaused k.begun.direct)

-- the client's side is shut last, or at once with the target's
finishes-c : (users : List User) (pubs : List Entries) (generation : ℕ) (config : Entries) (cap : ℕ) (h : List Line) (marks : List StopBy) (worker number now : ℕ)
    (old : Record) (at : Endpoint) (c t part_c rest_c part_t rest_t : List ℕ) (end_c end_t shut_t idle_c idle_t full_c full_t logged : Bool) → Begun (socks users pubs) old at
    → Sums old c t part_c rest_c part_t rest_t end_c end_t true shut_t → old.since ≡ now → shut_t || old.shut_t ≡ true
    → Finishes users pubs generation config cap h marks worker number now old c t part_c part_t end_c end_t true shut_t idle_c idle_t full_c full_t logged
finishes-c users pubs generation config cap h marks worker number now old at c t part_c rest_c part_t rest_t end_c end_t shut_t idle_c idle_t full_c full_t logged b k same both_t =
    closes-with s old worker number now (sum_acts c t part_c part_t end_c end_t true shut_t idle_c idle_t full_c full_t) a a (summed old c t part_c part_t end_c end_t true shut_t (Some Cause.Finished)) Cause.Finished logged
    (relay-finish-c s old e x going open_c both_t ends_c.0 ends_t.0 (all-sent _ rest_c _ sends_c ends_t.1) (all-sent _ rest_t _ sends_t ends_c.1))
    (ap (λ p. is_calling p None) (in-phase users pubs generation config cap h marks old at c t (end_c || old.end_c) (end_t || old.end_t) b)) refl same refl (opened-by users old at b.plain b.reaches)
    (ap (λ z. z || false || false) (pending-none users pubs old at c t part_c rest_c part_t rest_t end_c end_t false shut_t (Some Cause.Finished) refl in_relay) ∙ (λ i. (is_nothing (ends_t.1 i) && is_nothing (ends_c.1 i)) || false || false))
  where
    s : Context
    s = context users pubs generation config cap h marks

    a : Record
    a = relayed old c t end_c end_t

    open_c : old.shut_c ≡ false
    open_c = k.once_c refl

    k' : Sums old c t part_c rest_c part_t rest_t end_c end_t false shut_t
    k' = record { may_c = k.may_c; may_t = k.may_t; pending_c = k.pending_c; pending_t = k.pending_t; once_c = λ e. cc; once_t = k.once_t; due_c = λ e. absurd (cc); due_t = k.due_t }

    in_relay : InRelay (socks users pubs) old at c t part_c rest_c part_t rest_t end_c end_t false shut_t
    in_relay = record { begun = b; sums = k'; apart = ap (λ z. z && (shut_t || old.shut_t)) open_c }

    e : TurnEvent
    e = event_of worker number now (sum_acts c t part_c part_t end_c end_t false shut_t idle_c idle_t full_c full_t) NextMark.Going

    x : Record
    x = summed old c t part_c part_t end_c end_t false shut_t old.cause

    going : Relaying s old e x
    going = relays users pubs generation config cap h marks worker number now old at c t part_c rest_c part_t rest_t end_c end_t false shut_t idle_c idle_t full_c full_t b k' in_relay.apart

    ends_t : (end_t || old.end_t ≡ true) × (rest_c ≡ [])
    ends_t = k.due_c refl

    ends_c : (end_c || old.end_c ≡ true) × (rest_t ≡ [])
    ends_c = shut-t old at c t part_c rest_c part_t rest_t end_c end_t false shut_t b k' both_t

    sends_c : (old.sent_c ++ part_c) ++ rest_c ≡ due_c s old t
    sends_c = sends-rest-c users pubs generation config cap h marks old at c t part_c rest_c part_t rest_t end_c end_t false shut_t in_relay

    sends_t : (old.sent_t ++ part_t) ++ rest_t ≡ due_t s old c
    sends_t = sends-rest-t users pubs generation config cap h marks old at c t part_c rest_c part_t rest_t end_c end_t false shut_t in_relay

-- the target's side is shut last
finishes-t : (users : List User) (pubs : List Entries) (generation : ℕ) (config : Entries) (cap : ℕ) (h : List Line) (marks : List StopBy) (worker number now : ℕ)
    (old : Record) (at : Endpoint) (c t part_c rest_c part_t rest_t : List ℕ) (end_c end_t idle_c idle_t full_c full_t logged : Bool) → Begun (socks users pubs) old at
    → Sums old c t part_c rest_c part_t rest_t end_c end_t false true → old.since ≡ now → old.shut_c ≡ true
    → Finishes users pubs generation config cap h marks worker number now old c t part_c part_t end_c end_t false true idle_c idle_t full_c full_t logged
finishes-t users pubs generation config cap h marks worker number now old at c t part_c rest_c part_t rest_t end_c end_t idle_c idle_t full_c full_t logged b k same both_c =
    closes-with s old worker number now (sum_acts c t part_c part_t end_c end_t false true idle_c idle_t full_c full_t) a a (summed old c t part_c part_t end_c end_t false true (Some Cause.Finished)) Cause.Finished logged
    (relay-finish-t s old e x going both_c open_t ends_c.0 ends_t.0 (all-sent _ rest_c _ sends_c ends_t.1) (all-sent _ rest_t _ sends_t ends_c.1))
    (ap (λ p. is_calling p None) (in-phase users pubs generation config cap h marks old at c t (end_c || old.end_c) (end_t || old.end_t) b)) refl same refl (opened-by users old at b.plain b.reaches)
    (ap (λ z. z || false || false) (pending-none users pubs old at c t part_c rest_c part_t rest_t end_c end_t false false (Some Cause.Finished) refl in_relay) ∙ (λ i. (is_nothing (ends_t.1 i) && is_nothing (ends_c.1 i)) || false || false))
  where
    and-false : (b : Bool) → b && false ≡ false
    and-false true = refl
    and-false false = refl

    s : Context
    s = context users pubs generation config cap h marks

    a : Record
    a = relayed old c t end_c end_t

    open_t : old.shut_t ≡ false
    open_t = k.once_t refl

    k' : Sums old c t part_c rest_c part_t rest_t end_c end_t false false
    k' = record { may_c = k.may_c; may_t = k.may_t; pending_c = k.pending_c; pending_t = k.pending_t; once_c = λ e. cc; once_t = λ e. cc; due_c = λ e. absurd (cc); due_t = λ e. absurd (cc) }

    in_relay : InRelay (socks users pubs) old at c t part_c rest_c part_t rest_t end_c end_t false false
    in_relay = record { begun = b; sums = k'; apart = ap (λ z. old.shut_c && z) open_t ∙ and-false old.shut_c }

    e : TurnEvent
    e = event_of worker number now (sum_acts c t part_c part_t end_c end_t false false idle_c idle_t full_c full_t) NextMark.Going

    x : Record
    x = summed old c t part_c part_t end_c end_t false false old.cause

    going : Relaying s old e x
    going = relays users pubs generation config cap h marks worker number now old at c t part_c rest_c part_t rest_t end_c end_t false false idle_c idle_t full_c full_t b k' in_relay.apart

    ends_t : (end_t || old.end_t ≡ true) × (rest_c ≡ [])
    ends_t = shut-c old at c t part_c rest_c part_t rest_t end_c end_t false false b k' both_c

    ends_c : (end_c || old.end_c ≡ true) × (rest_t ≡ [])
    ends_c = k.due_t refl

    sends_c : (old.sent_c ++ part_c) ++ rest_c ≡ due_c s old t
    sends_c = sends-rest-c users pubs generation config cap h marks old at c t part_c rest_c part_t rest_t end_c end_t false false in_relay

    sends_t : (old.sent_t ++ part_t) ++ rest_t ≡ due_t s old c
    sends_t = sends-rest-t users pubs generation config cap h marks old at c t part_c rest_c part_t rest_t end_c end_t false false in_relay

pub finishes : (users : List User) (pubs : List Entries) (generation : ℕ) (config : Entries) (cap : ℕ) (h : List Line) (marks : List StopBy) (worker number now : ℕ)
    (old : Record) (at : Endpoint) (c t part_c rest_c part_t rest_t : List ℕ) (end_c end_t shut_c shut_t idle_c idle_t full_c full_t logged : Bool) → Begun (socks users pubs) old at
    → Sums old c t part_c rest_c part_t rest_t end_c end_t shut_c shut_t → old.since ≡ now → shut_c || old.shut_c ≡ true → shut_t || old.shut_t ≡ true
    → Finishes users pubs generation config cap h marks worker number now old c t part_c part_t end_c end_t shut_c shut_t idle_c idle_t full_c full_t logged
finishes users pubs generation config cap h marks worker number now old at c t part_c rest_c part_t rest_t end_c end_t true shut_t idle_c idle_t full_c full_t logged b k same both_c both_t =
    finishes-c users pubs generation config cap h marks worker number now old at c t part_c rest_c part_t rest_t end_c end_t shut_t idle_c idle_t full_c full_t logged b k same both_t
finishes users pubs generation config cap h marks worker number now old at c t part_c rest_c part_t rest_t end_c end_t false true idle_c idle_t full_c full_t logged b k same both_c both_t =
    finishes-t users pubs generation config cap h marks worker number now old at c t part_c rest_c part_t rest_t end_c end_t idle_c idle_t full_c full_t logged b k same both_c
finishes users pubs generation config cap h marks worker number now old at c t part_c rest_c part_t rest_t end_c end_t false false idle_c idle_t full_c full_t logged b k same both_c both_t =
    clash (old.shut_c && old.shut_t) (both old.shut_c old.shut_t both_c both_t) (is-relayed users old at b.plain b.reaches).dialled.apart
