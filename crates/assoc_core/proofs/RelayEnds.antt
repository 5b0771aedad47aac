-- How a turn in a relay without a proxy ends.
use Rattle.std.proofs.Common.{◌≡◌, ℕ, ◌<◌, ◌⊎◌, inl, inr, Bool, true, false, ◌&&◌, ◌||◌, not, nat_le, Option, Some, List, [], ◌∷◌, ◌++◌, refl, sym, ap, subst, ◌∙◌, length, drop, append_assoc, arith}
use Rattle.std.proofs.Math.Seq.{drop-append_seam}
use Rattle.addr_pattern.specs.declared.endpoint.Endpoint.{Endpoint}
use Rattle.conf_types.specs.declared.entries.Entries.{Entries}
use Rattle.socks_grammar.specs.declared.user.User.{User}
use Rattle.socks_machine.specs.declared.cause.Cause.{Cause}
use Rattle.socks_machine.specs.declared.cause.StopBy.{StopBy}
use Rattle.socks_machine.specs.declared.lines.Line.{Line}
use Rattle.socks_machine.specs.declared.record.Record.{Record}
use Rattle.socks_machine.specs.declared.world.NextMark.{NextMark}
use Rattle.socks_machine.specs.declared.world.Object.{Object}
use Rattle.socks_machine.specs.declared.world.Outer.{Outer}
use Rattle.socks_machine.specs.declared.world.TurnEvent.{TurnEvent}
use Rattle.socks_machine.specs.Basis.{Basis}
use Rattle.socks_machine.specs.Calls.{Context, keep}
use Rattle.socks_machine.specs.Decisions.{reached_at, granted, is_opened}
use Rattle.socks_machine.specs.InTurn.{InTurn}
use Rattle.socks_machine.specs.Owed.{owed_to_client, owed_to_target, pending_to_client, pending_to_target, waiting_for_target, waiting_for_client}
use Rattle.socks_machine.specs.Phase.{Phase, phase, began, relay_began}
use Rattle.socks_machine.specs.Relaying.{RelayFacts, Relaying, relayed}
use Rattle.socks_machine.specs.Settle.{fix, first_cause, is_nothing}
use Rattle.socks_machine.specs.Socks.{socks}
use Rattle.socks_machine.specs.Taking.{holds, pipe_size}
use Rattle.socks_machine.specs.Turn.{turn, quantum, took_quantum, rests, rests_in, sinks_rest, sources_rest, sides_rest, is_late, fault_fits, fault_cause, may_fail, may_write, has_pending, may_be_shut, reads_in, is_there}
use Rattle.socks_machine.proofs.RelayLaws.{relaying-reads, alike, began-same, relay-owes-caused}
use Rattle.socks_machine.proofs.WaitLaws.{again, waits}
use Rattle.socks_machine.proofs.StartLaws.{relay-fails}
use Rattle.assoc_core.specs.Plain.{IsPlainRecord, is_login_failed}
use Rattle.assoc_core.specs.Turns.{Acts, event_of, context, links}
use Rattle.assoc_core.proofs.PlainRecords.{decided-forms, plain-owes-client, plain-owes-target}
use Rattle.assoc_core.proofs.RelayRecords.{plain-relay-facts}
use Rattle.assoc_core.proofs.Rests.{aged-same, never-late}
use Rattle.assoc_core.proofs.RelaySums.{Sums, summed, Begun, sum_acts, relays, sent-c, sent-t, sums-carried, unfailed-yet}

-- ---- NotYet

pub idle-c : (c t : Bool) → holds Object.Client (links c t) ≡ c
idle-c true true = refl
idle-c true false = refl
idle-c false true = refl
idle-c false false = refl

pub idle-t : (c t : Bool) → holds Object.Target (links c t) ≡ t
idle-t true true = refl
idle-t true false = refl
idle-t false true = refl
idle-t false false = refl

pub both : (a b : Bool) → a ≡ true → b ≡ true → a && b ≡ true
both true b h k = k
both false b h k = h

-- ---- what is pending

pub drop-sent : (sent rest owed : List ℕ) → sent ++ rest ≡ owed → drop (length sent) owed ≡ rest
drop-sent sent rest owed h = ap (drop (length sent)) (sym h) ∙ drop-append_seam sent rest

-- ---- the relay in hand

-- A turn of a relay in sums, where not both sides are shut.
pub record InRelay (basis : Basis) (old : Record) (at : Endpoint) (c t part_c rest_c part_t rest_t : List ℕ) (end_c end_t shut_c shut_t : Bool) : Type 0 where
  pub begun : Begun basis old at
  pub sums : Sums old c t part_c rest_c part_t rest_t end_c end_t shut_c shut_t
  pub apart : (shut_c || old.shut_c) && (shut_t || old.shut_t) ≡ false

in-facts : (users : List User) (pubs : List Entries) (generation : ℕ) (config : Entries) (cap : ℕ) (h : List Line) (marks : List StopBy) (old : Record) (at : Endpoint) → Begun (socks users pubs) old at
    → RelayFacts (context users pubs generation config cap h marks) old
in-facts users pubs generation config cap h marks old at b = plain-relay-facts users pubs generation config cap h marks old at b.plain b.reaches b.uncaused b.direct

pub in-phase : (users : List User) (pubs : List Entries) (generation : ℕ) (config : Entries) (cap : ℕ) (h : List Line) (marks : List StopBy) (old : Record) (at : Endpoint) (c t : List ℕ) (end_c end_t : Bool) → Begun (socks users pubs) old at
    → phase (socks users pubs) (record old { c = old.c ++ c; t = old.t ++ t; end_c = end_c; end_t = end_t }) ≡ Phase.Relay
in-phase users pubs generation config cap h marks old at c t end_c end_t b =
    let f = in-facts users pubs generation config cap h marks old at b in
    alike (socks users pubs) old (old.c ++ c) (old.t ++ t) end_c end_t f.direct (f.whole c) ∙ f.relays

pub owes-c : (users : List User) (pubs : List Entries) (old : Record) (at : Endpoint) (c t part_c rest_c part_t rest_t : List ℕ) (end_c end_t shut_c shut_t : Bool) (cause : Option Cause) → is_login_failed cause ≡ false
    → InRelay (socks users pubs) old at c t part_c rest_c part_t rest_t end_c end_t shut_c shut_t
    → (old.sent_c ++ part_c) ++ rest_c ≡ owed_to_client (socks users pubs) (summed old c t part_c part_t end_c end_t shut_c shut_t cause)
owes-c users pubs old at c t part_c rest_c part_t rest_t end_c end_t shut_c shut_t cause f k =
    sent-c old at c t part_c rest_c part_t rest_t end_c end_t shut_c shut_t cause f k.begun k.sums
    ∙ sym (plain-owes-client users pubs (summed old c t part_c part_t end_c end_t shut_c shut_t cause)
    (sums-carried old at c t part_c rest_c part_t rest_t end_c end_t shut_c shut_t cause f k.begun k.sums k.apart) k.begun.direct)

pub owes-t : (users : List User) (pubs : List Entries) (old : Record) (at : Endpoint) (c t part_c rest_c part_t rest_t : List ℕ) (end_c end_t shut_c shut_t : Bool) (cause : Option Cause) → is_login_failed cause ≡ false
    → InRelay (socks users pubs) old at c t part_c rest_c part_t rest_t end_c end_t shut_c shut_t
    → (old.sent_t ++ part_t) ++ rest_t ≡ owed_to_target (socks users pubs) (summed old c t part_c part_t end_c end_t shut_c shut_t cause)
owes-t users pubs old at c t part_c rest_c part_t rest_t end_c end_t shut_c shut_t cause f k =
    sent-t old at c t part_c rest_c part_t rest_t end_c end_t shut_c shut_t cause k.begun k.sums
    ∙ sym (plain-owes-target users pubs (summed old c t part_c part_t end_c end_t shut_c shut_t cause)
    (sums-carried old at c t part_c rest_c part_t rest_t end_c end_t shut_c shut_t cause f k.begun k.sums k.apart) k.begun.direct)

-- ---- it goes on

pub goes-again : (users : List User) (pubs : List Entries) (generation : ℕ) (config : Entries) (cap : ℕ) (h : List Line) (marks : List StopBy) (worker number now : ℕ)
    (old : Record) (at : Endpoint) (c t part_c rest_c part_t rest_t : List ℕ) (end_c end_t shut_c shut_t idle_c idle_t full_c full_t : Bool)
    → InRelay (socks users pubs) old at c t part_c rest_c part_t rest_t end_c end_t shut_c shut_t → old.since ≡ now
    → nat_le quantum (length c) || nat_le quantum (length t) ≡ true
    → turn (context users pubs generation config cap h marks) (event_of worker number now (sum_acts c t part_c part_t end_c end_t shut_c shut_t idle_c idle_t full_c full_t) NextMark.Again) old
    ≡ Some (record { left = summed old c t part_c part_t end_c end_t shut_c shut_t old.cause; h = h; marks = marks })
goes-again users pubs generation config cap h marks worker number now old at c t part_c rest_c part_t rest_t end_c end_t shut_c shut_t idle_c idle_t full_c full_t k same took =
    again s old e (relayed old c t end_c end_t) x (relaying-reads s old e x going) k.begun.uncaused (or-more (nat_le quantum (length c)) (nat_le quantum (length t)) took)
    ∙ (λ i. Some (record { left = record (aged-same s.basis e old x same i) { done = sym k.begun.plain.undone i }; h = h; marks = marks }))
  where
    s : Context
    s = context users pubs generation config cap h marks

    e : TurnEvent
    e = event_of worker number now (sum_acts c t part_c part_t end_c end_t shut_c shut_t idle_c idle_t full_c full_t) NextMark.Going

    x : Record
    x = summed old c t part_c part_t end_c end_t shut_c shut_t old.cause

    going : Relaying s old e x
    going = relays users pubs generation config cap h marks worker number now old at c t part_c rest_c part_t rest_t end_c end_t shut_c shut_t idle_c idle_t full_c full_t k.begun k.sums k.apart

    or-more : (a b : Bool) → a || b ≡ true → (a || b) || false ≡ true
    or-more true b h = refl
    or-more false true h = refl
    or-more false false h = h

-- why it waits: each side has ended, its link answered NotYet, or its bytes fill a pipe to a link that did; all is sent or its
-- link answered NotYet; and no side is still to be shut
pub record Resting (old : Record) (rest_c rest_t : List ℕ) (end_c end_t shut_c shut_t idle_c idle_t full_c full_t : Bool) (waiting_c waiting_t : ℕ) : Type 0 where
  pub source_c : (end_c || old.end_c) || (idle_c || (nat_le pipe_size waiting_t && full_t)) ≡ true
  pub source_t : (end_t || old.end_t) || (idle_t || (nat_le pipe_size waiting_c && full_c)) ≡ true
  pub sink_c : is_nothing rest_c || full_c ≡ true
  pub sink_t : is_nothing rest_t || full_t ≡ true
  pub side_c : (end_t || old.end_t) && not (shut_c || old.shut_c) && is_nothing rest_c ≡ false
  pub side_t : (end_c || old.end_c) && not (shut_t || old.shut_t) && is_nothing rest_t ≡ false

pub goes-waiting : (users : List User) (pubs : List Entries) (generation : ℕ) (config : Entries) (cap : ℕ) (h : List Line) (marks : List StopBy) (worker number now : ℕ)
    (old : Record) (at : Endpoint) (c t part_c rest_c part_t rest_t : List ℕ) (end_c end_t shut_c shut_t idle_c idle_t full_c full_t : Bool)
    → InRelay (socks users pubs) old at c t part_c rest_c part_t rest_t end_c end_t shut_c shut_t → old.since ≡ now
    → nat_le quantum (length c) || nat_le quantum (length t) ≡ false → Resting old rest_c rest_t end_c end_t shut_c shut_t idle_c idle_t full_c full_t
    (waiting_for_client (socks users pubs) (summed old c t part_c part_t end_c end_t shut_c shut_t old.cause)) (waiting_for_target (socks users pubs) (summed old c t part_c part_t end_c end_t shut_c shut_t old.cause))
    → turn (context users pubs generation config cap h marks) (event_of worker number now (sum_acts c t part_c part_t end_c end_t shut_c shut_t idle_c idle_t full_c full_t) NextMark.Wait) old
    ≡ Some (record { left = summed old c t part_c part_t end_c end_t shut_c shut_t old.cause; h = h; marks = marks })
goes-waiting users pubs generation config cap h marks worker number now old at c t part_c rest_c part_t rest_t end_c end_t shut_c shut_t idle_c idle_t full_c full_t k same took y =
    waits s old e (relayed old c t end_c end_t) x (relaying-reads s old e x going) k.begun.uncaused none
    (subst (λ (z : Record). rests s.basis e z ≡ true) (sym (aged-same s.basis e old x same)) resting)
    (subst (λ (z : Record). is_late s.basis s.config now z ≡ false) (sym (aged-same s.basis e old x same)) (never-late s.basis config now x same))
    ∙ (λ i. Some (record { left = record (aged-same s.basis e old x same i) { done = sym k.begun.plain.undone i }; h = h; marks = marks }))
  where
    s : Context
    s = context users pubs generation config cap h marks

    e : TurnEvent
    e = event_of worker number now (sum_acts c t part_c part_t end_c end_t shut_c shut_t idle_c idle_t full_c full_t) NextMark.Going

    x : Record
    x = summed old c t part_c part_t end_c end_t shut_c shut_t old.cause

    going : Relaying s old e x
    going = relays users pubs generation config cap h marks worker number now old at c t part_c rest_c part_t rest_t end_c end_t shut_c shut_t idle_c idle_t full_c full_t k.begun k.sums k.apart

    none : took_quantum e ≡ false
    none = ap (λ b. b || false) took

    waiting_c : ℕ
    waiting_c = waiting_for_client s.basis x

    waiting_t : ℕ
    waiting_t = waiting_for_target s.basis x

    pending_c : pending_to_client s.basis x ≡ rest_c
    pending_c = drop-sent (old.sent_c ++ part_c) rest_c _ (owes-c users pubs old at c t part_c rest_c part_t rest_t end_c end_t shut_c shut_t old.cause (unfailed-yet k.begun) k)

    pending_t : pending_to_target s.basis x ≡ rest_t
    pending_t = drop-sent (old.sent_t ++ part_t) rest_t _ (owes-t users pubs old at c t part_c rest_c part_t rest_t end_c end_t shut_c shut_t old.cause (unfailed-yet k.begun) k)

    sources : sources_rest s.basis e x Phase.Relay ≡ true
    sources = both _ _
        ((λ i. (end_c || old.end_c) || (idle-c idle_c idle_t i || (nat_le pipe_size waiting_t && idle-t full_c full_t i))) ∙ y.source_c)
        ((λ i. (end_t || old.end_t) || (idle-t idle_c idle_t i || (nat_le pipe_size waiting_c && idle-c full_c full_t i))) ∙ y.source_t)

    sinks : sinks_rest s.basis e x ≡ true
    sinks = both _ _ (ap (λ z. is_nothing z || holds Object.Client (links full_c full_t)) pending_c ∙ (ap (λ b. is_nothing rest_c || b) (idle-c full_c full_t) ∙ y.sink_c))
        (ap (λ z. is_nothing z || holds Object.Target (links full_c full_t)) pending_t ∙ (ap (λ b. is_nothing rest_t || b) (idle-t full_c full_t) ∙ y.sink_t))

    unshut : (b a c d : Bool) → a && c && d ≡ false → not (b && a && c && d) ≡ true
    unshut true a c d h = ap not h
    unshut false a c d h = refl

    sides : sides_rest s.basis x Phase.Relay ≡ true
    sides = both _ _
        (unshut (relay_began s.basis x) _ _ _ (ap (λ z. (end_t || old.end_t) && not (shut_c || old.shut_c) && is_nothing z) pending_c ∙ y.side_c))
        (unshut (relay_began s.basis x) _ _ _ (ap (λ z. (end_c || old.end_c) && not (shut_t || old.shut_t) && is_nothing z) pending_t ∙ y.side_t))

    resting : rests s.basis e x ≡ true
    resting = ap (λ b. not b && rests_in s.basis e x (phase s.basis x)) none
        ∙ (ap (rests_in s.basis e x) (in-phase users pubs generation config cap h marks old at c t (end_c || old.end_c) (end_t || old.end_t) k.begun)
        ∙ four _ _ _ sources sinks sides)
      where
        four : (a b c : Bool) → a ≡ true → b ≡ true → c ≡ true → a && b && c ≡ true
        four a b c ha hb hc = rw (ha, hb, hc) refl

-- ---- a call failed

-- what the event of a fault adds
abbrev pub fault_acts : Acts → Object → Bool → Outer → Acts
fault_acts x o unwritten outer = record x { fault = Some o; unwritten = unwritten; outer = outer }

abbrev pub desk_acts : Acts → Outer → Acts
desk_acts x outer = record x { outer = outer }

pub opened-by : (users : List User) (r : Record) (at : Endpoint) → IsPlainRecord users r → reached_at r.decisions ≡ Some at → is_opened r.decisions ≡ true
opened-by users r at plain reaches = decided-forms users r (λ ds. reached_at ds ≡ Some at → is_opened ds ≡ true) (record {
  nothing = λ fresh' k. absurd (cc);
  opened' = λ g rule d k. refl;
  looked' = λ g rule name found d k. refl;
  granted' = λ g rule s g' facts verdict route refused d k. refl;
  reached' = λ g rule s g' facts verdict route to at' d k. refl;
}) r.decisions plain.decided reaches

-- a call on one side fails where that side is read, has something pending, or is to be shut
pub data FailsSide (ended : Bool) (rest : List ℕ) (other was : Bool) : Type 0 where
  unread : ended ≡ false → FailsSide ended rest other was
  unsent : 0 < length rest → FailsSide ended rest other was
  unshut : other ≡ true → was ≡ false → FailsSide ended rest other was

pub something : (part rest : List ℕ) → 0 < length rest → is_nothing (part ++ rest) ≡ false
something [] [] h = absurd (omega arith)
something [] (b ∷ bs) h = refl
something (b ∷ bs) rest h = refl

pub some-left : (rest : List ℕ) → 0 < length rest → is_nothing rest ≡ false
some-left [] h = absurd (omega arith)
some-left (b ∷ bs) h = refl

fails-side : (ended other was began : Bool) (part rest pending : List ℕ) → began ≡ true → pending ≡ part ++ rest → FailsSide ended rest other was
    → not ended || not (is_nothing pending) || (began && other && not was && is_nothing pending) ≡ true
fails-side ended other was began part rest pending b p (unread h) = ap (λ z. not z || not (is_nothing pending) || (began && other && not was && is_nothing pending)) h
fails-side ended other was began part rest pending b p (unsent h) =
    ap (λ z. not ended || not (is_nothing z) || (began && other && not was && is_nothing z)) p
    ∙ (ap (λ z. not ended || not z || (began && other && not was && z)) (something part rest h) ∙ or-middle (not ended) (began && other && not was && false))
  where
    or-middle : (a b : Bool) → a || true || b ≡ true
    or-middle true b = refl
    or-middle false b = refl
fails-side ended other was began part rest pending b p (unshut h k) =
    ap (λ z. not ended || not (is_nothing pending) || (z && other && not was && is_nothing pending)) b
    ∙ (ap (λ z. not ended || not (is_nothing pending) || (true && z && not was && is_nothing pending)) h
    ∙ (ap (λ z. not ended || not (is_nothing pending) || (true && true && not z && is_nothing pending)) k ∙ or-either (not ended) (is_nothing pending)))
  where
    or-either : (a b : Bool) → a || not b || (true && true && true && b) ≡ true
    or-either true true = refl
    or-either true false = refl
    or-either false true = refl
    or-either false false = refl

-- the failed object, and why a call on it may fail
abbrev pub FailsOn : Object → Record → List ℕ → List ℕ → Bool → Bool → Type 0
FailsOn Object.Client old rest_c rest_t ended_c ended_t = FailsSide ended_c rest_c ended_t old.shut_c
FailsOn Object.Target old rest_c rest_t ended_c ended_t = FailsSide ended_t rest_t ended_c old.shut_t
FailsOn _ old rest_c rest_t ended_c ended_t = ⊥

-- a turn of a relay in which a call failed
pub record InFault (basis : Basis) (old : Record) (at : Endpoint) (c t part_c rest_c part_t rest_t : List ℕ) (end_c end_t shut_c shut_t : Bool) (o : Object) (unwritten : Bool) : Type 0 where
  pub relay : InRelay basis old at c t part_c rest_c part_t rest_t end_c end_t shut_c shut_t
  pub fails : FailsOn o old rest_c rest_t (end_c || old.end_c) (end_t || old.end_t)
  pub writes : unwritten ≡ true → (0 < length rest_c) ⊎ (0 < length rest_t)

-- what holds of such a turn, before it is answered
pub record Failed (s : Context) (old : Record) (e : TurnEvent) (a x : Record) (cause : Cause) : Type 0 where
  pub turned : InTurn s old e a (keep s a) (fix (Some cause) a) x
  pub fits : fault_fits s.basis e.fault e.unwritten a ≡ true
  pub relays' : phase s.basis a ≡ Phase.Relay
  pub opened' : is_opened old.decisions ≡ true

pub fails : (users : List User) (pubs : List Entries) (generation : ℕ) (config : Entries) (cap : ℕ) (h : List Line) (marks : List StopBy) (worker number now : ℕ)
    (old : Record) (at : Endpoint) (c t part_c rest_c part_t rest_t : List ℕ) (end_c end_t shut_c shut_t idle_c idle_t full_c full_t : Bool) (o : Object) (unwritten : Bool)
    → InFault (socks users pubs) old at c t part_c rest_c part_t rest_t end_c end_t shut_c shut_t o unwritten
    → Failed (context users pubs generation config cap h marks) old
    (event_of worker number now (fault_acts (sum_acts c t part_c part_t end_c end_t shut_c shut_t idle_c idle_t full_c full_t) o unwritten Outer.Nothing) NextMark.Going)
    (relayed old c t end_c end_t) (summed old c t part_c part_t end_c end_t shut_c shut_t (Some (fault_cause o))) (fault_cause o)
fails users pubs generation config cap h marks worker number now old at c t part_c rest_c part_t rest_t end_c end_t shut_c shut_t idle_c idle_t full_c full_t o unwritten k = record {
  turned = subst (λ (z : Record). InTurn s old (record e { fault = Some o; unwritten = unwritten }) a (keep s a) (fix (Some (fault_cause o)) a) z) fixed (relay-fails s old e x o unwritten going there);
  fits = both _ _ (may-fail o k.fails) (written unwritten k.writes);
  relays' = in-phase users pubs generation config cap h marks old at c t (end_c || old.end_c) (end_t || old.end_t) k.relay.begun;
  opened' = opened-by users old at k.relay.begun.plain k.relay.begun.reaches;
}
  where
    s : Context
    s = context users pubs generation config cap h marks

    e : TurnEvent
    e = event_of worker number now (sum_acts c t part_c part_t end_c end_t shut_c shut_t idle_c idle_t full_c full_t) NextMark.Going

    x : Record
    x = summed old c t part_c part_t end_c end_t shut_c shut_t old.cause

    a : Record
    a = relayed old c t end_c end_t

    facts : RelayFacts s old
    facts = in-facts users pubs generation config cap h marks old at k.relay.begun

    going : Relaying s old e x
    going = relays users pubs generation config cap h marks worker number now old at c t part_c rest_c part_t rest_t end_c end_t shut_c shut_t idle_c idle_t full_c full_t k.relay.begun k.relay.sums k.relay.apart

    fixed : fix (Some (fault_cause o)) x ≡ summed old c t part_c part_t end_c end_t shut_c shut_t (Some (fault_cause o))
    fixed = λ i. record x { cause = ap (first_cause (Some (fault_cause o))) k.relay.begun.uncaused i }

    began' : relay_began s.basis a ≡ true
    began' = began-same s old c t (end_c || old.end_c) (end_t || old.end_t) (granted old.decisions) facts ∙ facts.began

    behind : (sent part rest owed : List ℕ) → (sent ++ part) ++ rest ≡ owed → drop (length sent) owed ≡ part ++ rest
    behind sent part rest owed h = ap (drop (length sent)) (sym h ∙ append_assoc sent part rest) ∙ drop-append_seam sent (part ++ rest)

    pending_c : pending_to_client s.basis a ≡ part_c ++ rest_c
    pending_c = behind old.sent_c part_c rest_c _ (owes-c users pubs old at c t part_c rest_c part_t rest_t end_c end_t shut_c shut_t old.cause (unfailed-yet k.relay.begun) k.relay)

    pending_t : pending_to_target s.basis a ≡ part_t ++ rest_t
    pending_t = behind old.sent_t part_t rest_t _ (owes-t users pubs old at c t part_c rest_c part_t rest_t end_c end_t shut_c shut_t old.cause (unfailed-yet k.relay.begun) k.relay)

    on-relay : (o : Object) → may_fail s.basis a o ≡ reads_in a Phase.Relay o || has_pending s.basis a o || may_be_shut s.basis a o
    on-relay o = ap (λ p. reads_in a p o || has_pending s.basis a o || may_be_shut s.basis a o)
        (in-phase users pubs generation config cap h marks old at c t (end_c || old.end_c) (end_t || old.end_t) k.relay.begun)

    there : is_there a o ≡ true
    there = by-object o k.fails
      where
        by-object : (o : Object) → FailsOn o old rest_c rest_t (end_c || old.end_c) (end_t || old.end_t) → is_there a o ≡ true
        by-object Object.Client f = refl
        by-object Object.Target f = facts.there
        by-object Object.Door f = absurd f
        by-object Object.Port f = absurd f

    may-fail : (o : Object) → FailsOn o old rest_c rest_t (end_c || old.end_c) (end_t || old.end_t) → may_fail s.basis a o ≡ true
    may-fail Object.Client f = on-relay Object.Client ∙ fails-side (end_c || old.end_c) (end_t || old.end_t) old.shut_c (relay_began s.basis a) part_c rest_c (pending_to_client s.basis a) began' pending_c f
    may-fail Object.Target f = on-relay Object.Target ∙ fails-side (end_t || old.end_t) (end_c || old.end_c) old.shut_t (relay_began s.basis a) part_t rest_t (pending_to_target s.basis a) began' pending_t f
    may-fail Object.Door f = absurd f
    may-fail Object.Port f = absurd f

    d : Record
    d = fix (Some (fault_cause o)) a

    caused : pending_to_client s.basis d ≡ part_c ++ rest_c
    caused = ap (drop (length old.sent_c)) (relay-owes-caused s old c t (end_c || old.end_c) (end_t || old.end_t) d.cause facts) ∙ pending_c

    may-write : (0 < length rest_c) ⊎ (0 < length rest_t) → may_write s.basis d ≡ true
    may-write (inl g) = ap (λ z. not (is_nothing z) || not (is_nothing (pending_to_target s.basis d))) caused
        ∙ ap (λ z. not z || not (is_nothing (pending_to_target s.basis d))) (something part_c rest_c g)
    may-write (inr g) = ap (λ z. not (is_nothing (pending_to_client s.basis d)) || not (is_nothing z)) pending_t
        ∙ (ap (λ z. not (is_nothing (pending_to_client s.basis d)) || not z) (something part_t rest_t g) ∙ or-end (not (is_nothing (pending_to_client s.basis d))))
      where
        or-end : (a : Bool) → a || true ≡ true
        or-end true = refl
        or-end false = refl

    written : (u : Bool) → (u ≡ true → (0 < length rest_c) ⊎ (0 < length rest_t)) → not u || may_write s.basis d ≡ true
    written true w = may-write (w refl)
    written false w = refl
