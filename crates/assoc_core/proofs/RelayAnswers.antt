-- The answers of a turn in a relay without a proxy.
use Rattle.std.proofs.Common.{◌≡◌, ℕ, ◌<◌, ◌≤◌, ◌⊎◌, inl, inr, Bool, true, false, ◌&&◌, ◌||◌, not, if◌then◌else◌, nat_le, le-leb, Option, Some, None, List, [], refl, sym, ap, subst, ◌∙◌, length}
use Rattle.addr_pattern.specs.declared.endpoint.Endpoint.{Endpoint}
use Rattle.conf_types.specs.declared.entries.Entries.{Entries}
use Rattle.socks_grammar.specs.declared.user.User.{User}
use Rattle.net_ends.specs.Counts.{Counts}
use Rattle.net_ends.specs.Nets.{NetTold}
use Rattle.net_ends.specs.Told.{Told}
use Rattle.socks_machine.specs.declared.cause.Cause.{Cause}
use Rattle.socks_machine.specs.declared.cause.StopBy.{StopBy}
use Rattle.socks_machine.specs.declared.lines.CloseLine.{CloseLine}
use Rattle.socks_machine.specs.declared.lines.Line.{Line}
use Rattle.socks_machine.specs.declared.record.Record.{Record}
use Rattle.socks_machine.specs.declared.world.NextMark.{NextMark}
use Rattle.socks_machine.specs.declared.world.Object.{Object}
use Rattle.socks_machine.specs.declared.world.Outer.{Outer}
use Rattle.socks_machine.specs.Basis.{Basis}
use Rattle.socks_machine.specs.Calls.{call_close, close_line, cause_of_shut, is_calling}
use Rattle.socks_machine.specs.Decisions.{reached_at}
use Rattle.socks_machine.specs.History.{at_close}
use Rattle.socks_machine.specs.Phase.{is_udp}
use Rattle.socks_machine.specs.Relaying.{relayed}
use Rattle.socks_machine.specs.Settle.{is_nothing}
use Rattle.socks_machine.specs.Owed.{waiting_for_client, waiting_for_target}
use Rattle.socks_machine.specs.Socks.{socks}
use Rattle.socks_machine.specs.Taking.{pipe_size}
use Rattle.socks_machine.specs.Turn.{turn, marked, quantum, fault_cause, is_quiet}
use Rattle.assoc_core.specs.declared.assoc.Assoc.{Assoc}
use Rattle.assoc_core.specs.declared.assoc.Ended.{Ended}
use Rattle.assoc_core.specs.declared.assoc.Next.{Next}
use Rattle.assoc_core.specs.declared.carry.Give.{Give}
use Rattle.assoc_core.specs.declared.relay.Pass.{Pass}
use Rattle.assoc_core.specs.Carrying.{Passes, has_ended, is_read, is_sound, is_idle, is_full, is_unwritten, is_quantum, is_held, fault_of, unwritten_of, has_pending, took_quantum}
use Rattle.assoc_core.specs.Closing.{Closed}
use Rattle.assoc_core.specs.Plain.{IsPlainRecord, is_login_failed, prelude_of}
use Rattle.assoc_core.specs.Stands.{HoldsTarget, Stands}
use Rattle.assoc_core.specs.Turns.{event_of, context, Turns, mark_of}
use Rattle.assoc_core.proofs.PassLaws.{ended-of, unread-of, source-of, held-full, end-of, unsound-of, unwritten-left, sent-of, nothing-of, FaultTells, fault-tells, sound-written}
use Rattle.assoc_core.proofs.RelayEnds.{InRelay, InFault, FailsSide, FailsOn, Resting, goes-again, goes-waiting, Failed, fails, fault_acts, both, some-left}
use Rattle.assoc_core.proofs.Rests.{rests-with}
use Rattle.assoc_core.proofs.RelayCloses.{closes-with, pending-none, sinks-by, finishes}
use Rattle.assoc_core.proofs.RelayRecords.{plain-tcp}
use Rattle.assoc_core.proofs.RelaySums.{clash, Begun, shut-c, shut-t, sums-carried, unfailed-yet}
use Rattle.assoc_core.proofs.RelayTurns.{RelayTurn, pass_acts, pass_leaves, pass-sums, pass-leaves, relay-turns, waits-client, waits-target}

-- ---- the close

-- where the law is that it closes, it closes
pub relay-closes : {L : Type 0} (told : L → Told) (counts : L → Counts) (stands : List Line → List StopBy → Type 0)
    (users : List User) (pubs : List Entries) (generation : ℕ) (config : Entries) (cap : ℕ) (h : List Line) (marks : List StopBy) (now : ℕ) (net : NetTold)
    (a mid : Assoc L) (e : Ended L) (pass : Pass) (k : RelayTurn told counts (socks users pubs) a (Next.Done e) pass) (fault : Option Object) (unwritten : Bool) (cause : Cause) → is_login_failed (Some cause) ≡ false
    → fault_of pass ≡ fault → unwritten_of pass ≡ unwritten → mid.state ≡ k.new → Closed stands h marks cause mid e
    → ((worker : ℕ) (logged : Bool) → turn (context users pubs generation config cap h marks)
    (event_of worker a.state.number now (record (pass_acts told counts a (Next.Done e) pass k) { fault = fault; unwritten = unwritten; outer = Outer.Desk logged }) NextMark.Done) a.state
    ≡ Some (marked NextMark.Done (call_close h marks (pass_leaves told counts a (Next.Done e) pass k (Some cause)) cause logged)))
    → Turns told counts stands (context users pubs generation config cap h marks) now net net a (Next.Done e)
relay-closes {L} told counts stands users pubs generation config cap h marks now net a mid e pass k fault unwritten cause sound' is_fault is_unwritten' m closed law =
    relay-turns told counts stands users pubs generation config cap h marks now net a (Next.Done e) pass k fault unwritten (Outer.Desk closed.closes.logged) (Some cause)
    (cause_of_shut (at_close h marks (close_line x cause) closed.closes.logged).said) true _ _ sound' is_fault is_unwritten' tt
    (λ worker. law worker closed.closes.logged) state (subst (λ (l : CloseLine). stands (at_close h marks l closed.closes.logged).h (at_close h marks l closed.closes.logged).marks) line closed.closes.stands')
    (ap (λ (z : Record). z.done) state, ap is_udp state ∙ plain-tcp users a.state k.begun.plain, ap (λ (z : Record). z.sent_u) state ∙ k.begun.plain.sent_u)
  where
    x : Record
    x = pass_leaves told counts a (Next.Done e) pass k (Some cause)

    leaves : mid.state ≡ pass_leaves told counts a (Next.Done e) pass k a.state.cause
    leaves = m ∙ pass-leaves _ _ _ _ _ _ _ _ a.state k.new pass k.passes

    line : close_line mid.state cause ≡ close_line x cause
    line = ap (λ (z : Record). close_line z cause) leaves

    said : closed.said ≡ (at_close h marks (close_line x cause) closed.closes.logged).said
    said = closed.closes.said' ∙ ap (λ (l : CloseLine). (at_close h marks l closed.closes.logged).said) line

    state : e.state ≡ record x { at_close = cause_of_shut (at_close h marks (close_line x cause) closed.closes.logged).said; done = true }
    state = closed.state' ∙ (λ i. record (leaves i) { cause = Some cause; at_close = cause_of_shut (said i); done = true })

-- ---- not both sides are shut

-- a turn in which not both sides are shut at its end
apart-by : {L : Type 0} {basis : Basis} (told : L → Told) (counts : L → Counts) (a : Assoc L) (next : Next L) (pass : Pass) (k : RelayTurn told counts basis a next pass) → (k.new.shut_c ≡ true → k.new.shut_t ≡ true → ⊥)
    → InRelay basis a.state k.at k.passes.takes_c.part k.passes.takes_t.part k.passes.gives_c.part k.passes.gives_c.rest k.passes.gives_t.part k.passes.gives_t.rest
    k.passes.takes_c.ends k.passes.takes_t.ends k.passes.gives_c.shuts k.passes.gives_t.shuts
apart-by told counts a next pass k unshut = record {
  begun = k.begun;
  sums = pass-sums _ _ _ _ _ _ _ _ a.state k.new pass k.at k.begun.reaches k.passes;
  apart = by-shut _ _ (λ c t. unshut (k.passes.gives_c.shut' ∙ c) (k.passes.gives_t.shut' ∙ t));
}
  where
    by-shut : (c t : Bool) → (c ≡ true → t ≡ true → ⊥) → c && t ≡ false
    by-shut true true f = absurd (f refl refl)
    by-shut true false f = refl
    by-shut false t f = refl

-- a side that was shut was sent all, and the other one has ended
shut-facts-c : {L : Type 0} {basis : Basis} (told : L → Told) (counts : L → Counts) (a : Assoc L) (next : Next L) (pass : Pass) (k : RelayTurn told counts basis a next pass) → k.new.shut_c ≡ true
    → (k.new.end_t ≡ true) × (k.passes.gives_c.rest ≡ [])
shut-facts-c told counts a next pass k h =
    let f = shut-c a.state k.at _ _ _ _ _ _ _ _ _ _ k.begun (pass-sums _ _ _ _ _ _ _ _ a.state k.new pass k.at k.begun.reaches k.passes) (sym k.passes.gives_c.shut' ∙ h) in (k.passes.takes_t.ended' ∙ f.0, f.1)

shut-facts-t : {L : Type 0} {basis : Basis} (told : L → Told) (counts : L → Counts) (a : Assoc L) (next : Next L) (pass : Pass) (k : RelayTurn told counts basis a next pass) → k.new.shut_t ≡ true
    → (k.new.end_c ≡ true) × (k.passes.gives_t.rest ≡ [])
shut-facts-t told counts a next pass k h =
    let f = shut-t a.state k.at _ _ _ _ _ _ _ _ _ _ k.begun (pass-sums _ _ _ _ _ _ _ _ a.state k.new pass k.at k.begun.reaches k.passes) (sym k.passes.gives_t.shut' ∙ h) in (k.passes.takes_c.ended' ∙ f.0, f.1)

unsound-clash : (rest : List ℕ) (ends shut : Bool) → (0 < length rest) ⊎ ((ends ≡ true) × (shut ≡ false)) → rest ≡ [] → shut ≡ true → ⊥
unsound-clash rest ends shut (inl h) none k = clash (is_nothing rest) (ap is_nothing none) (some-left rest h)
unsound-clash rest ends shut (inr h) none k = clash shut k h.1

-- a failed call leaves a side open
fault-apart : {L : Type 0} {basis : Basis} (told : L → Told) (counts : L → Counts) (a : Assoc L) (next : Next L) (pass : Pass) (k : RelayTurn told counts basis a next pass) (o : Object)
    → FaultTells (Some o) (is_read pass.took_c) (is_sound pass.gave_t) (is_read pass.took_t) (is_sound pass.gave_c) → k.new.shut_c ≡ true → k.new.shut_t ≡ true → ⊥
fault-apart told counts a next pass k Object.Client (inl e) c t = clash k.new.end_c (shut-facts-t told counts a next pass k t).0 (unread-of k.passes.takes_c e).0
fault-apart told counts a next pass k Object.Client (inr e) c t = unsound-clash _ _ _ (unsound-of k.passes.gives_c e.3).2 (shut-facts-c told counts a next pass k c).1 c
fault-apart told counts a next pass k Object.Target (rc, inl e) c t = unsound-clash _ _ _ (unsound-of k.passes.gives_t e).2 (shut-facts-t told counts a next pass k t).1 t
fault-apart told counts a next pass k Object.Target (rc, inr e) c t = clash k.new.end_t (shut-facts-c told counts a next pass k c).0 (unread-of k.passes.takes_t e.1).0
fault-apart told counts a next pass k Object.Door f c t = absurd f
fault-apart told counts a next pass k Object.Port f c t = absurd f

tells-of : (pass : Pass) (fault : Option Object) → fault_of pass ≡ fault → FaultTells fault (is_read pass.took_c) (is_sound pass.gave_t) (is_read pass.took_t) (is_sound pass.gave_c)
tells-of pass fault h = subst (λ (z : Option Object). FaultTells z (is_read pass.took_c) (is_sound pass.gave_t) (is_read pass.took_t) (is_sound pass.gave_c)) h
    (fault-tells (is_read pass.took_c) (is_sound pass.gave_t) (is_read pass.took_t) (is_sound pass.gave_c))

-- ---- it goes on

quantum-of : {L : Type 0} {basis : Basis} (told : L → Told) (counts : L → Counts) (a : Assoc L) (next : Next L) (pass : Pass) (k : RelayTurn told counts basis a next pass)
    → nat_le quantum (length k.passes.takes_c.part) || nat_le quantum (length k.passes.takes_t.part) ≡ took_quantum pass
quantum-of told counts a next pass k = λ i. k.passes.takes_c.whole i || k.passes.takes_t.whole i

pub relay-again : {L : Type 0} (told : L → Told) (counts : L → Counts) (stands : List Line → List StopBy → Type 0)
    (users : List User) (pubs : List Entries) (generation : ℕ) (config : Entries) (cap : ℕ) (h : List Line) (marks : List StopBy) (now : ℕ) (net : NetTold)
    (a mid : Assoc L) (pass : Pass) (k : RelayTurn told counts (socks users pubs) a (Next.Again mid) pass) → fault_of pass ≡ None → unwritten_of pass ≡ false → mid.state ≡ k.new
    → a.state.since ≡ now → (k.new.shut_c ≡ true → k.new.shut_t ≡ true → ⊥) → took_quantum pass ≡ true → stands h marks
    → Turns told counts stands (context users pubs generation config cap h marks) now net net a (Next.Again mid)
relay-again told counts stands users pubs generation config cap h marks now net a mid pass k none written m same unshut took desked =
    relay-turns told counts stands users pubs generation config cap h marks now net a (Next.Again mid) pass k None false Outer.Nothing a.state.cause a.state.at_close a.state.done h marks (unfailed-yet k.begun) none written tt
    (λ worker. goes-again users pubs generation config cap h marks worker a.state.number now a.state k.at _ _ _ _ _ _ _ _ _ _ _ _ _ _ relay same (quantum-of told counts a (Next.Again mid) pass k ∙ took))
    leaves desked (subst (IsPlainRecord users) (sym leaves) (sums-carried a.state k.at _ _ _ _ _ _ _ _ _ _ a.state.cause (unfailed-yet k.begun) k.begun relay.sums relay.apart))
  where
    relay : InRelay (socks users pubs) a.state k.at k.passes.takes_c.part k.passes.takes_t.part k.passes.gives_c.part k.passes.gives_c.rest k.passes.gives_t.part k.passes.gives_t.rest
        k.passes.takes_c.ends k.passes.takes_t.ends k.passes.gives_c.shuts k.passes.gives_t.shuts
    relay = apart-by told counts a (Next.Again mid) pass k unshut

    leaves : mid.state ≡ pass_leaves told counts a (Next.Again mid) pass k a.state.cause
    leaves = m ∙ pass-leaves _ _ _ _ _ _ _ _ a.state k.new pass k.passes

or-no : (a b : Bool) → a || b ≡ false → (a ≡ false) × (b ≡ false)
or-no true b h = absurd (cc)
or-no false b h = (refl, h)

sink : (nothing full : Bool) → nothing ≡ not full → nothing || full ≡ true
sink nothing true h = ap (λ b. b || true) h
sink nothing false h = ap (λ b. b || false) h

side : (end shut nothing full : Bool) → nothing ≡ not full → (full ≡ false → end ≡ true → shut ≡ true) → end && not shut && nothing ≡ false
side false shut nothing full h f = refl
side true true nothing full h f = refl
side true false nothing true h f = h
side true false nothing false h f = absurd (clash false (f refl refl) refl)

or-if : (a b c d : Bool) → a || (b || c) ≡ true → (c ≡ true → d ≡ true) → a || (b || d) ≡ true
or-if true b c d h f = refl
or-if false true c d h f = refl
or-if false false c d h f = f h

pub relay-waits : {L : Type 0} (told : L → Told) (counts : L → Counts) (stands : List Line → List StopBy → Type 0)
    (users : List User) (pubs : List Entries) (generation : ℕ) (config : Entries) (cap : ℕ) (h : List Line) (marks : List StopBy) (now : ℕ) (net : NetTold)
    (a mid : Assoc L) (pass : Pass) (k : RelayTurn told counts (socks users pubs) a (Next.Wait mid) pass) → fault_of pass ≡ None → unwritten_of pass ≡ false → mid.state ≡ k.new
    → a.state.since ≡ now → (k.new.shut_c ≡ true → k.new.shut_t ≡ true → ⊥) → took_quantum pass ≡ false → stands h marks
    → Turns told counts stands (context users pubs generation config cap h marks) now net net a (Next.Wait mid)
relay-waits told counts stands users pubs generation config cap h marks now net a mid pass k none written m same unshut took desked =
    relay-turns told counts stands users pubs generation config cap h marks now net a (Next.Wait mid) pass k None false Outer.Nothing a.state.cause a.state.at_close a.state.done h marks (unfailed-yet k.begun) none written tt
    (λ worker. goes-waiting users pubs generation config cap h marks worker a.state.number now a.state k.at _ _ _ _ _ _ _ _ _ _ _ _ _ _ relay same (quantum-of told counts a (Next.Wait mid) pass k ∙ took) resting)
    leaves desked (subst (IsPlainRecord users) (sym leaves) (sums-carried a.state k.at _ _ _ _ _ _ _ _ _ _ a.state.cause (unfailed-yet k.begun) k.begun relay.sums relay.apart))
  where
    relay : InRelay (socks users pubs) a.state k.at k.passes.takes_c.part k.passes.takes_t.part k.passes.gives_c.part k.passes.gives_c.rest k.passes.gives_t.part k.passes.gives_t.rest
        k.passes.takes_c.ends k.passes.takes_t.ends k.passes.gives_c.shuts k.passes.gives_t.shuts
    relay = apart-by told counts a (Next.Wait mid) pass k unshut

    leaves : mid.state ≡ pass_leaves told counts a (Next.Wait mid) pass k a.state.cause
    leaves = m ∙ pass-leaves _ _ _ _ _ _ _ _ a.state k.new pass k.passes

    fine : (is_read pass.took_c ≡ true) × (is_sound pass.gave_t ≡ true) × (is_read pass.took_t ≡ true) × (is_sound pass.gave_c ≡ true)
    fine = tells-of pass None none

    quanta : (is_quantum pass.took_c ≡ false) × (is_quantum pass.took_t ≡ false)
    quanta = or-no (is_quantum pass.took_c) (is_quantum pass.took_t) took

    reads_t : is_read pass.took_c && is_sound pass.gave_t ≡ true
    reads_t = both _ _ fine.0 fine.1

    left : Record
    left = pass_leaves told counts a (Next.Wait mid) pass k a.state.cause

    holds_by : (waiting n : ℕ) (give : Give) → waiting ≡ n → is_sound give ≡ true → (pipe_size ≤ n) × (is_full give ≡ true) ⊎ (is_sound give ≡ false) → nat_le pipe_size waiting && is_full give ≡ true
    holds_by waiting n give is sound (inl f) = both _ _ (le-leb pipe_size waiting (subst (λ z. pipe_size ≤ z) (sym is) f.0)) f.1
    holds_by waiting n give is sound (inr f) = absurd (clash (is_sound give) sound f)

    nothing_c : is_nothing k.passes.gives_c.rest ≡ not (is_full pass.gave_c)
    nothing_c = nothing-of k.passes.gives_c fine.0 (sound-written pass.gave_c fine.3)

    nothing_t : is_nothing k.passes.gives_t.rest ≡ not (is_full pass.gave_t)
    nothing_t = nothing-of k.passes.gives_t fine.0 (sound-written pass.gave_t fine.1)

    resting : Resting a.state k.passes.gives_c.rest k.passes.gives_t.rest k.passes.takes_c.ends k.passes.takes_t.ends k.passes.gives_c.shuts k.passes.gives_t.shuts
        (is_idle pass.took_c) (is_idle pass.took_t) (is_full pass.gave_c) (is_full pass.gave_t) (waiting_for_client (socks users pubs) left) (waiting_for_target (socks users pubs) left)
    resting = record {
      source_c = or-if _ (is_idle pass.took_c) (is_held pass.took_c) _ (ap (λ b. b || (is_idle pass.took_c || is_held pass.took_c)) (sym k.passes.takes_c.ended') ∙ source-of k.passes.takes_c refl fine.0 quanta.0)
          (λ e. holds_by _ _ pass.gave_t (waits-target told counts users pubs a (Next.Wait mid) pass k a.state.cause) fine.1 (held-full _ pass.gave_t (k.passes.held_c e)));
      source_t = or-if _ (is_idle pass.took_t) (is_held pass.took_t) _ (ap (λ b. b || (is_idle pass.took_t || is_held pass.took_t)) (sym k.passes.takes_t.ended') ∙ source-of k.passes.takes_t reads_t fine.2 quanta.1)
          (λ e. holds_by _ _ pass.gave_c (waits-client told counts users pubs generation config cap h marks a (Next.Wait mid) pass k a.state.cause (unfailed-yet k.begun)) fine.3 (held-full _ pass.gave_c (k.passes.held_t e)));
      sink_c = sink (is_nothing k.passes.gives_c.rest) (is_full pass.gave_c) nothing_c;
      sink_t = sink (is_nothing k.passes.gives_t.rest) (is_full pass.gave_t) nothing_t;
      side_c = side _ _ _ (is_full pass.gave_c) nothing_c
          (λ full e. sym k.passes.gives_c.shut' ∙ (sent-of k.passes.gives_c fine.0 fine.3 full).1 (end-of k.passes.takes_t reads_t (k.passes.takes_t.ended' ∙ e)));
      side_t = side _ _ _ (is_full pass.gave_t) nothing_t
          (λ full e. sym k.passes.gives_t.shut' ∙ (sent-of k.passes.gives_t fine.0 fine.1 full).1 (end-of k.passes.takes_c refl (k.passes.takes_c.ended' ∙ e)));
    }

-- ---- a failed call

was-open : (shuts was : Bool) → shuts || was ≡ false → was ≡ false
was-open true was h = cc
was-open false was h = h

side-fails : (ended other was shuts shut : Bool) (rest : List ℕ) (ends : Bool) → shut ≡ shuts || was → (ends ≡ true → other ≡ true) → (0 < length rest) ⊎ ((ends ≡ true) × (shut ≡ false)) → FailsSide ended rest other was
side-fails ended other was shuts shut rest ends e f (inl h) = FailsSide.unsent h
side-fails ended other was shuts shut rest ends e f (inr h) = FailsSide.unshut (f h.0) (was-open shuts was (sym e ∙ h.1))

pub in-fault : {L : Type 0} {basis : Basis} (told : L → Told) (counts : L → Counts) (a : Assoc L) (next : Next L) (pass : Pass) (k : RelayTurn told counts basis a next pass) (o : Object) → fault_of pass ≡ Some o
    → InFault basis a.state k.at k.passes.takes_c.part k.passes.takes_t.part k.passes.gives_c.part k.passes.gives_c.rest k.passes.gives_t.part k.passes.gives_t.rest
    k.passes.takes_c.ends k.passes.takes_t.ends k.passes.gives_c.shuts k.passes.gives_t.shuts o (unwritten_of pass)
in-fault told counts a next pass k o h = record {
  relay = apart-by told counts a next pass k (fault-apart told counts a next pass k o (tells-of pass (Some o) h));
  fails = fails-on o (tells-of pass (Some o) h);
  writes = λ e. by-write (is_unwritten pass.gave_t) (is_unwritten pass.gave_c) refl refl e;
}
  where
    end_t : has_ended pass.took_t ≡ true → k.passes.takes_t.ends || a.state.end_t ≡ true
    end_t e = sym k.passes.takes_t.ended' ∙ ended-of k.passes.takes_t e

    end_c : has_ended pass.took_c ≡ true → k.passes.takes_c.ends || a.state.end_c ≡ true
    end_c e = sym k.passes.takes_c.ended' ∙ ended-of k.passes.takes_c e

    fails-on : (o : Object) → FaultTells (Some o) (is_read pass.took_c) (is_sound pass.gave_t) (is_read pass.took_t) (is_sound pass.gave_c)
        → FailsOn o a.state k.passes.gives_c.rest k.passes.gives_t.rest (k.passes.takes_c.ends || a.state.end_c) (k.passes.takes_t.ends || a.state.end_t)
    fails-on Object.Client (inl e) = FailsSide.unread (sym k.passes.takes_c.ended' ∙ (unread-of k.passes.takes_c e).0)
    fails-on Object.Client (inr e) = side-fails _ _ a.state.shut_c k.passes.gives_c.shuts k.new.shut_c k.passes.gives_c.rest (has_ended pass.took_t) k.passes.gives_c.shut' end_t (unsound-of k.passes.gives_c e.3).2
    fails-on Object.Target (rc, inl e) = side-fails _ _ a.state.shut_t k.passes.gives_t.shuts k.new.shut_t k.passes.gives_t.rest (has_ended pass.took_c) k.passes.gives_t.shut' end_c (unsound-of k.passes.gives_t e).2
    fails-on Object.Target (rc, inr e) = FailsSide.unread (sym k.passes.takes_t.ended' ∙ (unread-of k.passes.takes_t e.1).0)
    fails-on Object.Door f = f
    fails-on Object.Port f = f

    by-write : (t c : Bool) → is_unwritten pass.gave_t ≡ t → is_unwritten pass.gave_c ≡ c → is_unwritten pass.gave_t || is_unwritten pass.gave_c ≡ true
        → (0 < length k.passes.gives_c.rest) ⊎ (0 < length k.passes.gives_t.rest)
    by-write true c t' c' e = inr (unwritten-left k.passes.gives_t t').0
    by-write false true t' c' e = inl (unwritten-left k.passes.gives_c c').0
    by-write false false t' c' e = absurd (clash (is_unwritten pass.gave_t || is_unwritten pass.gave_c) e (rw (t', c') refl))

-- a failed call fails no login
fault-unfailed : (o : Object) → is_login_failed (Some (fault_cause o)) ≡ false
fault-unfailed Object.Client = refl
fault-unfailed Object.Target = refl
fault-unfailed Object.Door = refl
fault-unfailed Object.Port = refl

-- where a call failed, and it has nothing more to do, it closes
pub fault-closes : {L : Type 0} (told : L → Told) (counts : L → Counts) (stands : List Line → List StopBy → Type 0)
    (users : List User) (pubs : List Entries) (generation : ℕ) (config : Entries) (cap : ℕ) (h : List Line) (marks : List StopBy) (now : ℕ) (net : NetTold)
    (a mid : Assoc L) (e : Ended L) (pass : Pass) (k : RelayTurn told counts (socks users pubs) a (Next.Done e) pass) (o : Object)
    → fault_of pass ≡ Some o → mid.state ≡ k.new → Closed stands h marks (fault_cause o) mid e → a.state.since ≡ now
    → (is_nothing k.passes.gives_c.rest && is_nothing k.passes.gives_t.rest) || unwritten_of pass || is_quiet (Some (fault_cause o)) ≡ true
    → Turns told counts stands (context users pubs generation config cap h marks) now net net a (Next.Done e)
fault-closes told counts stands users pubs generation config cap h marks now net a mid e pass k o is_fault m closed same due =
    relay-closes told counts stands users pubs generation config cap h marks now net a mid e pass k (Some o) (unwritten_of pass) (fault_cause o) (fault-unfailed o) is_fault refl m closed
    (λ worker logged. let f = fails users pubs generation config cap h marks worker a.state.number now a.state k.at _ _ _ _ _ _ _ _ _ _ (is_idle pass.took_c) (is_idle pass.took_t) (is_full pass.gave_c) (is_full pass.gave_t) o (unwritten_of pass) fault in
    closes-with (context users pubs generation config cap h marks) a.state worker a.state.number now _ _ _ _ (fault_cause o) logged f.turned (ap (λ p. is_calling p None) f.relays') f.fits same refl f.opened'
    (ap (λ b. b || unwritten_of pass || is_quiet (Some (fault_cause o))) (pending-none users pubs a.state k.at _ _ _ _ _ _ _ _ _ _ (Some (fault_cause o)) (fault-unfailed o) fault.relay) ∙ due))
  where
    fault : InFault (socks users pubs) a.state k.at k.passes.takes_c.part k.passes.takes_t.part k.passes.gives_c.part k.passes.gives_c.rest k.passes.gives_t.part k.passes.gives_t.rest
        k.passes.takes_c.ends k.passes.takes_t.ends k.passes.gives_c.shuts k.passes.gives_t.shuts o (unwritten_of pass)
    fault = in-fault told counts a (Next.Done e) pass k o is_fault

-- what a call of the target's failed on is still sent to the client
fault-rests : {L : Type 0} (told : L → Told) (counts : L → Counts)
    (users : List User) (pubs : List Entries) (generation : ℕ) (config : Entries) (cap : ℕ) (h : List Line) (marks : List StopBy) (now : ℕ) (worker : ℕ)
    (a : Assoc L) (next : Next L) (pass : Pass) (k : RelayTurn told counts (socks users pubs) a next pass) → fault_of pass ≡ Some Object.Target → unwritten_of pass ≡ false → has_pending pass ≡ true
    → a.state.since ≡ now → mark_of next ≡ (if took_quantum pass then NextMark.Again else NextMark.Wait)
    → turn (context users pubs generation config cap h marks)
    (event_of worker a.state.number now (record (pass_acts told counts a next pass k) { fault = Some Object.Target; unwritten = unwritten_of pass; outer = Outer.Nothing }) (mark_of next)) a.state
    ≡ Some (record { left = pass_leaves told counts a next pass k (Some Cause.TargetFault); h = h; marks = marks })
fault-rests told counts users pubs generation config cap h marks now worker a next pass k is_fault written pending same mark =
    rests-with (context users pubs generation config cap h marks) a.state worker a.state.number now
    (fault_acts (pass_acts told counts a next pass k) Object.Target (unwritten_of pass) Outer.Nothing) _ _ _ Cause.TargetFault (mark_of next) f.turned (ap (λ p. is_calling p None) f.relays') f.fits same refl
    k.begun.plain.undone refl f.opened'
    (ap (λ b. b || unwritten_of pass || false) (pending-none users pubs a.state k.at _ _ _ _ _ _ _ _ _ _ (Some Cause.TargetFault) refl fault.relay)
    ∙ (ap (λ b. (is_nothing k.passes.gives_c.rest && is_nothing k.passes.gives_t.rest) || b || false) written
    ∙ ((λ i. (nothing_c i && nothing_t i) || false || false) ∙ undue (is_full pass.gave_c) (is_full pass.gave_t) pending)))
    (sinks-by users pubs a.state k.at _ _ _ _ _ _ _ _ _ _ (Some Cause.TargetFault) (is_full pass.gave_c) (is_full pass.gave_t)
    (event_of worker a.state.number now (fault_acts (pass_acts told counts a next pass k) Object.Target (unwritten_of pass) Outer.Nothing) NextMark.Going) refl refl fault.relay
    (sink (is_nothing k.passes.gives_c.rest) (is_full pass.gave_c) nothing_c) (sink (is_nothing k.passes.gives_t.rest) (is_full pass.gave_t) nothing_t))
    (mark ∙ by-quantum (took_quantum pass) _ (quantum-of told counts a next pass k))
  where
    fault : InFault (socks users pubs) a.state k.at k.passes.takes_c.part k.passes.takes_t.part k.passes.gives_c.part k.passes.gives_c.rest k.passes.gives_t.part k.passes.gives_t.rest
        k.passes.takes_c.ends k.passes.takes_t.ends k.passes.gives_c.shuts k.passes.gives_t.shuts Object.Target (unwritten_of pass)
    fault = in-fault told counts a next pass k Object.Target is_fault

    f : Failed (context users pubs generation config cap h marks) a.state
        (event_of worker a.state.number now (fault_acts (pass_acts told counts a next pass k) Object.Target (unwritten_of pass) Outer.Nothing) NextMark.Going)
        (relayed a.state k.passes.takes_c.part k.passes.takes_t.part k.passes.takes_c.ends k.passes.takes_t.ends) (pass_leaves told counts a next pass k (Some Cause.TargetFault)) Cause.TargetFault
    f = fails users pubs generation config cap h marks worker a.state.number now a.state k.at _ _ _ _ _ _ _ _ _ _ (is_idle pass.took_c) (is_idle pass.took_t) (is_full pass.gave_c) (is_full pass.gave_t) Object.Target (unwritten_of pass) fault

    read_c : is_read pass.took_c ≡ true
    read_c = (tells-of pass (Some Object.Target) is_fault).0

    unwritten : (is_unwritten pass.gave_t ≡ false) × (is_unwritten pass.gave_c ≡ false)
    unwritten = or-no (is_unwritten pass.gave_t) (is_unwritten pass.gave_c) written

    nothing_c : is_nothing k.passes.gives_c.rest ≡ not (is_full pass.gave_c)
    nothing_c = nothing-of k.passes.gives_c read_c unwritten.1

    nothing_t : is_nothing k.passes.gives_t.rest ≡ not (is_full pass.gave_t)
    nothing_t = nothing-of k.passes.gives_t read_c unwritten.0

    undue : (c t : Bool) → t || c ≡ true → (not c && not t) || false || false ≡ false
    undue true t h = refl
    undue false true h = refl
    undue false false h = absurd (cc)

    by-quantum : (b c : Bool) → c ≡ b → (if b then NextMark.Again else NextMark.Wait) ≡ (if c || false then NextMark.Again else NextMark.Wait)
    by-quantum b true h = ap (λ z. if z then NextMark.Again else NextMark.Wait) (sym h)
    by-quantum b false h = ap (λ z. if z then NextMark.Again else NextMark.Wait) (sym h)

pub fault-waits : {L : Type 0} (told : L → Told) (counts : L → Counts) (stands : List Line → List StopBy → Type 0)
    (users : List User) (pubs : List Entries) (generation : ℕ) (config : Entries) (cap : ℕ) (h : List Line) (marks : List StopBy) (now : ℕ) (net : NetTold)
    (a mid : Assoc L) (pass : Pass) (k : RelayTurn told counts (socks users pubs) a (Next.Wait mid) pass) → fault_of pass ≡ Some Object.Target → unwritten_of pass ≡ false → has_pending pass ≡ true
    → mid.state ≡ record k.new { cause = Some Cause.TargetFault } → a.state.since ≡ now → took_quantum pass ≡ false → stands h marks
    → Turns told counts stands (context users pubs generation config cap h marks) now net net a (Next.Wait mid)
fault-waits told counts stands users pubs generation config cap h marks now net a mid pass k is_fault written pending m same took desked =
    relay-turns told counts stands users pubs generation config cap h marks now net a (Next.Wait mid) pass k (Some Object.Target) (unwritten_of pass) Outer.Nothing (Some Cause.TargetFault) a.state.at_close a.state.done h marks refl is_fault refl tt
    (λ worker. fault-rests told counts users pubs generation config cap h marks now worker a (Next.Wait mid) pass k is_fault written pending same (ap (λ b. if b then NextMark.Again else NextMark.Wait) (sym took)))
    leaves desked (subst (IsPlainRecord users) (sym leaves) (sums-carried a.state k.at _ _ _ _ _ _ _ _ _ _ (Some Cause.TargetFault) refl k.begun relay.sums relay.apart))
  where
    relay : InRelay (socks users pubs) a.state k.at k.passes.takes_c.part k.passes.takes_t.part k.passes.gives_c.part k.passes.gives_c.rest k.passes.gives_t.part k.passes.gives_t.rest
        k.passes.takes_c.ends k.passes.takes_t.ends k.passes.gives_c.shuts k.passes.gives_t.shuts
    relay = (in-fault told counts a (Next.Wait mid) pass k Object.Target is_fault).relay

    leaves : mid.state ≡ pass_leaves told counts a (Next.Wait mid) pass k (Some Cause.TargetFault)
    leaves = m ∙ ap (λ (z : Record). let y : Record = record z { cause = Some Cause.TargetFault } in y) (pass-leaves _ _ _ _ _ _ _ _ a.state k.new pass k.passes)

pub fault-again : {L : Type 0} (told : L → Told) (counts : L → Counts) (stands : List Line → List StopBy → Type 0)
    (users : List User) (pubs : List Entries) (generation : ℕ) (config : Entries) (cap : ℕ) (h : List Line) (marks : List StopBy) (now : ℕ) (net : NetTold)
    (a mid : Assoc L) (pass : Pass) (k : RelayTurn told counts (socks users pubs) a (Next.Again mid) pass) → fault_of pass ≡ Some Object.Target → unwritten_of pass ≡ false → has_pending pass ≡ true
    → mid.state ≡ record k.new { cause = Some Cause.TargetFault } → a.state.since ≡ now → took_quantum pass ≡ true → stands h marks
    → Turns told counts stands (context users pubs generation config cap h marks) now net net a (Next.Again mid)
fault-again told counts stands users pubs generation config cap h marks now net a mid pass k is_fault written pending m same took desked =
    relay-turns told counts stands users pubs generation config cap h marks now net a (Next.Again mid) pass k (Some Object.Target) (unwritten_of pass) Outer.Nothing (Some Cause.TargetFault) a.state.at_close a.state.done h marks refl is_fault refl tt
    (λ worker. fault-rests told counts users pubs generation config cap h marks now worker a (Next.Again mid) pass k is_fault written pending same (ap (λ b. if b then NextMark.Again else NextMark.Wait) (sym took)))
    leaves desked (subst (IsPlainRecord users) (sym leaves) (sums-carried a.state k.at _ _ _ _ _ _ _ _ _ _ (Some Cause.TargetFault) refl k.begun relay.sums relay.apart))
  where
    relay : InRelay (socks users pubs) a.state k.at k.passes.takes_c.part k.passes.takes_t.part k.passes.gives_c.part k.passes.gives_c.rest k.passes.gives_t.part k.passes.gives_t.rest
        k.passes.takes_c.ends k.passes.takes_t.ends k.passes.gives_c.shuts k.passes.gives_t.shuts
    relay = (in-fault told counts a (Next.Again mid) pass k Object.Target is_fault).relay

    leaves : mid.state ≡ pass_leaves told counts a (Next.Again mid) pass k (Some Cause.TargetFault)
    leaves = m ∙ ap (λ (z : Record). let y : Record = record z { cause = Some Cause.TargetFault } in y) (pass-leaves _ _ _ _ _ _ _ _ a.state k.new pass k.passes)

-- ---- both sides are shut

pub relay-finishes : {L : Type 0} (told : L → Told) (counts : L → Counts) (stands : List Line → List StopBy → Type 0)
    (users : List User) (pubs : List Entries) (generation : ℕ) (config : Entries) (cap : ℕ) (h : List Line) (marks : List StopBy) (now : ℕ) (net : NetTold)
    (a mid : Assoc L) (e : Ended L) (pass : Pass) (k : RelayTurn told counts (socks users pubs) a (Next.Done e) pass)
    → fault_of pass ≡ None → unwritten_of pass ≡ false → mid.state ≡ k.new → Closed stands h marks Cause.Finished mid e → a.state.since ≡ now
    → k.new.shut_c ≡ true → k.new.shut_t ≡ true
    → Turns told counts stands (context users pubs generation config cap h marks) now net net a (Next.Done e)
relay-finishes told counts stands users pubs generation config cap h marks now net a mid e pass k none written m closed same both_c both_t =
    relay-closes told counts stands users pubs generation config cap h marks now net a mid e pass k None false Cause.Finished refl none written m closed
    (λ worker logged. finishes users pubs generation config cap h marks worker a.state.number now a.state k.at _ _ _ _ _ _ _ _ _ _ (is_idle pass.took_c) (is_idle pass.took_t) (is_full pass.gave_c) (is_full pass.gave_t) logged
    k.begun (pass-sums _ _ _ _ _ _ _ _ a.state k.new pass k.at k.begun.reaches k.passes) same (sym k.passes.gives_c.shut' ∙ both_c) (sym k.passes.gives_t.shut' ∙ both_t))

-- ---- between the code and the turn

-- a pass that was made, and an association that ended behind it
abbrev pub done-turn : {L : Type 0} {basis : Basis} (told : L → Told) (counts : L → Counts) (a mid : Assoc L) (e : Ended L) (link link' : L) (at : Endpoint) (pass : Pass)
    → Stands told basis a → Begun basis a.state at → a.target ≡ Some link → mid.target ≡ Some link'
    → Passes (told a.client) (told mid.client) (told link) (told link') (counts a.client) (counts mid.client) (counts link) (counts link') (prelude_of a.state) a.state mid.state pass
    → e.client ≡ mid.client → e.target ≡ mid.target → RelayTurn told counts basis a (Next.Done e) pass
done-turn {L} told counts a mid e link link' at pass stands begun there there' passes client target = record {
  link = link;
  link' = link';
  at = at;
  new = mid.state;
  stands = stands;
  begun = begun;
  target = there;
  target' = target ∙ there';
  passes = subst (λ (z : L). Passes (told a.client) (told z) (told link) (told link') (counts a.client) (counts z) (counts link) (counts link') (prelude_of a.state) a.state mid.state pass) (sym client) passes;
}

-- the record in hand has no datagrams
pub mid-tcp : (users : List User) (old new : Record) (client client' target target' : Told) (counts counts' sunk sunk' : Counts) (pass : Pass) → IsPlainRecord users old
    → Passes client client' target target' counts counts' sunk sunk' (prelude_of old) old new pass → is_udp new ≡ false
mid-tcp users old new client client' target target' counts counts' sunk sunk' pass plain passes = ap is_udp passes.is ∙ plain-tcp users old plain

pub none-written : (pass : Pass) → fault_of pass ≡ None → unwritten_of pass ≡ false
none-written pass h = let f = tells-of pass None h in rw (sound-written pass.gave_t f.1, sound-written pass.gave_c f.3) refl

-- a target that was reached has a link
pub there-is : {L : Type 0} (told : L → Told) (r : Record) (target : Option L) (at : Endpoint) → HoldsTarget told r target → target ≡ None → reached_at r.decisions ≡ Some at → ⊥
there-is told r None at h none reaches = let k : None ≡ Some at = sym h.0 ∙ reaches in cc
there-is told r (Some link) at h none reaches = cc

pub not-both : (c t : Bool) → c && t ≡ false → c ≡ true → t ≡ true → ⊥
not-both c t h k l = clash (c && t) (both c t k l) h

pub both-shut : (c t : Bool) → c && t ≡ true → (c ≡ true) × (t ≡ true)
both-shut true t h = (refl, h)
both-shut false t h = absurd (cc)

-- nothing more is to be done behind a fault of the target's
pub over-due : {L : Type 0} {basis : Basis} (told : L → Told) (counts : L → Counts) (a : Assoc L) (next : Next L) (pass : Pass) (k : RelayTurn told counts basis a next pass) → fault_of pass ≡ Some Object.Target
    → unwritten_of pass || not (has_pending pass) ≡ true
    → (is_nothing k.passes.gives_c.rest && is_nothing k.passes.gives_t.rest) || unwritten_of pass || false ≡ true
over-due told counts a next pass k is_fault h = by-write (unwritten_of pass) refl
  where
    nothings : Bool
    nothings = is_nothing k.passes.gives_c.rest && is_nothing k.passes.gives_t.rest

    or-end : (b : Bool) → b || true || false ≡ true
    or-end true = refl
    or-end false = refl

    both-sent : (c t : Bool) → not (t || c) ≡ true → not c && not t ≡ true
    both-sent true true e = absurd (cc)
    both-sent true false e = absurd (cc)
    both-sent false true e = absurd (cc)
    both-sent false false e = refl

    by-write : (b : Bool) → unwritten_of pass ≡ b → nothings || unwritten_of pass || false ≡ true
    by-write true e = ap (λ z. nothings || z || false) e ∙ or-end nothings
    by-write false e =
        let u = or-no (is_unwritten pass.gave_t) (is_unwritten pass.gave_c) e in
        let rc = (tells-of pass (Some Object.Target) is_fault).0 in
        (λ i. (nothing-of k.passes.gives_c rc u.1 i && nothing-of k.passes.gives_t rc u.0 i) || e i || false)
        ∙ ap (λ z. z || false || false) (both-sent (is_full pass.gave_c) (is_full pass.gave_t) (sym (ap (λ z. z || not (has_pending pass)) e) ∙ h))

pub over-written : (pass : Pass) → unwritten_of pass || not (has_pending pass) ≡ false → (unwritten_of pass ≡ false) × (has_pending pass ≡ true)
over-written pass h = let f = or-no (unwritten_of pass) (not (has_pending pass)) h in (f.0, was (has_pending pass) f.1)
  where
    was : (b : Bool) → not b ≡ false → b ≡ true
    was true e = refl
    was false e = cc

-- a quiet cause has nothing more to do
pub quiet-due : (a b : Bool) → a || b || true ≡ true
quiet-due true b = refl
quiet-due false true = refl
quiet-due false false = refl

pub client-closes : {L : Type 0} (told : L → Told) (counts : L → Counts) (stands : List Line → List StopBy → Type 0)
    (users : List User) (pubs : List Entries) (generation : ℕ) (config : Entries) (cap : ℕ) (h : List Line) (marks : List StopBy) (now : ℕ) (net : NetTold)
    (a mid : Assoc L) (e : Ended L) (pass : Pass) (k : RelayTurn told counts (socks users pubs) a (Next.Done e) pass)
    → fault_of pass ≡ Some Object.Client → mid.state ≡ k.new → Closed stands h marks Cause.ClientFault mid e → a.state.since ≡ now
    → Turns told counts stands (context users pubs generation config cap h marks) now net net a (Next.Done e)
client-closes told counts stands users pubs generation config cap h marks now net a mid e pass k is_fault m closed same =
    fault-closes told counts stands users pubs generation config cap h marks now net a mid e pass k Object.Client is_fault m closed same
    (quiet-due (is_nothing k.passes.gives_c.rest && is_nothing k.passes.gives_t.rest) (unwritten_of pass))
