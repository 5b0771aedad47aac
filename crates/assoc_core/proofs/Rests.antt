-- The moment of a turn, and a turn that has fixed a cause and rests.
use Rattle.std.proofs.Common.{◌≡◌, ℕ, zero, suc, ◌-◌, ◌⊎◌, inl, inr, Bool, true, false, ◌&&◌, ◌||◌, ◌==◌, not, if◌then◌else◌, nat_le, Option, Some, None, refl, sym, ap, subst, ◌∙◌, length, is_some, is_none, arith}
use Rattle.std.proofs.lemmas.Bool.{lt-leb}
use Rattle.conf_types.specs.declared.entries.Entries.{Entries}
use Rattle.socks_machine.specs.declared.cause.Cause.{Cause}
use Rattle.socks_machine.specs.declared.record.Record.{Record}
use Rattle.socks_machine.specs.declared.world.NextMark.{NextMark}
use Rattle.socks_machine.specs.declared.world.Outer.{Outer}
use Rattle.socks_machine.specs.declared.world.TurnEvent.{TurnEvent}
use Rattle.socks_machine.specs.Basis.{Basis}
use Rattle.socks_machine.specs.Calls.{Context, keep, is_calling}
use Rattle.socks_machine.specs.Decisions.{is_opened}
use Rattle.socks_machine.specs.Equal.{mark_eq}
use Rattle.socks_machine.specs.InTurn.{InTurn}
use Rattle.socks_machine.specs.Phase.{Phase, phase, began}
use Rattle.socks_machine.specs.Turn.{turn, aged, moves, quantum, took_quantum, rests, rests_in, sinks_rest, limit, is_late, close_is_due, is_quiet, nothing_pending, fault_fits, is_mute, may_output, answer_after, Calling, times_out}
use Rattle.socks_machine.proofs.CallLaws.{answers}
use Rattle.assoc_core.specs.Turns.{Acts, event_of}
use Rattle.assoc_core.proofs.PlainRecords.{and-false, closing-phase}

-- ---- the moment

since-same : (b : Bool) (now since : ℕ) → since ≡ now → elim b [ true ↦ now | false ↦ since ] ≡ since
since-same true now since h = sym h
since-same false now since h = refl

-- a turn at the moment of the last one leaves that moment
pub aged-same : (basis : Basis) (e : TurnEvent) (old r : Record) → r.since ≡ e.now → aged basis e old r ≡ r
aged-same basis e old r h = λ i. record r { since = since-same (began basis r && (not (began basis old) || moves e)) e.now r.since h i }

-- nothing is late at the moment of the last turn
pub never-late : (basis : Basis) (k : Entries) (now : ℕ) (r : Record) → r.since ≡ now → is_late basis k now r ≡ false
never-late basis k now r same = early (limit basis k r)
  where
    -- a limit of 0 is none
    early : (n : ℕ) → not (n == 0) && nat_le n (now - r.since) ≡ false
    early zero = refl
    early (suc n) = ap (λ b. not (suc n == 0) && b) (lt-leb (suc n) (now - r.since) (omega (arith, same))) ∙ and-false (not (suc n == 0))

-- ---- a cause that was fixed

-- a turn that has fixed a cause waits, or goes on again, where something is pending
pub rests-with : (s : Context) (old : Record) (worker number now : ℕ) (acts : Acts) (a d x : Record) (cause : Cause) (next : NextMark)
    → InTurn s old (event_of worker number now acts NextMark.Going) a (keep s a) d x
    → is_calling (phase s.basis a) None ≡ false → fault_fits s.basis acts.fault acts.unwritten a ≡ true → x.since ≡ now → acts.outer ≡ Outer.Nothing
    → x.done ≡ false → x.cause ≡ Some cause → is_opened x.decisions ≡ true
    → nothing_pending s.basis x || acts.unwritten || is_quiet (Some cause) ≡ false
    → sinks_rest s.basis (event_of worker number now acts NextMark.Going) x ≡ true
    → next ≡ (if nat_le quantum (length acts.c) || nat_le quantum (length acts.t) || false then NextMark.Again else NextMark.Wait)
    → turn s (event_of worker number now acts next) old ≡ Some (keep s x)
rests-with s old worker number now acts a d x cause next h calls_none fits same nothing undone fixed opened' undue sinks is =
    answers s old e a d x next h nothing first fits (subst (λ (z : Record). answer_after s e z Calling.NoCall ≡ Some next) (sym aged-x) answer)
    ∙ (λ i. Some (record { left = record (aged-x i) { done = undone-by next is' i }; h = s.h; marks = s.marks }))
  where
    e : TurnEvent
    e = event_of worker number now acts NextMark.Going

    aged-x : aged s.basis e old x ≡ x
    aged-x = aged-same s.basis e old x same

    q : Bool
    q = nat_le quantum (length acts.c) || nat_le quantum (length acts.t) || false

    or-not : (a b c : Bool) → b ≡ false → a || not b || c ≡ true
    or-not true b c h = refl
    or-not false true c h = cc
    or-not false false c h = refl

    first : may_output s.basis e a ≡ true
    first = or-not (is_mute e) (is_calling (phase s.basis a) None) (took_quantum e) calls_none

    is' : (next ≡ NextMark.Again) ⊎ (next ≡ NextMark.Wait)
    is' = by-quantum q is
      where
        by-quantum : (b : Bool) → next ≡ (if b then NextMark.Again else NextMark.Wait) → (next ≡ NextMark.Again) ⊎ (next ≡ NextMark.Wait)
        by-quantum true k = inl k
        by-quantum false k = inr k

    undone-by : (n : NextMark) → (n ≡ NextMark.Again) ⊎ (n ≡ NextMark.Wait) → mark_eq n NextMark.Done ≡ x.done
    undone-by n (inl k) = ap (λ z. mark_eq z NextMark.Done) k ∙ sym undone
    undone-by n (inr k) = ap (λ z. mark_eq z NextMark.Done) k ∙ sym undone

    closing-x : phase s.basis x ≡ Phase.Closing
    closing-x = closing-phase s.basis x cause undone fixed

    early : is_late s.basis s.config now x ≡ false
    early = never-late s.basis s.config now x same

    due : Bool
    due = nothing_pending s.basis x || acts.unwritten || is_quiet (Some cause) || (rests s.basis e x && is_late s.basis s.config now x)

    not-due : close_is_due s e x ≡ false
    not-due = ap (λ k. is_some k && is_opened x.decisions && (nothing_pending s.basis x || acts.unwritten || is_quiet k || (rests s.basis e x && is_late s.basis s.config now x))) fixed
        ∙ (ap (λ b. b && due) opened'
        ∙ (ap (λ b. b || (rests s.basis e x && is_late s.basis s.config now x)) undue ∙ (ap (λ b. rests s.basis e x && b) early ∙ and-false (rests s.basis e x))))

    resting : (b : Bool) → took_quantum e ≡ b → b ≡ false → rests s.basis e x ≡ true
    resting b t f = ap (λ b. not b && rests_in s.basis e x (phase s.basis x)) (t ∙ f)
        ∙ (ap (rests_in s.basis e x) closing-x ∙ ap (λ b. b && true) sinks)

    unopened : (r : Record) → r.cause ≡ Some cause → is_opened r.decisions ≡ true → is_some r.cause && not (is_opened r.decisions) ≡ false
    unopened r k o = ap (λ z. is_some r.cause && not z) o ∙ and-false (is_some r.cause)

    by-rest : (b : Bool) → took_quantum e ≡ b → next ≡ (if b then NextMark.Again else NextMark.Wait)
        → (if b then Some NextMark.Again else (if rests s.basis e x && not (close_is_due s e x) && not (times_out s e x) then Some NextMark.Wait else None)) ≡ Some next
    by-rest true t k = ap (λ (z : NextMark). Some z) (sym k)
    by-rest false t k =
        ap (λ b. if b && not (close_is_due s e x) && not (times_out s e x) then Some NextMark.Wait else None) (resting false t refl)
        ∙ (ap (λ b. if not b && not (times_out s e x) then Some NextMark.Wait else None) not-due
        ∙ (ap (λ (k : Option Cause). if not (is_none k && rests s.basis e x && is_late s.basis s.config now x) then Some NextMark.Wait else None) fixed ∙ ap (λ (z : NextMark). Some z) (sym k)))

    answer : answer_after s e x Calling.NoCall ≡ Some next
    answer = ap (λ b. if b then Some NextMark.Done else (if took_quantum e then Some NextMark.Again else (if rests s.basis e x && not (close_is_due s e x) && not (times_out s e x) then Some NextMark.Wait else None))) (unopened x fixed opened')
        ∙ by-rest (took_quantum e) refl is
