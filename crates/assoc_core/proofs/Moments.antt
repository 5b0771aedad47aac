-- A turn at another moment: what it does is the same, and only the moment that it leaves and its limit of time differ.
use Rattle.std.proofs.Common.{◌≡◌, ℕ, Bool, true, false, ◌&&◌, ◌||◌, not, if◌then◌else◌, Option, Some, None, List, refl, sym, ap, subst, ◌∙◌, is_some, is_none}
use Rattle.socks_machine.specs.declared.cause.Cause.{Cause}
use Rattle.socks_machine.specs.declared.cause.StopBy.{StopBy}
use Rattle.socks_machine.specs.declared.lines.Line.{Line}
use Rattle.socks_machine.specs.declared.record.Record.{Record}
use Rattle.socks_machine.specs.declared.world.NextMark.{NextMark}
use Rattle.socks_machine.specs.declared.world.Outer.{Outer}
use Rattle.socks_machine.specs.declared.world.TurnEvent.{TurnEvent}
use Rattle.socks_machine.specs.Basis.{Basis}
use Rattle.socks_machine.specs.Calls.{Context, TurnResult, call, call_close, cause_of_shut, close_line}
use Rattle.socks_machine.specs.Decisions.{is_opened}
use Rattle.socks_machine.specs.Equal.{mark_eq}
use Rattle.socks_machine.specs.History.{at_close}
use Rattle.socks_machine.specs.Phase.{phase, began}
use Rattle.socks_machine.specs.Taking.{◌>>=◌, taken}
use Rattle.socks_machine.specs.Turn.{turn, aged, moves, output, fault_fits, with_fault, with_sent, with_shut, ended, is_answer, Calling, marked, with_record, after_call, after_none, without_call, may_output, makes_call, uncalled, close_is_due, times_out, timed_out, close_with, is_late, rests, took_quantum, nothing_pending, is_quiet}
use Rattle.assoc_core.specs.Turns.{Acts, event_of}
use Rattle.assoc_core.proofs.Rests.{never-late}

-- ---- where one step answers, so does another

-- where the first answers with what fits, the second answers with what is made of that
abbrev pub Leads : {A B : Type 0} → (A → Type 0) → (A → B) → Option A → Option B → Type 0
Leads fits make o p = (a : _) → o ≡ Some a → fits a → p ≡ Some (make a)

pub lead-unless : {A B : Type 0} (fits : A → Type 0) (make : A → B) (b : Bool) (x : Option A) (y : Option B) → Leads fits make x y
    → Leads fits make (elim b [ true ↦ None | false ↦ x ]) (elim b [ true ↦ None | false ↦ y ])
lead-unless fits make true x y h a e f = absurd (cc)
lead-unless fits make false x y h a e f = h a e f

pub lead-if : {A B : Type 0} (fits : A → Type 0) (make : A → B) (b : Bool) (x : Option A) (y : Option B) → Leads fits make x y
    → Leads fits make (elim b [ true ↦ x | false ↦ None ]) (elim b [ true ↦ y | false ↦ None ])
lead-if fits make true x y h a e f = h a e f
lead-if fits make false x y h a e f = absurd (cc)

lead-either : {A B : Type 0} (fits : A → Type 0) (make : A → B) (b : Bool) (x x' : Option A) (y y' : Option B) → Leads fits make x y → Leads fits make x' y'
    → Leads fits make (elim b [ true ↦ x | false ↦ x' ]) (elim b [ true ↦ y | false ↦ y' ])
lead-either fits make true x x' y y' h k a e f = h a e f
lead-either fits make false x x' y y' h k a e f = k a e f

pub lead-behind : {A B C : Type 0} (fits : B → Type 0) (make : B → C) (o : Option A) (g : A → Option B) (k : A → Option C) → ((a : A) → Leads fits make (g a) (k a)) → Leads fits make (o >>= g) (o >>= k)
lead-behind fits make None g k h b e f = absurd (cc)
lead-behind fits make (Some a) g k h b e f = h a b e f

pub some-is : {A : Type 0} (a b : A) → Some a ≡ Some b → b ≡ a
some-is a b e = cc

-- the same event, but for its moment, its outer call and its answer
abbrev pub event_at : ℕ → ℕ → ℕ → Acts → Outer → NextMark → TurnEvent
event_at worker number n x outer next = event_of worker number n (record x { outer = outer }) next

-- what is sent, shut and failed is the same at another moment
pub lead-output : {C : Type 0} (fits : TurnResult → Type 0) (make : TurnResult → C) (s : Context) (worker number m n : ℕ) (x : Acts) (outer outer' : Outer) (next next' : NextMark) (old r0 : Record)
    (g : Record → Option TurnResult) (k : Record → Option C)
    → ((r : Record) → Leads fits make (g (aged s.basis (event_at worker number m x outer next) old r)) (k (aged s.basis (event_at worker number n x outer' next') old r)))
    → Leads fits make (output s (event_at worker number m x outer next) old r0 >>= g) (output s (event_at worker number n x outer' next') old r0 >>= k)
lead-output {C} fits make s worker number m n x outer outer' next next' old r0 g k h = by-fits (fault_fits s.basis x.fault x.unwritten r0) (with_fault x.fault x.unwritten r0)
  where
    e : TurnEvent
    e = event_at worker number m x outer next

    e' : TurnEvent
    e' = event_at worker number n x outer' next'

    by-shut : (o : Option Record) → Leads fits make ((o >>= λ r3. Some (aged s.basis e old r3)) >>= g) ((o >>= λ r3. Some (aged s.basis e' old r3)) >>= k)
    by-shut None a is f = absurd (cc)
    by-shut (Some r3) a is f = h r3 a is f

    by-sent : (o : Option Record) → Leads fits make ((o >>= λ r2. (with_shut s.basis e r2 >>= λ r3. Some (aged s.basis e old r3))) >>= g) ((o >>= λ r2. (with_shut s.basis e' r2 >>= λ r3. Some (aged s.basis e' old r3))) >>= k)
    by-sent None a is f = absurd (cc)
    by-sent (Some r2) a is f = by-shut (with_shut s.basis e r2) a is f

    by-fits : (b : Bool) (o : Option Record)
        → Leads fits make ((elim b [ true ↦ (o >>= λ r1. (with_sent s.basis e r1 >>= λ r2. (with_shut s.basis e r2 >>= λ r3. Some (aged s.basis e old r3)))) | false ↦ None ]) >>= g)
        ((elim b [ true ↦ (o >>= λ r1. (with_sent s.basis e' r1 >>= λ r2. (with_shut s.basis e' r2 >>= λ r3. Some (aged s.basis e' old r3)))) | false ↦ None ]) >>= k)
    by-fits false o a is f = absurd (cc)
    by-fits true None a is f = absurd (cc)
    by-fits true (Some r1) a is f = by-sent (with_sent s.basis e r1) a is f

-- ---- the moment that is left

abbrev either : Bool → ℕ → ℕ → ℕ
either b m n = elim b [ true ↦ m | false ↦ n ]

twice : (b : Bool) (m n since : ℕ) → either b n (either b m since) ≡ either b n since
twice true m n since = refl
twice false m n since = refl

-- the moment that a turn left, as another moment would have left it
pub aged-anew : (basis : Basis) (worker number m n : ℕ) (x : Acts) (outer outer' : Outer) (next next' : NextMark) (old r : Record)
    → aged basis (event_at worker number n x outer' next') old (aged basis (event_at worker number m x outer next) old r) ≡ aged basis (event_at worker number n x outer' next') old r
aged-anew basis worker number m n x outer outer' next next' old r = λ i. record r { since = twice (began basis r && (not (began basis old) || moves (event_at worker number n x outer' next'))) m n r.since i }

-- what a turn leaves, at this moment
abbrev pub remade : Context → ℕ → ℕ → ℕ → Acts → NextMark → Record → TurnResult → TurnResult
remade s worker number n x next old a = record { left = aged s.basis (event_of worker number n x next) old a.left; h = a.h; marks = a.marks }

-- ---- the same turn, at the moments m and n

-- what a turn at the moment m left, where one at the moment n that waits would not be late
pub record Fits (s : Context) (worker number m n : ℕ) (x : Acts) (next : NextMark) (old : Record) (a : TurnResult) : Type 0 where
  pub since : a.left.since ≡ m
  pub early : next ≡ NextMark.Wait → is_late s.basis s.config n (aged s.basis (event_of worker number n x next) old a.left) ≡ false

-- the end of a turn; y is what it makes of the record
lead-end : (s : Context) (worker number m n : ℕ) (x : Acts) (next : NextMark) (old r : Record) (y : Record → Record) (h : List Line) (marks : List StopBy) (b b' : Bool)
    → aged s.basis (event_of worker number n x next) old (y (aged s.basis (event_of worker number m x next) old r)) ≡ y (aged s.basis (event_of worker number n x next) old r)
    → (b ≡ true → Fits s worker number m n x next old (record { left = y (aged s.basis (event_of worker number m x next) old r); h = h; marks = marks }) → b' ≡ true)
    → Leads (Fits s worker number m n x next old) (remade s worker number n x next old)
    (elim b [ true ↦ Some (record { left = y (aged s.basis (event_of worker number m x next) old r); h = h; marks = marks }) | false ↦ None ])
    (elim b' [ true ↦ Some (record { left = y (aged s.basis (event_of worker number n x next) old r); h = h; marks = marks }) | false ↦ None ])
lead-end s worker number m n x next old r y h marks false b' same k a e f = absurd (cc)
lead-end s worker number m n x next old r y h marks true b' same k a e f =
    ap (λ b. elim b [ true ↦ Some (record { left = y (aged s.basis (event_of worker number n x next) old r); h = h; marks = marks }) | false ↦ None ])
    (k refl (subst (λ (z : TurnResult). Fits s worker number m n x next old z) (some-is _ a e) f))
    ∙ (ap (λ (z : Record). Some (record { left = z; h = h; marks = marks })) (sym same)
    ∙ ap (λ (z : TurnResult). Some (remade s worker number n x next old z)) (sym (some-is _ a e)))

-- behind a call nothing depends on the moment
lead-called : (s : Context) (worker number m n : ℕ) (x : Acts) (next : NextMark) (old : Record) (c : TurnResult)
    → Leads (Fits s worker number m n x next old) (remade s worker number n x next old)
    (after_call s (event_of worker number m x next) old c) (after_call s (event_of worker number n x next) old c)
lead-called s worker number m n x next old c =
    lead-output (Fits s worker number m n x next old) (remade s worker number n x next old) s worker number m n x x.outer x.outer next next old c.left
    (λ r. ended s (event_of worker number m x next) Calling.Called (with_record c r)) (λ r. ended s (event_of worker number n x next) Calling.Called (with_record c r))
    (λ r. lead-end s worker number m n x next old r (λ z. record z { done = mark_eq next NextMark.Done }) c.h c.marks _ _
    (λ i. record r { since = twice (began s.basis r && (not (began s.basis old) || moves (event_of worker number n x next))) m n r.since i; done = mark_eq next NextMark.Done }) (λ e f. e))

-- the answer of a turn without a call: it has ended, took a quantum, or rests before its time is over
abbrev pub answer_by : Bool → Bool → Bool → Option NextMark
answer_by unopened took waits = if unopened then Some NextMark.Done else (if took then Some NextMark.Again else (if waits then Some NextMark.Wait else None))

answer-stays : (next : NextMark) (unopened took waits waits' : Bool) → (next ≡ NextMark.Wait → waits' ≡ waits)
    → mark_eq next NextMark.Going || is_answer (answer_by unopened took waits) next ≡ true → mark_eq next NextMark.Going || is_answer (answer_by unopened took waits') next ≡ true
answer-stays NextMark.Going u q w w' f h = refl
answer-stays NextMark.Wait u q w w' f h = ap (λ b. is_answer (answer_by u q b) NextMark.Wait) (f refl) ∙ h
answer-stays NextMark.Again true q w w' f h = absurd (cc)
answer-stays NextMark.Again false true w w' f h = refl
answer-stays NextMark.Again false false true w' f h = absurd (cc)
answer-stays NextMark.Again false false false w' f h = absurd (cc)
answer-stays NextMark.Done true q w w' f h = refl
answer-stays NextMark.Done false true w w' f h = absurd (cc)
answer-stays NextMark.Done false false true w' f h = absurd (cc)
answer-stays NextMark.Done false false false w' f h = absurd (cc)

-- that it rests, no close is due and no time is over, by whether it is late
abbrev pub waits_by : Context → TurnEvent → Record → Bool → Bool
waits_by s e r late =
    rests s.basis e r
    && not (is_some r.cause && is_opened r.decisions && (nothing_pending s.basis r || e.unwritten || is_quiet r.cause || (rests s.basis e r && late)))
    && not (is_none r.cause && rests s.basis e r && late)

-- a turn without a call
lead-nothing : (s : Context) (worker number m n : ℕ) (x : Acts) (next : NextMark) (old r : Record)
    → Leads (Fits s worker number m n x next old) (remade s worker number n x next old)
    (ended s (event_of worker number m x next) Calling.NoCall (record { left = aged s.basis (event_of worker number m x next) old r; h = s.h; marks = s.marks }))
    (ended s (event_of worker number n x next) Calling.NoCall (record { left = aged s.basis (event_of worker number n x next) old r; h = s.h; marks = s.marks }))
lead-nothing s worker number m n x next old r =
    lead-end s worker number m n x next old r (λ z. record z { done = mark_eq next NextMark.Done }) s.h s.marks _ _
    (λ i. record r { since = again i; done = mark_eq next NextMark.Done })
    (λ e f. answer-stays next (is_some r.cause && not (is_opened r.decisions)) (took_quantum (event_of worker number n x next))
    (waits_by s (event_of worker number n x next) r (is_late s.basis s.config m (aged s.basis (event_of worker number m x next) old r)))
    (waits_by s (event_of worker number n x next) r (is_late s.basis s.config n (aged s.basis (event_of worker number n x next) old r)))
    (λ w. ap (waits_by s (event_of worker number n x next) r)
    (ap (is_late s.basis s.config n) (sym (aged-anew s.basis worker number m n x x.outer x.outer next next old r)) ∙ (f.early w ∙ sym (never-late s.basis s.config m (aged s.basis (event_of worker number m x next) old r) f.since)))) e)
  where
    counts : Bool
    counts = began s.basis r && (not (began s.basis old) || moves (event_of worker number n x next))

    again : either counts n (either counts m r.since) ≡ either counts n r.since
    again = twice counts m n r.since

-- ---- a turn that closes

-- a close leaves the moment
close-since : (s : Context) (e : TurnEvent) (c : TurnResult) (cause : Option Cause) (outer : Outer) (a : TurnResult) → close_with s e c cause outer ≡ Some a → a.left.since ≡ c.left.since
close-since s e c None outer a h = absurd (cc)
close-since s e c (Some k) (Outer.Desk logged) a h = by-end _ h
  where
    by-end : (b : Bool) → elim b [ true ↦ Some (marked e.next (call_close c.h c.marks c.left k logged)) | false ↦ None ] ≡ Some a → a.left.since ≡ c.left.since
    by-end true is = ap (λ (z : TurnResult). z.left.since) (some-is _ a is)
    by-end false is = absurd (cc)
close-since s e c (Some k) Outer.Nothing a h = absurd (cc)
close-since s e c (Some k) (Outer.Looked found) a h = absurd (cc)
close-since s e c (Some k) (Outer.Up at) a h = absurd (cc)
close-since s e c (Some k) Outer.Refused a h = absurd (cc)
close-since s e c (Some k) Outer.HostUnreachable a h = absurd (cc)
close-since s e c (Some k) Outer.NetUnreachable a h = absurd (cc)
close-since s e c (Some k) Outer.Failed a h = absurd (cc)

lead-close : (s : Context) (worker number m n : ℕ) (x : Acts) (next : NextMark) (old r : Record) (cause : Option Cause) (outer : Outer)
    → Leads (Fits s worker number m n x next old) (remade s worker number n x next old)
    (close_with s (event_of worker number m x next) (record { left = aged s.basis (event_of worker number m x next) old r; h = s.h; marks = s.marks }) cause outer)
    (close_with s (event_of worker number n x next) (record { left = aged s.basis (event_of worker number n x next) old r; h = s.h; marks = s.marks }) cause outer)
lead-close s worker number m n x next old r None outer a e f = absurd (cc)
lead-close s worker number m n x next old r (Some cause) (Outer.Desk logged) a e f =
    lead-end s worker number m n x next old r (λ z. record z { at_close = cause_of_shut (at_close s.h s.marks (close_line r cause) logged).said; done = mark_eq next NextMark.Done })
    (at_close s.h s.marks (close_line r cause) logged).h (at_close s.h s.marks (close_line r cause) logged).marks _ _
    (λ i. record r {
      since = twice (began s.basis r && (not (began s.basis old) || moves (event_of worker number n x next))) m n r.since i;
      at_close = cause_of_shut (at_close s.h s.marks (close_line r cause) logged).said;
      done = mark_eq next NextMark.Done;
    }) (λ e f. e) a e f
lead-close s worker number m n x next old r (Some cause) Outer.Nothing a e f = absurd (cc)
lead-close s worker number m n x next old r (Some cause) (Outer.Looked found) a e f = absurd (cc)
lead-close s worker number m n x next old r (Some cause) (Outer.Up at) a e f = absurd (cc)
lead-close s worker number m n x next old r (Some cause) Outer.Refused a e f = absurd (cc)
lead-close s worker number m n x next old r (Some cause) Outer.HostUnreachable a e f = absurd (cc)
lead-close s worker number m n x next old r (Some cause) Outer.NetUnreachable a e f = absurd (cc)
lead-close s worker number m n x next old r (Some cause) Outer.Failed a e f = absurd (cc)

-- a close that was due before its time stays due
due-still : (fixed opened' nothing unwritten quiet resting late late' : Bool) → late ≡ false
    → fixed && opened' && (nothing || unwritten || quiet || (resting && late)) ≡ true → fixed && opened' && (nothing || unwritten || quiet || (resting && late')) ≡ true
due-still false o n u q r l l' h k = absurd (cc)
due-still true false n u q r l l' h k = absurd (cc)
due-still true true true u q r l l' h k = refl
due-still true true false true q r l l' h k = refl
due-still true true false false true r l l' h k = refl
due-still true true false false false true l l' h k = absurd (let j : false ≡ true = sym h ∙ k in cc)
due-still true true false false false false l l' h k = absurd (cc)

never-times : (uncaused resting late : Bool) → late ≡ false → uncaused && resting && late ≡ true → ⊥
never-times true true late h k = let j : false ≡ true = sym h ∙ k in cc
never-times true false late h k = cc
never-times false resting late h k = cc

lead-closes : (s : Context) (worker number m n : ℕ) (x : Acts) (next : NextMark) (old r : Record) (outer : Outer)
    → Leads (Fits s worker number m n x next old) (remade s worker number n x next old)
    (elim (close_is_due s (event_of worker number m x next) (aged s.basis (event_of worker number m x next) old r)) [
      | true ↦ close_with s (event_of worker number m x next) (record { left = aged s.basis (event_of worker number m x next) old r; h = s.h; marks = s.marks }) r.cause outer
      | false ↦ elim (times_out s (event_of worker number m x next) (aged s.basis (event_of worker number m x next) old r)) [
        | true ↦ close_with s (event_of worker number m x next) (record { left = timed_out s (event_of worker number m x next) (aged s.basis (event_of worker number m x next) old r); h = s.h; marks = s.marks })
            (timed_out s (event_of worker number m x next) (aged s.basis (event_of worker number m x next) old r)).cause outer
        | false ↦ None
      ]
    ])
    (elim (close_is_due s (event_of worker number n x next) (aged s.basis (event_of worker number n x next) old r)) [
      | true ↦ close_with s (event_of worker number n x next) (record { left = aged s.basis (event_of worker number n x next) old r; h = s.h; marks = s.marks }) r.cause outer
      | false ↦ elim (times_out s (event_of worker number n x next) (aged s.basis (event_of worker number n x next) old r)) [
        | true ↦ close_with s (event_of worker number n x next) (record { left = timed_out s (event_of worker number n x next) (aged s.basis (event_of worker number n x next) old r); h = s.h; marks = s.marks })
            (timed_out s (event_of worker number n x next) (aged s.basis (event_of worker number n x next) old r)).cause outer
        | false ↦ None
      ]
    ])
lead-closes s worker number m n x next old r outer = by-due _ _ refl refl
  where
    e : TurnEvent
    e = event_of worker number m x next

    e' : TurnEvent
    e' = event_of worker number n x next

    y : Record
    y = aged s.basis e old r

    y' : Record
    y' = aged s.basis e' old r

    on-time : (a : TurnResult) → a.left.since ≡ y.since → a.left.since ≡ m → is_late s.basis s.config m y ≡ false
    on-time a h k = never-late s.basis s.config m y (sym h ∙ k)

    by-due : (due times : Bool) → close_is_due s e y ≡ due → times_out s e y ≡ times
        → Leads (Fits s worker number m n x next old) (remade s worker number n x next old)
        (elim due [
          | true ↦ close_with s e (record { left = y; h = s.h; marks = s.marks }) r.cause outer
          | false ↦ elim times [ true ↦ close_with s e (record { left = timed_out s e y; h = s.h; marks = s.marks }) (timed_out s e y).cause outer | false ↦ None ]
        ])
        (elim (close_is_due s e' y') [
          | true ↦ close_with s e' (record { left = y'; h = s.h; marks = s.marks }) r.cause outer
          | false ↦ elim (times_out s e' y') [ true ↦ close_with s e' (record { left = timed_out s e' y'; h = s.h; marks = s.marks }) (timed_out s e' y').cause outer | false ↦ None ]
        ])
    by-due true times d t a is f =
        ap (λ b. elim b [
          | true ↦ close_with s e' (record { left = y'; h = s.h; marks = s.marks }) r.cause outer
          | false ↦ elim (times_out s e' y') [ true ↦ close_with s e' (record { left = timed_out s e' y'; h = s.h; marks = s.marks }) (timed_out s e' y').cause outer | false ↦ None ]
        ])
        (due-still (is_some r.cause) (is_opened r.decisions) (nothing_pending s.basis r) x.unwritten (is_quiet r.cause) (rests s.basis e r) _ _
        (on-time a (close-since s e (record { left = y; h = s.h; marks = s.marks }) r.cause outer a is) f.since) d)
        ∙ lead-close s worker number m n x next old r r.cause outer a is f
    by-due false true d t a is f =
        absurd (never-times (is_none r.cause) (rests s.basis e r) _ (on-time a (close-since s e (record { left = timed_out s e y; h = s.h; marks = s.marks }) (timed_out s e y).cause outer a is) f.since) t)
    by-due false false d t a is f = absurd (cc)

-- the end of a turn that made no call in its phase
lead-uncalled : (s : Context) (worker number m n : ℕ) (x : Acts) (outer : Outer) (next : NextMark) (old r : Record)
    → Leads (Fits s worker number m n (record x { outer = outer }) next old) (remade s worker number n (record x { outer = outer }) next old)
    (uncalled s (event_at worker number m x outer next) (record { left = aged s.basis (event_at worker number m x outer next) old r; h = s.h; marks = s.marks }) outer)
    (uncalled s (event_at worker number n x outer next) (record { left = aged s.basis (event_at worker number n x outer next) old r; h = s.h; marks = s.marks }) outer)
lead-uncalled s worker number m n x Outer.Nothing next old r = lead-nothing s worker number m n (record x { outer = Outer.Nothing }) next old r
lead-uncalled s worker number m n x (Outer.Desk logged) next old r = lead-closes s worker number m n (record x { outer = Outer.Desk logged }) next old r (Outer.Desk logged)
lead-uncalled s worker number m n x (Outer.Looked found) next old r = lead-closes s worker number m n (record x { outer = Outer.Looked found }) next old r (Outer.Looked found)
lead-uncalled s worker number m n x (Outer.Up at) next old r = lead-closes s worker number m n (record x { outer = Outer.Up at }) next old r (Outer.Up at)
lead-uncalled s worker number m n x Outer.Refused next old r = lead-closes s worker number m n (record x { outer = Outer.Refused }) next old r Outer.Refused
lead-uncalled s worker number m n x Outer.HostUnreachable next old r = lead-closes s worker number m n (record x { outer = Outer.HostUnreachable }) next old r Outer.HostUnreachable
lead-uncalled s worker number m n x Outer.NetUnreachable next old r = lead-closes s worker number m n (record x { outer = Outer.NetUnreachable }) next old r Outer.NetUnreachable
lead-uncalled s worker number m n x Outer.Failed next old r = lead-closes s worker number m n (record x { outer = Outer.Failed }) next old r Outer.Failed

lead-uncalling : (s : Context) (worker number m n : ℕ) (x : Acts) (next : NextMark) (old r : Record)
    → Leads (Fits s worker number m n x next old) (remade s worker number n x next old)
    (without_call s (event_of worker number m x next) old r) (without_call s (event_of worker number n x next) old r)
lead-uncalling s worker number m n x next old r =
    lead-if (Fits s worker number m n x next old) (remade s worker number n x next old) (may_output s.basis (event_of worker number n x next) r)
    (after_none s (event_of worker number m x next) old r) (after_none s (event_of worker number n x next) old r)
    (lead-output (Fits s worker number m n x next old) (remade s worker number n x next old) s worker number m n x x.outer x.outer next next old r
    (λ z. uncalled s (event_of worker number m x next) (record { left = z; h = s.h; marks = s.marks }) x.outer) (λ z. uncalled s (event_of worker number n x next) (record { left = z; h = s.h; marks = s.marks }) x.outer)
    (λ z. lead-uncalled s worker number m n x x.outer next old z))

-- A turn of the moment m, at the moment n: it does the same, and leaves that moment where it counts.
pub turns-at : (s : Context) (worker number m n : ℕ) (x : Acts) (next : NextMark) (old : Record) (a : TurnResult)
    → turn s (event_of worker number m x next) old ≡ Some a → Fits s worker number m n x next old a
    → turn s (event_of worker number n x next) old ≡ Some (remade s worker number n x next old a)
turns-at s worker number m n x next old =
    lead-unless fits make old.done _ _
    (lead-behind fits make (taken s.basis s.generation (s.config).methods (event_of worker number n x next) old) _ _
    (λ r. lead-either fits make (makes_call s.basis (event_of worker number n x next) r x.outer) _ _ _ _
    (lead-behind fits make (call s r (phase s.basis r) None x.outer) _ _ (λ c. lead-called s worker number m n x next old c))
    (lead-uncalling s worker number m n x next old r)))
  where
    fits : TurnResult → Type 0
    fits = Fits s worker number m n x next old

    make : TurnResult → TurnResult
    make = remade s worker number n x next old
