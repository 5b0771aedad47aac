-- A turn that waits at the moment of the last movement, and is late at another one: it closes there.
use Rattle.std.proofs.Common.{◌≡◌, ℕ, zero, suc, Bool, true, false, ◌&&◌, ◌||◌, not, if◌then◌else◌, Option, Some, None, List, refl, sym, ap, ◌∙◌, is_some, is_none}
use Rattle.socks_machine.specs.declared.cause.Cause.{Cause}
use Rattle.socks_machine.specs.declared.record.Record.{Record}
use Rattle.socks_machine.specs.declared.world.NextMark.{NextMark}
use Rattle.socks_machine.specs.declared.world.Object.{Object}
use Rattle.socks_machine.specs.declared.world.Outer.{Outer}
use Rattle.socks_machine.specs.declared.world.TurnEvent.{TurnEvent}
use Rattle.socks_machine.specs.Calls.{Context, TurnResult, call, call_close, is_calling}
use Rattle.socks_machine.specs.Decisions.{is_opened}
use Rattle.socks_machine.specs.Phase.{phase}
use Rattle.socks_machine.specs.Settle.{first_cause}
use Rattle.socks_machine.specs.Taking.{◌>>=◌, taken}
use Rattle.socks_machine.specs.Turn.{turn, aged, output, fault_fits, with_fault, with_sent, with_shut, ended, is_answer, Calling, marked, with_record, after_call, without_call, may_output, makes_call, uncalled, close_is_due, times_out, timed_out, close_with, limit, is_late, rests, took_quantum, nothing_pending, is_quiet, is_mute, sources_rest, sinks_rest, sides_rest}
use Rattle.assoc_core.specs.Turns.{Acts, event_of}
use Rattle.assoc_core.proofs.Moments.{Leads, lead-unless, lead-if, lead-behind, lead-output, event_at, some-is, answer_by, waits_by, aged-anew}

-- ---- what a step tells that gives something

abbrev Tells : {A : Type 0} → (A → Type 0) → Option A → Type 0
Tells says o = (a : _) → o ≡ Some a → says a

tell-unless : {A : Type 0} (says : A → Type 0) (b : Bool) (x : Option A) → Tells says x → Tells says (elim b [ true ↦ None | false ↦ x ])
tell-unless says true x h a e = absurd (cc)
tell-unless says false x h a e = h a e

tell-if : {A : Type 0} (says : A → Type 0) (b : Bool) (x : Option A) → (b ≡ true → Tells says x) → Tells says (elim b [ true ↦ x | false ↦ None ])
tell-if says true x h a e = h refl a e
tell-if says false x h a e = absurd (cc)

tell-either : {A : Type 0} (says : A → Type 0) (b : Bool) (x x' : Option A) → Tells says x → Tells says x' → Tells says (elim b [ true ↦ x | false ↦ x' ])
tell-either says true x x' h k a e = h a e
tell-either says false x x' h k a e = k a e

tell-behind : {A B : Type 0} (says : B → Type 0) (o : Option A) (g : A → Option B) → ((a : A) → Tells says (g a)) → Tells says (o >>= g)
tell-behind says None g h b e = absurd (cc)
tell-behind says (Some a) g h b e = h a b e

tell-output : (says : TurnResult → Type 0) (s : Context) (e : TurnEvent) (old r0 : Record) (g : Record → Option TurnResult) → ((r : Record) → Tells says (g (aged s.basis e old r))) → Tells says (output s e old r0 >>= g)
tell-output says s e old r0 g h = by-fits (fault_fits s.basis e.fault e.unwritten r0) (with_fault e.fault e.unwritten r0)
  where
    by-shut : (o : Option Record) → Tells says ((o >>= λ r3. Some (aged s.basis e old r3)) >>= g)
    by-shut None a is = absurd (cc)
    by-shut (Some r3) a is = h r3 a is

    by-sent : (o : Option Record) → Tells says ((o >>= λ r2. (with_shut s.basis e r2 >>= λ r3. Some (aged s.basis e old r3))) >>= g)
    by-sent None a is = absurd (cc)
    by-sent (Some r2) a is = by-shut (with_shut s.basis e r2) a is

    by-fits : (b : Bool) (o : Option Record)
        → Tells says ((elim b [ true ↦ (o >>= λ r1. (with_sent s.basis e r1 >>= λ r2. (with_shut s.basis e r2 >>= λ r3. Some (aged s.basis e old r3)))) | false ↦ None ]) >>= g)
    by-fits false o a is = absurd (cc)
    by-fits true None a is = absurd (cc)
    by-fits true (Some r1) a is = by-sent (with_sent s.basis e r1) a is

-- ---- a turn that waits

abbrev waiting : ℕ → ℕ → ℕ → Acts → TurnEvent
waiting worker number m x = event_of worker number m x NextMark.Wait

-- why an end without a call is answered Wait
record WaitsBy (s : Context) (e : TurnEvent) (r : Record) (a : TurnResult) : Type 0 where
  is : a ≡ marked NextMark.Wait (record { left = r; h = s.h; marks = s.marks })
  opened' : is_some r.cause && not (is_opened r.decisions) ≡ false
  unfilled : took_quantum e ≡ false
  resting : rests s.basis e r ≡ true

waits-inside : (u q w : Bool) → is_answer (answer_by u q w) NextMark.Wait ≡ true → (u ≡ false) × (q ≡ false) × (w ≡ true)
waits-inside true q w h = absurd (cc)
waits-inside false true w h = absurd (cc)
waits-inside false false true h = (refl, refl, refl)
waits-inside false false false h = absurd (cc)

and-first : (a b : Bool) → a && b ≡ true → a ≡ true
and-first true b h = refl
and-first false b h = absurd (cc)

waits-by : (s : Context) (worker number m : ℕ) (x : Acts) (r : Record)
    → Tells (WaitsBy s (waiting worker number m x) r) (ended s (waiting worker number m x) Calling.NoCall (record { left = r; h = s.h; marks = s.marks }))
waits-by s worker number m x r = by-end _ refl
  where
    e : TurnEvent
    e = waiting worker number m x

    late : Bool
    late = is_late s.basis s.config m r

    undue : Bool
    undue = not (is_some r.cause && is_opened r.decisions && (nothing_pending s.basis r || e.unwritten || is_quiet r.cause || (rests s.basis e r && late)))

    untimed : Bool
    untimed = not (is_none r.cause && rests s.basis e r && late)

    waits : Bool
    waits = waits_by s e r late

    by-end : (b : Bool) → is_answer (answer_by (is_some r.cause && not (is_opened r.decisions)) (took_quantum e) waits) NextMark.Wait ≡ b
        → Tells (WaitsBy s e r) (elim b [ true ↦ Some (marked NextMark.Wait (record { left = r; h = s.h; marks = s.marks })) | false ↦ None ])
    by-end false k a h = absurd (cc)
    by-end true k a h = let f = waits-inside (is_some r.cause && not (is_opened r.decisions)) (took_quantum e) waits k in
        record { is = some-is _ a h; opened' = f.0; unfilled = f.1; resting = and-first (rests s.basis e r) undue (and-first (rests s.basis e r && undue) untimed f.2) }

-- behind a call it doesn't wait
waits-not-called : (s : Context) (worker number m : ℕ) (x : Acts) (c a : TurnResult) → ended s (waiting worker number m x) Calling.Called c ≡ Some a → ⊥
waits-not-called s worker number m x c a h = by-opened (is_some (c.left).cause && not (is_opened (c.left).decisions)) h
  where
    by-opened : (b : Bool) → elim (is_answer (if b then Some NextMark.Done else Some NextMark.Again) NextMark.Wait) [ true ↦ Some (marked NextMark.Wait c) | false ↦ None ] ≡ Some a → ⊥
    by-opened true e = cc
    by-opened false e = cc

-- nor behind a close
waits-not-closed : (s : Context) (worker number m : ℕ) (x : Acts) (c : TurnResult) (cause : Option Cause) (outer : Outer) (a : TurnResult) → close_with s (waiting worker number m x) c cause outer ≡ Some a → ⊥
waits-not-closed s worker number m x c None outer a h = cc
waits-not-closed s worker number m x c (Some k) Outer.Nothing a h = cc
waits-not-closed s worker number m x c (Some k) (Outer.Desk logged) a h = cc
waits-not-closed s worker number m x c (Some k) (Outer.Looked found) a h = cc
waits-not-closed s worker number m x c (Some k) (Outer.Up at) a h = cc
waits-not-closed s worker number m x c (Some k) Outer.Refused a h = cc
waits-not-closed s worker number m x c (Some k) Outer.HostUnreachable a h = cc
waits-not-closed s worker number m x c (Some k) Outer.NetUnreachable a h = cc
waits-not-closed s worker number m x c (Some k) Outer.Failed a h = cc

-- it called nothing, and the desk is as it was
pub record CalledNothing (s : Context) (outer : Outer) (a : TurnResult) : Type 0 where
  pub nothing : outer ≡ Outer.Nothing
  pub h : a.h ≡ s.h
  pub marks : a.marks ≡ s.marks

nothing-closed : (s : Context) (worker number m : ℕ) (x : Acts) (r : Record) (outer : Outer)
    → (let e = waiting worker number m x in Tells (CalledNothing s outer) (elim (close_is_due s e r) [
      | true ↦ close_with s e (record { left = r; h = s.h; marks = s.marks }) r.cause outer
      | false ↦ elim (times_out s e r) [ true ↦ close_with s e (record { left = timed_out s e r; h = s.h; marks = s.marks }) (timed_out s e r).cause outer | false ↦ None ]
    ]))
nothing-closed s worker number m x r outer = by-due (close_is_due s e r) (times_out s e r)
  where
    e : TurnEvent
    e = waiting worker number m x

    by-due : (due times : Bool) → Tells (CalledNothing s outer) (elim due [
      | true ↦ close_with s e (record { left = r; h = s.h; marks = s.marks }) r.cause outer
      | false ↦ elim times [ true ↦ close_with s e (record { left = timed_out s e r; h = s.h; marks = s.marks }) (timed_out s e r).cause outer | false ↦ None ]
    ])
    by-due true times a h = absurd (waits-not-closed s worker number m x (record { left = r; h = s.h; marks = s.marks }) r.cause outer a h)
    by-due false true a h = absurd (waits-not-closed s worker number m x (record { left = timed_out s e r; h = s.h; marks = s.marks }) (timed_out s e r).cause outer a h)
    by-due false false a h = absurd (cc)

nothing-uncalled : (s : Context) (worker number m : ℕ) (x : Acts) (outer : Outer) (r : Record)
    → Tells (CalledNothing s outer) (uncalled s (event_at worker number m x outer NextMark.Wait) (record { left = r; h = s.h; marks = s.marks }) outer)
nothing-uncalled s worker number m x Outer.Nothing r a h = let w = waits-by s worker number m (record x { outer = Outer.Nothing }) r a h in
    record { nothing = refl; h = ap (λ (z : TurnResult). z.h) w.is; marks = ap (λ (z : TurnResult). z.marks) w.is }
nothing-uncalled s worker number m x (Outer.Desk logged) r a h = nothing-closed s worker number m (record x { outer = Outer.Desk logged }) r (Outer.Desk logged) a h
nothing-uncalled s worker number m x (Outer.Looked found) r a h = nothing-closed s worker number m (record x { outer = Outer.Looked found }) r (Outer.Looked found) a h
nothing-uncalled s worker number m x (Outer.Up at) r a h = nothing-closed s worker number m (record x { outer = Outer.Up at }) r (Outer.Up at) a h
nothing-uncalled s worker number m x Outer.Refused r a h = nothing-closed s worker number m (record x { outer = Outer.Refused }) r Outer.Refused a h
nothing-uncalled s worker number m x Outer.HostUnreachable r a h = nothing-closed s worker number m (record x { outer = Outer.HostUnreachable }) r Outer.HostUnreachable a h
nothing-uncalled s worker number m x Outer.NetUnreachable r a h = nothing-closed s worker number m (record x { outer = Outer.NetUnreachable }) r Outer.NetUnreachable a h
nothing-uncalled s worker number m x Outer.Failed r a h = nothing-closed s worker number m (record x { outer = Outer.Failed }) r Outer.Failed a h

-- a turn that waits has called nothing
pub waits-uncalled : (s : Context) (worker number m : ℕ) (x : Acts) (old : Record) → Tells (CalledNothing s x.outer) (turn s (waiting worker number m x) old)
waits-uncalled s worker number m x old =
    tell-unless says old.done _
    (tell-behind says (taken s.basis s.generation (s.config).methods (waiting worker number m x) old) _
    (λ r. tell-either says (makes_call s.basis (waiting worker number m x) r x.outer) _ _
    (tell-behind says (call s r (phase s.basis r) None x.outer) _
    (λ c. tell-output says s (waiting worker number m x) old c.left _ (λ z a h. absurd (waits-not-called s worker number m x (with_record c (aged s.basis (waiting worker number m x) old z)) a h))))
    (tell-if says (may_output s.basis (waiting worker number m x) r) _
    (λ e. tell-output says s (waiting worker number m x) old r _ (λ z. nothing-uncalled s worker number m x x.outer (aged s.basis (waiting worker number m x) old z))))))
  where
    says : TurnResult → Type 0
    says = CalledNothing s x.outer

-- ---- a phase that has a call to make doesn't wait

-- nothing is sent, shut or failed
mute-output : (s : Context) (worker number m : ℕ) (old r : Record) (c t : List ℕ) (end_c end_t : Bool) (outer : Outer) (sent_c sent_t : ℕ) (shut_c shut_t idle_c idle_t full_c full_t : Bool) (fault : Option Object) (unwritten : Bool)
    → (let x : Acts = record { c = c; t = t; end_c = end_c; end_t = end_t; outer = outer; sent_c = sent_c; sent_t = sent_t; shut_c = shut_c; shut_t = shut_t; idle_c = idle_c; idle_t = idle_t; full_c = full_c; full_t = full_t; fault = fault; unwritten = unwritten } in
    is_mute (waiting worker number m x) ≡ true → output s (waiting worker number m x) old r ≡ Some (aged s.basis (waiting worker number m x) old r))
mute-output s worker number m old r c t ec et outer zero zero false false ic it fc ft None false h = refl
mute-output s worker number m old r c t ec et outer (suc k) st a b ic it fc ft fault u h = absurd (cc)
mute-output s worker number m old r c t ec et outer zero (suc k) a b ic it fc ft fault u h = absurd (cc)
mute-output s worker number m old r c t ec et outer zero zero true b ic it fc ft fault u h = absurd (cc)
mute-output s worker number m old r c t ec et outer zero zero false true ic it fc ft fault u h = absurd (cc)
mute-output s worker number m old r c t ec et outer zero zero false false ic it fc ft (Some o) u h = absurd (cc)
mute-output s worker number m old r c t ec et outer zero zero false false ic it fc ft None true h = absurd (cc)

resting-calls-none : (s : Context) (e : TurnEvent) (r : Record) → rests s.basis e r ≡ true → is_calling (phase s.basis r) e.came ≡ true → ⊥
resting-calls-none s e r h calls =
    by-calling (took_quantum e) (is_calling (phase s.basis r) e.came) (sources_rest s.basis e r (phase s.basis r)) (sinks_rest s.basis e r) (sides_rest s.basis r (phase s.basis r)) h calls
  where
    by-calling : (q c x y z : Bool) → not q && (not c && x && y && z) ≡ true → c ≡ true → ⊥
    by-calling true c x y z h k = cc
    by-calling false true x y z h k = cc
    by-calling false false x y z h k = cc

waits-calling-none : (s : Context) (worker number m : ℕ) (x : Acts) (old r : Record) (a : TurnResult) → x.outer ≡ Outer.Nothing → is_calling (phase s.basis r) None ≡ true
    → without_call s (waiting worker number m x) old r ≡ Some a → ⊥
waits-calling-none s worker number m x old r a nothing calls h = by-mute (is_mute e) refl h'
  where
    e : TurnEvent
    e = waiting worker number m x

    ends : Option TurnResult
    ends = output s e old r >>= λ z. ended s e Calling.NoCall (record { left = z; h = s.h; marks = s.marks })

    h' : elim (is_mute e || not (is_calling (phase s.basis r) None) || took_quantum e) [ true ↦ ends | false ↦ None ] ≡ Some a
    h' = ap (λ o. elim (is_mute e || not (is_calling (phase s.basis r) None) || took_quantum e) [ true ↦ (output s e old r >>= λ z. uncalled s e (record { left = z; h = s.h; marks = s.marks }) o) | false ↦ None ]) (sym nothing) ∙ h

    took-none : Tells (λ b. took_quantum e ≡ false) ends
    took-none = tell-output (λ b. took_quantum e ≡ false) s e old r _ (λ z b k. (waits-by s worker number m x (aged s.basis e old z) b k).unfilled)

    by-took : (q : Bool) → took_quantum e ≡ q → elim (false || not (is_calling (phase s.basis r) None) || q) [ true ↦ ends | false ↦ None ] ≡ Some a → ⊥
    by-took true k i = let j : true ≡ false = sym k ∙ took-none a (ap (λ b. elim (false || not b || true) [ true ↦ ends | false ↦ None ]) (sym calls) ∙ i) in cc
    by-took false k i = let j : None ≡ Some a = ap (λ b. elim (false || not b || false) [ true ↦ ends | false ↦ None ]) (sym calls) ∙ i in cc

    by-mute : (b : Bool) → is_mute e ≡ b → elim (b || not (is_calling (phase s.basis r) None) || took_quantum e) [ true ↦ ends | false ↦ None ] ≡ Some a → ⊥
    by-mute true k i = resting-calls-none s e (aged s.basis e old r)
        (waits-by s worker number m x (aged s.basis e old r) a
        (ap (λ (o : Option Record). o >>= λ z. ended s e Calling.NoCall (record { left = z; h = s.h; marks = s.marks }))
        (sym (mute-output s worker number m old r x.c x.t x.end_c x.end_t x.outer x.sent_c x.sent_t x.shut_c x.shut_t x.idle_c x.idle_t x.full_c x.full_t x.fault x.unwritten k)) ∙ i)).resting calls
    by-mute false k i = by-took (took_quantum e) refl i

-- ---- it closes where it is late

-- what it ends by, where no cause stands
abbrev pub cause_late : Context → ℕ → Record → Option Cause → Cause
cause_late s n r (Some cause) = cause
cause_late s n r None = Cause.TimedOut r.since n (limit s.basis s.config r)

-- the record that a turn that waits leaves, at the moment n
abbrev pub left_at : Context → ℕ → ℕ → ℕ → Acts → Record → TurnResult → Record
left_at s worker number n x old a = aged s.basis (waiting worker number n x) old a.left

abbrev pub closed_at : Context → ℕ → ℕ → ℕ → Acts → Record → Bool → TurnResult → TurnResult
closed_at s worker number n x old logged a = marked NextMark.Done (call_close s.h s.marks (timed_out s (waiting worker number n x) (left_at s worker number n x old a))
    (cause_late s n (left_at s worker number n x old a) (left_at s worker number n x old a).cause) logged)

pub record IsLate (s : Context) (worker number m n : ℕ) (x : Acts) (old : Record) (a : TurnResult) : Type 0 where
  pub since : a.left.since ≡ m
  pub late : is_late s.basis s.config n (left_at s worker number n x old a) ≡ true

due-late : (o p u q r l : Bool) → not o ≡ false → r ≡ true → l ≡ true → o && (p || u || q || (r && l)) ≡ true
due-late false p u q r l h i j = absurd (cc)
due-late true true u q r l h i j = refl
due-late true false true q r l h i j = refl
due-late true false false true r l h i j = refl
due-late true false false false r l h i j = rw (i, j) refl

times-late : (r l : Bool) → r ≡ true → l ≡ true → r && l ≡ true
times-late r l i j = rw (i, j) refl

late-closes : (s : Context) (worker number m n : ℕ) (x : Acts) (old r : Record) (logged : Bool) (cause : Option Cause)
    → Leads (IsLate s worker number m n x old) (closed_at s worker number n x old logged)
    (ended s (waiting worker number m x) Calling.NoCall (record { left = aged s.basis (waiting worker number m x) old (record r { cause = cause }); h = s.h; marks = s.marks }))
    (uncalled s (event_at worker number n x (Outer.Desk logged) NextMark.Done)
    (record { left = aged s.basis (event_at worker number n x (Outer.Desk logged) NextMark.Done) old (record r { cause = cause }); h = s.h; marks = s.marks }) (Outer.Desk logged))
late-closes s worker number m n x old r logged cause a is f = by-cause cause (waits-by s worker number m x _ a is) f
  where
    e : TurnEvent
    e = waiting worker number m x

    e' : TurnEvent
    e' = event_at worker number n x (Outer.Desk logged) NextMark.Done

    y : Option Cause → Record
    y k = aged s.basis e old (record r { cause = k })

    y' : Option Cause → Record
    y' k = aged s.basis e' old (record r { cause = k })

    z' : Record
    z' = left_at s worker number n x old a

    -- the close of that record, with this cause
    closing : Option Cause → TurnResult
    closing k = marked NextMark.Done (call_close s.h s.marks (record z' { cause = first_cause (Some (Cause.TimedOut z'.since n (limit s.basis s.config z'))) k }) (cause_late s n z' k) logged)

    caused : (k : Option Cause) → WaitsBy s e (y k) a → k ≡ z'.cause
    caused k w = sym (ap (λ (z : TurnResult). z.left.cause) w.is)

    -- the record at the moment n is the same by either way
    anew : (k : Option Cause) → WaitsBy s e (y k) a → y' k ≡ record z' { cause = k; done = r.done }
    anew k w = sym (aged-anew s.basis worker number m n x x.outer x.outer NextMark.Wait NextMark.Wait old (record r { cause = k }))
        ∙ ap (λ (z : TurnResult). let v : Record = record (left_at s worker number n x old z) { cause = k; done = r.done } in v) (sym w.is)

    late : (k : Option Cause) → WaitsBy s e (y k) a → IsLate s worker number m n x old a → is_late s.basis s.config n (y' k) ≡ true
    late k w g = ap (is_late s.basis s.config n) (anew k w) ∙ g.late

    by-cause : (k : Option Cause) → WaitsBy s e (y k) a → IsLate s worker number m n x old a
        → uncalled s e' (record { left = y' k; h = s.h; marks = s.marks }) (Outer.Desk logged) ≡ Some (closed_at s worker number n x old logged a)
    by-cause (Some c) w g =
        ap (λ b. elim b [
          | true ↦ close_with s e' (record { left = y' (Some c); h = s.h; marks = s.marks }) (Some c) (Outer.Desk logged)
          | false ↦ elim (times_out s e' (y' (Some c))) [ true ↦ close_with s e' (record { left = timed_out s e' (y' (Some c)); h = s.h; marks = s.marks }) (Some c) (Outer.Desk logged) | false ↦ None ]
        ]) (due-late (is_opened r.decisions) (nothing_pending s.basis (y' (Some c))) x.unwritten (is_quiet (Some c)) (rests s.basis e' (y' (Some c))) (is_late s.basis s.config n (y' (Some c))) w.opened' w.resting (late (Some c) w g))
        ∙ (ap (λ (z : Record). Some (marked NextMark.Done (call_close s.h s.marks z c logged))) (anew (Some c) w)
        ∙ ap (λ (k : Option Cause). Some (closing k)) (caused (Some c) w))
    by-cause None w g =
        ap (λ b. elim b [
          | true ↦ close_with s e' (record { left = timed_out s e' (y' None); h = s.h; marks = s.marks }) (timed_out s e' (y' None)).cause (Outer.Desk logged)
          | false ↦ None
        ]) (times-late (rests s.basis e' (y' None)) (is_late s.basis s.config n (y' None)) w.resting (late None w g))
        ∙ (ap (λ (z : Record). Some (marked NextMark.Done (call_close s.h s.marks (record z { cause = Some (Cause.TimedOut z.since n (limit s.basis s.config z)) }) (Cause.TimedOut z.since n (limit s.basis s.config z)) logged))) (anew None w)
        ∙ ap (λ (k : Option Cause). Some (closing k)) (caused None w))

late-uncalling : (s : Context) (worker number m n : ℕ) (x : Acts) (old r : Record) (logged : Bool)
    → Leads (IsLate s worker number m n (record x { outer = Outer.Nothing }) old) (closed_at s worker number n (record x { outer = Outer.Nothing }) old logged)
    (without_call s (waiting worker number m (record x { outer = Outer.Nothing })) old r)
    (elim (is_calling (phase s.basis r) None) [
      | true ↦ (call s r (phase s.basis r) None (Outer.Desk logged) >>= after_call s (event_at worker number n x (Outer.Desk logged) NextMark.Done) old)
      | false ↦ without_call s (event_at worker number n x (Outer.Desk logged) NextMark.Done) old r
    ])
late-uncalling s worker number m n x old r logged a is f = by-calling _ refl
  where
    still : Acts
    still = record x { outer = Outer.Nothing }

    e : TurnEvent
    e = waiting worker number m still

    e' : TurnEvent
    e' = event_at worker number n x (Outer.Desk logged) NextMark.Done

    by-calling : (b : Bool) → is_calling (phase s.basis r) None ≡ b
        → elim b [ true ↦ (call s r (phase s.basis r) None (Outer.Desk logged) >>= after_call s e' old) | false ↦ without_call s e' old r ] ≡ Some (closed_at s worker number n still old logged a)
    by-calling true calls = absurd (waits-calling-none s worker number m still old r a refl calls is)
    by-calling false calls =
        lead-if (IsLate s worker number m n still old) (closed_at s worker number n still old logged) (may_output s.basis e r) _ _
        (lead-output (IsLate s worker number m n still old) (closed_at s worker number n still old logged) s worker number m n x Outer.Nothing (Outer.Desk logged) NextMark.Wait NextMark.Done old r _ _
        (λ z. late-closes s worker number m n still old z logged z.cause)) a is f

-- A turn that waits at the moment m and would be late at the moment n closes there.
pub turns-late : (s : Context) (worker number m n : ℕ) (x : Acts) (old : Record) (logged : Bool) (a : TurnResult)
    → turn s (waiting worker number m x) old ≡ Some a → IsLate s worker number m n x old a
    → turn s (event_at worker number n x (Outer.Desk logged) NextMark.Done) old ≡ Some (closed_at s worker number n x old logged a)
turns-late s worker number m n x old logged a is late =
    quiet a (ap (λ o. turn s (waiting worker number m (record x { outer = o })) old) (sym nothing) ∙ is)
    (record { since = late.since; late = late.late })
  where
    nothing : x.outer ≡ Outer.Nothing
    nothing = (waits-uncalled s worker number m x old a is).nothing

    quiet : Leads (IsLate s worker number m n (record x { outer = Outer.Nothing }) old) (closed_at s worker number n (record x { outer = Outer.Nothing }) old logged)
        (turn s (waiting worker number m (record x { outer = Outer.Nothing })) old) (turn s (event_at worker number n x (Outer.Desk logged) NextMark.Done) old)
    quiet = lead-unless _ _ old.done _ _ (lead-behind _ _ (taken s.basis s.generation (s.config).methods (waiting worker number m x) old) _ _ (λ r. late-uncalling s worker number m n x old r logged))
