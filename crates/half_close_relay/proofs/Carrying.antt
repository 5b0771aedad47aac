-- How a piece that was read and what was sent add up to one direction.
use Rattle.std.proofs.Common.{◌≡◌, ◌<◌, ◌≤◌, ◌+◌, ◌-◌, ◌^◌, min, ℕ, Bool, true, false, ◌||◌, Result, Ok, Err, List, [], ◌∷◌, ◌++◌, length, take, drop, refl, ap, sym, ◌∙◌, Option, Some, None, subst, append_assoc, length-append, arith}
use Rattle.std.proofs.lemmas.List.{take-append-drop, length-take-le}
use Rattle.net_ends.specs.Told.{Told, more}
use Rattle.net_ends.specs.Counts.{Later}
use Rattle.net_ends.specs.Faults.{Tried}
use Rattle.net_ends.specs.declared.kinds.Kind.{Kind}
use Rattle.half_close_relay.specs.declared.halt.Halt.{Halt}
use Rattle.half_close_relay.specs.declared.sending.Sent.{Sent}
use Rattle.half_close_relay.specs.Sending.{SendEnds}
use Rattle.half_close_relay.specs.Ways.{Way, Moves, Seen, Gives, Takes, Failed, SourceRests, SinkRests, TakesPiece, TakeEnds, SendsOn, GiveEnds, Carries, CarryEnds, after_taking, total, sink_kind, source_failed, sink_failed}
use Rattle.half_close_relay.proofs.Sums.{more-more, later-same, later-on, rose-before, total-total, total-in-range, takes-nothing}
use Rattle.half_close_relay.proofs.Tryings.{tried-none, tried-on, tried-as, undue-before, nil-on}

-- a call that failed behind others
pub failed-after : (a b c : Seen) → Later a.counts b.counts → b.told.unfailing ≡ a.told.unfailing → Failed b c → Failed a c
failed-after a b c later same h = record { rose = rose-before _ _ _ later.faults h.rose; allowed = sym same ∙ h.allowed }

pub sink-before : {R W S : Type 0} (way : Way) (a b c : Seen) → Later a.counts b.counts → Tried a.counts b.counts R W S None → SinkRests way b c → SinkRests way a c
sink-before way a b c later tried h = record { full = λ some. ((h.full some).0, rose-before _ _ _ later.idle_writes (h.full some).1, undue-before Kind.Write tried (h.full some).2); due = h.due }

pub source-before : {R W S : Type 0} (left : ℕ) (way : Way) (a b c : Seen) → Later a.counts b.counts → Tried a.counts b.counts R W S None → SourceRests left way b c → SourceRests left way a c
source-before left way a b c later tried h = record { idle = λ e some. ((h.idle e some).0, rose-before _ _ _ later.idle_reads (h.idle e some).1, undue-before Kind.Read tried (h.idle e some).2) }

-- some of what waited was sent, and no more was done
pub sends-some : {A : Type 0} (was : Way) (sent rest : List ℕ) (sum : ℕ) (old new : Seen) (outcome : Result A Halt) → was.waiting ≡ sent ++ rest → sum ≡ total was.sent (length sent)
    → Takes sent false (sink_failed (record was { waiting = rest; sent = sum }) outcome) old new → GiveEnds (record was { waiting = rest; sent = sum }) old new outcome → SendsOn was (record was { waiting = rest; sent = sum }) old new outcome
sends-some was sent rest sum old new outcome e s takes why = record {
  sent = sent;
  shuts = false;
  waiting' = e;
  now' = λ i. record was { waiting = rest; sent = s i };
  once = λ h. cc;
  due = λ h. cc;
  takes = takes;
  why = why;
}

-- the first of what waited was sent, and the rest of it waits
pub record SentSome (was : Way) (rest : List ℕ) (sum : ℕ) (failed : Option Kind) (old new : Seen) : Type 0 where
  pub sent : List ℕ
  pub waiting' : was.waiting ≡ sent ++ rest
  pub sum' : sum ≡ total was.sent (length sent)
  pub takes : Takes sent false failed old new

pub sent-some : (was : Way) (bytes rest : List ℕ) (n sum : ℕ) (failed : Option Kind) (old new : Seen) → bytes ≡ was.waiting → rest ≡ drop n was.waiting → n ≤ length bytes → was.sent < 2 ^ 64 → sum ≡ min (was.sent + n) (2 ^ 64 - 1)
    → new.told ≡ record (old.told) { taken = more old.told.taken (take n bytes) } → Later old.counts new.counts → Tried old.counts new.counts (Unit {0}) (n ≡ 0) (Unit {0}) failed → SentSome was rest sum failed old new
sent-some was bytes rest n sum failed old new same left within fits e told later tried = record {
  sent = take n was.waiting;
  waiting' = sym (take-append-drop n was.waiting) ∙ ap (λ (z : List ℕ). take n was.waiting ++ z) (sym left);
  sum' = e ∙ (ap (λ (m : ℕ). min (was.sent + m) (2 ^ 64 - 1)) (sym taken) ∙ sym (total-in-range was.sent (length (take n was.waiting)) fits));
  takes = record {
    told' = told ∙ ap (λ (z : List ℕ). after_taking old.told (take n z) false) same;
    later = later;
    tried = tried-as tried (λ x. x) (λ x. ap (λ (m : ℕ). take m was.waiting) x) (λ x. refl);
  };
}
  where
    taken : length (take n was.waiting) ≡ n
    taken = length-take-le n was.waiting (omega (arith, within, ap length same))

-- and the sink took no more of it
pub sends-full : (was : Way) (bytes rest : List ℕ) (n sum : ℕ) (old new : Seen) → bytes ≡ was.waiting → rest ≡ drop n was.waiting → SentSome was rest sum None old new → SendEnds new.told old.counts new.counts (drop n bytes) Sent.Full
    → SendsOn {A = Unit {0}} was (record was { waiting = rest; sent = sum }) old new (Ok tt)
sends-full was bytes rest n sum old new same left h ends = sends-some was h.sent rest sum old new (Ok tt) h.waiting' h.sum' h.takes (record {
  full = λ some. (ends.1, ends.2, ends.3);
  due = λ ended none. absurd (omega (arith, ends.0, ap (λ (z : List ℕ). length (drop n z)) same, ap length left, ap length none));
})

waits-still : (xs : List ℕ) → 0 < length xs → Some Kind.Write ≡ Some (sink_kind xs)
waits-still [] some = absurd (omega (arith, some))
waits-still (x ∷ xs) some = refl

-- or a write of it failed
pub sends-failed : (was : Way) (bytes rest : List ℕ) (n sum : ℕ) (old new : Seen) → (was.shut ≡ true → (was.ended ≡ true) × (was.waiting ≡ [])) → bytes ≡ was.waiting → rest ≡ drop n was.waiting → n ≤ length bytes
    → SentSome was rest sum (Some Kind.Write) old new → SendEnds new.told old.counts new.counts (drop n bytes) Sent.Failed → SendsOn {A = Unit {0}} was (record was { waiting = rest; sent = sum }) old new (Err Halt.Sink)
sends-failed was bytes rest n sum old new shut same left within h ends = sends-some {A = Unit {0}} was h.sent rest sum old new (Err Halt.Sink) h.waiting' h.sum'
    (subst (λ (f : Option Kind). Takes h.sent false f old new) (waits-still rest some) h.takes)
    (record { rose = ends.2; allowed = sym (ap (λ (t : Told). t.unfailing) h.takes.told') ∙ ends.1 }, record { unshut = open-still was.shut shut; due = λ none. absurd (omega (arith, some, ap length none)) })
  where
    some : 0 < length rest
    some = omega (arith, ends.0, ap (λ (z : List ℕ). length (drop n z)) same, ap length left)

    open-still : (b : Bool) → (b ≡ true → (was.ended ≡ true) × (was.waiting ≡ [])) → b ≡ false
    open-still true k = absurd (omega (arith, some, ap length h.waiting', length-append h.sent rest, ap length (k refl).1))
    open-still false k = refl

-- some of what waited was sent, and then the rest of it, or the shut
pub sends-then : {A : Type 0} (was after : Way) (sent rest : List ℕ) (sum : ℕ) (old mid new : Seen) (outcome : Result A Halt) → was.waiting ≡ sent ++ rest → sum ≡ total was.sent (length sent)
    → Takes sent false None old mid → SendsOn (record was { waiting = rest; sent = sum }) after mid new outcome → SendsOn was after old new outcome
sends-then {A = A} was after sent rest sum old mid new outcome e s h k = record {
  sent = sent ++ k.sent;
  shuts = k.shuts;
  waiting' = e ∙ (ap (λ (z : List ℕ). sent ++ z) k.waiting' ∙ sym (append_assoc sent k.sent after.waiting));
  now' = k.now' ∙ (λ i. record was { waiting = after.waiting; shut = k.shuts || was.shut; sent = sums i });
  once = k.once;
  due = k.due;
  takes = record {
    told' = k.takes.told' ∙ (ap (λ (t : Told). after_taking t k.sent k.shuts) h.told' ∙ (λ i. record old.told { taken = more-more old.told.taken sent k.sent i; shut = k.shuts || old.told.shut }));
    later = later-on _ _ _ h.later k.takes.later;
    tried = tried-on h.tried k.takes.tried (λ x y. y) (λ x y. nil-on sent k.sent x y) (λ x y. y);
  };
  why = ends outcome k.why;
}
  where
    sums : total sum (length k.sent) ≡ total was.sent (length (sent ++ k.sent))
    sums = ap (λ n. total n (length k.sent)) s ∙ (total-total was.sent (length sent) (length k.sent) ∙ ap (total was.sent) (sym (length-append sent k.sent)))

    ends : (outcome : Result A Halt) → GiveEnds after mid new outcome → GiveEnds after old new outcome
    ends (Ok x) z = sink-before after old mid new h.later h.tried z
    ends (Err Halt.Source) z = z
    ends (Err Halt.Sink) z = (failed-after old mid new h.later (ap (λ (t : Told). t.unfailing) h.told') z.0, z.1)
    ends (Err Halt.Memory) z = z

-- bytes came in, and bytes went out
pub moves-both : (was mid now : Way) (given sent : List ℕ) (ends shuts : Bool) → mid ≡ record was { waiting = was.waiting ++ given; ended = ends || was.ended; took = total was.took (length given) }
    → (was.ended ≡ true → (given ≡ []) × (ends ≡ false)) → mid.waiting ≡ sent ++ now.waiting → now ≡ record mid { waiting = now.waiting; shut = shuts || mid.shut; sent = total mid.sent (length sent) }
    → (shuts ≡ true → mid.shut ≡ false) → (shuts ≡ true → (mid.ended ≡ true) × (now.waiting ≡ [])) → Moves was now (record { given = given; sent = sent; ends = ends; shuts = shuts })
moves-both was mid now given sent ends shuts e silent w f once due = record {
  kept = sym (ap (λ (z : Way). z.waiting) e) ∙ w;
  ended' = ap (λ (z : Way). z.ended) f ∙ ap (λ (z : Way). z.ended) e;
  shut' = ap (λ (z : Way). z.shut) f ∙ ap (λ (z : Way). shuts || z.shut) e;
  took' = ap (λ (z : Way). z.took) f ∙ ap (λ (z : Way). z.took) e;
  sent' = ap (λ (z : Way). z.sent) f ∙ ap (λ (z : Way). total z.sent (length sent)) e;
  silent = silent;
  once = λ h. sym (ap (λ (z : Way). z.shut) e) ∙ once h;
  due = λ h. (ap (λ (z : Way). z.ended) f ∙ (due h).0, (due h).1);
}

-- the sink wasn't called
pub takes-none : (s : Seen) → Takes [] false None s s
takes-none s = record { told' = takes-nothing s.told; later = later-same s.counts; tried = tried-none s.counts tt refl refl }

-- nothing could be taken, and nothing was sent
pub carries-halted : (left : ℕ) (was now : Way) (source source' sink : Seen) (halt : Halt) → TakesPiece left was now source source' (Err halt) → Carries left was now source source' sink sink (Err halt)
carries-halted left was now source source' sink halt h = record {
  move = record { given = h.given; sent = []; ends = h.ends; shuts = false };
  moves = moves-both was now now h.given [] h.ends false h.now' h.silent refl refl (λ e. cc) (λ e. cc);
  within = h.within;
  early = h.early;
  gives = h.gives;
  takes = unsent halt (takes-none sink) h.why;
  why = ends halt h.why;
}
  where
    unsent : (halt : Halt) → Takes [] false None sink sink → TakeEnds left was now source source' h.given (Err halt) → Takes [] false (sink_failed {A = ℕ} now (Err halt)) sink sink
    unsent Halt.Source t z = t
    unsent Halt.Sink t z = absurd z
    unsent Halt.Memory t z = t

    ends : (halt : Halt) → TakeEnds left was now source source' h.given (Err halt) → CarryEnds left was now source source' sink sink h.given (Err halt)
    ends Halt.Source z = (z.0, z.1, refl)
    ends Halt.Sink z = absurd z
    ends Halt.Memory z = (z.0, z.1, refl)

carries : {A : Type 0} (left n : ℕ) (was mid now : Way) (source source' sink sink' : Seen) (sending : Result A Halt) (outcome : Result ℕ Halt) → (h : TakesPiece left was mid source source' (Ok n)) → (k : SendsOn mid now sink sink' sending)
    → Gives h.given h.ends (source_failed outcome) source source' → Takes k.sent k.shuts (sink_failed now outcome) sink sink' → CarryEnds left was now source source' sink sink' h.given outcome → Carries left was now source source' sink sink' outcome
carries left n was mid now source source' sink sink' sending outcome h k gives takes why = record {
  move = record { given = h.given; sent = k.sent; ends = h.ends; shuts = k.shuts };
  moves = moves-both was mid now h.given k.sent h.ends k.shuts h.now' h.silent k.waiting' k.now' k.once k.due;
  within = h.within;
  early = h.early;
  gives = gives;
  takes = takes;
  why = why;
}

-- a piece was taken, and what waited was sent as far as that was possible
pub carries-on : {A : Type 0} (left n : ℕ) (was mid now : Way) (source source' sink sink' : Seen) (done : A) → TakesPiece left was mid source source' (Ok n) → SendsOn mid now sink sink' (Ok done)
    → Carries left was now source source' sink sink' (Ok n)
carries-on left n was mid now source source' sink sink' done h k =
    carries left n was mid now source source' sink sink' (Ok done) (Ok n) h k h.gives k.takes
    (h.why.0, λ z. record { idle = λ e. (h.why.1 z).idle (sym (ap (λ (w : Way). w.ended) k.now') ∙ e) }, k.why)

-- a piece was taken, and a call of the sink failed
pub carries-unsent : {A : Type 0} (left n : ℕ) (was mid now : Way) (source source' sink sink' : Seen) (halt : Halt) → TakesPiece left was mid source source' (Ok n) → SendsOn {A = A} mid now sink sink' (Err halt)
    → Carries left was now source source' sink sink' (Err halt)
carries-unsent left n was mid now source source' sink sink' Halt.Source h k = absurd k.why
carries-unsent {A = A} left n was mid now source source' sink sink' Halt.Sink h k = carries {A = A} left n was mid now source source' sink sink' (Err Halt.Sink) (Err Halt.Sink) h k h.gives k.takes k.why
carries-unsent left n was mid now source source' sink sink' Halt.Memory h k = absurd k.why
