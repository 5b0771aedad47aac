-- What a read of a piece comes to.
use Rattle.std.proofs.Common.{◌≡◌, ◌<◌, ◌⊎◌, inl, inr, ℕ, Bool, true, false, Result, Ok, Err, List, [], refl, sym, subst, ◌∙◌, Option, None, arith}
use Rattle.std.proofs.lemmas.List.{append-nil}
use mathlib.Core.List.{IsPrefix}
use Rattle.net_ends.specs.declared.link.Reading.{Reading}
use Rattle.net_ends.specs.Told.{Told, GivesArrived, after_read}
use Rattle.net_ends.specs.Counts.{Later}
use Rattle.net_ends.specs.Faults.{Tried}
use Rattle.net_ends.specs.declared.kinds.Kind.{Kind}
use Rattle.half_close_relay.specs.declared.halt.Halt.{Halt}
use Rattle.half_close_relay.specs.Ways.{Way, Seen, Gives, TakesPiece, TakeEnds, Untaken, KeepsArrival, source_failed}
use Rattle.half_close_relay.proofs.Sums.{gives-nothing, more-nil, later-same, keeps-same}
use Rattle.half_close_relay.proofs.Tryings.{tried-none, tried-as}

pub gives-same : {R W S : Type 0} (failed : Option Kind) (old new : Seen) → new.told ≡ old.told → Later old.counts new.counts → Tried old.counts new.counts R W S failed → Gives [] false failed old new
gives-same failed old new e later tried = record {
  told' = e ∙ gives-nothing old.told;
  later = later;
  arrival = subst (λ (t : Told). KeepsArrival old.told t) (sym e) (keeps-same old.told);
  tried = tried-as tried (λ x. (refl, refl)) (λ x. tt) (λ x. tt);
}

-- the source wasn't called
pub gives-none : (s : Seen) → Gives [] false None s s
gives-none s = gives-same None s s refl (later-same s.counts) (tried-none {R = Unit {0}} {W = Unit {0}} {S = Unit {0}} s.counts tt tt tt)

-- nothing came
pub stops : (left : ℕ) (was : Way) (after : List ℕ) (old new : Seen) (outcome : Result ℕ Halt) → after ≡ was.waiting → Gives [] false (source_failed outcome) old new → TakeEnds left was was old new [] outcome
    → TakesPiece left was (record was { waiting = after }) old new outcome
stops left was after old new outcome e gives why = record {
  given = [];
  ends = false;
  now' = λ i. record was { waiting = (e ∙ sym (append-nil was.waiting)) i };
  silent = λ h. (refl, refl);
  within = omega arith;
  early = λ h. cc;
  gives = gives;
  why = ends outcome why;
}
  where
    untaken : Untaken left was was [] → Untaken left was (record was { waiting = after }) []
    untaken h = record { same = λ i. record was { waiting = e i }; nothing = refl; unended = h.unended; unshut = h.unshut; some = h.some }

    ends : (outcome : Result ℕ Halt) → TakeEnds left was was old new [] outcome → TakeEnds left was (record was { waiting = after }) old new [] outcome
    ends (Ok n) h = (h.0, λ z. record { idle = (h.1 z).idle })
    ends (Err Halt.Source) h = (h.0, untaken h.1)
    ends (Err Halt.Sink) h = h
    ends (Err Halt.Memory) h = (untaken h.0, h.1)

-- nothing could be read of a source that may be read
pub unmoved : (left : ℕ) (way : Way) → way.ended ≡ false → way.shut ≡ false → 0 < left → Untaken left way way []
unmoved left way unended unshut some = record { same = refl; nothing = refl; unended = unended; unshut = unshut; some = some }

-- nothing was read of a source that has ended, or of which nothing more may be read
pub unread : (left : ℕ) (way : Way) (s : Seen) → (way.ended ≡ true) ⊎ ((way.ended ≡ false) × (left ≡ 0)) → TakesPiece left way way s s (Ok 0)
unread left way s h = stops left way way.waiting s s (Ok 0) refl (gives-none s) (refl, λ z. record { idle = λ e some. absurd (clash h e some) })
  where
    clash : (way.ended ≡ true) ⊎ ((way.ended ≡ false) × (left ≡ 0)) → way.ended ≡ false → 0 < left → ⊥
    clash (inl a) e some = cc
    clash (inr b) e some = omega (arith, b.1)

-- the sink of a source that hasn't ended isn't shut
pub still-open : (ended shut : Bool) {A : Type 0} → (shut ≡ true → (ended ≡ true) × A) → ended ≡ false → shut ≡ false
still-open ended false h e = refl
still-open ended true h e = absurd (clash ended (h refl).0 e)
  where
    clash : (b : Bool) → b ≡ true → b ≡ false → ⊥
    clash true p q = cc
    clash false p q = cc

prefix-same : (xs : List ℕ) → IsPrefix xs xs
prefix-same xs = ([], append-nil xs)

-- the end came
pub ends-here : (left : ℕ) (was : Way) (after : List ℕ) (old new : Seen) → after ≡ was.waiting → was.ended ≡ false → 0 < left → new.told ≡ after_read old.told Reading.End [] → Later old.counts new.counts
    → Tried old.counts new.counts ⊥ (Unit {0}) (Unit {0}) None → GivesArrived new.told Reading.End → TakesPiece left was (record was { waiting = after; ended = true }) old new (Ok 0)
ends-here left was after old new e unended some told later tried arrived = record {
  given = [];
  ends = true;
  now' = λ i. record was { waiting = (e ∙ sym (append-nil was.waiting)) i; ended = true };
  silent = λ h. absurd (clash was.ended h unended);
  within = omega arith;
  early = λ h. some;
  gives = record {
    told' = told ∙ (λ i. record old.told { given = sym (more-nil old.told.given) i; ended = true });
    later = later;
    arrival = record {
      behind = λ h arrival given a b ended. arrived arrival given a b;
      first = λ h arrival given a b. subst (λ (z : List ℕ). IsPrefix z arrival.bytes) (sym (arrived arrival given a b).0) (prefix-same arrival.bytes);
    };
    tried = tried-as tried (λ x. absurd x) (λ x. x) (λ x. x);
  };
  why = (refl, λ z. record { idle = λ h. cc });
}
  where
    clash : (b : Bool) → b ≡ true → b ≡ false → ⊥
    clash true p q = cc
    clash false p q = cc
