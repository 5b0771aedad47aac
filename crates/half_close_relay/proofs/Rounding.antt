-- How the two directions add up to a round.
use Rattle.std.proofs.Common.{◌≡◌, ◌-◌, length, ℕ, Bool, true, false, Result, Ok, Err, inl, inr, List, [], refl, ap, sym, subst, ◌∙◌, Option, None, arith}
use Rattle.std.proofs.lemmas.List.{append-nil}
use Rattle.net_ends.specs.Told.{Told}
use Rattle.net_ends.specs.declared.kinds.Kind.{Kind}
use Rattle.half_close_relay.specs.declared.halt.Halt.{Halt}
use Rattle.half_close_relay.specs.declared.pumped.Pumped.{Pumped}
use Rattle.half_close_relay.specs.declared.pumped.Side.{Side}
use Rattle.half_close_relay.specs.Halts.{answer_of}
use Rattle.half_close_relay.specs.Ways.{Way, Move, Moves, Seen, KeepsArrival, Gives, Takes, SourceRests, SinkRests, IsIdle, IsFull, Untaken, Carries, CarryEnds, ReadIsDue, source_failed, sink_failed, after_giving, after_taking}
use Rattle.half_close_relay.specs.Pumping.{Relaying, IsSilent, Serves, Relays, Rounds, RoundEnds, FailedBy}
use Rattle.half_close_relay.proofs.Sums.{later-on, rose-after, gives-nothing, takes-nothing}
use Rattle.half_close_relay.proofs.Tryings.{tried-on, tried-as}
use Rattle.half_close_relay.proofs.Carrying.{failed-after, sink-before, source-before}

abbrev pub still : Move
still = record { given = []; sent = []; ends = false; shuts = false }

pub moves-still : (way : Way) → Moves way way still
moves-still way = record {
  kept = append-nil way.waiting;
  ended' = refl;
  shut' = refl;
  took' = refl;
  sent' = refl;
  silent = λ h. (refl, refl);
  once = λ h. cc;
  due = λ h. cc;
}

arrival-taken : (old new : Told) (sent : List ℕ) (shuts : Bool) → new ≡ after_taking old sent shuts → KeepsArrival old new
arrival-taken old new sent shuts e = subst (λ (t : Told). KeepsArrival old t) (sym e) (record { behind = λ h. h; first = λ h. h })

is-silent : (move : Move) → (move.given ≡ []) × (move.ends ≡ false) → IsSilent move
is-silent move h = record { given' = h.0; ends' = h.1 }

-- what a side does that gives first and takes then, and the other way round
serves-giving : (from to : Move) (failed : Option Kind) (old mid new : Seen) → Gives from.given from.ends None old mid → Takes to.sent to.shuts failed mid new → Serves from to failed old new
serves-giving from to failed old mid new h k = record {
  told' = k.told' ∙ ap (λ (t : Told). after_taking t to.sent to.shuts) h.told';
  later = later-on _ _ _ h.later k.later;
  arrival = record { behind = λ z. (arrival-taken mid.told new.told to.sent to.shuts k.told').behind (h.arrival.behind z); first = λ z. (arrival-taken mid.told new.told to.sent to.shuts k.told').first (h.arrival.first z) };
  tried = tried-on h.tried k.tried (λ x y. is-silent from x) (λ x y. y) (λ x y. y);
}

serves-taking : (from to : Move) (failed : Option Kind) (old mid new : Seen) → Takes to.sent to.shuts None old mid → Gives from.given from.ends failed mid new → Serves from to failed old new
serves-taking from to failed old mid new h k = record {
  told' = k.told' ∙ ap (λ (t : Told). after_giving t from.given from.ends) h.told';
  later = later-on _ _ _ h.later k.later;
  arrival = record { behind = λ z. k.arrival.behind ((arrival-taken old.told mid.told to.sent to.shuts h.told').behind z); first = λ z. k.arrival.first ((arrival-taken old.told mid.told to.sent to.shuts h.told').first z) };
  tried = tried-on h.tried k.tried (λ x y. is-silent from y) (λ x y. x) (λ x y. x);
}

-- what a side does that gives alone, and one that takes alone
serves-given : (from : Move) (failed : Option Kind) (old new : Seen) → Gives from.given from.ends failed old new → Serves from still failed old new
serves-given from failed old new h = record {
  told' = takes-nothing new.told ∙ ap (λ (t : Told). after_taking t [] false) h.told';
  later = h.later;
  arrival = h.arrival;
  tried = tried-as h.tried (is-silent from) (λ x. refl) (λ x. refl);
}

serves-taken : (to : Move) (failed : Option Kind) (old new : Seen) → Takes to.sent to.shuts failed old new → Serves still to failed old new
serves-taken to failed old new h = record {
  told' = h.told' ∙ ap (λ (t : Told). after_taking t to.sent to.shuts) (gives-nothing old.told);
  later = h.later;
  arrival = arrival-taken old.told new.told to.sent to.shuts h.told';
  tried = tried-as h.tried (λ x. is-silent still (refl, refl)) (λ x. x) (λ x. x);
}

-- the link that rests as a source rests while it takes bytes, and the other way round
source-taking : (left : ℕ) (way : Way) (old mid new : Seen) (sent : List ℕ) (shuts : Bool) (failed : Option Kind) → SourceRests left way old mid → Takes sent shuts failed mid new → SourceRests left way old new
source-taking left way old mid new sent shuts failed h k = record {
  idle = λ e some. (subst IsIdle (sym k.told') (h.idle e some).0, rose-after _ _ _ (h.idle e some).1 k.later.idle_reads, (h.idle e some).2);
}

sink-giving : (way : Way) (old mid new : Seen) (given : List ℕ) (ends : Bool) (failed : Option Kind) → SinkRests way old mid → Gives given ends failed mid new → SinkRests way old new
sink-giving way old mid new given ends failed h k = record {
  full = λ some. (subst IsFull (sym k.told') (h.full some).0, rose-after _ _ _ (h.full some).1 k.later.idle_writes, (h.full some).2);
  due = h.due;
}

not-both : (shut : Bool) → shut ≡ false → ((shut ≡ true) → ⊥)
not-both true e h = cc
not-both false e h = cc

unshut : (left : ℕ) (was now : Way) (given : List ℕ) → Untaken left was now given → now.shut ≡ false
unshut left was now given h = ap (λ (w : Way). w.shut) h.same ∙ h.unshut

-- a read that halted its direction was due, and is
pub read-due : (left : ℕ) (was now : Way) (given : List ℕ) → Untaken left was now given → ReadIsDue (left - length given) now
read-due left was now given h = record { unended = ap (λ (w : Way). w.ended) h.same ∙ h.unended; some = omega (arith, h.some, ap length h.nothing) }

-- the client's direction halted
pub rounds-up : (left_c left_t : ℕ) (was : Relaying) (up : Way) (client client' target target' : Seen) (halt : Halt) (answer : Pumped) → answer ≡ answer_of Side.Client Side.Target halt
    → Carries left_c was.up up client client' target target' (Err halt) → Rounds left_c left_t was (record { up = up; down = was.down }) client client' target target' (Err answer)
rounds-up left_c left_t was up client client' target target' halt answer is h = record {
  up = h.move;
  down = still;
  failed_c = source_failed (Err halt);
  failed_t = sink_failed {A = ℕ} up (Err halt);
  relays = record {
    moves_up = h.moves;
    moves_down = moves-still was.down;
    client_serves = serves-given h.move (source_failed (Err halt)) client client' h.gives;
    target_serves = serves-taken h.move (sink_failed {A = ℕ} up (Err halt)) target target' h.takes;
  };
  within_c = h.within;
  within_t = omega arith;
  early_c = h.early;
  early_t = λ e. cc;
  why = subst (λ (z : Pumped). RoundEnds left_c left_t was (record { up = up; down = was.down }) client client' target target' h.move.given [] (Err z)) (sym is) (ends halt h.why);
  fails = subst (λ (z : Pumped). FailedBy (left_c - length h.move.given) (left_t - 0) (record { up = up; down = was.down }) (source_failed (Err halt)) (sink_failed {A = ℕ} up (Err halt)) z) (sym is) (fails halt h.why);
}
  where
    fails : (halt : Halt) → CarryEnds left_c was.up up client client' target target' h.move.given (Err halt)
        → FailedBy (left_c - length h.move.given) (left_t - 0) (record { up = up; down = was.down }) (source_failed (Err halt)) (sink_failed {A = ℕ} up (Err halt)) (answer_of Side.Client Side.Target halt)
    fails Halt.Source z = (inl (refl, read-due _ _ _ _ z.1), refl)
    fails Halt.Sink z = (refl, inr (refl, z.1))
    fails Halt.Memory z = (refl, refl)

    ends : (halt : Halt) → CarryEnds left_c was.up up client client' target target' h.move.given (Err halt)
        → RoundEnds left_c left_t was (record { up = up; down = was.down }) client client' target target' h.move.given [] (Err (answer_of Side.Client Side.Target halt))
    ends Halt.Source z = (z.0, λ both. not-both up.shut (unshut _ _ _ _ z.1) both.0, inl (z.1, refl, z.2))
    ends Halt.Sink z = (z.0, λ both. not-both up.shut z.1.unshut both.0, inl z.1, refl)
    ends Halt.Memory z = (λ both. not-both up.shut (unshut _ _ _ _ z.0) both.0, inl z, refl)

relays-both : (left_c left_t n : ℕ) (was : Relaying) (up down : Way) (client mid_c client' target mid_t target' : Seen) (second : Result ℕ Halt)
    → (h : Carries left_c was.up up client mid_c target mid_t (Ok n)) → (k : Carries left_t was.down down mid_t target' mid_c client' second)
    → Relays was (record { up = up; down = down }) client client' target target' h.move k.move (sink_failed down second) (source_failed second)
relays-both left_c left_t n was up down client mid_c client' target mid_t target' second h k = record {
  moves_up = h.moves;
  moves_down = k.moves;
  client_serves = serves-giving h.move k.move (sink_failed down second) client mid_c client' h.gives k.takes;
  target_serves = serves-taking k.move h.move (source_failed second) target mid_t target' h.takes k.gives;
}

-- the target's direction halted
pub rounds-down : (left_c left_t n : ℕ) (was : Relaying) (up down : Way) (client mid_c client' target mid_t target' : Seen) (halt : Halt) (answer : Pumped) → answer ≡ answer_of Side.Target Side.Client halt
    → Carries left_c was.up up client mid_c target mid_t (Ok n) → Carries left_t was.down down mid_t target' mid_c client' (Err halt)
    → Rounds left_c left_t was (record { up = up; down = down }) client client' target target' (Err answer)
rounds-down left_c left_t n was up down client mid_c client' target mid_t target' halt answer is h k = record {
  up = h.move;
  down = k.move;
  failed_c = sink_failed {A = ℕ} down (Err halt);
  failed_t = source_failed (Err halt);
  relays = relays-both left_c left_t n was up down client mid_c client' target mid_t target' (Err halt) h k;
  within_c = h.within;
  within_t = k.within;
  early_c = h.early;
  early_t = k.early;
  why = subst (λ (z : Pumped). RoundEnds left_c left_t was (record { up = up; down = down }) client client' target target' h.move.given k.move.given (Err z)) (sym is) (ends halt k.why);
  fails = subst (λ (z : Pumped). FailedBy (left_c - length h.move.given) (left_t - length k.move.given) (record { up = up; down = down }) (sink_failed {A = ℕ} down (Err halt)) (source_failed (Err halt)) z) (sym is) (fails halt k.why);
}
  where
    fails : (halt : Halt) → CarryEnds left_t was.down down mid_t target' mid_c client' k.move.given (Err halt)
        → FailedBy (left_c - length h.move.given) (left_t - length k.move.given) (record { up = up; down = down }) (sink_failed {A = ℕ} down (Err halt)) (source_failed (Err halt)) (answer_of Side.Target Side.Client halt)
    fails Halt.Source z = (refl, inl (refl, read-due _ _ _ _ z.1))
    fails Halt.Sink z = (inr (refl, z.1), refl)
    fails Halt.Memory z = (refl, refl)

    ends : (halt : Halt) → CarryEnds left_t was.down down mid_t target' mid_c client' k.move.given (Err halt)
        → RoundEnds left_c left_t was (record { up = up; down = down }) client client' target target' h.move.given k.move.given (Err (answer_of Side.Target Side.Client halt))
    ends Halt.Source z = (failed-after target mid_t target' h.takes.later (ap (λ (t : Told). t.unfailing) h.takes.told') z.0, λ both. not-both down.shut (unshut _ _ _ _ z.1) both.1, inr z.1, z.1.same)
    ends Halt.Sink z = (failed-after client mid_c client' h.gives.later (ap (λ (t : Told). t.unfailing) h.gives.told') z.0, λ both. not-both down.shut z.1.unshut both.1, inr z.1)
    ends Halt.Memory z = (λ both. not-both down.shut (unshut _ _ _ _ z.0) both.1, inr z.0, z.0.same)

-- both directions were carried
pub rounds-both : (left_c left_t n m : ℕ) (was : Relaying) (up down : Way) (client mid_c client' target mid_t target' : Seen)
    → Carries left_c was.up up client mid_c target mid_t (Ok n) → Carries left_t was.down down mid_t target' mid_c client' (Ok m)
    → Rounds left_c left_t was (record { up = up; down = down }) client client' target target' (Ok (record { client = n; target = m }))
rounds-both left_c left_t n m was up down client mid_c client' target mid_t target' h k = record {
  up = h.move;
  down = k.move;
  failed_c = None;
  failed_t = None;
  relays = relays-both left_c left_t n was up down client mid_c client' target mid_t target' (Ok m) h k;
  within_c = h.within;
  within_t = k.within;
  early_c = h.early;
  early_t = k.early;
  why = (
    h.why.0,
    k.why.0,
    λ none none'. record {
      client_read = source-taking left_c up client mid_c client' k.move.sent k.move.shuts None (h.why.1 none) k.takes;
      target_written = sink-giving up target mid_t target' k.move.given k.move.ends None h.why.2 k.gives;
      target_read = source-before left_t down target mid_t target' h.takes.later h.takes.tried (k.why.1 none');
      client_written = sink-before down client mid_c client' h.gives.later h.gives.tried k.why.2;
    },
  );
  fails = (refl, refl);
}
