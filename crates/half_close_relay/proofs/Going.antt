-- How rounds add up to a call.
use Rattle.std.proofs.Common.{◌≡◌, ◌+◌, ◌-◌, ◌<◌, ◌≤◌, ◌⊎◌, inl, inr, ℕ, Bool, true, false, ◌||◌, Result, Ok, Err, List, [], ◌∷◌, ◌++◌, length, refl, ap, sym, ◌∙◌, append_assoc, length-append, Option, None, subst, arith}
use Rattle.net_ends.specs.Told.{Told}
use Rattle.net_ends.specs.declared.kinds.Kind.{Kind}
use Rattle.half_close_relay.specs.declared.per_side.PerSide.{PerSide}
use Rattle.half_close_relay.specs.declared.pumped.Pumped.{Pumped}
use Rattle.half_close_relay.specs.declared.pumped.Side.{Side}
use Rattle.half_close_relay.specs.Ways.{Way, Move, Moves, Seen, total, after_giving, after_taking, Untaken}
use Rattle.half_close_relay.specs.Pumping.{Relaying, Serves, Relays, AtRest, Rounds, RoundEnds, BothShut, Pumps, PumpEnds, Flushes, FlushEnds, FailedBy, IsSilent, quantum}
use Rattle.half_close_relay.proofs.Sums.{more-nil, more-more, or-or, later-same, later-on, keeps-same, keeps-on, total-total}
use Rattle.half_close_relay.proofs.Carrying.{failed-after, sink-before, source-before}
use Rattle.half_close_relay.proofs.Rounding.{still, moves-still, read-due}
use Rattle.half_close_relay.proofs.Tryings.{tried-none, tried-on, nil-on, neither-one}

-- one move behind another
abbrev pub join : Move → Move → Move
join a b = record { given = a.given ++ b.given; sent = a.sent ++ b.sent; ends = b.ends || a.ends; shuts = b.shuts || a.shuts }

nil-behind : (xs ys : List ℕ) → xs ++ ys ≡ [] → ys ≡ []
nil-behind [] ys e = e
nil-behind (x ∷ xs) ys e = cc

once-only : (s t u : Bool) → (t ≡ true → (s || u) ≡ false) → (s ≡ true → u ≡ false) → (t || s) ≡ true → u ≡ false
once-only true true u h k e = k refl
once-only true false u h k e = k refl
once-only false true u h k e = h refl
once-only false false u h k e = cc

pub moves-on : (a b c : Way) (m n : Move) → Moves a b m → Moves b c n → Moves a c (join m n)
moves-on a b c m n h k = record {
  kept = sym (append_assoc a.waiting m.given n.given) ∙ (ap (λ (z : List ℕ). z ++ n.given) h.kept ∙ (append_assoc m.sent b.waiting n.given
      ∙ (ap (λ (z : List ℕ). m.sent ++ z) k.kept ∙ sym (append_assoc m.sent n.sent c.waiting))));
  ended' = k.ended' ∙ (ap (λ z. n.ends || z) h.ended' ∙ or-or n.ends m.ends a.ended);
  shut' = k.shut' ∙ (ap (λ z. n.shuts || z) h.shut' ∙ or-or n.shuts m.shuts a.shut);
  took' = k.took' ∙ (ap (λ z. total z (length n.given)) h.took' ∙ (total-total a.took (length m.given) (length n.given) ∙ ap (total a.took) (sym (length-append m.given n.given))));
  sent' = k.sent' ∙ (ap (λ z. total z (length n.sent)) h.sent' ∙ (total-total a.sent (length m.sent) (length n.sent) ∙ ap (total a.sent) (sym (length-append m.sent n.sent))));
  silent = λ e. quiet (h.silent e) (k.silent (h.ended' ∙ (ap (λ z. z || a.ended) (h.silent e).1 ∙ e)));
  once = once-only m.shuts n.shuts a.shut (λ e. sym h.shut' ∙ k.once e) h.once;
  due = due n.shuts m.shuts k.due h.due;
}
  where
    quiet : (m.given ≡ []) × (m.ends ≡ false) → (n.given ≡ []) × (n.ends ≡ false) → (m.given ++ n.given ≡ []) × ((n.ends || m.ends) ≡ false)
    quiet x y = (ap (λ (z : List ℕ). z ++ n.given) x.0 ∙ y.0, ap (λ z. z || m.ends) y.1 ∙ x.1)

    behind : (b.ended ≡ true) × (b.waiting ≡ []) → (c.ended ≡ true) × (c.waiting ≡ [])
    behind x = (
      k.ended' ∙ (ap (λ z. z || b.ended) (k.silent x.0).1 ∙ x.0),
      nil-behind n.sent c.waiting (sym k.kept ∙ (ap (λ (z : List ℕ). z ++ n.given) x.1 ∙ (k.silent x.0).0)),
    )

    due : (t s : Bool) → (t ≡ true → (c.ended ≡ true) × (c.waiting ≡ [])) → (s ≡ true → (b.ended ≡ true) × (b.waiting ≡ [])) → (t || s) ≡ true → (c.ended ≡ true) × (c.waiting ≡ [])
    due true s x y e = x refl
    due false true x y e = behind (y refl)
    due false false x y e = absurd (cc)

pub serves-still : (s : Seen) → Serves still still None s s
serves-still s = record {
  told' = λ i. record (s.told) { given = sym (more-nil s.told.given) i; taken = sym (more-nil s.told.taken) i };
  later = later-same s.counts;
  arrival = keeps-same s.told;
  tried = tried-none s.counts (record { given' = refl; ends' = refl }) refl refl;
}

silent-on : (f g : Move) → IsSilent f → IsSilent g → IsSilent (join f g)
silent-on f g h k = record { given' = nil-on f.given g.given h.given' k.given'; ends' = neither-one f.ends g.ends h.ends' k.ends' }

pub serves-on : (f t g u : Move) (failed : Option Kind) (a b c : Seen) → Serves f t None a b → Serves g u failed b c → Serves (join f g) (join t u) failed a c
serves-on f t g u failed a b c h k = record {
  told' = k.told' ∙ (ap (λ (z : Told). after_taking (after_giving z g.given g.ends) u.sent u.shuts) h.told'
      ∙ (λ i. record (a.told) { given = more-more a.told.given f.given g.given i; ended = or-or g.ends f.ends a.told.ended i; taken = more-more a.told.taken t.sent u.sent i; shut = or-or u.shuts t.shuts a.told.shut i }));
  later = later-on _ _ _ h.later k.later;
  arrival = keeps-on a.told b.told c.told h.arrival k.arrival;
  tried = tried-on h.tried k.tried (silent-on f g) (nil-on t.sent u.sent) (neither-one t.shuts u.shuts);
}

-- rounds one behind another, in none of which but the last a call failed; so many bytes may still be taken of each side
pub record Rounded (taken left_c left_t : ℕ) (was now : Relaying) (client client' target target' : Seen) (failed_c failed_t : Option Kind) : Type 0 where
  pub up : Move
  pub down : Move
  pub relays : Relays was now client client' target target' up down failed_c failed_t
  pub quantum_c : length up.given + left_c ≡ quantum
  pub quantum_t : taken + length down.given + left_t ≡ quantum
  pub early_c : up.ends ≡ true → 0 < left_c
  pub early_t : down.ends ≡ true → 0 < left_t

-- rounds so far, in none of which a call failed
abbrev pub SoFar : ℕ → ℕ → ℕ → Relaying → Relaying → Seen → Seen → Seen → Seen → Type 0
SoFar taken left_c left_t was now client client' target target' = Rounded taken left_c left_t was now client client' target target' None None

pub starts : (taken left : ℕ) (was : Relaying) (client target : Seen) → taken + left ≡ quantum → SoFar taken quantum left was was client client target target
starts taken left was client target e = record {
  up = still;
  down = still;
  relays = record { moves_up = moves-still was.up; moves_down = moves-still was.down; client_serves = serves-still client; target_serves = serves-still target };
  quantum_c = refl;
  quantum_t = omega (arith, e);
  early_c = λ h. cc;
  early_t = λ h. cc;
}

relays-on : (a b c : Relaying) (client client' client'' target target' target'' : Seen) (up down up' down' : Move) (failed_c failed_t : Option Kind)
    → Relays a b client client' target target' up down None None → Relays b c client' client'' target' target'' up' down' failed_c failed_t
    → Relays a c client client'' target target'' (join up up') (join down down') failed_c failed_t
relays-on a b c client client' client'' target target' target'' up down up' down' failed_c failed_t h k = record {
  moves_up = moves-on a.up b.up c.up up up' h.moves_up k.moves_up;
  moves_down = moves-on a.down b.down c.down down down' h.moves_down k.moves_down;
  client_serves = serves-on up down up' down' failed_c client client' client'' h.client_serves k.client_serves;
  target_serves = serves-on down up down' up' failed_t target target' target'' h.target_serves k.target_serves;
}

-- an end was read only where bytes could be, also where it was read before
early-on : (a b c : Way) (m n : Move) (left next : ℕ) → Moves a b m → Moves b c n → next + length n.given ≡ left → (m.ends ≡ true → 0 < left) → (n.ends ≡ true → length n.given < left)
    → (n.ends || m.ends) ≡ true → 0 < next
early-on a b c m n left next h k e before now = cases n.ends m.ends now ended
  where
    ended : m.ends ≡ true → 0 < next
    ended x = omega (arith, e, before x, ap length (k.silent (h.ended' ∙ ap (λ z. z || a.ended) x)).0)

    cases : (s t : Bool) → (s ≡ true → length n.given < left) → (t ≡ true → 0 < next) → (s || t) ≡ true → 0 < next
    cases true t x y z = omega (arith, e, x refl)
    cases false true x y z = y refl
    cases false false x y z = absurd (cc)

pub goes-on : (taken left_c left_t next_c next_t : ℕ) (a b c : Relaying) (client client' client'' target target' target'' : Seen) (outcome : Result PerSide Pumped) → SoFar taken left_c left_t a b client client' target target'
    → (k : Rounds left_c left_t b c client' client'' target' target'' outcome) → next_c + length k.up.given ≡ left_c → next_t + length k.down.given ≡ left_t
    → Rounded taken next_c next_t a c client client'' target target'' k.failed_c k.failed_t
goes-on taken left_c left_t next_c next_t a b c client client' client'' target target' target'' outcome h k e f = record {
  up = join h.up k.up;
  down = join h.down k.down;
  relays = relays-on a b c client client' client'' target target' target'' h.up h.down k.up k.down k.failed_c k.failed_t h.relays k.relays;
  quantum_c = omega (arith, h.quantum_c, e, length-append h.up.given k.up.given);
  quantum_t = omega (arith, h.quantum_t, f, length-append h.down.given k.down.given);
  early_c = early-on a.up b.up c.up h.up k.up left_c next_c h.relays.moves_up k.relays.moves_up e h.early_c k.early_c;
  early_t = early-on a.down b.down c.down h.down k.down left_t next_t h.relays.moves_down k.relays.moves_down f h.early_t k.early_t;
}

pumps : (taken left_c left_t : ℕ) (was now : Relaying) (client client' target target' : Seen) (answer : Pumped) (failed_c failed_t : Option Kind) → Rounded taken left_c left_t was now client client' target target' failed_c failed_t
    → PumpEnds left_c left_t now client client' target target' answer → FailedBy left_c left_t now failed_c failed_t answer → Pumps taken was now client client' target target' answer
pumps taken left_c left_t was now client client' target target' answer failed_c failed_t h why fails = record {
  up = h.up;
  down = h.down;
  failed_c = failed_c;
  failed_t = failed_t;
  relays = h.relays;
  left_c = left_c;
  left_t = left_t;
  quantum_c = h.quantum_c;
  quantum_t = h.quantum_t;
  early_c = h.early_c;
  early_t = h.early_t;
  why = why;
  fails = fails;
}

same-unfailing : (f t : Move) (failed : Option Kind) (a b : Seen) → Serves f t failed a b → b.told.unfailing ≡ a.told.unfailing
same-unfailing f t failed a b h = ap (λ (z : Told). z.unfailing) h.told'

of-either : {A B C D : Type 0} → (A → C) → (B → D) → A ⊎ B → C ⊎ D
of-either f g (inl x) = inl (f x)
of-either f g (inr x) = inr (g x)

-- a round halted
pub halts : (taken left_c left_t : ℕ) (a b c : Relaying) (client client' client'' target target' target'' : Seen) (answer : Pumped) → SoFar taken left_c left_t a b client client' target target'
    → Rounds left_c left_t b c client' client'' target' target'' (Err answer) → Pumps taken a c client client'' target target'' answer
halts taken left_c left_t a b c client client' client'' target target' target'' answer h k =
    pumps taken (left_c - length k.up.given) (left_t - length k.down.given) a c client client'' target target'' answer k.failed_c k.failed_t
    (goes-on taken left_c left_t (left_c - length k.up.given) (left_t - length k.down.given) a b c client client' client'' target target' target'' (Err answer) h k (omega (arith, k.within_c)) (omega (arith, k.within_t))) (ends answer k.why) k.fails
  where
    ends : (answer : Pumped) → RoundEnds left_c left_t b c client' client'' target' target'' k.up.given k.down.given (Err answer)
        → PumpEnds (left_c - length k.up.given) (left_t - length k.down.given) c client client'' target target'' answer
    ends Pumped.Moved z = absurd z
    ends Pumped.Idle z = absurd z
    ends Pumped.Ended z = absurd z
    ends (Pumped.Fault Side.Client) z = failed-after client client' client'' h.relays.client_serves.later (same-unfailing h.up h.down None client client' h.relays.client_serves) z.0
    ends (Pumped.Fault Side.Target) z = failed-after target target' target'' h.relays.target_serves.later (same-unfailing h.down h.up None target target' h.relays.target_serves) z.0
    ends Pumped.Memory z = of-either (λ x. read-due _ _ _ _ x.0) (λ x. read-due _ _ _ _ x) z.1

-- behind a round in which no call failed
unfailed : (left_c left_t : ℕ) (now : Relaying) (failed_c failed_t : Option Kind) (answer : Pumped) → (failed_c ≡ None) × (failed_t ≡ None) → FailedBy left_c left_t now None None answer → FailedBy left_c left_t now failed_c failed_t answer
unfailed left_c left_t now failed_c failed_t answer e h =
    subst (λ (z : Option Kind). FailedBy left_c left_t now z failed_t answer) (sym e.0) (subst (λ (z : Option Kind). FailedBy left_c left_t now None z answer) (sym e.1) h)

-- the last round took nothing
pub rests : (taken left_c left_t : ℕ) (a b c : Relaying) (client client' client'' target target' target'' : Seen) (took : PerSide) (answer : Pumped) → SoFar taken left_c left_t a b client client' target target'
    → Rounds left_c left_t b c client' client'' target' target'' (Ok took) → took.client ≡ 0 → took.target ≡ 0
    → (AtRest left_c left_t c client client'' target target'' → PumpEnds left_c left_t c client client'' target target'' answer) → FailedBy left_c left_t c None None answer → Pumps taken a c client client'' target target'' answer
rests taken left_c left_t a b c client client' client'' target target' target'' took answer h k none none' why fails = pumps taken left_c left_t a c client client'' target target'' answer k.failed_c k.failed_t
    (goes-on taken left_c left_t left_c left_t a b c client client' client'' target target' target'' (Ok took) h k (omega (arith, k.why.0, none)) (omega (arith, k.why.1, none'))) (why (record {
      client_read = source-before left_c c.up client client' client'' h.relays.client_serves.later h.relays.client_serves.tried (at none none').client_read;
      target_written = sink-before c.up target target' target'' h.relays.target_serves.later h.relays.target_serves.tried (at none none').target_written;
      target_read = source-before left_t c.down target target' target'' h.relays.target_serves.later h.relays.target_serves.tried (at none none').target_read;
      client_written = sink-before c.down client client' client'' h.relays.client_serves.later h.relays.client_serves.tried (at none none').client_written;
    })) (unfailed left_c left_t c k.failed_c k.failed_t answer k.fails fails)
  where
    at : took.client ≡ 0 → took.target ≡ 0 → AtRest left_c left_t c client' client'' target' target''
    at = k.why.2

-- nothing may be taken
none-given : (xs : List ℕ) → length xs ≤ 0 → xs ≡ []
none-given [] h = refl
none-given (x ∷ xs) h = absurd (omega (arith, h))

so-far : (taken left_c left_t : ℕ) (was now : Relaying) (client client' target target' : Seen) (failed_c failed_t : Option Kind) → (failed_c ≡ None) × (failed_t ≡ None) → Rounded taken left_c left_t was now client client' target target' failed_c failed_t
    → SoFar taken left_c left_t was now client client' target target'
so-far taken left_c left_t was now client client' target target' failed_c failed_t e h =
    subst (λ (z : Option Kind). Rounded taken left_c left_t was now client client' target target' None z) e.1 (subst (λ (z : Option Kind). Rounded taken left_c left_t was now client client' target target' z failed_t) e.0 h)

-- the next round may take what the last left
pub leaves : (taken left_c left_t : ℕ) (a b c : Relaying) (client client' client'' target target' target'' : Seen) (took : PerSide) → SoFar taken left_c left_t a b client client' target target'
    → Rounds left_c left_t b c client' client'' target' target'' (Ok took) → SoFar taken (left_c - took.client) (left_t - took.target) a c client client'' target target''
leaves taken left_c left_t a b c client client' client'' target target' target'' took h k =
    so-far _ _ _ _ _ _ _ _ _ _ _ k.fails (goes-on taken left_c left_t (left_c - took.client) (left_t - took.target) a b c client client' client'' target target' target'' (Ok took) h k
    (omega (arith, k.why.0, k.within_c)) (omega (arith, k.why.1, k.within_t)))

-- and then less is left
pub falls : (left_c left_t : ℕ) (was now : Relaying) (client client' target target' : Seen) (took : PerSide) → Rounds left_c left_t was now client client' target target' (Ok took)
    → ((took.client ≡ 0) × (took.target ≡ 0 → ⊥)) ⊎ (took.client ≡ 0 → ⊥) → (left_c - took.client) + (left_t - took.target) < left_c + left_t
falls left_c left_t was now client client' target target' took h some = less took.client took.target (omega (arith, h.why.0, h.within_c)) (omega (arith, h.why.1, h.within_t)) some
  where
    less : (n m : ℕ) → n ≤ left_c → m ≤ left_t → ((n ≡ 0) × (m ≡ 0 → ⊥)) ⊎ (n ≡ 0 → ⊥) → (left_c - n) + (left_t - m) < left_c + left_t
    less n m x y (inl z) = omega (arith, z.0, z.1)
    less n m x y (inr z) = omega (arith, z)

pub either : {A B C : Type 0} → A ⊎ (B × C) → A ⊎ C
either (inl x) = inl x
either (inr x) = inr x.1

silent : (m : Move) → length m.given ≤ 0 → (m.ends ≡ true → length m.given < 0) → IsSilent m
silent m h early = record { given' = none-given m.given h; ends' = unended m.ends early }
  where
    unended : (b : Bool) → (b ≡ true → length m.given < 0) → b ≡ false
    unended true x = absurd (omega (arith, x refl))
    unended false x = refl

flushes : (was now : Relaying) (client client' target target' : Seen) (outcome : Result PerSide Pumped) (answer : Pumped) → (h : Rounds 0 0 was now client client' target target' outcome)
    → FlushEnds now client client' target target' answer → FailedBy 0 0 now h.failed_c h.failed_t answer → Flushes was now client client' target target' answer
flushes was now client client' target target' outcome answer h why fails = record {
  up = h.up;
  down = h.down;
  failed_c = h.failed_c;
  failed_t = h.failed_t;
  relays = h.relays;
  silent_up = silent h.up h.within_c h.early_c;
  silent_down = silent h.down h.within_t h.early_t;
  why = why;
  fails = fails;
}

none-left : (n m : ℕ) (now : Relaying) (failed_c failed_t : Option Kind) (answer : Pumped) → FailedBy (0 - n) (0 - m) now failed_c failed_t answer → FailedBy 0 0 now failed_c failed_t answer
none-left n m now failed_c failed_t answer h = subst (λ (k : ℕ). FailedBy k 0 now failed_c failed_t answer) (empty n) (subst (λ (k : ℕ). FailedBy (0 - n) k now failed_c failed_t answer) (empty m) h)
  where
    empty : (n : ℕ) → 0 - n ≡ 0
    empty n = omega arith

never : (was now : Way) (given : List ℕ) → Untaken 0 was now given → ⊥
never was now given h = omega (arith, h.some)

of-one : {A B : Type 0} → (B → ⊥) → A ⊎ B → A
of-one none (inl x) = x
of-one none (inr x) = absurd (none x)

pub flush-halts : (was now : Relaying) (client client' target target' : Seen) (answer : Pumped) → Rounds 0 0 was now client client' target target' (Err answer) → Flushes was now client client' target target' answer
flush-halts was now client client' target target' answer h = flushes was now client client' target target' (Err answer) answer h (ends answer h.why) (none-left _ _ _ _ _ _ h.fails)
  where
    ends : (answer : Pumped) → RoundEnds 0 0 was now client client' target target' h.up.given h.down.given (Err answer) → FlushEnds now client client' target target' answer
    ends Pumped.Moved z = z
    ends Pumped.Idle z = absurd z
    ends Pumped.Ended z = absurd z
    ends (Pumped.Fault Side.Client) z = z.0
    ends (Pumped.Fault Side.Target) z = z.0
    ends Pumped.Memory z = never _ _ _ (of-one (λ x. never _ _ _ x) z.1).0

pub flush-rests : (was now : Relaying) (client client' target target' : Seen) (took : PerSide) (answer : Pumped) → Rounds 0 0 was now client client' target target' (Ok took)
    → (AtRest 0 0 now client client' target target' → FlushEnds now client client' target target' answer) → FailedBy 0 0 now None None answer → Flushes was now client client' target target' answer
flush-rests was now client client' target target' took answer h why fails =
    flushes was now client client' target target' (Ok took) answer h (why (h.why.2 (omega (arith, h.why.0, h.within_c)) (omega (arith, h.why.1, h.within_t)))) (unfailed 0 0 now h.failed_c h.failed_t answer h.fails fails)

-- a round that halts leaves a side that isn't shut
pub open-still : (left_c left_t : ℕ) (was now : Relaying) (client client' target target' : Seen) (answer : Pumped) → Rounds left_c left_t was now client client' target target' (Err answer)
    → ((answer ≡ Pumped.Ended) → BothShut now) × (BothShut now → answer ≡ Pumped.Ended)
open-still left_c left_t was now client client' target target' answer h = ends answer h.why
  where
    ends : (answer : Pumped) → RoundEnds left_c left_t was now client client' target target' h.up.given h.down.given (Err answer) → ((answer ≡ Pumped.Ended) → BothShut now) × (BothShut now → answer ≡ Pumped.Ended)
    ends Pumped.Moved z = absurd z
    ends Pumped.Idle z = absurd z
    ends Pumped.Ended z = absurd z
    ends (Pumped.Fault Side.Client) z = (λ e. absurd (cc), λ both. absurd (z.1 both))
    ends (Pumped.Fault Side.Target) z = (λ e. absurd (cc), λ both. absurd (z.1 both))
    ends Pumped.Memory z = (λ e. absurd (cc), λ both. absurd (z.0 both))
