-- How calls on a link add up, of which only the last may have failed.
use Rattle.std.proofs.Common.{◌≡◌, ◌<◌, ℕ, Option, Some, None, List, [], ◌∷◌, ◌++◌, length, refl, ap, sym, subst, ◌∙◌, arith, length-append}
use Rattle.net_ends.specs.declared.kinds.Kind.{Kind}
use Rattle.net_ends.specs.Counts.{Counts, Rose}
use Rattle.net_ends.specs.Faults.{Tried}
use Rattle.net_ends.specs.Nets.{NetTold}
use Rattle.assoc_core.specs.Turns.{RoseTarget, TriedTarget}

-- no call was made
pub tried-none : {R W S : Type 0} (counts : Counts) → R → W → S → Tried counts counts R W S None
tried-none counts r w s = record {
  reads = λ due e f. r;
  writes = λ due e f. w;
  shuts = λ due e f. s;
  was_due = λ due e. tt;
  left = λ due e. e;
  faults = λ e. refl;
  rose = λ e. absurd (e refl);
}

-- behind calls of which none failed others were made
pub tried-on : {R R' R'' W W' W'' S S' S'' : Type 0} {a b c : Counts} {failed : Option Kind} → Tried a b R W S None → Tried b c R' W' S' failed → (R → R' → R'') → (W → W' → W'') → (S → S' → S'')
    → Tried a c R'' W'' S'' failed
tried-on {c = c} h k r w s = record {
  reads = λ due e f. r (h.reads due e f) (k.reads due (h.left due e) f);
  writes = λ due e f. w (h.writes due e f) (k.writes due (h.left due e) f);
  shuts = λ due e f. s (h.shuts due e f) (k.shuts due (h.left due e) f);
  was_due = λ due e. k.was_due due (h.left due e);
  left = λ due e. k.left due (h.left due e);
  faults = λ e. k.faults e ∙ h.faults refl;
  rose = λ e. subst (λ n. Rose n c.faults) (h.faults refl) (k.rose e);
}

-- the same, said otherwise
pub tried-as : {R R' W W' S S' : Type 0} {a b : Counts} {failed : Option Kind} → Tried a b R W S failed → (R → R') → (W → W') → (S → S') → Tried a b R' W' S' failed
tried-as h r w s = record {
  reads = λ due e f. r (h.reads due e f);
  writes = λ due e f. w (h.writes due e f);
  shuts = λ due e f. s (h.shuts due e f);
  was_due = h.was_due;
  left = h.left;
  faults = h.faults;
  rose = h.rose;
}

-- nothing was added
pub none-added : (before bytes : List ℕ) → before ++ bytes ≡ before → bytes ≡ []
none-added before [] e = refl
none-added before (b ∷ bytes) e = absurd (omega (arith, ap (λ (z : List ℕ). length z) e, length-append before (b ∷ bytes)))

pub added-none : (before after bytes : List ℕ) → after ≡ before ++ bytes → after ≡ before → bytes ≡ []
added-none before after bytes e f = none-added before bytes (sym e ∙ f)

-- ---- a target that isn't called

pub target-untried : {L : Type 0} (counts : L → Counts) (net : NetTold) (target : Option L) {R W S : Type 0} → R → W → S → TriedTarget counts net target target R W S None
target-untried counts net None r w s = (refl, r, w, s)
target-untried counts net (Some link) r w s = tried-none (counts link) r w s

-- the same, where the target is known by another name
pub target-same : {L : Type 0} (counts : L → Counts) (net : NetTold) (target target' : Option L) {R W S : Type 0} → target' ≡ target → R → W → S → TriedTarget counts net target target' R W S None
target-same {L} counts net target target' {R} {W} {S} e r w s = subst (λ (z : Option L). TriedTarget counts net target z R W S None) (sym e) (target-untried counts net target r w s)

-- ---- calls on the target's link, said otherwise

pub target-tried-as : {L : Type 0} (counts : L → Counts) (net : NetTold) (target target' : Option L) {R R' W W' S S' : Type 0} (failed : Option Kind) → TriedTarget counts net target target' R W S failed
    → (R → R') → (W → W') → (S → S') → TriedTarget counts net target target' R' W' S' failed
target-tried-as counts net None None failed t r w s = (t.0, r t.1, w t.2, s t.3)
target-tried-as counts net None (Some link) failed t r w s = (t.0, t.1, tried-as t.2 r w s)
target-tried-as counts net (Some link) None failed t r w s = absurd t
target-tried-as counts net (Some link) (Some link') failed t r w s = tried-as t r w s

-- ---- counts of the target's link

pub rose-target : {L : Type 0} (count : L → ℕ) {target target' : Option L} {link link' : L} → target ≡ Some link → target' ≡ Some link' → Rose (count link) (count link') → RoseTarget count target target'
rose-target {L} count {target} {target'} {link} {link'} e e' r =
    subst (λ (z : Option L). RoseTarget count z target') (sym e) (subst (λ (z : Option L). RoseTarget count (Some link) z) (sym e') r)

-- of a link that has come up
pub rose-new : {L : Type 0} (count : L → ℕ) {target target' : Option L} {link : L} (first : ℕ) → target ≡ None → target' ≡ Some link → Rose first (count link) → RoseTarget count target target'
rose-new {L} count {target} {target'} {link} first e e' r =
    subst (λ (z : Option L). RoseTarget count z target') (sym e) (subst (λ (z : Option L). RoseTarget count None z) (sym e') (some-rose first (count link) r))
  where
    some-rose : (a b : ℕ) → Rose a b → 0 < b
    some-rose a b h = omega arith
