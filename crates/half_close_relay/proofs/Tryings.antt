-- How calls on a link add up, of which only the last may have failed.
use Rattle.std.proofs.Common.{◌≡◌, ℕ, Bool, true, false, ◌||◌, Option, None, List, [], ◌++◌, refl, ap, subst, ◌∙◌}
use Rattle.net_ends.specs.declared.kinds.Kind.{Kind}
use Rattle.net_ends.specs.Counts.{Counts, Rose}
use Rattle.net_ends.specs.Faults.{Tried}
use Rattle.half_close_relay.specs.Ways.{IsUndue}

-- no call was made
pub tried-none : {R W S : Type 0} (counts : Counts) → R → W → S → Tried counts counts R W S None
tried-none counts r w s = record {
  reads = λ due e f. r;
  writes = λ due e f. w;
  shuts = λ due e f. s;
  was_due = λ due e. tt;
  left = λ due e. e;
  faults = λ e. refl;
  rose = λ e. absurd (e refl);
}

-- behind calls of which none failed others were made
pub tried-on : {R R' R'' W W' W'' S S' S'' : Type 0} {a b c : Counts} {failed : Option Kind} → Tried a b R W S None → Tried b c R' W' S' failed → (R → R' → R'') → (W → W' → W'') → (S → S' → S'')
    → Tried a c R'' W'' S'' failed
tried-on {c = c} h k r w s = record {
  reads = λ due e f. r (h.reads due e f) (k.reads due (h.left due e) f);
  writes = λ due e f. w (h.writes due e f) (k.writes due (h.left due e) f);
  shuts = λ due e f. s (h.shuts due e f) (k.shuts due (h.left due e) f);
  was_due = λ due e. k.was_due due (h.left due e);
  left = λ due e. k.left due (h.left due e);
  faults = λ e. k.faults e ∙ h.faults refl;
  rose = λ e. subst (λ n. Rose n c.faults) (h.faults refl) (k.rose e);
}

-- the same, said otherwise
pub tried-as : {R R' W W' S S' : Type 0} {a b : Counts} {failed : Option Kind} → Tried a b R W S failed → (R → R') → (W → W') → (S → S') → Tried a b R' W' S' failed
tried-as h r w s = record {
  reads = λ due e f. r (h.reads due e f);
  writes = λ due e f. w (h.writes due e f);
  shuts = λ due e f. s (h.shuts due e f);
  was_due = h.was_due;
  left = h.left;
  faults = h.faults;
  rose = h.rose;
}

-- a kind that isn't due behind calls of which none failed wasn't due before, nor is one of which a call was done
pub undue-before : {R W S : Type 0} (kind : Kind) {a b : Counts} → Tried a b R W S None → IsUndue kind b → IsUndue kind a
undue-before kind h k = λ due e. k due (h.left due e)

refused : (b : Bool) → (b ≡ true → ⊥) → b ≡ false
refused true h = absurd (h refl)
refused false h = refl

pub read-undue : {W S : Type 0} {a b : Counts} {failed : Option Kind} → Tried a b ⊥ W S failed → IsUndue Kind.Read a
read-undue h = λ due e. refused due.reads (h.reads due e)

pub write-undue : {R S : Type 0} {a b : Counts} {failed : Option Kind} → Tried a b R ⊥ S failed → IsUndue Kind.Write a
write-undue h = λ due e. refused due.writes (h.writes due e)

-- nothing was added to nothing
pub nil-on : (xs ys : List ℕ) → xs ≡ [] → ys ≡ [] → xs ++ ys ≡ []
nil-on xs ys e f = ap (λ (z : List ℕ). z ++ ys) e ∙ f

pub neither-one : (a b : Bool) → a ≡ false → b ≡ false → (b || a) ≡ false
neither-one a b e f = ap (λ z. z || a) f ∙ e
