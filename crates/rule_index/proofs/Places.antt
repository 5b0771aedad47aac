-- What stands at a place of a list.
use Rattle.std.proofs.Common.{ℕ, zero, suc, ◌≡◌, ◌≢◌, ◌⊎◌, inl, inr, Some, List, [], ◌∷◌, set, refl, sym, ap, ◌∙◌, arith}
use Rattle.std.proofs.lemmas.Option.{none-some, same_Some}
use Rattle.std.specs.List.{slice_get}

-- one item alone stands at a place
pub one_at : {A : Type 0} (xs : List A) (k : ℕ) (a b : A) → slice_get xs k ≡ Some a → slice_get xs k ≡ Some b → a ≡ b
one_at xs k a b at_a at_b = same_Some a b (sym at_a ∙ at_b)

shifted : (xs : List ℕ) (i v k x : ℕ) → ((k ≡ i) × (x ≡ v)) ⊎ ((k ≢ i) × (slice_get xs k ≡ Some x))
    → ((suc k ≡ suc i) × (x ≡ v)) ⊎ ((suc k ≢ suc i) × (slice_get xs k ≡ Some x))
shifted xs i v k x (inl same) = inl (ap suc same.0, same.1)
shifted xs i v k x (inr other) = inr ((λ e. other.0 (omega arith)), other.1)

-- what stands at a place after one was written: what was written, or what stood there
pub after_set : (xs : List ℕ) (i v k x : ℕ) → slice_get (set xs i v) k ≡ Some x → ((k ≡ i) × (x ≡ v)) ⊎ ((k ≢ i) × (slice_get xs k ≡ Some x))
after_set [] i v k x h = absurd (none-some x h)
after_set (y ∷ ys) zero v zero x h = inl (refl, sym (same_Some v x h))
after_set (y ∷ ys) zero v (suc k) x h = inr ((λ e. omega arith), h)
after_set (y ∷ ys) (suc i) v zero x h = inr ((λ e. omega arith), h)
after_set (y ∷ ys) (suc i) v (suc k) x h = shifted ys i v k x (after_set ys i v k x h)
