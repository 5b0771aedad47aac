-- How what the first values say goes on with one value more.
use Rattle.std.proofs.Common.{ℕ, ◌≡◌, ◌<◌, ◌+◌, true, false, Bool, Some, List, drop, length, get_or, refl, add-one}
use Rattle.std.proofs.Math.Seq.{drop-cons}
use Rattle.conf_model.specs.Values.{method_fault, refusal_of}

pub fault-here : (is_one : List ℕ → Bool) (values : List (List ℕ)) (i : ℕ) (value : List ℕ) → i < length values → is_one (get_or values i value) ≡ false →
    method_fault is_one (drop i values) ≡ Some (refusal_of (get_or values i value))
fault-here is_one values i value h e = rw (drop-cons values i value h) (rw e refl)

pub fault-past : (is_one : List ℕ → Bool) (values : List (List ℕ)) (i : ℕ) (value : List ℕ) → i < length values → is_one (get_or values i value) ≡ true →
    method_fault is_one (drop i values) ≡ method_fault is_one (drop (i + 1) values)
fault-past is_one values i value h e = rw (drop-cons values i value h, add-one) (rw e refl)
