-- The list with one configuration more.
use Rattle.std.proofs.Common.{◌≡◌, ℕ, ◌+◌, ◌-◌, ◌<◌, List, [], ◌∷◌, ◌++◌, All, length, slice_get, Some, sym, ap, subst, arith, length-append, Result, Ok, OnOk}
use Rattle.conf_types.specs.declared.entries.Entries.{Entries}
use Rattle.generation.specs.declared.snap.Snap.{Snap}
use Rattle.published.specs.Lists.{IsAt}
use Rattle.published.specs.Shares.{IsShareOf}
use Rattle.published.proofs.ListFacts.{last_of}

-- its length, and the number of the last
pub counted : (l m : List Entries) (config : Entries) (n : ℕ) → m ≡ l ++ config ∷ [] → n ≡ length l → (n + 1 ≡ length m) × (0 < n + 1)
counted l m config n is size = let more = length-append l (config ∷ []) in let same : length m ≡ length (l ++ config ∷ []) = ap length is in (omega arith, omega arith)

pub last_at : (l m : List Entries) (config : Entries) → m ≡ l ++ config ∷ [] → IsAt m (length m) config
last_at l m config is = let more = length-append l (config ∷ []) in let same : length m ≡ length (l ++ config ∷ []) = ap length is in
    let place : length l ≡ length m - 1 = omega arith in
    (omega arith, omega arith, subst (λ (k : ℕ). slice_get m k ≡ Some config) place (subst (λ (x : List Entries). slice_get x (length l) ≡ Some config) (sym is) (last_of l config)))

-- shares of a number and a configuration are shares of equal ones
pub shares_same : (n m : ℕ) (a b : Entries) (shares : List Snap) → n ≡ m → a ≡ b → All (IsShareOf n a) shares → All (IsShareOf m b) shares
shares_same n m a b shares number config each = subst (λ (k : ℕ). All (IsShareOf k b) shares) number (subst (λ (x : Entries). All (IsShareOf n x) shares) config each)

pub from_ok : {E X : Type 0} (r : Result (Unit {0}) E) (u : Unit {0}) → r ≡ Ok u → OnOk r X → X
from_ok {X = X} r u is h = subst (λ s. OnOk s X) is h
