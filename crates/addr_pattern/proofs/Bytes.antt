-- Texts all of whose bytes pass a test.
use Rattle.std.proofs.Common.{ℕ, ◌≡◌, Bool, true, false, ◌==◌, ◌||◌, List, [], ◌∷◌, ◌++◌, sym, ap, ◌∙◌, refl, arith}
use Rattle.std.specs.List.{list_any, list_all}
use Rattle.std.proofs.lemmas.Bool.{and_from, and_parts, or_right, false≢true}
use Rattle.std.proofs.lemmas.Bool.Decides.{nat_tests}
use Rattle.addr_pattern.specs.Cuts.{Lacks}

pub all-cons : (p : ℕ → Bool) (x : ℕ) (xs : List ℕ) → p x ≡ true → list_all p xs ≡ true → list_all p (x ∷ xs) ≡ true
all-cons p x xs h k = and_from (p x) (list_all p xs) h k

pub all-append : (p : ℕ → Bool) (xs ys : List ℕ) → list_all p xs ≡ true → list_all p ys ≡ true → list_all p (xs ++ ys) ≡ true
all-append p [] ys h k = k
all-append p (x ∷ xs) ys h k =
    let both = and_parts (p x) (list_all p xs) h in
    all-cons p x (xs ++ ys) both.0 (all-append p xs ys both.1 k)

-- what passes a test passes a wider one
pub all-wider : (p q : ℕ → Bool) → ((x : ℕ) → p x ≡ true → q x ≡ true) → (xs : List ℕ) → list_all p xs ≡ true → list_all q xs ≡ true
all-wider p q wider [] h = refl
all-wider p q wider (x ∷ xs) h =
    let both = and_parts (p x) (list_all p xs) h in
    all-cons q x xs (wider x both.0) (all-wider p q wider xs both.1)

pub lacks-all : (p : ℕ → Bool) (at : ℕ) (xs : List ℕ) → p at ≡ false → list_all p xs ≡ true → Lacks at xs
lacks-all p at [] d h = tt
lacks-all p at (x ∷ xs) d h =
    let both = and_parts (p x) (list_all p xs) h in
    ((λ e. false≢true (sym d ∙ (ap p (sym e) ∙ both.0))), lacks-all p at xs d both.1)

pub none-lacks : (at : ℕ) (xs : List ℕ) → Lacks at xs → list_any (λ b. b == at) xs ≡ false
none-lacks at [] h = refl
none-lacks at (x ∷ xs) h =
    let ne = h.0 in
    let e : (x == at) ≡ false = grind (arith, nat_tests, ne) in
    rw e (none-lacks at xs h.1)

pub any-append_left : (p : ℕ → Bool) (xs ys : List ℕ) → list_any p xs ≡ true → list_any p (xs ++ ys) ≡ true
any-append_left p [] ys h = absurd (false≢true h)
any-append_left p (x ∷ xs) ys h = elim (p x) as (λ b. (b || list_any p xs) ≡ true → (b || list_any p (xs ++ ys)) ≡ true) [ true ↦ λ k. refl | false ↦ λ k. any-append_left p xs ys k ] h

pub any-append_right : (p : ℕ → Bool) (xs ys : List ℕ) → list_any p ys ≡ true → list_any p (xs ++ ys) ≡ true
any-append_right p [] ys h = h
any-append_right p (x ∷ xs) ys h = or_right (p x) (list_any p (xs ++ ys)) (any-append_right p xs ys h)
