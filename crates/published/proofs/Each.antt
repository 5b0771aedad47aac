-- What holds of each item of a list.
use Rattle.std.proofs.Common.{◌≡◌, ℕ, zero, suc, ◌+◌, List, [], ◌∷◌, ◌++◌, All, length, length-append, sym, ap, subst, arith}
use Rattle.std.proofs.Math.ListN.{get_or-append}
use Rattle.std.proofs.Math.Seq.{get_or-append_seam}
use Rattle.std.proofs.lemmas.List.Elements.{All-append, All-cons, All-nil}

pub first_of_all : {X : Type 0} (P : X → Type 0) (x : X) (xs all : List X) → all ≡ x ∷ xs → All P all → P x
first_of_all P x xs all is each = let same = subst (All P) is each in same zero x (omega arith)

pub rest_of_all : {X : Type 0} (P : X → Type 0) (x : X) (xs all : List X) → all ≡ x ∷ xs → All P all → All P xs
rest_of_all P x xs all is each k d lt = let same = subst (All P) is each in same (suc k) d (omega arith)

pub one_more : {X : Type 0} (P : X → Type 0) (x : X) (xs all : List X) → all ≡ xs ++ x ∷ [] → All P xs → P x → All P all
one_more P x xs all is each here = subst (All P) (sym is) (All-append P xs (x ∷ []) each (All-cons P x [] here (All-nil P)))

-- one goes from the one list to the other
pub handed_on : {X Y : Type 0} (y : Y) (x : X) (from from_old : List X) (to to_old : List Y) (n : ℕ) → from_old ≡ x ∷ from → to ≡ to_old ++ y ∷ []
    → length to_old + length from_old ≡ n → length to + length from ≡ n
handed_on y x from from_old to to_old n out into count =
    let a = ap length out in let b = ap length into in let c = length-append to_old (y ∷ []) in omega arith

-- what holds of each holds of the last, and of each before it
pub of_last : {X : Type 0} (P : X → Type 0) (x : X) (xs all : List X) → all ≡ xs ++ x ∷ [] → All P all → P x
of_last P x xs all is each = let same : All P (xs ++ x ∷ []) = subst (All P) is each in let size = length-append xs (x ∷ []) in
    subst P (get_or-append_seam xs x [] x) (same (length xs) x (omega arith))

pub of_others : {X : Type 0} (P : X → Type 0) (x : X) (xs all : List X) → all ≡ xs ++ x ∷ [] → All P all → All P xs
of_others P x xs all is each k d lt = let same : All P (xs ++ x ∷ []) = subst (All P) is each in let size = length-append xs (x ∷ []) in
    subst P (get_or-append xs (x ∷ []) d k lt) (same k d (omega arith))
