-- Texts that are cut at a byte.
use Rattle.std.specs.Prelude.{◌≡◌, ◌≢◌, ℕ, List, [], ◌∷◌, ◌++◌, Option, Some, None, ◌==◌, if◌then◌else◌}

-- the byte stands nowhere in the text
abbrev pub Lacks : ℕ → List ℕ → Type 0
Lacks at [] = Unit {0}
Lacks at (x ∷ xs) = (x ≢ at) × Lacks at xs

-- the text is cut at the first such byte
pub record CutsFirst (at : ℕ) (text front rest : List ℕ) : Type 0 where
  pub lacks : Lacks at front
  pub spelled : text ≡ front ++ at ∷ rest

-- what stands before and behind the first such byte
abbrev pub behind_first : ℕ → Option (List ℕ × List ℕ) → Option (List ℕ × List ℕ)
behind_first b None = None
behind_first b (Some x) = Some (b ∷ x.0, x.1)

abbrev pub first_cut : ℕ → List ℕ → Option (List ℕ × List ℕ)
first_cut at [] = None
first_cut at (b ∷ bs) = if b == at then Some ([], bs) else behind_first b (first_cut at bs)

-- what stands before and behind the last such byte
abbrev pub onto_front : ℕ → List ℕ → ℕ → Option (List ℕ × List ℕ) → Option (List ℕ × List ℕ)
onto_front at bs b None = if b == at then Some ([], bs) else None
onto_front at bs b (Some x) = Some (b ∷ x.0, x.1)

abbrev pub last_cut : ℕ → List ℕ → Option (List ℕ × List ℕ)
last_cut at [] = None
last_cut at (b ∷ bs) = onto_front at bs b (last_cut at bs)

-- what stands between a first and a last byte
abbrev pub onto : ℕ → Option (List ℕ) → Option (List ℕ)
onto b None = None
onto b (Some xs) = Some (b ∷ xs)

abbrev pub without_end : ℕ → List ℕ → Option (List ℕ)
without_end last [] = None
without_end last (b ∷ []) = if b == last then Some [] else None
without_end last (b ∷ c ∷ bs) = onto b (without_end last (c ∷ bs))

abbrev pub between : ℕ → ℕ → List ℕ → Option (List ℕ)
between first last [] = None
between first last (b ∷ bs) = if b == first then without_end last bs else None
