-- What holds of the readers of the grammar: how far they read, where, and what they give.
use Rattle.std.specs.Prelude.{ℕ, ◌≡◌, ◌<◌, ◌≤◌, ◌+◌, List, [], ◌∷◌, ◌++◌, length}
use Rattle.socks_grammar.specs.Grammar.{Read, Reader}
use Rattle.socks_grammar.specs.Stable.{Extends}

-- nothing is left behind what was found
abbrev pub Ends : {A : Type 0} → Read A → Type 0
Ends (Read.Got a at rest) = rest ≡ []
Ends _ = Unit {0}

-- bytes that are too few, and the same with one byte more, which is the last where something is found
abbrev pub Tight : {A : Type 0} → Read A → Read A → Type 0
Tight Read.Short y = Ends y
Tight _ y = Unit {0}

-- what the reader has found ends with the first byte that lets it be found
pub record IsTight {A : Type 0} (read : Reader A) : Type 0 where
  pub nil : (at : ℕ) → Ends (read at [])
  pub stable : (at : ℕ) (bytes more : List ℕ) → Extends (read at bytes) more (read at (bytes ++ more))
  pub law : (at : ℕ) (bytes : List ℕ) (b : ℕ) → Tight (read at bytes) (read at (bytes ++ b ∷ []))

abbrev pub AllBytes : List ℕ → Type 0
AllBytes [] = Unit {0}
AllBytes (b ∷ bytes) = (b < 256) × AllBytes bytes

-- at most so many bytes are read from a place on, fewer are too few, and what is found is of this kind
abbrev pub Fine : {A : Type 0} → ℕ → (A → Type 0) → ℕ → List ℕ → Read A → Type 0
Fine n P from bytes (Read.Got a at rest) = (length bytes ≤ n + length rest) × AllBytes rest × P a × (at ≤ from + n)
Fine n P from bytes Read.Short = length bytes < n
Fine n P from bytes (Read.Wrong at byte kind) = at < from + n

pub record IsFine {A : Type 0} (n : ℕ) (P : A → Type 0) (read : Reader A) : Type 0 where
  pub law : (at : ℕ) (bytes : List ℕ) → AllBytes bytes → Fine n P at bytes (read at bytes)

-- the same found so many places further on
abbrev pub shifted : {A : Type 0} → ℕ → Read A → Read A
shifted n (Read.Got a at rest) = Read.Got a (n + at) rest
shifted n Read.Short = Read.Short
shifted n (Read.Wrong at byte kind) = Read.Wrong (n + at) byte kind

-- a reader reads the same from every place on
pub record IsShifting {A : Type 0} (read : Reader A) : Type 0 where
  pub law : (n at : ℕ) (bytes : List ℕ) → read (n + at) bytes ≡ shifted n (read at bytes)

-- what is found and what is left are all the bytes
abbrev pub Counted : {A : Type 0} → ℕ → List ℕ → Read A → Type 0
Counted from bytes (Read.Got a at rest) = at + length rest ≡ from + length bytes
Counted from bytes _ = Unit {0}

pub record IsCounted {A : Type 0} (read : Reader A) : Type 0 where
  pub law : (at : ℕ) (bytes : List ℕ) → Counted at bytes (read at bytes)
