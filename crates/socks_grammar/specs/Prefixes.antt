-- Where a reader wants more.
use Rattle.std.specs.Prelude.{ℕ, ◌+◌, ◌≡◌, ◌≢◌, nat_lt, IsTrue, Some, List, [], ◌++◌, length, take}
use Rattle.std.specs.List.{list_all, slice_get}
use Rattle.addr_pattern.specs.declared.front.BadKind.{BadKind}
use Rattle.socks_grammar.specs.Grammar.{Read, Reader}

-- a proper prefix of a spelling: with some bytes behind it, but not with none, it is one whole
abbrev pub IsProperPrefix : {A : Type 0} → Reader A → List ℕ → Type 0
IsProperPrefix {A} read bytes = (more : List ℕ) × (more ≢ []) × IsTrue (list_all (λ b. nat_lt b 256) more) × ((a : A) × (read 0 (bytes ++ more) ≡ Read.Got a (length (bytes ++ more)) []))

-- More comes exactly for the proper prefixes of spellings; the byte that is bad is the first after which no spelling is possible; a whole answer doesn't depend on what follows.
pub record StopsExactly {A : Type 0} (read : Reader A) : Type 0 where
  pub more : (bytes : List ℕ) → read 0 bytes ≡ Read.Short → IsProperPrefix read bytes
  pub only_more : (bytes : List ℕ) → IsProperPrefix read bytes → read 0 bytes ≡ Read.Short
  pub before_bad : (bytes : List ℕ) (at byte : ℕ) (kind : BadKind) → read 0 bytes ≡ Read.Wrong at byte kind → (slice_get bytes at ≡ Some byte) × IsProperPrefix read (take at bytes)
  pub after_bad : (bytes : List ℕ) (at byte : ℕ) (kind : BadKind) → read 0 bytes ≡ Read.Wrong at byte kind → (more : List ℕ) → read 0 (take (at + 1) bytes ++ more) ≡ Read.Wrong at byte kind
  pub whole : (bytes : List ℕ) (a : A) (len : ℕ) (rest : List ℕ) → read 0 bytes ≡ Read.Got a len rest → (more : List ℕ) → read 0 (take len bytes ++ more) ≡ Read.Got a len more
