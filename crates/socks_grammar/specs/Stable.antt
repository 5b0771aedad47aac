-- What a reader has found stays found, whatever follows.
use Rattle.std.specs.Prelude.{ℕ, ◌≡◌, Option, List, ◌++◌}
use Rattle.socks_grammar.specs.declared.user.User.{User}
use Rattle.socks_grammar.specs.Grammar.{Read, Reader}
use Rattle.socks_grammar.specs.Handshake.{Split, split}

-- with more behind the bytes, what was found is found again
abbrev pub Extends : {A : Type 0} → Read A → List ℕ → Read A → Type 0
Extends (Read.Got a at rest) more y = y ≡ Read.Got a at (rest ++ more)
Extends Read.Short more y = Unit {0}
Extends (Read.Wrong at byte kind) more y = y ≡ Read.Wrong at byte kind

pub record IsStable {A : Type 0} (read : Reader A) : Type 0 where
  pub law : (at : ℕ) (bytes more : List ℕ) → Extends (read at bytes) more (read at (bytes ++ more))

-- an input that is more than a beginning stays what it is
abbrev pub SplitExtends : Split → Split → Type 0
SplitExtends Split.More y = Unit {0}
SplitExtends x y = y ≡ x

abbrev pub SplitIsStable : Type 0
SplitIsStable = (users : List User) (method : Option ℕ) (bytes more : List ℕ)
    → SplitExtends (split users method bytes) (split users method (bytes ++ more))
