-- What a reader of the code answers, beside what the grammar reads.
use Rattle.std.specs.Prelude.{◌≡◌}
use Rattle.addr_pattern.specs.declared.front.Front.{Front}
use Rattle.socks_grammar.specs.Grammar.{Read}

abbrev pub IsFront : {A B : Type 0} → (A → B) → Front A → Read B → Type 0
IsFront view (Front.Whole value len) (Read.Got b at rest) = (view value ≡ b) × (len ≡ at)
IsFront view Front.More Read.Short = Unit {0}
IsFront view (Front.Bad bad) (Read.Wrong at byte kind) = bad ≡ record { at = at; byte = byte; kind = kind }
IsFront view _ _ = ⊥
