-- What the parts of the reader answer.
use Rattle.std.specs.Prelude.{◌≡◌, ℕ, true, false, List, [], ◌∷◌, Option, Some, None, Result, Ok, Err}
use denote.Ref.{Bor}
use Rattle.conf_text.specs.declared.cursor.Cursor.{Cursor}
use Rattle.conf_text.specs.declared.statement.Entry.{Entry}
use Rattle.conf_text.specs.declared.statement.Statement.{Statement}
use Rattle.conf_text.specs.declared.fault.TextFault.{TextFault}
use Rattle.conf_text.specs.Words.{Word, Open, Close, Value}
use Rattle.conf_text.specs.Tokens.{left}
use Rattle.conf_text.specs.Statements.{is_in_reach, has_value, has_open, Entries, Said, FaultInBlock, Wrong}

-- a value in reach comes next, or none does
abbrev pub OnValue : Option ℕ → List Word → Option (Bor (List ℕ) × Cursor) → Type 0
OnValue reach words None = has_value reach words ≡ false
OnValue reach words (Some p) = (n : ℕ) × (words ≡ Value n p.0.now ∷ left p.1) × (is_in_reach reach n ≡ true)

-- a `{` comes next, or none does
abbrev pub OnOpen : List Word → Option (ℕ × Cursor) → Type 0
OnOpen words None = has_open words ≡ false
OnOpen words (Some p) = words ≡ Open p.0 ∷ left p.1

-- what stands behind a block's `{`: its entries and its end, or the block's fault
abbrev pub OnEntries : ℕ → List Word → List Word → Result (List Entry) TextFault → Type 0
OnEntries at inside rest (Ok entries) = (end : ℕ) × Entries inside entries (Close end ∷ rest)
OnEntries at inside rest (Err TextFault.Memory) = Unit {0}
OnEntries at inside rest (Err fault) = FaultInBlock at inside fault

-- what stands behind the first word of a block's key: the block, or what is wrong
abbrev pub OnBlock : ℕ → List ℕ → List Word → List Word → Result Statement TextFault → Type 0
OnBlock line first behind rest (Ok s) = Said (Value line first ∷ behind) s.line s.key s.values s.block rest
OnBlock line first behind rest (Err TextFault.Memory) = Unit {0}
OnBlock line first behind rest (Err fault) = Wrong (Value line first ∷ behind) fault

-- what stands at the top: nothing more, a statement, or what is wrong
abbrev pub OnStatement : List Word → List Word → Result (Option Statement) TextFault → Type 0
OnStatement words rest (Ok None) = words ≡ []
OnStatement words rest (Ok (Some s)) = Said words s.line s.key s.values s.block rest
OnStatement words rest (Err TextFault.Memory) = Unit {0}
OnStatement words rest (Err fault) = Wrong words fault
