-- What a configuration's text says: statements of words, or the first fault.
use Rattle.std.specs.Prelude.{◌≡◌, ◌<◌, ◌≤◌, ◌==◌, ◌⊎◌, ℕ, Bool, true, false, List, [], ◌∷◌, length, Option, Some, None, Result, Ok, Err}
use Rattle.std.specs.List.{join_with_byte}
use Rattle.conf_text.specs.declared.statement.Entry.{Entry}
use Rattle.conf_text.specs.declared.statement.Statement.{Statement}
use Rattle.conf_text.specs.declared.fault.TextFault.{TextFault}
use Rattle.conf_text.specs.Words.{Word, Open, Close, Key, Value, words_from, unreadable_from}

-- values are taken from one line, or from any
abbrev pub is_in_reach : Option ℕ → ℕ → Bool
is_in_reach None n = true
is_in_reach (Some line) n = n == line

-- a value stands first, and in reach
abbrev pub has_value : Option ℕ → List Word → Bool
has_value reach (Value n text ∷ rest) = is_in_reach reach n
has_value reach _ = false

-- the words are all these values, as far as values in reach go, and a rest
abbrev pub Values : Option ℕ → List Word → List (List ℕ) → List Word → Type 0
Values reach words [] rest = (rest ≡ words) × (has_value reach words ≡ false)
Values reach words (text ∷ texts) rest =
    (n : ℕ) × (behind : List Word) × (words ≡ Value n text ∷ behind) × (is_in_reach reach n ≡ true) × Values reach behind texts rest

-- the words are a key, its values, and a rest
abbrev pub Entered : Option ℕ → List Word → ℕ → List ℕ → List (List ℕ) → List Word → Type 0
Entered reach words line key values rest = (behind : List Word) × (words ≡ Key line key ∷ behind) × Values reach behind values rest

-- the words are these entries of a block, each with values of any line, and a rest
abbrev pub Entries : List Word → List Entry → List Word → Type 0
Entries words [] rest = rest ≡ words
Entries words (entry ∷ entries) rest =
    (behind : List Word) × Entered None words entry.line entry.key entry.values behind × Entries behind entries rest

-- the words are some that are no key, of which the first has this line, and a rest; they are joined by a blank
pub record Headed (words : List Word) (line : ℕ) (key : List ℕ) (rest : List Word) : Type 0 where
  pub first : List ℕ
  pub others : List (List ℕ)
  pub behind : List Word
  pub begins : words ≡ Value line first ∷ behind
  pub goes_on : Values None behind others rest
  pub joined : key ≡ join_with_byte 32 (first ∷ others)

-- the words are those of a block's key and its `{`, which has its own line, and a rest
abbrev pub Opens : List Word → ℕ → List ℕ → ℕ → List Word → Type 0
Opens words line key at inside = Headed words line key (Open at ∷ inside)

-- the words are this block, and a rest
pub record Closed (words : List Word) (line : ℕ) (key : List ℕ) (entries : List Entry) (rest : List Word) : Type 0 where
  pub at : ℕ
  pub inside : List Word
  pub end : ℕ
  pub opens : Opens words line key at inside
  pub entered : Entries inside entries (Close end ∷ rest)

-- the words begin with this: a key with the values of its line, or a block
abbrev pub Said : List Word → ℕ → List ℕ → List (List ℕ) → Option (List Entry) → List Word → Type 0
Said words line key values None rest = Entered (Some line) words line key values rest
Said words line key values (Some entries) rest = (values ≡ []) × Closed words line key entries rest

-- the words are these statements, and a rest
abbrev pub Statements : List Word → List Statement → List Word → Type 0
Statements words [] rest = rest ≡ words
Statements words (s ∷ more) rest = (behind : List Word) × Said words s.line s.key s.values s.block behind × Statements behind more rest

-- a `{` stands first
abbrev pub has_open : List Word → Bool
has_open (Open n ∷ rest) = true
has_open _ = false

-- where a statement should begin stands a brace, or words without a `{` behind them
abbrev pub FaultAtTop : List Word → TextFault → Type 0
FaultAtTop words (TextFault.StrayBrace n) = (rest : List Word) × ((words ≡ Open n ∷ rest) ⊎ (words ≡ Close n ∷ rest))
FaultAtTop words (TextFault.NoColon n) = (key : List ℕ) × (rest : List Word) × Headed words n key rest × (has_open rest ≡ false)
FaultAtTop words _ = ⊥

-- behind the `{` of this line stands no key, or a further `{` behind some entries, or the text ends behind them
abbrev pub FaultInBlock : ℕ → List Word → TextFault → Type 0
FaultInBlock at inside (TextFault.NoColon n) = (text : List ℕ) × (rest : List Word) × (inside ≡ Value n text ∷ rest)
FaultInBlock at inside (TextFault.StrayBrace n) = (entries : List Entry) × (rest : List Word) × Entries inside entries (Open n ∷ rest)
FaultInBlock at inside (TextFault.UnclosedBlock n) = (entries : List Entry) × Entries inside entries [] × (n ≡ at)
FaultInBlock at inside _ = ⊥

-- the words begin with no statement, and this is why
abbrev pub Wrong : List Word → TextFault → Type 0
Wrong words fault =
    FaultAtTop words fault
    ⊎ ((line : ℕ) × (key : List ℕ) × (at : ℕ) × (inside : List Word) × Opens words line key at inside × FaultInBlock at inside fault)

abbrev pub longest : ℕ
longest = 1048576

-- the text isn't too long, and all that it says is readable
pub record IsReadable (text : List ℕ) : Type 0 where
  pub small : length text ≤ longest
  pub readable : unreadable_from 1 text ≡ None

-- the text is these statements
pub record AreStatements (text : List ℕ) (statements : List Statement) : Type 0 where
  pub plain : IsReadable text
  pub said : Statements (words_from 1 text) statements []

-- behind some statements the text goes wrong
pub record GoesWrong (text : List ℕ) (fault : TextFault) : Type 0 where
  pub plain : IsReadable text
  pub statements : List Statement
  pub rest : List Word
  pub said : Statements (words_from 1 text) statements rest
  pub wrong : Wrong rest fault

-- the text's fault: its length; then the first line with a byte that isn't readable; then the first place that goes wrong.
-- Want of memory is no fault of a text, and may come at any
abbrev pub Faulty : List ℕ → TextFault → Type 0
Faulty text TextFault.TooLong = longest < length text
Faulty text (TextFault.NotAscii n) = (length text ≤ longest) × (unreadable_from 1 text ≡ Some n)
Faulty text TextFault.Memory = Unit {0}
Faulty text fault = GoesWrong text fault

abbrev pub OnStatements : List ℕ → Result (List Statement) TextFault → Type 0
OnStatements text (Ok statements) = AreStatements text statements
OnStatements text (Err fault) = Faulty text fault
