-- What a script's text is read as.
use Rattle.std.specs.Prelude.{◌≡◌, ◌<◌, ◌≤◌, ◌+◌, ◌⊎◌, ℕ, Bool, true, false, List, [], ◌∷◌, length, codes, Result, Ok, Err, Option, Some, None}
use denote.Ref.{Bor}
use Rattle.conf_types.specs.declared.entries.Entries.{Entries}
use Rattle.socks_grammar.specs.declared.user.User.{User}
use Rattle.socks_machine.specs.declared.script.ScriptLine.{ScriptLine}
use Rattle.replay_script.specs.declared.entry.TextLine.{TextLine}
use Rattle.replay_script.specs.declared.fault.ScriptFault.{ScriptFault}
use Rattle.replay_script.specs.declared.fault.ScriptKind.{ScriptKind}
use Rattle.replay_script.specs.declared.state.State.{State}
use Rattle.replay_script.specs.Cuts.{IsLine}
use Rattle.replay_script.specs.Conf.{Publishes, RefusesConfig}
use Rattle.replay_script.specs.Users.{Gives, RefusesUsers}
use Rattle.replay_script.specs.Forms.{Spells, is_skipped}
use Rattle.replay_script.specs.Conditions.{allows, after, may_give, start, IsServedForm}

-- the text is one line of this entry
abbrev pub SpellsEntry : List ℕ → TextLine → Type 0
SpellsEntry text TextLine.Skipped = is_skipped text ≡ true
SpellsEntry text (TextLine.Served l) = Spells text l

-- the text begins with this entry, which has so many lines of text
abbrev pub Begins : List ℕ → TextLine → ℕ → List ℕ → Type 0
Begins text entry lines behind =
    ((line : List ℕ) × IsLine text line behind × SpellsEntry line entry × (lines ≡ 1))
    ⊎ (((config : Entries) × Publishes text config lines behind × (entry ≡ TextLine.Served (ScriptLine.Publish config)))
    ⊎ ((users : List User) × Gives text users lines behind × (entry ≡ TextLine.Served (ScriptLine.UsersAre users))))

-- the text begins with lines that count a text with a fault, of this kind
abbrev pub RefusesText : List ℕ → ScriptKind → Type 0
RefusesText text (ScriptKind.Conf fault) = RefusesConfig text fault
RefusesText text (ScriptKind.Users fault) = RefusesUsers text fault
RefusesText text _ = ⊥

-- the text begins with nothing that is of a served form, and with no counted text that is refused
pub record BeginsNothing (text : List ℕ) : Type 0 where
  pub serves : (entry : TextLine) (lines : ℕ) (behind : List ℕ) → Begins text entry lines behind → ⊥
  pub refuses : (kind : ScriptKind) → RefusesText text kind → ⊥

-- what is served of an entry, whatever stands before it
abbrev pub IsServedEntry : TextLine → Type 0
IsServedEntry TextLine.Skipped = Unit {0}
IsServedEntry (TextLine.Served l) = IsServedForm l

abbrev pub entry_allowed : State → TextLine → Bool
entry_allowed s TextLine.Skipped = true
entry_allowed s (TextLine.Served l) = allows s l

abbrev pub behind_entry : State → TextLine → State
behind_entry s TextLine.Skipped = s
behind_entry s (TextLine.Served l) = after s l

-- whether an entry was allowed, and then the state behind it
abbrev pub Entered : State → State → TextLine → Bool → Type 0
Entered old new entry true = (entry_allowed old entry ≡ true) × (new ≡ behind_entry old entry)
Entered old new entry false = entry_allowed old entry ≡ false

-- an entry at the front of the text that keeps its condition
pub record Serves (s : State) (text : List ℕ) (entry : TextLine) (lines : ℕ) (behind : List ℕ) : Type 0 where
  pub begins : Begins text entry lines behind
  pub allowed : entry_allowed s entry ≡ true

-- the text, whose first line has the number at, is these entries, each of a served form under its condition, and a rest
abbrev pub Reads : State → List ℕ → ℕ → List TextLine → List ℕ → State → ℕ → Type 0
Reads s text at [] rest now number = (rest ≡ text) × (now ≡ s) × (number ≡ at)
Reads s text at (entry ∷ entries) rest now number =
    (lines : ℕ) × (behind : List ℕ) × Serves s text entry lines behind × Reads (behind_entry s entry) behind (at + lines) entries rest now number

-- the entries without those that are skipped
abbrev pub lines_of : List TextLine → List ScriptLine
lines_of [] = []
lines_of (TextLine.Skipped ∷ entries) = lines_of entries
lines_of (TextLine.Served l ∷ entries) = l ∷ lines_of entries

-- the text of users that may not come here is not looked at
abbrev pub is_looked_at : State → ScriptKind → Bool
is_looked_at s (ScriptKind.Users fault) = may_give s
is_looked_at s _ = true

-- a counted text at the front of the text that is looked at, and has a fault of this kind
pub record Refuses (s : State) (text : List ℕ) (kind : ScriptKind) : Type 0 where
  pub faulty : RefusesText text kind
  pub looked_at : is_looked_at s kind ≡ true

-- the text begins neither with an entry that is served nor with a counted text that is refused
pub record Fails (s : State) (text : List ℕ) : Type 0 where
  pub serves : (entry : TextLine) (lines : ℕ) (behind : List ℕ) → Serves s text entry lines behind → ⊥
  pub refuses : (kind : ScriptKind) → Refuses s text kind → ⊥

abbrev pub Stuck : State → List ℕ → Type 0
Stuck s text = (0 < length text) × Fails s text

abbrev pub header : List ℕ
header = codes "sockd-script 1"

abbrev pub longest : ℕ
longest = 67108864

-- the text behind the header is these lines
pub record AreLines (text : List ℕ) (ls : List ScriptLine) : Type 0 where
  pub entries : List TextLine
  pub last : State
  pub number : ℕ
  pub reading : Reads start text 2 entries [] last number
  pub shown : ls ≡ lines_of entries

-- the first line behind the header that isn't served has this number
pub record IsStuckAt (text : List ℕ) (number : ℕ) : Type 0 where
  pub entries : List TextLine
  pub rest : List ℕ
  pub last : State
  pub reading : Reads start text 2 entries rest last number
  pub stuck : Stuck last rest

-- the first line behind the header that isn't served has this number, and counts a text with a fault of this kind
pub record IsRefusedAt (text : List ℕ) (number : ℕ) (kind : ScriptKind) : Type 0 where
  pub entries : List TextLine
  pub rest : List ℕ
  pub last : State
  pub reading : Reads start text 2 entries rest last number
  pub refuses : Refuses last rest kind

abbrev pub OnLinesFault : List ℕ → ℕ → ScriptKind → Type 0
OnLinesFault text number ScriptKind.NotBuilt = IsStuckAt text number
OnLinesFault text number ScriptKind.Memory = Unit {0}
OnLinesFault text number kind = IsRefusedAt text number kind

abbrev pub OnLines : List ℕ → Result (List ScriptLine) ScriptFault → Type 0
OnLines text (Ok ls) = AreLines text ls
OnLines text (Err fault) = OnLinesFault text fault.line fault.kind

-- the text begins with a served entry and the state goes on behind it, or with nothing that is served or refused
abbrev pub MayStep : State → State → List ℕ → Option (TextLine × ℕ × Bor (List ℕ)) → Type 0
MayStep old new text None = Fails old text
MayStep old new text (Some p) = Serves old text p.0 p.1 p.2.now × (new ≡ behind_entry old p.0)

-- the text is this script
pub record IsScript (text : List ℕ) (ls : List ScriptLine) : Type 0 where
  pub small : length text ≤ longest
  pub behind : List ℕ
  pub head : IsLine text header behind
  pub lines : AreLines behind ls

-- the first line that isn't served has this number
pub record IsNotBuilt (text : List ℕ) (number : ℕ) : Type 0 where
  pub small : length text ≤ longest
  pub behind : List ℕ
  pub head : IsLine text header behind
  pub stuck : IsStuckAt behind number

-- the first line that isn't served has this number, and counts a text with a fault of this kind
pub record IsRefused (text : List ℕ) (number : ℕ) (kind : ScriptKind) : Type 0 where
  pub small : length text ≤ longest
  pub behind : List ℕ
  pub head : IsLine text header behind
  pub refused : IsRefusedAt behind number kind

-- the first line isn't the header
pub record IsHeaderless (text : List ℕ) (number : ℕ) : Type 0 where
  pub small : length text ≤ longest
  pub missing : (behind : List ℕ) → IsLine text header behind → ⊥
  pub number_is : number ≡ 1

abbrev pub Faulty : List ℕ → ℕ → ScriptKind → Type 0
Faulty text number ScriptKind.Length = (longest < length text) × (number ≡ 0)
Faulty text number ScriptKind.Header = IsHeaderless text number
Faulty text number ScriptKind.NotBuilt = IsNotBuilt text number
Faulty text number ScriptKind.Memory = Unit {0}
Faulty text number kind = IsRefused text number kind

abbrev pub OnRead : List ℕ → Result (List ScriptLine) ScriptFault → Type 0
OnRead text (Ok script) = IsScript text script
OnRead text (Err fault) = Faulty text fault.line fault.kind
