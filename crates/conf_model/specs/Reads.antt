-- The configuration of a text, or its first fault.
use Rattle.std.specs.Prelude.{◌≡◌, ◌≢◌, ◌≤◌, ◌⊎◌, ℕ, Result, Ok, Err, List, length}
use Rattle.conf_text.specs.declared.fault.TextFault.{TextFault}
use Rattle.conf_text.specs.declared.statement.Statement.{Statement}
use Rattle.conf_text.specs.Statements.{AreStatements, Faulty, longest}
use Rattle.conf_types.specs.declared.entries.Entries.{Entries}
use Rattle.conf_model.specs.declared.fault.ConfFault.{ConfFault}
use Rattle.conf_model.specs.declared.fault.ConfKind.{ConfKind}
use Rattle.conf_model.specs.Canonical.{canonical_text}
use Rattle.conf_model.specs.Settings.{config_of}

-- the text is statements, and these say this configuration, or have this first fault
pub record Says (text : List ℕ) (said : Result Entries ConfFault) : Type 0 where
  pub statements : List Statement
  pub are : AreStatements text statements
  pub say : config_of statements ≡ said

-- the text is this configuration
abbrev pub IsConfigText : List ℕ → Entries → Type 0
IsConfigText text config = Says text (Ok config)

-- the line of a text's fault; a text that is too long has none
abbrev pub line_of : TextFault → ℕ
line_of (TextFault.NotAscii n) = n
line_of (TextFault.NoColon n) = n
line_of (TextFault.UnclosedBlock n) = n
line_of (TextFault.StrayBrace n) = n
line_of TextFault.TooLong = 0
line_of TextFault.Memory = 0

-- the text is no row of statements, and this is its first fault
pub record IsTextFault (text : List ℕ) (fault : ConfFault) : Type 0 where
  pub first : TextFault
  pub faulty : Faulty text first
  pub known : first ≢ TextFault.Memory
  pub kind' : fault.kind ≡ ConfKind.Text first
  pub line' : fault.line ≡ line_of first

-- the fault of a text: that of its statements, or else the first of what they say. Want of memory may come at any text
abbrev pub HasFault : List ℕ → ConfFault → Type 0
HasFault text fault = fault.kind ≢ ConfKind.Memory → IsTextFault text fault ⊎ Says text (Err fault)

abbrev pub OnConfig : List ℕ → Result Entries ConfFault → Type 0
OnConfig text (Ok config) = IsConfigText text config
OnConfig text (Err fault) = HasFault text fault

-- the canonical text of a configuration is that configuration, where it isn't too long for a text
abbrev pub IsReadAgain : Entries → Type 0
IsReadAgain config = length (canonical_text config) ≤ longest → IsConfigText (canonical_text config) config
