-- What holds of every text: one reading, or one fault.
use Rattle.std.specs.Prelude.{◌≡◌, ◌≢◌, ℕ, List}
use Rattle.socks_machine.specs.declared.script.ScriptLine.{ScriptLine}
use Rattle.replay_script.specs.declared.fault.ScriptKind.{ScriptKind}
use Rattle.replay_script.specs.Script.{IsScript, Faulty}

abbrev pub OneReading : Type 0
OneReading = (text : List ℕ) (ls ms : List ScriptLine) → IsScript text ls → IsScript text ms → ls ≡ ms

-- want of memory is no fault of a text
abbrev pub FaultlessScript : Type 0
FaultlessScript = (text : List ℕ) (ls : List ScriptLine) (line : ℕ) (kind : ScriptKind) →
    IsScript text ls → Faulty text line kind → kind ≡ ScriptKind.Memory

abbrev pub OneFault : Type 0
OneFault = (text : List ℕ) (line number : ℕ) (kind other : ScriptKind) →
    Faulty text line kind → Faulty text number other → kind ≢ ScriptKind.Memory → other ≢ ScriptKind.Memory → (line ≡ number) × (kind ≡ other)
