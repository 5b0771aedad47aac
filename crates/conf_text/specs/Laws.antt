-- What holds of every text: one reading, or one fault.
use Rattle.std.specs.Prelude.{◌≡◌, ◌≢◌, ℕ, List}
use Rattle.conf_text.specs.declared.statement.Statement.{Statement}
use Rattle.conf_text.specs.declared.fault.TextFault.{TextFault}
use Rattle.conf_text.specs.Statements.{AreStatements, Faulty}

abbrev pub OneReading : Type 0
OneReading = (text : List ℕ) (ss ts : List Statement) → AreStatements text ss → AreStatements text ts → ss ≡ ts

-- want of memory is no fault of a text
abbrev pub FaultlessText : Type 0
FaultlessText = (text : List ℕ) (ss : List Statement) (fault : TextFault) → AreStatements text ss → Faulty text fault → fault ≡ TextFault.Memory

abbrev pub OneFault : Type 0
OneFault = (text : List ℕ) (fault other : TextFault) →
    Faulty text fault → Faulty text other → fault ≢ TextFault.Memory → other ≢ TextFault.Memory → fault ≡ other
