-- What the parts of the reader of a configuration answer.
use Rattle.std.specs.Prelude.{◌≡◌, ◌<◌, ◌≤◌, ℕ, Bool, true, false, Option, Some, None, List, [], ◌∷◌, ◌++◌, length}
use Rattle.conf_text.specs.declared.fault.TextFault.{TextFault}
use Rattle.conf_types.specs.declared.entries.Entries.{Entries}
use Rattle.conf_model.specs.declared.fault.ConfFault.{ConfFault}
use Rattle.conf_model.specs.declared.fault.ConfKind.{ConfKind}
use Rattle.conf_model.specs.Reads.{line_of}

-- the item stands behind the others, or there are as many as may be
abbrev pub IsAdded : {A : Type 0} → ℕ → List A → A → List A → Bool → Type 0
IsAdded limit old item new true = (length old < limit) × (new ≡ old ++ item ∷ [])
IsAdded limit old item new false = (limit ≤ length old) × (new ≡ old)

-- the configuration is the changed one, or there is none within the limits
abbrev pub IsTaken : Option Entries → Entries → Bool → Type 0
IsTaken changed new true = changed ≡ Some new
IsTaken changed new false = changed ≡ None

abbrev pub fault_of_text : TextFault → ConfFault
fault_of_text TextFault.Memory = record { line = 0; kind = ConfKind.Memory }
fault_of_text fault = record { line = line_of fault; kind = ConfKind.Text fault }
