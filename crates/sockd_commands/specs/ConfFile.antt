-- What a store's file says as a configuration.
use Rattle.std.specs.Prelude.{◌≡◌, ◌≢◌, ℕ, Option, Some, List}
use Rattle.conf_types.specs.declared.entries.Entries.{Entries}
use Rattle.conf_model.specs.declared.fault.ConfFault.{ConfFault}
use Rattle.conf_model.specs.declared.fault.ConfKind.{ConfKind}
use Rattle.conf_model.specs.Reads.{HasFault, IsConfigText}
use Rattle.net_ends.specs.Counts.{Rose}
use Rattle.net_ends.specs.Stores.{Files}
use Rattle.sockd_commands.specs.declared.conf_file.ConfRead.{ConfRead}

-- the file of this name holds these bytes, where the store tells
abbrev pub HoldsFile : Option Files → List ℕ → List ℕ → Type 0
HoldsFile told name content = (files : Files) → told ≡ Some files → files name ≡ Some content

-- the file's bytes are the text of this configuration
pub record IsConfigFile (told : Option Files) (name : List ℕ) (config : Entries) : Type 0 where
  pub content : List ℕ
  pub holds : HoldsFile told name content
  pub is_text : IsConfigText content config

-- the file's bytes are no configuration, and this is their first fault
pub record IsFaultyFile (told : Option Files) (name : List ℕ) (fault : ConfFault) : Type 0 where
  pub content : List ℕ
  pub holds : HoldsFile told name content
  pub faulty : HasFault content fault
  pub known : fault.kind ≢ ConfKind.Memory

abbrev pub OnConfRead : Option Files → List ℕ → ℕ → ℕ → ConfRead → Type 0
OnConfRead told name before now (ConfRead.Read config) = IsConfigFile told name config
OnConfRead told name before now (ConfRead.Refused fault) = IsFaultyFile told name fault
OnConfRead told name before now ConfRead.Failed = Rose before now
OnConfRead told name before now ConfRead.Memory = Unit {0}
