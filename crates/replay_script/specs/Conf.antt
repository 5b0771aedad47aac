-- The lines that publish a configuration.
use Rattle.std.specs.Prelude.{◌≢◌, ℕ, List, codes}
use Rattle.conf_types.specs.declared.entries.Entries.{Entries}
use Rattle.conf_model.specs.declared.fault.ConfFault.{ConfFault}
use Rattle.conf_model.specs.declared.fault.ConfKind.{ConfKind}
use Rattle.conf_types.specs.Plain.{IsPlain}
use Rattle.conf_model.specs.Reads.{HasFault, IsConfigText}
use Rattle.replay_script.specs.Counted.{Counts}

abbrev pub publish_word : List ℕ
publish_word = codes "publish "

-- the lines publish a configuration that is served
pub record Publishes (text : List ℕ) (config : Entries) (lines : ℕ) (behind : List ℕ) : Type 0 where
  pub counted : List ℕ
  pub publish : Counts publish_word text counted lines behind
  pub config' : IsConfigText counted config
  pub plain : IsPlain config

-- the lines publish a text that is no configuration, with this first fault
pub record RefusesConfig (text : List ℕ) (fault : ConfFault) : Type 0 where
  pub counted : List ℕ
  pub lines : ℕ
  pub behind : List ℕ
  pub publish : Counts publish_word text counted lines behind
  pub faulty : HasFault counted fault
  pub known : fault.kind ≢ ConfKind.Memory

-- the text begins with neither
pub record Unpublished (text : List ℕ) : Type 0 where
  pub serves : (config : Entries) (lines : ℕ) (behind : List ℕ) → Publishes text config lines behind → ⊥
  pub refuses : (fault : ConfFault) → RefusesConfig text fault → ⊥
