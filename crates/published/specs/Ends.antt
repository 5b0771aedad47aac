-- What a publisher and its readers know, as contracts see it.
use Rattle.std.specs.Prelude.{◌≡◌, ℕ, List, [], ◌∷◌, length, if◌then◌else◌}
use Rattle.std.specs.Option.{option_map_or}
use Rattle.std.specs.Arc.{arc_value}
use Rattle.left_right.specs.Sides.{view}
use Rattle.atomic_table.specs.Seated.{TableId}
use Rattle.conf_types.specs.declared.entries.Entries.{Entries}
use Rattle.published.specs.declared.knows.Knows.{Knows}
use Rattle.published.specs.declared.shown.Shown.{Shown}
use Rattle.published.specs.declared.reader.Reader.{Reader}
use Rattle.published.specs.declared.publisher.Publisher.{Publisher}
use Rattle.published.specs.declared.told.Told.{Told}

-- the number of the configuration that a reader keeps
abbrev pub kept_number : Reader → ℕ
kept_number reader = reader.kept.number

abbrev pub kept_config : Reader → Entries
kept_config reader = arc_value reader.kept.config

-- what a reader saw of the published list
abbrev pub shown_to : Reader → List Entries
shown_to reader = option_map_or (λ end. (view {T = Shown} {V = Knows} end.place).configs) reader.end []

-- what it was told of the list
abbrev pub told_to : Reader → List Entries
told_to reader = reader.note.me.0.configs

-- the one of the two that has the kept configuration
abbrev pub list_of : Reader → List Entries
list_of reader = if reader.was_told then told_to reader else shown_to reader

-- which publisher made the reader
abbrev pub publisher_of : Reader → TableId
publisher_of reader = reader.note.table_id

-- what a publisher has published, in its order
abbrev pub published_by : Publisher → List Entries
published_by publisher = publisher.note.me.0.configs

-- which publisher it is
abbrev pub name_of : Publisher → TableId
name_of publisher = publisher.note.table_id

-- a reader that was made with the publisher, and has seen the first configuration
pub record IsNew (name : TableId) (first : Entries) (reader : Reader) : Type 0 where
  pub number' : kept_number reader ≡ 1
  pub config' : kept_config reader ≡ first
  pub shown' : shown_to reader ≡ first ∷ []
  pub told' : told_to reader ≡ first ∷ []
  pub publisher' : publisher_of reader ≡ name

-- the number that is told, its configuration, the list as it was then, and which publisher tells it
abbrev pub number_told : Told → ℕ
number_told told = told.snap.number

abbrev pub config_told : Told → Entries
config_told told = arc_value told.snap.config

abbrev pub list_with : Told → List Entries
list_with told = told.note.me.0.configs

abbrev pub teller_of : Told → TableId
teller_of told = told.note.table_id

-- it tells of the last configuration of the list
pub record TellsLast (name : TableId) (configs : List Entries) (config : Entries) (told : Told) : Type 0 where
  pub number' : number_told told ≡ length configs
  pub config' : config_told told ≡ config
  pub list' : list_with told ≡ configs
  pub publisher' : teller_of told ≡ name
