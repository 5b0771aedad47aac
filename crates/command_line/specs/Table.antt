-- The commands, one `clap` command for each, and the words that they take.
use Rattle.std.specs.Prelude.{true, Option, Some, None, List, [], ◌∷◌, codes}
use Rattle.clap.specs.Words.{App, Kinds, Row, Rule, Text, fault_of, matches_of, new_app, new_rule, with_rule}
use Rattle.clap.specs.Simple.{on_top}
use Rattle.clap.specs.declared.builder.action.ArgAction.TheVariants.{Set}

-- a word that has to stand
abbrev pub needed : Text → Rule
needed id = record (new_rule id) { required = true; action = Some Set }

-- a command without arguments, which reads words behind its name, and has none for help or a version
abbrev pub bare : Text → App
bare name = on_top (λ s. record s { no_binary_name = true; disable_help_flag = true; disable_version_flag = true }) (new_app name)

-- `check FILE`
abbrev pub check_app : App
check_app = with_rule (bare (codes "check")) (needed (codes "file"))

-- `decide FILE FROM TO CMD`
abbrev pub decide_app : App
decide_app =
    with_rule (with_rule (with_rule (with_rule (bare (codes "decide")) (needed (codes "file"))) (needed (codes "from"))) (needed (codes "to")))
    (needed (codes "command"))

-- `replay`
abbrev pub replay_app : App
replay_app = bare (codes "replay")

abbrev pub unless_faulty : {A : Type 0} → Kinds → A → Option A
unless_faulty [] a = Some a
unless_faulty (k ∷ ks) a = None

-- what the command takes from the words, where they fit
abbrev pub taken : App → List Text → Option (List Row)
taken app words = unless_faulty (fault_of app words) (matches_of app words)
