-- The configuration that statements are, or the first fault.
use Rattle.std.specs.Prelude.{ℕ, ◌==◌, nat_lt, if◌then◌else◌, Option, Some, None, Result, Ok, Err, List, [], ◌∷◌, ◌++◌, length}
use Rattle.conf_text.specs.declared.statement.Entry.{Entry}
use Rattle.conf_text.specs.declared.statement.Statement.{Statement}
use Rattle.addr_pattern.specs.declared.endpoint.Endpoint.{Endpoint}
use Rattle.conf_types.specs.declared.entries.Entries.{Entries}
use Rattle.conf_model.specs.declared.fault.ConfFault.{ConfFault}
use Rattle.conf_model.specs.declared.fault.ConfKind.{ConfKind}
use Rattle.conf_model.specs.declared.given.Given.{Given}
use Rattle.conf_model.specs.declared.given.Hop.{Hop}
use Rattle.conf_model.specs.declared.keys.BlockKind.{BlockKind}
use Rattle.conf_model.specs.declared.keys.TopKey.{TopKey}
use Rattle.socks_grammar.specs.declared.protocol.Method.{Method}
use Rattle.conf_model.specs.declared.setting.Setting.{Setting}
use Rattle.conf_model.specs.Blocks.{at_line, client_rule, entries_onto, is_kept, nothing_given, route, socks_rule}
use Rattle.conf_model.specs.Keys.{block_kind, top_key}
use Rattle.conf_model.specs.Values.{address_of, client_methods_fault, endpoint_of, is_empty, is_interface, methods_of, number_of, unless_fault}
use Rattle.conf_types.specs.Kept.{is_loopback}

-- ---- entries at the top

abbrev pub or_bad : {A : Type 0} → (A → Setting) → Option A → Result Setting ConfKind
or_bad said None = Err ConfKind.BadValue
or_bad said (Some a) = Ok (said a)

-- an endpoint to listen on has a port
abbrev pub listening : Option Endpoint → Option Endpoint
listening None = None
listening (Some e) = if e.port == 0 then None else Some e

abbrev pub internal : List (List ℕ) → Result Setting ConfKind
internal values =
    if is_interface values then Err ConfKind.InterfaceRefused else or_bad Setting.Internal (listening (endpoint_of (Some 1080) values))

abbrev pub external : List (List ℕ) → Result Setting ConfKind
external values = if is_interface values then Err ConfKind.InterfaceRefused else or_bad Setting.External (address_of values)

abbrev pub on_loopback : Option Endpoint → Result Setting ConfKind
on_loopback None = Err ConfKind.BadValue
on_loopback (Some e) = if is_loopback e.addr then Ok (Setting.Control e) else Err ConfKind.ControlNotLoopback

abbrev pub methods : Result (List Method) ConfKind → Result Setting ConfKind
methods (Err kind) = Err kind
methods (Ok ms) = Ok (Setting.Methods ms)

-- a limit of time
abbrev pub seconds_of : List (List ℕ) → Option ℕ
seconds_of values = number_of 4000000 values

abbrev pub ignored : List (List ℕ) → Result Setting ConfKind
ignored values = if is_empty values then Err ConfKind.BadValue else Ok Setting.NoEffect

abbrev pub top_setting : List (List ℕ) → Option TopKey → Result Setting ConfKind
top_setting values None = Err ConfKind.UnknownKeyword
top_setting values (Some TopKey.Internal) = internal values
top_setting values (Some TopKey.External) = external values
top_setting values (Some TopKey.Control) = on_loopback (listening (endpoint_of None values))
top_setting values (Some TopKey.Methods) = methods (methods_of values)
top_setting values (Some TopKey.ClientMethods) = unless_fault (client_methods_fault values) Setting.NoEffect
top_setting values (Some TopKey.Negotiate) = or_bad Setting.Negotiate (seconds_of values)
top_setting values (Some TopKey.Io) = or_bad Setting.Io (seconds_of values)
top_setting values (Some TopKey.Ignored) = ignored values

-- ---- blocks

abbrev pub route_setting : Given → Option Hop → Result Setting ConfKind
route_setting g None = Err ConfKind.BadValue
route_setting g (Some hop) = if is_kept g then Ok (Setting.Route (route g hop)) else Ok Setting.NoEffect

abbrev pub block_setting : BlockKind → Given → Result Setting ConfKind
block_setting (BlockKind.Client pass) g = Ok (Setting.Client (client_rule pass g))
block_setting (BlockKind.Socks pass) g = Ok (Setting.Socks (socks_rule pass g))
block_setting BlockKind.Route g = route_setting g g.via

abbrev pub given_setting : ℕ → BlockKind → Result Given ConfFault → Result Setting ConfFault
given_setting line kind (Err fault) = Err fault
given_setting line kind (Ok g) = at_line line (block_setting kind g)

abbrev pub block_of_kind : ℕ → List Entry → Option BlockKind → Result Setting ConfFault
block_of_kind line entries None = Err (record { line = line; kind = ConfKind.UnknownKeyword })
block_of_kind line entries (Some kind) = given_setting line kind (entries_onto kind nothing_given entries)

-- ---- statements

abbrev pub said : ℕ → List ℕ → List (List ℕ) → Option (List Entry) → Result Setting ConfFault
said line key values None = at_line line (top_setting values (top_key key))
said line key values (Some entries) = block_of_kind line entries (block_kind key)

-- what one statement says by itself
abbrev pub setting_of : Statement → Result Setting ConfFault
setting_of s = said s.line s.key s.values s.block

abbrev pub within : {A : Type 0} → ℕ → List A → Entries → Option Entries
within limit xs c = if nat_lt (length xs) limit then Some c else None

-- how a setting changes a configuration, unless it is one beyond a limit: a list gets one more, and anything else is replaced
abbrev pub set : Entries → Setting → Option Entries
set c (Setting.Internal e) = within 16 c.internals (record c { internals = c.internals ++ e ∷ [] })
set c (Setting.External a) = within 16 c.externals (record c { externals = c.externals ++ a ∷ [] })
set c (Setting.Control e) = Some (record c { control = Some e })
set c (Setting.Methods ms) = Some (record c { methods = ms })
set c (Setting.Negotiate n) = Some (record c { negotiate = n })
set c (Setting.Io n) = Some (record c { io = n })
set c (Setting.Client rule) = within 4096 c.client (record c { client = c.client ++ rule ∷ [] })
set c (Setting.Socks rule) = within 4096 c.socks (record c { socks = c.socks ++ rule ∷ [] })
set c (Setting.Route r) = within 256 c.routes (record c { routes = c.routes ++ r ∷ [] })
set c Setting.NoEffect = Some c

abbrev pub or_too_many : ℕ → Option Entries → Result Entries ConfFault
or_too_many line None = Err (record { line = line; kind = ConfKind.TooMany })
or_too_many line (Some c) = Ok c

abbrev pub with_setting : Entries → ℕ → Result Setting ConfFault → Result Entries ConfFault
with_setting c line (Err fault) = Err fault
with_setting c line (Ok setting) = or_too_many line (set c setting)

abbrev pub statement_onto : Entries → Statement → Result Entries ConfFault
statement_onto c s = with_setting c s.line (setting_of s)

abbrev pub statements_onto : Entries → List Statement → Result Entries ConfFault
statements_onto c [] = Ok c
statements_onto c (s ∷ more) = elim (statement_onto c s) [ Ok d ↦ statements_onto d more | Err fault ↦ Err fault ]

-- what stands where nothing is said
abbrev pub default : Entries
default = record {
  internals = [];
  externals = [];
  control = None;
  methods = Method.NoAuth ∷ [];
  negotiate = 30;
  io = 0;
  client = [];
  socks = [];
  routes = [];
}

abbrev pub listens : Entries → List Endpoint → Result Entries ConfFault
listens c [] = Err (record { line = 0; kind = ConfKind.MissingInternal })
listens c (e ∷ es) = Ok c

abbrev pub whole : Result Entries ConfFault → Result Entries ConfFault
whole (Err fault) = Err fault
whole (Ok c) = listens c c.internals

-- the statements one after the other; without an endpoint to listen on they are no configuration
abbrev pub config_of : List Statement → Result Entries ConfFault
config_of statements = whole (statements_onto default statements)
