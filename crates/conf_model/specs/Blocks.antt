-- What the entries of a block say, and the rule or the route that they make.
use Rattle.std.specs.Prelude.{ℕ, Bool, true, false, ◌&&◌, if◌then◌else◌, Option, Some, None, Result, Ok, Err, List, [], ◌∷◌}
use Rattle.conf_text.specs.declared.statement.Entry.{Entry}
use Rattle.addr_pattern.specs.declared.pattern.HostPattern.{HostPattern}
use Rattle.addr_pattern.specs.declared.pattern.Pattern.{Pattern}
use Rattle.addr_pattern.specs.declared.pattern.PortTest.{PortTest}
use Rattle.conf_model.specs.declared.fault.ConfFault.{ConfFault}
use Rattle.conf_model.specs.declared.fault.ConfKind.{ConfKind}
use Rattle.conf_model.specs.declared.given.Commands.{Commands}
use Rattle.conf_model.specs.declared.given.Given.{Given}
use Rattle.conf_model.specs.declared.given.Hop.{Hop}
use Rattle.conf_model.specs.declared.given.Methods.{Methods}
use Rattle.conf_model.specs.declared.given.Protocols.{Protocols}
use Rattle.conf_model.specs.declared.given.Versions.{Versions}
use Rattle.conf_model.specs.declared.keys.BlockKind.{BlockKind}
use Rattle.conf_model.specs.declared.keys.EntryKey.{EntryKey}
use Rattle.socks_grammar.specs.declared.protocol.Version.{Version}
use Rattle.socks_grammar.specs.declared.login.Login.{Login}
use Rattle.conf_types.specs.declared.route.Route.{Route}
use Rattle.conf_types.specs.declared.route.Via.{Via}
use Rattle.conf_types.specs.declared.rule.ClientRule.{ClientRule}
use Rattle.conf_types.specs.declared.rule.SocksRule.{SocksRule}
use Rattle.conf_model.specs.Keys.{allows, entry_key}
use Rattle.conf_model.specs.Values.{client_methods_fault, commands_of, hop_of, login_of, number_of, pattern_of, protocols_of, rule_methods_of, unless_fault, users_of, versions_of}

-- ---- entries

abbrev pub nothing_given : Given
nothing_given = record {
  from = None;
  to = None;
  log = false;
  clientmethod = false;
  max = None;
  commands = None;
  protocols = None;
  methods = None;
  users = None;
  versions = None;
  via = None;
  login = None;
}

abbrev pub is_there : {A : Type 0} → Option A → Bool
is_there (Some a) = true
is_there None = false

-- an entry of this key came before
abbrev pub is_given : EntryKey → Given → Bool
is_given EntryKey.From g = is_there g.from
is_given EntryKey.To g = is_there g.to
is_given EntryKey.Log g = g.log
is_given EntryKey.ClientMethods g = g.clientmethod
is_given EntryKey.Max g = is_there g.max
is_given EntryKey.Commands g = is_there g.commands
is_given EntryKey.Protocols g = is_there g.protocols
is_given EntryKey.Methods g = is_there g.methods
is_given EntryKey.Users g = is_there g.users
is_given EntryKey.Versions g = is_there g.versions
is_given EntryKey.Via g = is_there g.via
is_given EntryKey.Login g = is_there g.login

abbrev pub or_bad : {A : Type 0} → (A → Given) → Option A → Result Given ConfKind
or_bad put None = Err ConfKind.BadValue
or_bad put (Some a) = Ok (put a)

abbrev pub or_refused : {A : Type 0} → (A → Given) → Result A ConfKind → Result Given ConfKind
or_refused put (Err kind) = Err kind
or_refused put (Ok a) = Ok (put a)

-- what an entry adds by its values
abbrev pub given_by : EntryKey → List (List ℕ) → Given → Result Given ConfKind
given_by EntryKey.From values g = or_bad (λ p. record g { from = Some p }) (pattern_of values)
given_by EntryKey.To values g = or_bad (λ p. record g { to = Some p }) (pattern_of values)
given_by EntryKey.Log values g = Ok (record g { log = true })
given_by EntryKey.ClientMethods values g = unless_fault (client_methods_fault values) (record g { clientmethod = true })
given_by EntryKey.Max values g = or_bad (λ n. record g { max = Some n }) (number_of 4294967295 values)
given_by EntryKey.Commands values g = or_bad (λ c. record g { commands = Some c }) (commands_of values)
given_by EntryKey.Protocols values g = or_bad (λ p. record g { protocols = Some p }) (protocols_of values)
given_by EntryKey.Methods values g = or_refused (λ m. record g { methods = Some m }) (rule_methods_of values)
given_by EntryKey.Users values g = or_bad (λ u. record g { users = Some u }) (users_of values)
given_by EntryKey.Versions values g = or_bad (λ v. record g { versions = Some v }) (versions_of values)
given_by EntryKey.Via values g = or_bad (λ h. record g { via = Some h }) (hop_of values)
given_by EntryKey.Login values g = or_bad (λ l. record g { login = Some l }) (login_of values)

-- one that comes twice in a block is wrong, whatever it says
abbrev pub entry_of_key : BlockKind → Given → List (List ℕ) → Option EntryKey → Result Given ConfKind
entry_of_key kind g values None = Err ConfKind.UnknownKeyword
entry_of_key kind g values (Some key) =
    if allows kind key then (if is_given key g then Err ConfKind.BadValue else given_by key values g) else Err ConfKind.UnknownKeyword

abbrev pub at_line : {A : Type 0} → ℕ → Result A ConfKind → Result A ConfFault
at_line line (Ok a) = Ok a
at_line line (Err kind) = Err (record { line = line; kind = kind })

-- what the entries up to this one say
abbrev pub entry_onto : BlockKind → Given → Entry → Result Given ConfFault
entry_onto kind g e = at_line e.line (entry_of_key kind g e.values (entry_key e.key))

-- what all entries say, or the first fault
abbrev pub entries_onto : BlockKind → Given → List Entry → Result Given ConfFault
entries_onto kind g [] = Ok g
entries_onto kind g (e ∷ es) = elim (entry_onto kind g e) [ Ok h ↦ entries_onto kind h es | Err fault ↦ Err fault ]

-- ---- rules and routes

abbrev pub any : Pattern
any = record { host = HostPattern.Any; port = PortTest.Any }

abbrev pub or_else : {A : Type 0} → A → Option A → A
or_else a (Some b) = b
or_else a None = a

abbrev pub all_commands : Commands
all_commands = record { connect = true; bind = true; udpassociate = true; bindreply = true; udpreply = true }

abbrev pub all_protocols : Protocols
all_protocols = record { tcp = true; udp = true }

abbrev pub all_methods : Methods
all_methods = record { noauth = true; username = true }

abbrev pub all_versions : Versions
all_versions = record { v4 = true; v5 = true }

abbrev pub client_rule : Bool → Given → ClientRule
client_rule pass g = record { pass = pass; from = or_else any g.from; to = or_else any g.to; max = g.max }

abbrev pub socks_rule_of : Bool → Given → Commands → Protocols → Methods → Versions → SocksRule
socks_rule_of pass g c p m v = record {
  pass = pass;
  from = or_else any g.from;
  to = or_else any g.to;
  connect = c.connect;
  bind = c.bind;
  udpassociate = c.udpassociate;
  bindreply = c.bindreply;
  udpreply = c.udpreply;
  tcp = p.tcp;
  udp = p.udp;
  noauth = m.noauth;
  username = m.username;
  v4 = v.v4;
  v5 = v.v5;
  users = or_else [] g.users;
  max = g.max;
}

-- what isn't given allows all
abbrev pub socks_rule : Bool → Given → SocksRule
socks_rule pass g =
    socks_rule_of pass g (or_else all_commands g.commands) (or_else all_protocols g.protocols) (or_else all_methods g.methods) (or_else all_versions g.versions)

-- a proxy is spoken to in SOCKS 5 unless only SOCKS 4 is named
abbrev pub version_of : Option Versions → Version
version_of None = Version.V5
version_of (Some v) = if v.v5 then Version.V5 else Version.V4

abbrev pub via_at : Hop → Version → Option Login → Via
via_at Hop.Direct version login = Via.Direct
via_at (Hop.At at) version login = Via.Proxy at version login

abbrev pub route : Given → Hop → Route
route g hop = record { from = or_else any g.from; to = or_else any g.to; via = via_at hop (version_of g.versions) g.login }

-- routes serve CONNECT alone, so one that doesn't is read and not kept
abbrev pub is_kept : Given → Bool
is_kept g = (or_else all_commands g.commands).connect && (or_else all_protocols g.protocols).tcp
