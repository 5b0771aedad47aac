-- The canonical text of a configuration.
use Rattle.std.specs.Prelude.{ℕ, Bool, true, false, ◌&&◌, if◌then◌else◌, Option, Some, None, List, [], ◌∷◌, ◌++◌, map, codes}
use Rattle.std.specs.List.{flat_map, join_with_byte}
use Rattle.addr_pattern.specs.declared.addr.Addr.{Addr}
use Rattle.addr_pattern.specs.declared.endpoint.Endpoint.{Endpoint}
use Rattle.addr_pattern.specs.declared.pattern.Pattern.{Pattern}
use Rattle.addr_pattern.specs.AddressText.{addr_text, number_text}
use Rattle.addr_pattern.specs.PatternText.{pattern_text}
use Rattle.conf_types.specs.declared.entries.Entries.{Entries}
use Rattle.socks_grammar.specs.declared.protocol.Method.{Method}
use Rattle.socks_grammar.specs.declared.protocol.Version.{Version}
use Rattle.socks_grammar.specs.declared.login.Login.{Login}
use Rattle.conf_types.specs.declared.route.Route.{Route}
use Rattle.conf_types.specs.declared.route.Via.{Via}
use Rattle.conf_types.specs.declared.rule.ClientRule.{ClientRule}
use Rattle.conf_types.specs.declared.rule.SocksRule.{SocksRule}

-- lines, each with its end
abbrev pub text_of : List (List ℕ) → List ℕ
text_of [] = []
text_of (line ∷ lines) = line ++ 10 ∷ text_of lines

-- `key: value`
abbrev pub entry : List ℕ → List ℕ → List ℕ
entry key value = key ++ 58 ∷ 32 ∷ value

-- an entry of a block stands behind two blanks
abbrev pub inner : List ℕ → List ℕ → List ℕ
inner key value = 32 ∷ 32 ∷ entry key value

-- ---- entries at the top

-- `ADDR port = N`
abbrev pub listener : Endpoint → List ℕ
listener e = addr_text e.addr ++ codes " port = " ++ number_text e.port

abbrev pub internal_line : Endpoint → List ℕ
internal_line e = entry (codes "internal") (listener e)

abbrev pub external_line : Addr → List ℕ
external_line a = entry (codes "external") (addr_text a)

abbrev pub control_lines : Option Endpoint → List (List ℕ)
control_lines None = []
control_lines (Some e) = entry (codes "control") (listener e) ∷ []

abbrev pub method_word : Method → List ℕ
method_word Method.NoAuth = codes "none"
method_word Method.Username = codes "username"

abbrev pub method_words : List Method → List (List ℕ)
method_words methods = map method_word methods

-- the methods and the limits of time always have a line
abbrev pub setting_lines : Entries → List (List ℕ)
setting_lines c =
    entry (codes "socksmethod") (join_with_byte 32 (method_words c.methods))
    ∷ entry (codes "timeout.negotiate") (number_text c.negotiate)
    ∷ entry (codes "timeout.io") (number_text c.io) ∷ []

-- ---- rules

abbrev pub word_if : Bool → List ℕ → List (List ℕ)
word_if true word = word ∷ []
word_if false word = []

-- a set of words has a line unless it has all
abbrev pub set_lines : List ℕ → Bool → List (List ℕ) → List (List ℕ)
set_lines key all words = if all then [] else inner key (join_with_byte 32 words) ∷ []

abbrev pub command_words : SocksRule → List (List ℕ)
command_words r =
    word_if r.connect (codes "connect") ++ (word_if r.bind (codes "bind") ++ (word_if r.udpassociate (codes "udpassociate")
    ++ (word_if r.bindreply (codes "bindreply") ++ word_if r.udpreply (codes "udpreply"))))

abbrev pub command_lines : SocksRule → List (List ℕ)
command_lines r = set_lines (codes "command") (r.connect && r.bind && r.udpassociate && r.bindreply && r.udpreply) (command_words r)

abbrev pub protocol_lines : SocksRule → List (List ℕ)
protocol_lines r = set_lines (codes "protocol") (r.tcp && r.udp) (word_if r.tcp (codes "tcp") ++ word_if r.udp (codes "udp"))

abbrev pub method_lines : SocksRule → List (List ℕ)
method_lines r = set_lines (codes "socksmethod") (r.noauth && r.username) (word_if r.noauth (codes "none") ++ word_if r.username (codes "username"))

abbrev pub version_lines : SocksRule → List (List ℕ)
version_lines r = set_lines (codes "proxyprotocol") (r.v4 && r.v5) (word_if r.v4 (codes "socks_v4") ++ word_if r.v5 (codes "socks_v5"))

abbrev pub user_lines : List (List ℕ) → List (List ℕ)
user_lines [] = []
user_lines (user ∷ users) = inner (codes "user") (join_with_byte 32 (user ∷ users)) ∷ []

abbrev pub max_lines : Option ℕ → List (List ℕ)
max_lines None = []
max_lines (Some n) = inner (codes "session.max") (number_text n) ∷ []

-- `from` and `to` always have a line
abbrev pub pattern_lines : Pattern → Pattern → List (List ℕ)
pattern_lines from to = inner (codes "from") (pattern_text from) ∷ inner (codes "to") (pattern_text to) ∷ []

-- a block: its key and `{`, the lines of its entries, and `}`
abbrev pub block : List ℕ → List (List ℕ) → List (List ℕ)
block key lines = (key ++ codes " {") ∷ lines ++ codes "}" ∷ []

abbrev pub client_lines : ClientRule → List (List ℕ)
client_lines r = block (if r.pass then codes "client pass" else codes "client block") (pattern_lines r.from r.to ++ max_lines r.max)

abbrev pub socks_lines : SocksRule → List (List ℕ)
socks_lines r =
    block (if r.pass then codes "socks pass" else codes "socks block")
    (pattern_lines r.from r.to
    ++ (command_lines r ++ (protocol_lines r ++ (method_lines r ++ (user_lines r.users ++ (version_lines r ++ max_lines r.max))))))

-- ---- routes

abbrev pub version_word : Version → List ℕ
version_word Version.V4 = codes "socks_v4"
version_word Version.V5 = codes "socks_v5"

abbrev pub login_lines : Option Login → List (List ℕ)
login_lines None = []
login_lines (Some l) = inner (codes "login") (l.name ++ 58 ∷ l.password) ∷ []

abbrev pub via_lines : Via → List (List ℕ)
via_lines Via.Direct = inner (codes "via") (codes "direct") ∷ []
via_lines (Via.Proxy at version login) =
    inner (codes "via") (listener at) ∷ inner (codes "proxyprotocol") (version_word version) ∷ login_lines login

abbrev pub route_lines : Route → List (List ℕ)
route_lines r = block (codes "route") (pattern_lines r.from r.to ++ via_lines r.via)

-- ---- the whole

abbrev pub config_lines : Entries → List (List ℕ)
config_lines c =
    map internal_line c.internals
    ++ (map external_line c.externals
    ++ (control_lines c.control
    ++ (setting_lines c
    ++ (flat_map client_lines c.client
    ++ (flat_map socks_lines c.socks
    ++ flat_map route_lines c.routes)))))

abbrev pub canonical_text : Entries → List ℕ
canonical_text c = text_of (config_lines c)
