-- A configuration as parts of a text, which its canonical text spells.
use Rattle.std.proofs.Common.{◌≡◌, ℕ, Bool, true, false, ◌&&◌, cond, List, [], ◌∷◌, ◌++◌, map, codes, Option, Some, None, refl, sym, ap, ◌∙◌, append-nil, append_assoc}
use Rattle.std.specs.List.{flat_map, join_with_byte}
use Rattle.std.proofs.lemmas.List.{map-append}
use Rattle.std.proofs.lemmas.Grind.{flat_map-append}
use Rattle.addr_pattern.specs.declared.addr.Addr.{Addr}
use Rattle.addr_pattern.specs.declared.endpoint.Endpoint.{Endpoint}
use Rattle.addr_pattern.specs.declared.pattern.Pattern.{Pattern}
use Rattle.addr_pattern.specs.declared.pattern.PortTest.{PortTest}
use Rattle.addr_pattern.specs.AddressText.{addr_text, number_text}
use Rattle.addr_pattern.specs.PatternText.{host_text, pattern_text, port_text}
use Rattle.conf_types.specs.declared.entries.Entries.{Entries}
use Rattle.socks_grammar.specs.declared.login.Login.{Login}
use Rattle.conf_types.specs.declared.route.Route.{Route}
use Rattle.conf_types.specs.declared.route.Via.{Via}
use Rattle.conf_types.specs.declared.rule.ClientRule.{ClientRule}
use Rattle.conf_types.specs.declared.rule.SocksRule.{SocksRule}
use Rattle.conf_model.specs.Canonical.{block, client_lines, command_lines, command_words, config_lines, control_lines, external_line, entry, internal_line, listener, login_lines, max_lines, method_lines, method_words, pattern_lines, protocol_lines, route_lines, set_lines, socks_lines, user_lines, version_lines, version_word, via_lines, word_if}
use Rattle.conf_text.proofs.Parts.{Block, Item, Part, Top, inner_line, lines_of, part_lines}

-- ---- values, as words

abbrev pub listener_words : Endpoint → List (List ℕ)
listener_words e = addr_text e.addr ∷ codes "port" ∷ codes "=" ∷ number_text e.port ∷ []

abbrev pub operator_words : List ℕ → ℕ → List (List ℕ)
operator_words operator n = codes "port" ∷ operator ∷ number_text n ∷ []

abbrev pub port_words : PortTest → List (List ℕ)
port_words PortTest.Any = []
port_words (PortTest.Eq n) = operator_words (codes "=") n
port_words (PortTest.Ne n) = operator_words (codes "!=") n
port_words (PortTest.Ge n) = operator_words (codes ">=") n
port_words (PortTest.Le n) = operator_words (codes "<=") n
port_words (PortTest.Gt n) = operator_words (codes ">") n
port_words (PortTest.Lt n) = operator_words (codes "<") n
port_words (PortTest.Range low high) = codes "port" ∷ (number_text low ++ 45 ∷ number_text high) ∷ []

abbrev pub pattern_words : Pattern → List (List ℕ)
pattern_words p = host_text p.host ∷ port_words p.port

-- ---- entries and blocks

abbrev pub item : List ℕ → List (List ℕ) → Item
item key values = record { key = key; values = values }

abbrev pub control_parts : Option Endpoint → List Part
control_parts None = []
control_parts (Some e) = Top (item (codes "control") (listener_words e)) ∷ []

abbrev pub setting_parts : Entries → List Part
setting_parts c =
    Top (item (codes "socksmethod") (method_words c.methods))
    ∷ Top (item (codes "timeout.negotiate") (number_text c.negotiate ∷ []))
    ∷ Top (item (codes "timeout.io") (number_text c.io ∷ [])) ∷ []

abbrev pub set_items : List ℕ → Bool → List (List ℕ) → List Item
set_items key true words = []
set_items key false words = item key words ∷ []

abbrev pub command_items : SocksRule → List Item
command_items r = set_items (codes "command") (r.connect && r.bind && r.udpassociate && r.bindreply && r.udpreply) (command_words r)

abbrev pub protocol_items : SocksRule → List Item
protocol_items r = set_items (codes "protocol") (r.tcp && r.udp) (word_if r.tcp (codes "tcp") ++ word_if r.udp (codes "udp"))

abbrev pub method_items : SocksRule → List Item
method_items r = set_items (codes "socksmethod") (r.noauth && r.username) (word_if r.noauth (codes "none") ++ word_if r.username (codes "username"))

abbrev pub version_items : SocksRule → List Item
version_items r = set_items (codes "proxyprotocol") (r.v4 && r.v5) (word_if r.v4 (codes "socks_v4") ++ word_if r.v5 (codes "socks_v5"))

abbrev pub user_items : List (List ℕ) → List Item
user_items [] = []
user_items (user ∷ users) = item (codes "user") (user ∷ users) ∷ []

abbrev pub max_items : Option ℕ → List Item
max_items None = []
max_items (Some n) = item (codes "session.max") (number_text n ∷ []) ∷ []

abbrev pub pattern_items : Pattern → Pattern → List Item
pattern_items from to = item (codes "from") (pattern_words from) ∷ item (codes "to") (pattern_words to) ∷ []

abbrev pub verdict_word : Bool → List ℕ
verdict_word true = codes "pass"
verdict_word false = codes "block"

abbrev pub client_items : ClientRule → List Item
client_items r = pattern_items r.from r.to ++ max_items r.max

abbrev pub client_part : ClientRule → Part
client_part r = Block (codes "client" ∷ verdict_word r.pass ∷ []) (client_items r)

abbrev pub socks_items : SocksRule → List Item
socks_items r =
    pattern_items r.from r.to
    ++ (command_items r ++ (protocol_items r ++ (method_items r ++ (user_items r.users ++ (version_items r ++ max_items r.max)))))

abbrev pub socks_part : SocksRule → Part
socks_part r = Block (codes "socks" ∷ verdict_word r.pass ∷ []) (socks_items r)

abbrev pub login_items : Option Login → List Item
login_items None = []
login_items (Some l) = item (codes "login") ((l.name ++ 58 ∷ l.password) ∷ []) ∷ []

abbrev pub via_items : Via → List Item
via_items Via.Direct = item (codes "via") (codes "direct" ∷ []) ∷ []
via_items (Via.Proxy at version login) =
    item (codes "via") (listener_words at) ∷ item (codes "proxyprotocol") (version_word version ∷ []) ∷ login_items login

abbrev pub route_items : Route → List Item
route_items r = pattern_items r.from r.to ++ via_items r.via

abbrev pub route_part : Route → Part
route_part r = Block (codes "route" ∷ []) (route_items r)

abbrev pub internal_part : Endpoint → Part
internal_part e = Top (item (codes "internal") (listener_words e))

abbrev pub external_part : Addr → Part
external_part a = Top (item (codes "external") (addr_text a ∷ []))

abbrev pub config_parts : Entries → List Part
config_parts c =
    map internal_part c.internals
    ++ (map external_part c.externals
    ++ (control_parts c.control
    ++ (setting_parts c
    ++ (map client_part c.client
    ++ (map socks_part c.socks
    ++ map route_part c.routes)))))

-- ---- their lines

pub pattern_joined : (p : Pattern) → join_with_byte 32 (pattern_words p) ≡ pattern_text p
pattern_joined p = by_port (host_text p.host) p.port
  where
    by_port : (host : List ℕ) (port : PortTest) → join_with_byte 32 (host ∷ port_words port) ≡ host ++ port_text port
    by_port host PortTest.Any = sym (append-nil host)
    by_port host (PortTest.Eq n) = refl
    by_port host (PortTest.Ne n) = refl
    by_port host (PortTest.Ge n) = refl
    by_port host (PortTest.Le n) = refl
    by_port host (PortTest.Gt n) = refl
    by_port host (PortTest.Lt n) = refl
    by_port host (PortTest.Range low high) = refl

pub listener_joined : (e : Endpoint) → join_with_byte 32 (listener_words e) ≡ listener e
listener_joined e = sym (append_assoc (addr_text e.addr) (codes " port = ") (number_text e.port))

set_spelled : (key : List ℕ) (all : Bool) (words : List (List ℕ)) → map inner_line (set_items key all words) ≡ set_lines key all words
set_spelled key true words = refl
set_spelled key false words = refl

max_spelled : (max : Option ℕ) → map inner_line (max_items max) ≡ max_lines max
max_spelled None = refl
max_spelled (Some n) = refl

users_spelled : (users : List (List ℕ)) → map inner_line (user_items users) ≡ user_lines users
users_spelled [] = refl
users_spelled (user ∷ users) = refl

patterns_spelled : (from to : Pattern) → map inner_line (pattern_items from to) ≡ pattern_lines from to
patterns_spelled from to = rw (pattern_joined from, pattern_joined to) refl

login_spelled : (login : Option Login) → map inner_line (login_items login) ≡ login_lines login
login_spelled None = refl
login_spelled (Some l) = refl

via_spelled : (via : Via) → map inner_line (via_items via) ≡ via_lines via
via_spelled Via.Direct = refl
via_spelled (Via.Proxy at version login) = rw (listener_joined at, login_spelled login) refl

-- lines of two lists of entries
both_spelled : (xs ys : List Item) (us vs : List (List ℕ)) → map inner_line xs ≡ us → map inner_line ys ≡ vs → map inner_line (xs ++ ys) ≡ us ++ vs
both_spelled xs ys us vs h k = map-append inner_line xs ys ∙ cc

client_spelled : (r : ClientRule) → part_lines (client_part r) ≡ client_lines r
client_spelled r = by_pass r.pass
  where
    inside : map inner_line (client_items r) ≡ pattern_lines r.from r.to ++ max_lines r.max
    inside = both_spelled (pattern_items r.from r.to) (max_items r.max) _ _ (patterns_spelled r.from r.to) (max_spelled r.max)

    by_pass : (pass : Bool) → part_lines (Block (codes "client" ∷ verdict_word pass ∷ []) (client_items r)) ≡
        block (cond pass (codes "client pass") (codes "client block")) (pattern_lines r.from r.to ++ max_lines r.max)
    by_pass true = ap (block (codes "client pass")) inside
    by_pass false = ap (block (codes "client block")) inside

socks_spelled : (r : SocksRule) → part_lines (socks_part r) ≡ socks_lines r
socks_spelled r = by_pass r.pass
  where
    lines : List (List ℕ)
    lines = pattern_lines r.from r.to
        ++ (command_lines r ++ (protocol_lines r ++ (method_lines r ++ (user_lines r.users ++ (version_lines r ++ max_lines r.max)))))

    inside : map inner_line (socks_items r) ≡ lines
    inside =
        both_spelled (pattern_items r.from r.to) _ _ _ (patterns_spelled r.from r.to)
        (both_spelled (command_items r) _ _ _ (set_spelled _ _ _)
        (both_spelled (protocol_items r) _ _ _ (set_spelled _ _ _)
        (both_spelled (method_items r) _ _ _ (set_spelled _ _ _)
        (both_spelled (user_items r.users) _ _ _ (users_spelled r.users)
        (both_spelled (version_items r) _ _ _ (set_spelled _ _ _) (max_spelled r.max))))))

    by_pass : (pass : Bool) → part_lines (Block (codes "socks" ∷ verdict_word pass ∷ []) (socks_items r)) ≡ block (cond pass (codes "socks pass") (codes "socks block")) lines
    by_pass true = ap (block (codes "socks pass")) inside
    by_pass false = ap (block (codes "socks block")) inside

route_spelled : (r : Route) → part_lines (route_part r) ≡ route_lines r
route_spelled r =
    ap (block (codes "route")) (both_spelled (pattern_items r.from r.to) (via_items r.via) _ _ (patterns_spelled r.from r.to) (via_spelled r.via))

control_spelled : (control : Option Endpoint) → lines_of (control_parts control) ≡ control_lines control
control_spelled None = refl
control_spelled (Some e) = ap (λ (z : List ℕ). entry (codes "control") z ∷ []) (listener_joined e)

-- lines of two lists of parts
then_spelled : (xs ys : List Part) (us vs : List (List ℕ)) → lines_of xs ≡ us → lines_of ys ≡ vs → lines_of (xs ++ ys) ≡ us ++ vs
then_spelled xs ys us vs h k = flat_map-append part_lines xs ys ∙ cc

each_spelled : {A : Type 0} (part : A → Part) (lines : A → List (List ℕ)) → ((a : A) → part_lines (part a) ≡ lines a) → (xs : List A) → lines_of (map part xs) ≡ flat_map lines xs
each_spelled part lines h [] = refl
each_spelled part lines h (x ∷ xs) =
    let a : part_lines (part x) ≡ lines x = h x in
    let b : lines_of (map part xs) ≡ flat_map lines xs = each_spelled part lines h xs in
    cc

ones_spelled : {A : Type 0} (part : A → Part) (line : A → List ℕ) → ((a : A) → part_lines (part a) ≡ line a ∷ []) → (xs : List A) → lines_of (map part xs) ≡ map line xs
ones_spelled part line h [] = refl
ones_spelled part line h (x ∷ xs) =
    let a : part_lines (part x) ≡ line x ∷ [] = h x in
    let b : lines_of (map part xs) ≡ map line xs = ones_spelled part line h xs in
    ap (λ (z : List (List ℕ)). z ++ lines_of (map part xs)) a ∙ cc

pub config_spelled : (c : Entries) → lines_of (config_parts c) ≡ config_lines c
config_spelled c =
    then_spelled (map internal_part c.internals) _ _ _ (ones_spelled internal_part internal_line (λ e. ap (λ (z : List ℕ). entry (codes "internal") z ∷ []) (listener_joined e)) c.internals)
    (then_spelled (map external_part c.externals) _ _ _ (ones_spelled external_part external_line (λ a. refl) c.externals)
    (then_spelled (control_parts c.control) _ _ _ (control_spelled c.control)
    (then_spelled (setting_parts c) _ _ _ refl
    (then_spelled (map client_part c.client) _ _ _ (each_spelled client_part client_lines client_spelled c.client)
    (then_spelled (map socks_part c.socks) _ _ _ (each_spelled socks_part socks_lines socks_spelled c.socks)
    (each_spelled route_part route_lines route_spelled c.routes))))))
