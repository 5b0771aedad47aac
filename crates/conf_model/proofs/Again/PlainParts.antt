-- The parts of a configuration are read again as parts.
use Rattle.std.proofs.Common.{ℕ, ◌≤◌, Bool, true, false, List, [], ◌∷◌, ◌++◌, map, codes, Option, Some, None, refl, arith}
use Rattle.std.specs.Prelude.{All}
use Rattle.std.specs.List.{AllByRecursion}
use Rattle.std.proofs.lemmas.List.Elements.{All-head, All-tail}
use Rattle.addr_pattern.specs.declared.addr.Addr.{Addr}
use Rattle.addr_pattern.specs.declared.endpoint.Endpoint.{Endpoint}
use Rattle.addr_pattern.specs.declared.pattern.Pattern.{Pattern}
use Rattle.addr_pattern.specs.AddressText.{addr_text, number_text}
use Rattle.addr_pattern.specs.ReadAgain.{IsAddr, IsPattern}
use Rattle.addr_pattern.proofs.PlainTexts.{plain-addr}
use Rattle.conf_types.specs.declared.entries.Entries.{Entries}
use Rattle.socks_grammar.specs.declared.protocol.Method.{Method}
use Rattle.socks_grammar.specs.declared.protocol.Version.{Version}
use Rattle.socks_grammar.specs.declared.login.Login.{Login}
use Rattle.conf_types.specs.declared.route.Route.{Route}
use Rattle.conf_types.specs.declared.route.Via.{Via}
use Rattle.conf_types.specs.declared.rule.ClientRule.{ClientRule}
use Rattle.conf_types.specs.declared.rule.SocksRule.{SocksRule}
use Rattle.conf_model.specs.Canonical.{method_words, version_word, word_if}
use Rattle.conf_types.specs.Kept.{IsClientRule, IsConfig, IsControl, IsListener, IsMax, IsRoute, IsSocksRule, IsUser, IsVia, MayLogin}
use Rattle.conf_text.proofs.Lines.{IsKeyName, IsValue, known_key, known_value}
use Rattle.conf_text.proofs.Parts.{IsItem, IsPart}
use Rattle.conf_model.proofs.Again.PlainWords.{host_value, listener_values, login_value, number_value, pattern_values, user_value}
use Rattle.conf_model.proofs.Again.Spelled.{client_part, command_items, config_parts, control_parts, external_part, internal_part, item, login_items, max_items, method_items, pattern_items, protocol_items, route_part, set_items, setting_parts, socks_part, user_items, verdict_word, version_items, via_items}

pub each : {A : Type 0} (P : A → Type 0) (xs : List A) → All P xs → AllByRecursion P xs
each P [] h = tt
each P (x ∷ xs) h = (All-head P x xs h, each P xs (All-tail P x xs h))

both : {A : Type 0} (P : A → Type 0) (xs ys : List A) → AllByRecursion P xs → AllByRecursion P ys → AllByRecursion P (xs ++ ys)
both P [] ys h k = k
both P (x ∷ xs) ys h k = (h.0, both P xs ys h.1 k)

each_map : {A B : Type 0} (P : A → Type 0) (Q : B → Type 0) (f : A → B) → ((a : A) → P a → Q (f a)) → (xs : List A) → AllByRecursion P xs → AllByRecursion Q (map f xs)
each_map P Q f h [] k = tt
each_map P Q f h (x ∷ xs) k = (h x k.0, each_map P Q f h xs k.1)

-- ---- entries

is_item : (key : List ℕ) (values : List (List ℕ)) → IsKeyName key → AllByRecursion IsValue values → IsItem (item key values)
is_item key values h k = record { key' = h; values' = k }

one_item : (key : List ℕ) (values : List (List ℕ)) → IsKeyName key → AllByRecursion IsValue values → AllByRecursion IsItem (item key values ∷ [])
one_item key values h k = (is_item key values h k, tt)

set_are : (key : List ℕ) (all : Bool) (words : List (List ℕ)) → IsKeyName key → AllByRecursion IsValue words → AllByRecursion IsItem (set_items key all words)
set_are key true words h k = tt
set_are key false words h k = one_item key words h k

word_values : (word : List ℕ) (b : Bool) → IsValue word → AllByRecursion IsValue (word_if b word)
word_values word true h = (h, tt)
word_values word false h = tt

two_values : (v w : List ℕ) (a b : Bool) → IsValue v → IsValue w → AllByRecursion IsValue (word_if a v ++ word_if b w)
two_values v w a b h k = both IsValue (word_if a v) (word_if b w) (word_values v a h) (word_values w b k)

command_are : (r : SocksRule) → AllByRecursion IsItem (command_items r)
command_are r =
    set_are (codes "command") _ _ (known_key (codes "command") refl)
    (both IsValue (word_if r.connect (codes "connect")) _ (word_values (codes "connect") r.connect (known_value (codes "connect") refl))
    (both IsValue (word_if r.bind (codes "bind")) _ (word_values (codes "bind") r.bind (known_value (codes "bind") refl))
    (both IsValue (word_if r.udpassociate (codes "udpassociate")) _ (word_values (codes "udpassociate") r.udpassociate (known_value (codes "udpassociate") refl))
    (two_values (codes "bindreply") (codes "udpreply") r.bindreply r.udpreply (known_value (codes "bindreply") refl) (known_value (codes "udpreply") refl)))))

protocol_are : (r : SocksRule) → AllByRecursion IsItem (protocol_items r)
protocol_are r =
    set_are (codes "protocol") _ _ (known_key (codes "protocol") refl)
    (two_values (codes "tcp") (codes "udp") r.tcp r.udp (known_value (codes "tcp") refl) (known_value (codes "udp") refl))

method_are : (r : SocksRule) → AllByRecursion IsItem (method_items r)
method_are r =
    set_are (codes "socksmethod") _ _ (known_key (codes "socksmethod") refl)
    (two_values (codes "none") (codes "username") r.noauth r.username (known_value (codes "none") refl) (known_value (codes "username") refl))

version_are : (r : SocksRule) → AllByRecursion IsItem (version_items r)
version_are r =
    set_are (codes "proxyprotocol") _ _ (known_key (codes "proxyprotocol") refl)
    (two_values (codes "socks_v4") (codes "socks_v5") r.v4 r.v5 (known_value (codes "socks_v4") refl) (known_value (codes "socks_v5") refl))

users_values : (users : List (List ℕ)) → AllByRecursion IsUser users → AllByRecursion IsValue users
users_values [] h = tt
users_values (user ∷ users) h = (user_value user h.0, users_values users h.1)

user_are : (users : List (List ℕ)) → AllByRecursion IsUser users → AllByRecursion IsItem (user_items users)
user_are [] h = tt
user_are (user ∷ users) h = one_item (codes "user") (user ∷ users) (known_key (codes "user") refl) (users_values (user ∷ users) h)

max_are : (max : Option ℕ) → IsMax max → AllByRecursion IsItem (max_items max)
max_are None h = tt
max_are (Some n) h = one_item (codes "session.max") (number_text n ∷ []) (known_key (codes "session.max") refl) (number_value n h, tt)

pattern_are : (from to : Pattern) → IsPattern from → IsPattern to → AllByRecursion IsItem (pattern_items from to)
pattern_are from to h k = (
  is_item (codes "from") _ (known_key (codes "from") refl) (pattern_values from h),
  one_item (codes "to") _ (known_key (codes "to") refl) (pattern_values to k),
)

version_value : (version : Version) → IsValue (version_word version)
version_value Version.V4 = known_value (codes "socks_v4") refl
version_value Version.V5 = known_value (codes "socks_v5") refl

login_are : (login : Option Login) → MayLogin login → AllByRecursion IsItem (login_items login)
login_are None h = tt
login_are (Some l) h = one_item (codes "login") _ (known_key (codes "login") refl) (login_value l h, tt)

via_are : (via : Via) → IsVia via → AllByRecursion IsItem (via_items via)
via_are Via.Direct h = one_item (codes "via") (codes "direct" ∷ []) (known_key (codes "via") refl) (known_value (codes "direct") refl, tt)
via_are (Via.Proxy at version login) h = (
  is_item (codes "via") _ (known_key (codes "via") refl) (listener_values at h.0),
  (is_item (codes "proxyprotocol") _ (known_key (codes "proxyprotocol") refl) (version_value version, tt), login_are login h.1),
)

-- ---- statements

verdict_value : (pass : Bool) → IsValue (verdict_word pass)
verdict_value true = known_value (codes "pass") refl
verdict_value false = known_value (codes "block") refl

client_is : (r : ClientRule) → IsClientRule r → IsPart (client_part r)
client_is r h = (
  (known_value (codes "client") refl, (verdict_value r.pass, tt)),
  both IsItem (pattern_items r.from r.to) (max_items r.max) (pattern_are r.from r.to h.from h.to) (max_are r.max h.max),
)

socks_is : (r : SocksRule) → IsSocksRule r → IsPart (socks_part r)
socks_is r h = (
  (known_value (codes "socks") refl, (verdict_value r.pass, tt)),
  both IsItem (pattern_items r.from r.to) _ (pattern_are r.from r.to h.from h.to)
      (both IsItem (command_items r) _ (command_are r)
      (both IsItem (protocol_items r) _ (protocol_are r)
      (both IsItem (method_items r) _ (method_are r)
      (both IsItem (user_items r.users) _ (user_are r.users (each IsUser r.users h.users))
      (both IsItem (version_items r) _ (version_are r) (max_are r.max h.max)))))),
)

route_is : (r : Route) → IsRoute r → IsPart (route_part r)
route_is r h = (
  (known_value (codes "route") refl, tt),
  both IsItem (pattern_items r.from r.to) (via_items r.via) (pattern_are r.from r.to h.from h.to) (via_are r.via h.via),
)

internal_is : (e : Endpoint) → IsListener e → IsPart (internal_part e)
internal_is e h = is_item (codes "internal") _ (known_key (codes "internal") refl) (listener_values e h.endpoint)

external_is : (a : Addr) → IsAddr a → IsPart (external_part a)
external_is a h = is_item (codes "external") _ (known_key (codes "external") refl) (host_value (addr_text a) (plain-addr a h), tt)

control_are : (control : Option Endpoint) → IsControl control → AllByRecursion IsPart (control_parts control)
control_are None h = tt
control_are (Some e) h = (is_item (codes "control") _ (known_key (codes "control") refl) (listener_values e h.0.endpoint), tt)

methods_values : (methods : List Method) → AllByRecursion IsValue (method_words methods)
methods_values [] = tt
methods_values (Method.NoAuth ∷ methods) = (known_value (codes "none") refl, methods_values methods)
methods_values (Method.Username ∷ methods) = (known_value (codes "username") refl, methods_values methods)

setting_are : (c : Entries) → c.negotiate ≤ 4000000 → c.io ≤ 4000000 → AllByRecursion IsPart (setting_parts c)
setting_are c h k = (
  is_item (codes "socksmethod") _ (known_key (codes "socksmethod") refl) (methods_values c.methods),
  (
    is_item (codes "timeout.negotiate") _ (known_key (codes "timeout.negotiate") refl) (number_value c.negotiate (omega arith), tt),
    (is_item (codes "timeout.io") _ (known_key (codes "timeout.io") refl) (number_value c.io (omega arith), tt), tt),
  ),
)

pub parts_are : (c : Entries) → IsConfig c → AllByRecursion IsPart (config_parts c)
parts_are c h =
    both IsPart (map internal_part c.internals) _ (each_map IsListener IsPart internal_part internal_is c.internals (each IsListener c.internals h.internals))
    (both IsPart (map external_part c.externals) _ (each_map IsAddr IsPart external_part external_is c.externals (each IsAddr c.externals h.externals))
    (both IsPart (control_parts c.control) _ (control_are c.control h.control)
    (both IsPart (setting_parts c) _ (setting_are c h.negotiate h.io)
    (both IsPart (map client_part c.client) _ (each_map IsClientRule IsPart client_part client_is c.client (each IsClientRule c.client h.client))
    (both IsPart (map socks_part c.socks) _ (each_map IsSocksRule IsPart socks_part socks_is c.socks (each IsSocksRule c.socks h.socks))
    (each_map IsRoute IsPart route_part route_is c.routes (each IsRoute c.routes h.routes)))))))
