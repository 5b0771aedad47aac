-- The entries of a rule or a route are read again.
use Rattle.std.proofs.Common.{◌≡◌, ℕ, ◌≤◌, Bool, true, false, ◌&&◌, cond, List, [], ◌∷◌, ◌++◌, length, codes, Option, Some, None, Ok, Err, refl, ap, ◌∙◌, arith}
use Rattle.std.specs.List.{AllByRecursion}
use Rattle.addr_pattern.specs.declared.pattern.Pattern.{Pattern}
use Rattle.addr_pattern.specs.AddressText.{number_text}
use Rattle.addr_pattern.specs.ReadAgain.{IsPattern}
use Rattle.conf_model.specs.declared.fault.ConfKind.{ConfKind}
use Rattle.conf_model.specs.declared.given.Commands.{Commands}
use Rattle.conf_model.specs.declared.given.Given.{Given}
use Rattle.conf_model.specs.declared.given.Hop.{Hop}
use Rattle.conf_model.specs.declared.given.Methods.{Methods}
use Rattle.conf_model.specs.declared.given.Protocols.{Protocols}
use Rattle.conf_model.specs.declared.given.Versions.{Versions}
use Rattle.conf_model.specs.declared.keys.BlockKind.{BlockKind}
use Rattle.conf_model.specs.declared.keys.EntryKey.{EntryKey}
use Rattle.socks_grammar.specs.declared.protocol.Version.{Version}
use Rattle.socks_grammar.specs.declared.login.Login.{Login}
use Rattle.conf_types.specs.declared.route.Route.{Route}
use Rattle.conf_types.specs.declared.route.Via.{Via}
use Rattle.conf_types.specs.declared.rule.ClientRule.{ClientRule}
use Rattle.conf_types.specs.declared.rule.SocksRule.{SocksRule}
use Rattle.conf_model.specs.Blocks.{all_commands, all_methods, all_protocols, all_versions, client_rule, entry_of_key, given_by, is_given, is_there, nothing_given, or_bad, or_else, or_refused, socks_rule, socks_rule_of}
use Rattle.conf_model.specs.Canonical.{command_words, version_word}
use Rattle.conf_types.specs.Kept.{IsClientRule, IsMax, IsRoute, IsSocksRule, IsUser, IsVia, MayLogin}
use Rattle.conf_model.specs.Keys.{allows}
use Rattle.conf_model.specs.Values.{commands_of, protocols_of, rule_methods_of, versions_of}
use Rattle.conf_model.proofs.Again.Onto.{EntriesOnto, entries-then}
use Rattle.conf_model.proofs.Again.PlainParts.{each}
use Rattle.conf_model.proofs.Again.Sets.{five_commands, two_methods, two_protocols, two_versions}
use Rattle.conf_model.proofs.Again.Spelled.{client_items, command_items, listener_words, login_items, max_items, method_items, pattern_items, pattern_words, protocol_items, route_items, set_items, socks_items, user_items, version_items, via_items}
use Rattle.conf_model.proofs.Again.ValuesAgain.{hop-again, login-again, number-again, pattern-again, users-again}

-- an entry that may stand in the block and comes for the first time
new_entry : (kind : BlockKind) (g h : Given) (values : List (List ℕ)) (key : EntryKey) → allows kind key ≡ true → is_given key g ≡ false → given_by key values g ≡ Ok h →
    entry_of_key kind g values (Some key) ≡ Ok h
new_entry kind g h values key a b c =
    ap (λ v. cond v (cond (is_given key g) (Err ConfKind.BadValue) (given_by key values g)) (Err ConfKind.UnknownKeyword)) a
    ∙ (ap (λ v. cond v (Err ConfKind.BadValue) (given_by key values g)) b ∙ c)

abbrev pub with_patterns : Pattern → Pattern → Given
with_patterns from to = record nothing_given { from = Some from; to = Some to }

patterns_onto : (kind : BlockKind) (from to : Pattern) → allows kind EntryKey.From ≡ true → allows kind EntryKey.To ≡ true → IsPattern from → IsPattern to →
    EntriesOnto kind nothing_given (pattern_items from to) (with_patterns from to)
patterns_onto kind from to a b h k =
    let one : Given = record nothing_given { from = Some from } in (
      one,
      new_entry kind nothing_given one (pattern_words from) EntryKey.From a refl (ap (or_bad (λ (p : Pattern). let g : Given = record nothing_given { from = Some p } in g)) (pattern-again from h)),
      (with_patterns from to, new_entry kind one (with_patterns from to) (pattern_words to) EntryKey.To b refl (ap (or_bad (λ (p : Pattern). let g : Given = record one { to = Some p } in g)) (pattern-again to k)), refl),
    )

max_onto : (kind : BlockKind) (g : Given) (max : Option ℕ) → allows kind EntryKey.Max ≡ true → g.max ≡ None → IsMax max → EntriesOnto kind g (max_items max) (record g { max = max })
max_onto kind g None a e h = ap (λ (z : Option ℕ). let f : Given = record g { max = z } in f) e
max_onto kind g (Some n) a e h = (
  record g { max = Some n },
  new_entry kind g (record g { max = Some n }) (number_text n ∷ []) EntryKey.Max a (ap is_there e) (ap (or_bad (λ (m : ℕ). let f : Given = record g { max = Some m } in f)) (number-again 4294967295 n (omega arith) (omega (arith, h)))),
  refl,
)

-- ---- sets

-- a set is given unless it has all
abbrev given_set : {A : Type 0} → Bool → A → Option A
given_set true a = None
given_set false a = Some a

commands_onto : (kind : BlockKind) (g : Given) (all : Bool) (words : List (List ℕ)) (c : Commands) → allows kind EntryKey.Commands ≡ true → g.commands ≡ None → commands_of words ≡ Some c →
    EntriesOnto kind g (set_items (codes "command") all words) (record g { commands = given_set all c })
commands_onto kind g true words c a e k = ap (λ (z : Option Commands). let f : Given = record g { commands = z } in f) e
commands_onto kind g false words c a e k =
    (record g { commands = Some c }, new_entry kind g (record g { commands = Some c }) words EntryKey.Commands a (ap is_there e) (ap (or_bad (λ (x : Commands). let f : Given = record g { commands = Some x } in f)) k), refl)

protocols_onto : (kind : BlockKind) (g : Given) (all : Bool) (words : List (List ℕ)) (c : Protocols) → allows kind EntryKey.Protocols ≡ true → g.protocols ≡ None → protocols_of words ≡ Some c →
    EntriesOnto kind g (set_items (codes "protocol") all words) (record g { protocols = given_set all c })
protocols_onto kind g true words c a e k = ap (λ (z : Option Protocols). let f : Given = record g { protocols = z } in f) e
protocols_onto kind g false words c a e k =
    (record g { protocols = Some c }, new_entry kind g (record g { protocols = Some c }) words EntryKey.Protocols a (ap is_there e) (ap (or_bad (λ (x : Protocols). let f : Given = record g { protocols = Some x } in f)) k), refl)

methods_onto : (kind : BlockKind) (g : Given) (all : Bool) (words : List (List ℕ)) (c : Methods) → allows kind EntryKey.Methods ≡ true → g.methods ≡ None → rule_methods_of words ≡ Ok c →
    EntriesOnto kind g (set_items (codes "socksmethod") all words) (record g { methods = given_set all c })
methods_onto kind g true words c a e k = ap (λ (z : Option Methods). let f : Given = record g { methods = z } in f) e
methods_onto kind g false words c a e k =
    (record g { methods = Some c }, new_entry kind g (record g { methods = Some c }) words EntryKey.Methods a (ap is_there e) (ap (or_refused (λ (x : Methods). let f : Given = record g { methods = Some x } in f)) k), refl)

versions_onto : (kind : BlockKind) (g : Given) (all : Bool) (words : List (List ℕ)) (c : Versions) → allows kind EntryKey.Versions ≡ true → g.versions ≡ None → versions_of words ≡ Some c →
    EntriesOnto kind g (set_items (codes "proxyprotocol") all words) (record g { versions = given_set all c })
versions_onto kind g true words c a e k = ap (λ (z : Option Versions). let f : Given = record g { versions = z } in f) e
versions_onto kind g false words c a e k =
    (record g { versions = Some c }, new_entry kind g (record g { versions = Some c }) words EntryKey.Versions a (ap is_there e) (ap (or_bad (λ (x : Versions). let f : Given = record g { versions = Some x } in f)) k), refl)

abbrev given_users : List (List ℕ) → Option (List (List ℕ))
given_users [] = None
given_users (user ∷ users) = Some (user ∷ users)

users_onto : (kind : BlockKind) (g : Given) (users : List (List ℕ)) → allows kind EntryKey.Users ≡ true → g.users ≡ None → AllByRecursion IsUser users → length users ≤ 64 →
    EntriesOnto kind g (user_items users) (record g { users = given_users users })
users_onto kind g [] a e h k = ap (λ (z : Option (List (List ℕ))). let f : Given = record g { users = z } in f) e
users_onto kind g (user ∷ users) a e h k = (
  record g { users = Some (user ∷ users) },
  new_entry kind g (record g { users = Some (user ∷ users) }) (user ∷ users) EntryKey.Users a (ap is_there e) (ap (or_bad (λ (x : List (List ℕ)). let f : Given = record g { users = Some x } in f)) (users-again user users h k)),
  refl,
)

-- ---- rules

abbrev pub given_client : ClientRule → Given
given_client r = record (with_patterns r.from r.to) { max = r.max }

pub client_onto : (r : ClientRule) → IsClientRule r → EntriesOnto (BlockKind.Client r.pass) nothing_given (client_items r) (given_client r)
client_onto r h =
    entries-then (BlockKind.Client r.pass) nothing_given (with_patterns r.from r.to) (given_client r) (pattern_items r.from r.to) (max_items r.max)
    (patterns_onto (BlockKind.Client r.pass) r.from r.to refl refl h.from h.to)
    (max_onto (BlockKind.Client r.pass) (with_patterns r.from r.to) r.max refl refl h.max)

pub client_again : (r : ClientRule) → client_rule r.pass (given_client r) ≡ r
client_again r = refl

abbrev commands_in : SocksRule → Commands
commands_in r = record { connect = r.connect; bind = r.bind; udpassociate = r.udpassociate; bindreply = r.bindreply; udpreply = r.udpreply }

abbrev protocols_in : SocksRule → Protocols
protocols_in r = record { tcp = r.tcp; udp = r.udp }

abbrev methods_in : SocksRule → Methods
methods_in r = record { noauth = r.noauth; username = r.username }

abbrev versions_in : SocksRule → Versions
versions_in r = record { v4 = r.v4; v5 = r.v5 }

abbrev with_commands : SocksRule → Given
with_commands r = record (with_patterns r.from r.to) { commands = given_set (r.connect && r.bind && r.udpassociate && r.bindreply && r.udpreply) (commands_in r) }

abbrev with_protocols : SocksRule → Given
with_protocols r = record (with_commands r) { protocols = given_set (r.tcp && r.udp) (protocols_in r) }

abbrev with_methods : SocksRule → Given
with_methods r = record (with_protocols r) { methods = given_set (r.noauth && r.username) (methods_in r) }

abbrev with_users : SocksRule → Given
with_users r = record (with_methods r) { users = given_users r.users }

abbrev with_versions : SocksRule → Given
with_versions r = record (with_users r) { versions = given_set (r.v4 && r.v5) (versions_in r) }

abbrev pub given_socks : SocksRule → Given
given_socks r = record (with_versions r) { max = r.max }

pub socks_onto : (r : SocksRule) → IsSocksRule r → EntriesOnto (BlockKind.Socks r.pass) nothing_given (socks_items r) (given_socks r)
socks_onto r h =
    let kind = BlockKind.Socks r.pass in
    entries-then kind nothing_given (with_patterns r.from r.to) (given_socks r) (pattern_items r.from r.to) _ (patterns_onto kind r.from r.to refl refl h.from h.to)
    (entries-then kind (with_patterns r.from r.to) (with_commands r) (given_socks r) (command_items r) _
    (commands_onto kind (with_patterns r.from r.to) _ (command_words r) (commands_in r) refl refl (five_commands r.connect r.bind r.udpassociate r.bindreply r.udpreply h.commands))
    (entries-then kind (with_commands r) (with_protocols r) (given_socks r) (protocol_items r) _
    (protocols_onto kind (with_commands r) _ _ (protocols_in r) refl refl (two_protocols r.tcp r.udp h.protocols))
    (entries-then kind (with_protocols r) (with_methods r) (given_socks r) (method_items r) _
    (methods_onto kind (with_protocols r) _ _ (methods_in r) refl refl (two_methods r.noauth r.username h.methods))
    (entries-then kind (with_methods r) (with_users r) (given_socks r) (user_items r.users) _
    (users_onto kind (with_methods r) r.users refl refl (each IsUser r.users h.users) h.few)
    (entries-then kind (with_users r) (with_versions r) (given_socks r) (version_items r) (max_items r.max)
    (versions_onto kind (with_users r) _ _ (versions_in r) refl refl (two_versions r.v4 r.v5 h.versions))
    (max_onto kind (with_versions r) r.max refl refl h.max))))))

-- what isn't given allows all
or_all_commands : (a b c d e : Bool) → or_else all_commands (given_set (a && b && c && d && e) (record { connect = a; bind = b; udpassociate = c; bindreply = d; udpreply = e }))
    ≡ record { connect = a; bind = b; udpassociate = c; bindreply = d; udpreply = e }
or_all_commands true true true true true = refl
or_all_commands true true true true false = refl
or_all_commands true true true false e = refl
or_all_commands true true false d e = refl
or_all_commands true false c d e = refl
or_all_commands false b c d e = refl

or_all_protocols : (a b : Bool) → or_else all_protocols (given_set (a && b) (record { tcp = a; udp = b })) ≡ record { tcp = a; udp = b }
or_all_protocols true true = refl
or_all_protocols true false = refl
or_all_protocols false b = refl

or_all_methods : (a b : Bool) → or_else all_methods (given_set (a && b) (record { noauth = a; username = b })) ≡ record { noauth = a; username = b }
or_all_methods true true = refl
or_all_methods true false = refl
or_all_methods false b = refl

or_all_versions : (a b : Bool) → or_else all_versions (given_set (a && b) (record { v4 = a; v5 = b })) ≡ record { v4 = a; v5 = b }
or_all_versions true true = refl
or_all_versions true false = refl
or_all_versions false b = refl

or_no_users : (users : List (List ℕ)) → or_else [] (given_users users) ≡ users
or_no_users [] = refl
or_no_users (user ∷ users) = refl

pub socks_again : (r : SocksRule) → socks_rule r.pass (given_socks r) ≡ r
socks_again r =
    let g = given_socks r in
    ap (λ (c : Commands). socks_rule_of r.pass g c (or_else all_protocols g.protocols) (or_else all_methods g.methods) (or_else all_versions g.versions))
    (or_all_commands r.connect r.bind r.udpassociate r.bindreply r.udpreply)
    ∙ (ap (λ (p : Protocols). socks_rule_of r.pass g (commands_in r) p (or_else all_methods g.methods) (or_else all_versions g.versions)) (or_all_protocols r.tcp r.udp)
    ∙ (ap (λ (m : Methods). socks_rule_of r.pass g (commands_in r) (protocols_in r) m (or_else all_versions g.versions)) (or_all_methods r.noauth r.username)
    ∙ (ap (λ (v : Versions). socks_rule_of r.pass g (commands_in r) (protocols_in r) (methods_in r) v) (or_all_versions r.v4 r.v5)
    ∙ ap (λ (u : List (List ℕ)). let s : SocksRule = record r { users = u } in s) (or_no_users r.users))))

-- ---- routes

abbrev given_version : Version → Versions
given_version Version.V4 = record { v4 = true; v5 = false }
given_version Version.V5 = record { v4 = false; v5 = true }

version-again : (version : Version) → versions_of (version_word version ∷ []) ≡ Some (given_version version)
version-again Version.V4 = refl
version-again Version.V5 = refl

login_onto : (g : Given) (login : Option Login) → g.login ≡ None → MayLogin login → EntriesOnto BlockKind.Route g (login_items login) (record g { login = login })
login_onto g None e h = ap (λ (z : Option Login). let f : Given = record g { login = z } in f) e
login_onto g (Some l) e h = (
  record g { login = Some l },
  new_entry BlockKind.Route g (record g { login = Some l }) ((l.name ++ 58 ∷ l.password) ∷ []) EntryKey.Login refl (ap is_there e) (ap (or_bad (λ (x : Login). let f : Given = record g { login = Some x } in f)) (login-again l h)),
  refl,
)

abbrev hop_in : Via → Hop
hop_in Via.Direct = Hop.Direct
hop_in (Via.Proxy at version login) = Hop.At at

abbrev pub with_via : Given → Via → Given
with_via g Via.Direct = record g { via = Some Hop.Direct }
with_via g (Via.Proxy at version login) = record g { via = Some (Hop.At at); versions = Some (given_version version); login = login }

via_onto : (g : Given) (via : Via) → g.via ≡ None → g.versions ≡ None → g.login ≡ None → IsVia via → EntriesOnto BlockKind.Route g (via_items via) (with_via g via)
via_onto g Via.Direct e k l h =
    (record g { via = Some Hop.Direct }, new_entry BlockKind.Route g (record g { via = Some Hop.Direct }) (codes "direct" ∷ []) EntryKey.Via refl (ap is_there e) refl, refl)
via_onto g (Via.Proxy at version login) e k l h =
    let one : Given = record g { via = Some (Hop.At at) } in
    let two : Given = record one { versions = Some (given_version version) } in (
      one,
      new_entry BlockKind.Route g one (listener_words at) EntryKey.Via refl (ap is_there e) (ap (or_bad (λ (x : Hop). let f : Given = record g { via = Some x } in f)) (hop-again at h.0)),
      (
        two,
        new_entry BlockKind.Route one two (version_word version ∷ []) EntryKey.Versions refl (ap is_there k) (ap (or_bad (λ (x : Versions). let f : Given = record one { versions = Some x } in f)) (version-again version)),
        login_onto two login l h.1,
      ),
    )

abbrev pub given_route : Route → Given
given_route r = with_via (with_patterns r.from r.to) r.via

pub route_onto : (r : Route) → IsRoute r → EntriesOnto BlockKind.Route nothing_given (route_items r) (given_route r)
route_onto r h =
    entries-then BlockKind.Route nothing_given (with_patterns r.from r.to) (given_route r) (pattern_items r.from r.to) (via_items r.via)
    (patterns_onto BlockKind.Route r.from r.to refl refl h.from h.to) (via_onto (with_patterns r.from r.to) r.via refl refl refl h.via)
