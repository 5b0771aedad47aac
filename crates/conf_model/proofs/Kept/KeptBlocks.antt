-- What the entries of a block say can be written.
use Rattle.std.proofs.Common.{ℕ, ◌<◌, ◌≤◌, ◌^◌, Bool, true, false, cond, List, [], ◌∷◌, Option, Some, None, IfSome, Result, Ok, Err, IfOk, refl, arith}
use Rattle.std.specs.List.{AllByRecursion}
use Rattle.std.proofs.lemmas.List.Elements.{All-nil}
use Rattle.addr_pattern.specs.ReadAgain.{IsPattern}
use Rattle.conf_text.specs.declared.statement.Entry.{Entry}
use Rattle.conf_text.proofs.PlainValues.{HasPlainValues, IsPlainWord}
use Rattle.conf_model.specs.declared.fault.ConfFault.{ConfFault}
use Rattle.conf_model.specs.declared.fault.ConfKind.{ConfKind}
use Rattle.conf_model.specs.declared.given.Given.{Given}
use Rattle.conf_model.specs.declared.given.Hop.{Hop}
use Rattle.conf_model.specs.declared.keys.BlockKind.{BlockKind}
use Rattle.conf_model.specs.declared.keys.EntryKey.{EntryKey}
use Rattle.socks_grammar.specs.declared.protocol.Version.{Version}
use Rattle.socks_grammar.specs.declared.login.Login.{Login}
use Rattle.conf_model.specs.Blocks.{all_commands, all_methods, all_protocols, all_versions, any, at_line, client_rule, entries_onto, entry_of_key, entry_onto, given_by, is_given, nothing_given, or_bad, or_else, or_refused, route, socks_rule, version_of, via_at}
use Rattle.conf_types.specs.Kept.{IsClientRule, IsLogin, IsMax, IsRoute, IsSocksRule, IsVia, MayLogin}
use Rattle.conf_model.specs.Keys.{allows, entry_key}
use Rattle.conf_model.specs.Values.{client_methods_fault, commands_of, hop_of, login_of, number_of, pattern_of, protocols_of, rule_methods_of, unless_fault, users_of, versions_of}
use Rattle.conf_model.proofs.Kept.KeptValues.{AreUsers, HasCommand, HasMethod, HasProtocol, HasVersion, IsHop, commands_kept, hop_kept, login_kept, number_kept, pattern_kept, protocols_kept, rule_methods_kept, users_kept, versions_kept}

-- all that is given can be written
pub record IsGiven (g : Given) : Type 0 where
  pub from : IfSome g.from IsPattern
  pub to : IfSome g.to IsPattern
  pub max : IfSome g.max (λ n. n < 2 ^ 32)
  pub commands : IfSome g.commands HasCommand
  pub protocols : IfSome g.protocols HasProtocol
  pub methods : IfSome g.methods HasMethod
  pub users : IfSome g.users AreUsers
  pub versions : IfSome g.versions HasVersion
  pub via : IfSome g.via IsHop
  pub login : IfSome g.login IsLogin

pub nothing_kept : IsGiven nothing_given
nothing_kept = record { from = tt; to = tt; max = tt; commands = tt; protocols = tt; methods = tt; users = tt; versions = tt; via = tt; login = tt }

-- ---- entries

bad_kept : {A : Type 0} (P : A → Type 0) (put : A → Given) (o : Option A) → IfSome o P → ((a : A) → P a → IsGiven (put a)) → IfOk (or_bad put o) IsGiven
bad_kept P put None h k = tt
bad_kept P put (Some a) h k = k a h

refused_kept : {A : Type 0} (P : A → Type 0) (put : A → Given) (r : Result A ConfKind) → IfOk r P → ((a : A) → P a → IsGiven (put a)) → IfOk (or_refused put r) IsGiven
refused_kept P put (Err kind) h k = tt
refused_kept P put (Ok a) h k = k a h

unless_kept : (fault : Option ConfKind) (g : Given) → IsGiven g → IfOk (unless_fault fault g) IsGiven
unless_kept None g h = h
unless_kept (Some kind) g h = tt

with_log : (g : Given) → IsGiven g → IsGiven (record g { log = true })
with_log g h = record { from = h.from; to = h.to; max = h.max; commands = h.commands; protocols = h.protocols; methods = h.methods; users = h.users; versions = h.versions; via = h.via; login = h.login }

with_client_method : (g : Given) → IsGiven g → IsGiven (record g { clientmethod = true })
with_client_method g h = record { from = h.from; to = h.to; max = h.max; commands = h.commands; protocols = h.protocols; methods = h.methods; users = h.users; versions = h.versions; via = h.via; login = h.login }

given_kept : (key : EntryKey) (values : List (List ℕ)) (g : Given) → AllByRecursion IsPlainWord values → IsGiven g → IfOk (given_by key values g) IsGiven
given_kept EntryKey.From values g plain h = bad_kept IsPattern _ (pattern_of values) (pattern_kept values)
    (λ a k. record { from = k; to = h.to; max = h.max; commands = h.commands; protocols = h.protocols; methods = h.methods; users = h.users; versions = h.versions; via = h.via; login = h.login })
given_kept EntryKey.To values g plain h = bad_kept IsPattern _ (pattern_of values) (pattern_kept values)
    (λ a k. record { from = h.from; to = k; max = h.max; commands = h.commands; protocols = h.protocols; methods = h.methods; users = h.users; versions = h.versions; via = h.via; login = h.login })
given_kept EntryKey.Log values g plain h = with_log g h
given_kept EntryKey.ClientMethods values g plain h = unless_kept (client_methods_fault values) (record g { clientmethod = true }) (with_client_method g h)
given_kept EntryKey.Max values g plain h = bad_kept (λ n. n ≤ 4294967295) _ (number_of 4294967295 values) (number_kept 4294967295 values)
    (λ a k. record { from = h.from; to = h.to; max = omega (arith, k); commands = h.commands; protocols = h.protocols; methods = h.methods; users = h.users; versions = h.versions; via = h.via; login = h.login })
given_kept EntryKey.Commands values g plain h = bad_kept HasCommand _ (commands_of values) (commands_kept values)
    (λ a k. record { from = h.from; to = h.to; max = h.max; commands = k; protocols = h.protocols; methods = h.methods; users = h.users; versions = h.versions; via = h.via; login = h.login })
given_kept EntryKey.Protocols values g plain h = bad_kept HasProtocol _ (protocols_of values) (protocols_kept values)
    (λ a k. record { from = h.from; to = h.to; max = h.max; commands = h.commands; protocols = k; methods = h.methods; users = h.users; versions = h.versions; via = h.via; login = h.login })
given_kept EntryKey.Methods values g plain h = refused_kept HasMethod _ (rule_methods_of values) (rule_methods_kept values)
    (λ a k. record { from = h.from; to = h.to; max = h.max; commands = h.commands; protocols = h.protocols; methods = k; users = h.users; versions = h.versions; via = h.via; login = h.login })
given_kept EntryKey.Users values g plain h = bad_kept AreUsers _ (users_of values) (users_kept values plain)
    (λ a k. record { from = h.from; to = h.to; max = h.max; commands = h.commands; protocols = h.protocols; methods = h.methods; users = k; versions = h.versions; via = h.via; login = h.login })
given_kept EntryKey.Versions values g plain h = bad_kept HasVersion _ (versions_of values) (versions_kept values)
    (λ a k. record { from = h.from; to = h.to; max = h.max; commands = h.commands; protocols = h.protocols; methods = h.methods; users = h.users; versions = k; via = h.via; login = h.login })
given_kept EntryKey.Via values g plain h = bad_kept IsHop _ (hop_of values) (hop_kept values)
    (λ a k. record { from = h.from; to = h.to; max = h.max; commands = h.commands; protocols = h.protocols; methods = h.methods; users = h.users; versions = h.versions; via = k; login = h.login })
given_kept EntryKey.Login values g plain h = bad_kept IsLogin _ (login_of values) (login_kept values plain)
    (λ a k. record { from = h.from; to = h.to; max = h.max; commands = h.commands; protocols = h.protocols; methods = h.methods; users = h.users; versions = h.versions; via = h.via; login = k })

keyed_kept : (may before : Bool) (key : EntryKey) (values : List (List ℕ)) (g : Given) → AllByRecursion IsPlainWord values → IsGiven g →
    IfOk (cond may (cond before (Err ConfKind.BadValue) (given_by key values g)) (Err ConfKind.UnknownKeyword)) IsGiven
keyed_kept false before key values g plain h = tt
keyed_kept true true key values g plain h = tt
keyed_kept true false key values g plain h = given_kept key values g plain h

key_kept : (kind : BlockKind) (g : Given) (values : List (List ℕ)) (key : Option EntryKey) → AllByRecursion IsPlainWord values → IsGiven g → IfOk (entry_of_key kind g values key) IsGiven
key_kept kind g values None plain h = tt
key_kept kind g values (Some key) plain h = keyed_kept (allows kind key) (is_given key g) key values g plain h

pub line_kept : {A : Type 0} (P : A → Type 0) (line : ℕ) (r : Result A ConfKind) → IfOk r P → IfOk (at_line line r) P
line_kept P line (Ok a) h = h
line_kept P line (Err kind) h = tt

then_kept : (kind : BlockKind) (es : List Entry) (r : Result Given ConfFault) → IfOk r IsGiven → ((h : Given) → IsGiven h → IfOk (entries_onto kind h es) IsGiven) →
    IfOk (elim r [ Ok h ↦ entries_onto kind h es | Err fault ↦ Err fault ]) IsGiven
then_kept kind es (Ok h) k more = more h k
then_kept kind es (Err fault) k more = tt

pub entries_kept : (kind : BlockKind) (g : Given) (es : List Entry) → AllByRecursion HasPlainValues es → IsGiven g → IfOk (entries_onto kind g es) IsGiven
entries_kept kind g [] plain h = h
entries_kept kind g (e ∷ es) plain h =
    then_kept kind es (entry_onto kind g e) (line_kept IsGiven e.line (entry_of_key kind g e.values (entry_key e.key)) (key_kept kind g e.values (entry_key e.key) plain.0 h))
    (λ f k. entries_kept kind f es plain.1 k)

-- ---- rules and routes

else_kept : {A : Type 0} (P : A → Type 0) (a : A) (o : Option A) → P a → IfSome o P → P (or_else a o)
else_kept P a None h k = h
else_kept P a (Some b) h k = k

any_kept : IsPattern any
any_kept = record { host = tt; port = tt }

max_kept : (max : Option ℕ) → IfSome max (λ n. n < 2 ^ 32) → IsMax max
max_kept None h = tt
max_kept (Some n) h = h

login_may : (login : Option Login) → IfSome login IsLogin → MayLogin login
login_may None h = tt
login_may (Some l) h = h

pub client_kept : (pass : Bool) (g : Given) → IsGiven g → IsClientRule (client_rule pass g)
client_kept pass g h = record { from = else_kept IsPattern any g.from any_kept h.from; to = else_kept IsPattern any g.to any_kept h.to; max = max_kept g.max h.max }

pub socks_kept : (pass : Bool) (g : Given) → IsGiven g → IsSocksRule (socks_rule pass g)
socks_kept pass g h =
    let users = else_kept AreUsers [] g.users (record { few = omega arith; all = All-nil _ }) h.users in
    record {
      from = else_kept IsPattern any g.from any_kept h.from;
      to = else_kept IsPattern any g.to any_kept h.to;
      commands = else_kept HasCommand all_commands g.commands refl h.commands;
      protocols = else_kept HasProtocol all_protocols g.protocols refl h.protocols;
      methods = else_kept HasMethod all_methods g.methods refl h.methods;
      versions = else_kept HasVersion all_versions g.versions refl h.versions;
      few = users.few;
      users = users.all;
      max = max_kept g.max h.max;
    }

via_kept : (hop : Hop) (version : Version) (login : Option Login) → IsHop hop → MayLogin login → IsVia (via_at hop version login)
via_kept Hop.Direct version login h k = tt
via_kept (Hop.At at) version login h k = (h, k)

pub route_kept : (g : Given) (hop : Hop) → IsGiven g → IsHop hop → IsRoute (route g hop)
route_kept g hop h k = record {
  from = else_kept IsPattern any g.from any_kept h.from;
  to = else_kept IsPattern any g.to any_kept h.to;
  via = via_kept hop (version_of g.versions) g.login k (login_may g.login h.login);
}
