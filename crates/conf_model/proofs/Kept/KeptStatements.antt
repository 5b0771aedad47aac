-- What a text is read as can be written.
use Rattle.std.proofs.Common.{◌≡◌, ℕ, ◌<◌, ◌≤◌, ◌==◌, Bool, true, false, cond, List, [], ◌∷◌, ◌++◌, length, length-append, Option, Some, None, IfSome, Result, Ok, Err, IfOk, refl, subst, arith}
use Rattle.std.specs.Prelude.{All, nat_lt}
use Rattle.std.specs.List.{AllByRecursion}
use Rattle.std.proofs.lemmas.Bool.{ltb-true}
use Rattle.std.proofs.lemmas.Bool.Decides.{nat_tests}
use Rattle.std.proofs.lemmas.List.Elements.{All-nil, All-push}
use Rattle.addr_pattern.specs.declared.endpoint.Endpoint.{Endpoint}
use Rattle.addr_pattern.specs.ReadAgain.{IsAddr, IsEndpoint}
use Rattle.conf_text.specs.declared.statement.Entry.{Entry}
use Rattle.conf_text.specs.declared.statement.Statement.{Statement}
use Rattle.conf_text.proofs.PlainValues.{IsPlainBlock, IsPlainStatement, are_plain}
use Rattle.conf_types.specs.declared.entries.Entries.{Entries}
use Rattle.conf_model.specs.declared.fault.ConfFault.{ConfFault}
use Rattle.conf_model.specs.declared.fault.ConfKind.{ConfKind}
use Rattle.conf_model.specs.declared.given.Given.{Given}
use Rattle.conf_model.specs.declared.given.Hop.{Hop}
use Rattle.conf_model.specs.declared.keys.BlockKind.{BlockKind}
use Rattle.conf_model.specs.declared.keys.TopKey.{TopKey}
use Rattle.socks_grammar.specs.declared.protocol.Method.{Method}
use Rattle.conf_model.specs.declared.setting.Setting.{Setting}
use Rattle.conf_model.specs.Blocks.{entries_onto, is_kept, nothing_given, route}
use Rattle.conf_types.specs.Kept.{AreMethods, IsClientRule, IsConfig, IsControl, IsListener, IsRoute, IsSocksRule, is_loopback}
use Rattle.conf_model.specs.Keys.{block_kind, top_key}
use Rattle.conf_model.specs.Reads.{IsConfigText, OnConfig}
use Rattle.conf_model.specs.Settings.{block_of_kind, block_setting, default, given_setting, listening, listens, methods, on_loopback, or_bad, or_too_many, route_setting, said, seconds_of, set, setting_of, statement_onto, statements_onto, top_setting, whole, with_setting, within}
use Rattle.conf_model.specs.Values.{address_of, client_methods_fault, endpoint_of, is_empty, is_interface, methods_of, unless_fault}
use Rattle.conf_model.proofs.Kept.KeptBlocks.{IsGiven, client_kept, entries_kept, line_kept, nothing_kept, route_kept, socks_kept}
use Rattle.conf_model.proofs.Kept.KeptValues.{IsHop, address_kept, endpoint_kept, methods_kept, number_kept}

-- ---- what one statement says

abbrev IsSetting : Setting → Type 0
IsSetting (Setting.Internal e) = IsListener e
IsSetting (Setting.External a) = IsAddr a
IsSetting (Setting.Control e) = IsListener e × (is_loopback e.addr ≡ true)
IsSetting (Setting.Methods ms) = AreMethods ms
IsSetting (Setting.Negotiate n) = n ≤ 4000000
IsSetting (Setting.Io n) = n ≤ 4000000
IsSetting (Setting.Client rule) = IsClientRule rule
IsSetting (Setting.Socks rule) = IsSocksRule rule
IsSetting (Setting.Route r) = IsRoute r
IsSetting Setting.NoEffect = Unit {0}

bad_kept : {A : Type 0} (P : A → Type 0) (put : A → Setting) (o : Option A) → IfSome o P → ((a : A) → P a → IsSetting (put a)) → IfOk (or_bad put o) IsSetting
bad_kept P put None h k = tt
bad_kept P put (Some a) h k = k a h

refused_by : (test : Bool) (kind : ConfKind) (r : Result Setting ConfKind) → IfOk r IsSetting → IfOk (cond test (Err kind) r) IsSetting
refused_by true kind r h = tt
refused_by false kind r h = h

some_port : (port : ℕ) → (port == 0) ≡ false → 0 < port
some_port port h = grind (arith, nat_tests)

listening_by : (e : Endpoint) (none : Bool) → (e.port == 0) ≡ none → IsEndpoint e → IfSome (cond none None (Some e)) IsListener
listening_by e true p h = tt
listening_by e false p h = record { endpoint = h; port = some_port e.port p }

listening_kept : (o : Option Endpoint) → IfSome o IsEndpoint → IfSome (listening o) IsListener
listening_kept None h = tt
listening_kept (Some e) h = listening_by e (e.port == 0) refl h

loopback_by : (e : Endpoint) (local : Bool) → is_loopback e.addr ≡ local → IsListener e → IfOk (cond local (Ok (Setting.Control e)) (Err ConfKind.ControlNotLoopback)) IsSetting
loopback_by e true p h = (h, p)
loopback_by e false p h = tt

loopback_kept : (o : Option Endpoint) → IfSome o IsListener → IfOk (on_loopback o) IsSetting
loopback_kept None h = tt
loopback_kept (Some e) h = loopback_by e (is_loopback e.addr) refl h

said_methods : (r : Result (List Method) ConfKind) → IfOk r AreMethods → IfOk (methods r) IsSetting
said_methods (Err kind) h = tt
said_methods (Ok ms) h = h

no_effect : (fault : Option ConfKind) → IfOk (unless_fault fault Setting.NoEffect) IsSetting
no_effect None = tt
no_effect (Some kind) = tt

top_kept : (values : List (List ℕ)) (key : Option TopKey) → IfOk (top_setting values key) IsSetting
top_kept values None = tt
top_kept values (Some TopKey.Internal) =
    refused_by (is_interface values) ConfKind.InterfaceRefused (or_bad Setting.Internal (listening (endpoint_of (Some 1080) values)))
    (bad_kept IsListener Setting.Internal (listening (endpoint_of (Some 1080) values)) (listening_kept (endpoint_of (Some 1080) values) (endpoint_kept (Some 1080) values (omega arith))) (λ e h. h))
top_kept values (Some TopKey.External) =
    refused_by (is_interface values) ConfKind.InterfaceRefused (or_bad Setting.External (address_of values))
    (bad_kept IsAddr Setting.External (address_of values) (address_kept values) (λ a h. h))
top_kept values (Some TopKey.Control) = loopback_kept (listening (endpoint_of None values)) (listening_kept (endpoint_of None values) (endpoint_kept None values tt))
top_kept values (Some TopKey.Methods) = said_methods (methods_of values) (methods_kept values)
top_kept values (Some TopKey.ClientMethods) = no_effect (client_methods_fault values)
top_kept values (Some TopKey.Negotiate) = bad_kept (λ n. n ≤ 4000000) Setting.Negotiate (seconds_of values) (number_kept 4000000 values) (λ n h. h)
top_kept values (Some TopKey.Io) = bad_kept (λ n. n ≤ 4000000) Setting.Io (seconds_of values) (number_kept 4000000 values) (λ n h. h)
top_kept values (Some TopKey.Ignored) = refused_by (is_empty values) ConfKind.BadValue (Ok Setting.NoEffect) tt

route_by : (g : Given) (hop : Hop) (kept : Bool) → IsGiven g → IsHop hop → IfOk {E = ConfKind} (cond kept (Ok (Setting.Route (route g hop))) (Ok Setting.NoEffect)) IsSetting
route_by g hop true h k = route_kept g hop h k
route_by g hop false h k = tt

said_route : (g : Given) (hop : Option Hop) → IsGiven g → IfSome hop IsHop → IfOk (route_setting g hop) IsSetting
said_route g None h k = tt
said_route g (Some hop) h k = route_by g hop (is_kept g) h k

block_kept : (kind : BlockKind) (g : Given) → IsGiven g → IfOk (block_setting kind g) IsSetting
block_kept (BlockKind.Client pass) g h = client_kept pass g h
block_kept (BlockKind.Socks pass) g h = socks_kept pass g h
block_kept BlockKind.Route g h = said_route g g.via h h.via

given_kept : (line : ℕ) (kind : BlockKind) (r : Result Given ConfFault) → IfOk r IsGiven → IfOk (given_setting line kind r) IsSetting
given_kept line kind (Err fault) h = tt
given_kept line kind (Ok g) h = line_kept IsSetting line (block_setting kind g) (block_kept kind g h)

kind_kept : (line : ℕ) (es : List Entry) (kind : Option BlockKind) → IsPlainBlock (Some es) → IfOk (block_of_kind line es kind) IsSetting
kind_kept line es None h = tt
kind_kept line es (Some kind) h = given_kept line kind (entries_onto kind nothing_given es) (entries_kept kind nothing_given es h nothing_kept)

said_kept : (line : ℕ) (key : List ℕ) (values : List (List ℕ)) (block : Option (List Entry)) → IsPlainBlock block → IfOk (said line key values block) IsSetting
said_kept line key values None h = line_kept IsSetting line (top_setting values (top_key key)) (top_kept values (top_key key))
said_kept line key values (Some es) h = kind_kept line es (block_kind key) h

-- ---- one statement after the other

-- a list up to its limit
record AreFew {A : Type 0} (limit : ℕ) (P : A → Type 0) (xs : List A) : Type 0 where
  pub few : length xs ≤ limit
  pub all : All P xs

-- what may come before the first endpoint to listen on
record IsBegun (c : Entries) : Type 0 where
  pub internals : AreFew 16 IsListener c.internals
  pub externals : AreFew 16 IsAddr c.externals
  pub control : IsControl c.control
  pub methods : AreMethods c.methods
  pub negotiate : c.negotiate ≤ 4000000
  pub io : c.io ≤ 4000000
  pub client : AreFew 4096 IsClientRule c.client
  pub socks : AreFew 4096 IsSocksRule c.socks
  pub routes : AreFew 256 IsRoute c.routes

within_kept : {A : Type 0} (limit : ℕ) (xs : List A) (c : Entries) → (length xs < limit → IsBegun c) → IfSome (within limit xs c) IsBegun
within_kept limit xs c h = elim (nat_lt (length xs) limit) as (λ t. nat_lt (length xs) limit ≡ t → IfSome (cond t (Some c) None) IsBegun) [
  | true ↦ λ e. h (ltb-true (length xs) limit e)
  | false ↦ λ e. tt
] refl

grown_kept : {A : Type 0} (limit : ℕ) (P : A → Type 0) (xs : List A) (x : A) → length xs < limit → AreFew limit P xs → P x → AreFew limit P (xs ++ x ∷ [])
grown_kept limit P xs x few h k = record { few = rw (length-append xs (x ∷ [])) (omega (arith, few)); all = All-push P xs x h.all k }

set_kept : (c : Entries) (s : Setting) → IsBegun c → IsSetting s → IfSome (set c s) IsBegun
set_kept c (Setting.Internal e) h k = within_kept 16 c.internals _ (λ few. record { internals = grown_kept 16 IsListener c.internals e few h.internals k; externals = h.externals; control = h.control; methods = h.methods; negotiate = h.negotiate; io = h.io; client = h.client; socks = h.socks; routes = h.routes })
set_kept c (Setting.External a) h k = within_kept 16 c.externals _ (λ few. record { internals = h.internals; externals = grown_kept 16 IsAddr c.externals a few h.externals k; control = h.control; methods = h.methods; negotiate = h.negotiate; io = h.io; client = h.client; socks = h.socks; routes = h.routes })
set_kept c (Setting.Control e) h k = record { internals = h.internals; externals = h.externals; control = k; methods = h.methods; negotiate = h.negotiate; io = h.io; client = h.client; socks = h.socks; routes = h.routes }
set_kept c (Setting.Methods ms) h k = record { internals = h.internals; externals = h.externals; control = h.control; methods = k; negotiate = h.negotiate; io = h.io; client = h.client; socks = h.socks; routes = h.routes }
set_kept c (Setting.Negotiate n) h k = record { internals = h.internals; externals = h.externals; control = h.control; methods = h.methods; negotiate = k; io = h.io; client = h.client; socks = h.socks; routes = h.routes }
set_kept c (Setting.Io n) h k = record { internals = h.internals; externals = h.externals; control = h.control; methods = h.methods; negotiate = h.negotiate; io = k; client = h.client; socks = h.socks; routes = h.routes }
set_kept c (Setting.Client rule) h k = within_kept 4096 c.client _ (λ few. record { internals = h.internals; externals = h.externals; control = h.control; methods = h.methods; negotiate = h.negotiate; io = h.io; client = grown_kept 4096 IsClientRule c.client rule few h.client k; socks = h.socks; routes = h.routes })
set_kept c (Setting.Socks rule) h k = within_kept 4096 c.socks _ (λ few. record { internals = h.internals; externals = h.externals; control = h.control; methods = h.methods; negotiate = h.negotiate; io = h.io; client = h.client; socks = grown_kept 4096 IsSocksRule c.socks rule few h.socks k; routes = h.routes })
set_kept c (Setting.Route r) h k = within_kept 256 c.routes _ (λ few. record { internals = h.internals; externals = h.externals; control = h.control; methods = h.methods; negotiate = h.negotiate; io = h.io; client = h.client; socks = h.socks; routes = grown_kept 256 IsRoute c.routes r few h.routes k })
set_kept c Setting.NoEffect h k = h

too_many_kept : (line : ℕ) (o : Option Entries) → IfSome o IsBegun → IfOk (or_too_many line o) IsBegun
too_many_kept line None h = tt
too_many_kept line (Some c) h = h

with_kept : (c : Entries) (line : ℕ) (r : Result Setting ConfFault) → IsBegun c → IfOk r IsSetting → IfOk (with_setting c line r) IsBegun
with_kept c line (Err fault) h k = tt
with_kept c line (Ok s) h k = too_many_kept line (set c s) (set_kept c s h k)

then_kept : (ss : List Statement) (r : Result Entries ConfFault) → IfOk r IsBegun → ((d : Entries) → IsBegun d → IfOk (statements_onto d ss) IsBegun) →
    IfOk (elim r [ Ok d ↦ statements_onto d ss | Err fault ↦ Err fault ]) IsBegun
then_kept ss (Ok d) h more = more d h
then_kept ss (Err fault) h more = tt

statements_kept : (c : Entries) (ss : List Statement) → IsBegun c → AllByRecursion IsPlainStatement ss → IfOk (statements_onto c ss) IsBegun
statements_kept c [] h plain = h
statements_kept c (s ∷ ss) h plain =
    then_kept ss (statement_onto c s) (with_kept c s.line (setting_of s) h (said_kept s.line s.key s.values s.block plain.0.1))
    (λ d k. statements_kept d ss k plain.1)

no_items : {A : Type 0} (limit : ℕ) (P : A → Type 0) → AreFew limit P []
no_items limit P = record { few = omega arith; all = All-nil P }

default_kept : IsBegun default
default_kept = record {
  internals = no_items 16 IsListener;
  externals = no_items 16 IsAddr;
  control = tt;
  methods = tt;
  negotiate = omega arith;
  io = omega arith;
  client = no_items 4096 IsClientRule;
  socks = no_items 4096 IsSocksRule;
  routes = no_items 256 IsRoute;
}

-- ---- the whole

whole_config : (c : Entries) → IsBegun c → 0 < length c.internals → IsConfig c
whole_config c h some = record {
  some_internal = some;
  few_internals = h.internals.few;
  internals = h.internals.all;
  few_externals = h.externals.few;
  externals = h.externals.all;
  control = h.control;
  methods = h.methods;
  negotiate = h.negotiate;
  io = h.io;
  few_client = h.client.few;
  client = h.client.all;
  few_socks = h.socks.few;
  socks = h.socks.all;
  few_routes = h.routes.few;
  routes = h.routes.all;
}

listens_kept : (c : Entries) (es : List Endpoint) → (0 < length es → IsConfig c) → IfOk (listens c es) IsConfig
listens_kept c [] h = tt
listens_kept c (e ∷ es) h = h (omega arith)

whole_kept : (r : Result Entries ConfFault) → IfOk r IsBegun → IfOk (whole r) IsConfig
whole_kept (Err fault) h = tt
whole_kept (Ok c) h = listens_kept c c.internals (whole_config c h)

pub read-kept : (text : List ℕ) (c : Entries) → IsConfigText text c → IsConfig c
read-kept text c h =
    subst (λ (r : Result Entries ConfFault). IfOk r IsConfig) h.say
    (whole_kept (statements_onto default h.statements) (statements_kept default h.statements default_kept (are_plain text h.statements h.are)))

pub answer-kept : (text : List ℕ) (r : Result Entries ConfFault) → OnConfig text r → IfOk r IsConfig
answer-kept text (Ok c) h = read-kept text c h
answer-kept text (Err fault) h = tt
