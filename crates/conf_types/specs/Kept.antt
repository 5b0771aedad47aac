-- Which configurations a text can say.
use Rattle.std.specs.Prelude.{◌≡◌, ◌≢◌, ◌<◌, ◌≤◌, ◌/◌, ◌^◌, ◌==◌, ◌||◌, ℕ, Bool, true, false, not, Option, Some, None, Result, Ok, Err, List, [], ◌∷◌, length, All}
use Rattle.std.specs.List.{list_all, list_any}
use Rattle.addr_pattern.specs.declared.addr.Addr.{Addr}
use Rattle.addr_pattern.specs.declared.endpoint.Endpoint.{Endpoint}
use Rattle.addr_pattern.specs.declared.fault.AddrFault.{AddrFault}
use Rattle.addr_pattern.specs.Names.{name_of}
use Rattle.addr_pattern.specs.ReadAgain.{IsAddr, IsEndpoint, IsPattern}
use Rattle.conf_text.specs.Words.{is_brace, is_hash, is_key}
use Rattle.conf_types.specs.declared.entries.Entries.{Entries}
use Rattle.socks_grammar.specs.declared.protocol.Method.{Method}
use Rattle.socks_grammar.specs.declared.login.Login.{Login}
use Rattle.conf_types.specs.declared.route.Route.{Route}
use Rattle.conf_types.specs.declared.route.Via.{Via}
use Rattle.conf_types.specs.declared.rule.ClientRule.{ClientRule}
use Rattle.conf_types.specs.declared.rule.SocksRule.{SocksRule}

abbrev pub is_readable : {A : Type 0} → Result A AddrFault → Bool
is_readable (Ok a) = true
is_readable (Err fault) = false

-- 127.0.0.0/8, or ::1
abbrev pub is_loopback : Addr → Bool
is_loopback (Addr.V4 n) = n / 2 ^ 24 == 127
is_loopback (Addr.V6 n) = n == 1

-- the name of a host, a user, or a password
abbrev pub is_name : List ℕ → Bool
is_name value = is_readable (name_of value)

-- an endpoint to listen on
pub record IsListener (e : Endpoint) : Type 0 where
  pub endpoint : IsEndpoint e
  pub port : 0 < e.port

abbrev pub IsControl : Option Endpoint → Type 0
IsControl None = Unit {0}
IsControl (Some e) = IsListener e × (is_loopback e.addr ≡ true)

-- one method or two, none twice
abbrev pub AreMethods : List Method → Type 0
AreMethods (m ∷ []) = Unit {0}
AreMethods (m ∷ n ∷ []) = m ≢ n
AreMethods _ = ⊥

abbrev pub IsMax : Option ℕ → Type 0
IsMax None = Unit {0}
IsMax (Some n) = n < 2 ^ 32

pub record IsClientRule (r : ClientRule) : Type 0 where
  pub from : IsPattern r.from
  pub to : IsPattern r.to
  pub max : IsMax r.max

-- a comment would begin at `#`, and a brace is a word of its own
abbrev pub is_plain_byte : ℕ → Bool
is_plain_byte b = not (is_hash b || is_brace b)

-- a word of its line that is no key
pub record IsUser (name : List ℕ) : Type 0 where
  pub name' : is_name name ≡ true
  pub plain : list_all is_plain_byte name ≡ true
  pub no_key : is_key name ≡ false

pub record IsSocksRule (r : SocksRule) : Type 0 where
  pub from : IsPattern r.from
  pub to : IsPattern r.to
  pub commands : (r.connect || r.bind || r.udpassociate || r.bindreply || r.udpreply) ≡ true
  pub protocols : (r.tcp || r.udp) ≡ true
  pub methods : (r.noauth || r.username) ≡ true
  pub versions : (r.v4 || r.v5) ≡ true
  pub few : length r.users ≤ 64
  pub users : All IsUser r.users
  pub max : IsMax r.max

-- cut at the first colon
pub record IsLogin (l : Login) : Type 0 where
  pub name : is_name l.name ≡ true
  pub plain_name : list_all is_plain_byte l.name ≡ true
  pub no_colon : list_any (λ b. b == 58) l.name ≡ false
  pub password : is_name l.password ≡ true
  pub plain_password : list_all is_plain_byte l.password ≡ true

abbrev pub MayLogin : Option Login → Type 0
MayLogin None = Unit {0}
MayLogin (Some l) = IsLogin l

abbrev pub IsVia : Via → Type 0
IsVia Via.Direct = Unit {0}
IsVia (Via.Proxy at version login) = IsEndpoint at × MayLogin login

pub record IsRoute (r : Route) : Type 0 where
  pub from : IsPattern r.from
  pub to : IsPattern r.to
  pub via : IsVia r.via

pub record IsConfig (c : Entries) : Type 0 where
  pub some_internal : 0 < length c.internals
  pub few_internals : length c.internals ≤ 16
  pub internals : All IsListener c.internals
  pub few_externals : length c.externals ≤ 16
  pub externals : All IsAddr c.externals
  pub control : IsControl c.control
  pub methods : AreMethods c.methods
  pub negotiate : c.negotiate ≤ 4000000
  pub io : c.io ≤ 4000000
  pub few_client : length c.client ≤ 4096
  pub client : All IsClientRule c.client
  pub few_socks : length c.socks ≤ 4096
  pub socks : All IsSocksRule c.socks
  pub few_routes : length c.routes ≤ 256
  pub routes : All IsRoute c.routes
