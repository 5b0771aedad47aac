-- What the values of an entry say.
use Rattle.std.specs.Prelude.{ℕ, ◌==◌, ◌/◌, ◌^◌, Bool, true, false, ◌&&◌, ◌||◌, not, nat_le, if◌then◌else◌, Option, Some, None, Result, Ok, Err, List, [], ◌∷◌, ◌++◌, length, fold, codes, bytes_eq}
use Rattle.std.specs.Char.{is_ascii_alphabetic}
use Rattle.std.specs.List.{list_any, list_all, join_with_byte}
use Rattle.addr_pattern.specs.declared.addr.Addr.{Addr}
use Rattle.addr_pattern.specs.declared.endpoint.Endpoint.{Endpoint}
use Rattle.addr_pattern.specs.declared.fault.AddrFault.{AddrFault}
use Rattle.addr_pattern.specs.declared.pattern.Pattern.{Pattern}
use Rattle.addr_pattern.specs.AddressText.{number_of_text}
use Rattle.addr_pattern.specs.Cuts.{first_cut}
use Rattle.addr_pattern.specs.Names.{name_of}
use Rattle.addr_pattern.specs.PatternText.{pattern_read, port_part}
use Rattle.addr_pattern.specs.Reading.{addr_read}
use Rattle.conf_model.specs.declared.fault.ConfKind.{ConfKind}
use Rattle.conf_model.specs.declared.given.Commands.{Commands}
use Rattle.conf_model.specs.declared.given.Protocols.{Protocols}
use Rattle.conf_model.specs.declared.given.Methods.{Methods}
use Rattle.conf_model.specs.declared.given.Versions.{Versions}
use Rattle.conf_model.specs.declared.given.Hop.{Hop}
use Rattle.socks_grammar.specs.declared.protocol.Method.{Method}
use Rattle.socks_grammar.specs.declared.login.Login.{Login}
use Rattle.socks_grammar.specs.Equal.{method_eq}
use Rattle.conf_types.specs.Kept.{is_name}

abbrev pub readable : {A : Type 0} → Result A AddrFault → Option A
readable (Ok a) = Some a
readable (Err fault) = None

-- the values as one text
abbrev pub joined : List (List ℕ) → List ℕ
joined values = join_with_byte 32 values

-- the word stands among the values
abbrev pub has : List ℕ → List (List ℕ) → Bool
has word values = list_any (λ value. bytes_eq value word) values

abbrev pub is_empty : List (List ℕ) → Bool
is_empty [] = true
is_empty (value ∷ values) = false

-- ---- patterns, numbers, addresses

abbrev pub pattern_of : List (List ℕ) → Option Pattern
pattern_of values = readable (pattern_read (joined values))

-- one number, at most the limit
abbrev pub number_of : ℕ → List (List ℕ) → Option ℕ
number_of limit (value ∷ []) = number_of_text limit value
number_of limit _ = None

abbrev pub address_of : List (List ℕ) → Option Addr
address_of (value ∷ []) = readable (addr_read value)
address_of _ = None

abbrev pub at_port : Option Addr → Option ℕ → Option Endpoint
at_port (Some addr) (Some port) = Some (record { addr = addr; port = port })
at_port _ _ = None

-- an address, and behind it a port part; without one the port is this one, if any
abbrev pub endpoint_of : Option ℕ → List (List ℕ) → Option Endpoint
endpoint_of port [] = None
endpoint_of port (addr ∷ []) = at_port (readable (addr_read addr)) port
endpoint_of port (addr ∷ value ∷ values) = at_port (readable (addr_read addr)) (port_part (joined (value ∷ values)))

-- an interface's name where an address should stand: a letter, and no colon
abbrev pub is_interface : List (List ℕ) → Bool
is_interface [] = false
is_interface (value ∷ values) = list_any is_ascii_alphabetic value && not (list_any (λ b. b == 58) value)

-- ---- methods

abbrev pub is_pam : List ℕ → Bool
is_pam value =
    bytes_eq value (codes "pam") || bytes_eq value (codes "pam.address") || bytes_eq value (codes "pam.any") || bytes_eq value (codes "pam.username")

-- how a word is refused that is no method of its place
abbrev pub refusal_of : List ℕ → ConfKind
refusal_of value =
    if bytes_eq value (codes "gssapi") then ConfKind.GssapiRefused
    else (if is_pam value then ConfKind.PamRefused else ConfKind.MethodRefused)

abbrev pub is_method : List ℕ → Bool
is_method value = bytes_eq value (codes "none") || bytes_eq value (codes "username")

abbrev pub is_client_method : List ℕ → Bool
is_client_method value = bytes_eq value (codes "none")

-- the first value that is none of these methods decides
abbrev pub method_fault : (List ℕ → Bool) → List (List ℕ) → Option ConfKind
method_fault is_one [] = None
method_fault is_one (value ∷ values) = if is_one value then method_fault is_one values else Some (refusal_of value)

abbrev pub unless_fault : {A : Type 0} → Option ConfKind → A → Result A ConfKind
unless_fault None a = Ok a
unless_fault (Some kind) a = Err kind

abbrev pub method_word : List ℕ → Method
method_word value = if bytes_eq value (codes "none") then Method.NoAuth else Method.Username

-- a repeat is ignored
abbrev pub with_method : List Method → List ℕ → List Method
with_method methods value =
    if list_any (λ m. method_eq m (method_word value)) methods then methods else methods ++ method_word value ∷ []

-- the methods that the server takes, in the order of preference
abbrev pub methods_of : List (List ℕ) → Result (List Method) ConfKind
methods_of values =
    if is_empty values then Err ConfKind.BadValue else unless_fault (method_fault is_method values) (fold with_method [] values)

-- the methods that a rule takes
abbrev pub rule_methods_of : List (List ℕ) → Result Methods ConfKind
rule_methods_of values =
    if is_empty values then Err ConfKind.BadValue
    else unless_fault (method_fault is_method values) (record { noauth = has (codes "none") values; username = has (codes "username") values })

abbrev pub is_one : List (List ℕ) → Bool
is_one (value ∷ []) = true
is_one _ = false

abbrev pub otherwise_bad : Option ConfKind → Bool → Option ConfKind
otherwise_bad (Some kind) fits = Some kind
otherwise_bad None true = None
otherwise_bad None false = Some ConfKind.BadValue

-- what is wrong with the methods of a client rule: all but `none`, once, is refused
abbrev pub client_methods_fault : List (List ℕ) → Option ConfKind
client_methods_fault values = otherwise_bad (method_fault is_client_method values) (is_one values)

-- ---- sets of words

-- there is a value, and each is one of a table
abbrev pub are_all : (List ℕ → Bool) → List (List ℕ) → Bool
are_all is_one values = not (is_empty values) && list_all is_one values

abbrev pub is_command : List ℕ → Bool
is_command value =
    bytes_eq value (codes "connect") || bytes_eq value (codes "bind") || bytes_eq value (codes "udpassociate")
    || bytes_eq value (codes "bindreply") || bytes_eq value (codes "udpreply")

abbrev pub commands_of : List (List ℕ) → Option Commands
commands_of values =
    if are_all is_command values then Some (record {
      connect = has (codes "connect") values;
      bind = has (codes "bind") values;
      udpassociate = has (codes "udpassociate") values;
      bindreply = has (codes "bindreply") values;
      udpreply = has (codes "udpreply") values;
    }) else None

abbrev pub is_protocol : List ℕ → Bool
is_protocol value = bytes_eq value (codes "tcp") || bytes_eq value (codes "udp")

abbrev pub protocols_of : List (List ℕ) → Option Protocols
protocols_of values = if are_all is_protocol values then Some (record { tcp = has (codes "tcp") values; udp = has (codes "udp") values }) else None

abbrev pub is_version : List ℕ → Bool
is_version value = bytes_eq value (codes "socks_v4") || bytes_eq value (codes "socks_v5")

abbrev pub versions_of : List (List ℕ) → Option Versions
versions_of values = if are_all is_version values then Some (record { v4 = has (codes "socks_v4") values; v5 = has (codes "socks_v5") values }) else None

-- ---- names, proxies and logins

-- 1 to 64 names
abbrev pub users_of : List (List ℕ) → Option (List (List ℕ))
users_of values = if are_all is_name values && nat_le (length values) 64 then Some values else None

abbrev pub hop_at : Option Endpoint → Option Hop
hop_at None = None
hop_at (Some at) = Some (Hop.At at)

abbrev pub is_direct : List (List ℕ) → Bool
is_direct (value ∷ []) = bytes_eq value (codes "direct")
is_direct _ = false

-- `direct`, or the endpoint of a proxy
abbrev pub hop_of : List (List ℕ) → Option Hop
hop_of values = if is_direct values then Some Hop.Direct else hop_at (endpoint_of (Some 1080) values)

abbrev pub login_with : Option (List ℕ) → Option (List ℕ) → Option Login
login_with (Some name) (Some password) = Some (record { name = name; password = password })
login_with _ _ = None

abbrev pub login_parts : Option (List ℕ × List ℕ) → Option Login
login_parts None = None
login_parts (Some x) = login_with (readable (name_of x.0)) (readable (name_of x.1))

-- a name and a password, cut at the first colon
abbrev pub login_of : List (List ℕ) → Option Login
login_of (value ∷ []) = login_parts (first_cut 58 value)
login_of _ = None
