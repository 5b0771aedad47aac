-- What values say can be written.
use Rattle.std.proofs.Common.{◌≡◌, ℕ, ◌<◌, ◌≤◌, ◌==◌, Bool, true, false, true≢false, ◌&&◌, ◌||◌, cond, List, [], ◌∷◌, ◌++◌, length, codes, Option, Some, None, IfSome, Result, Ok, Err, IfOk, refl, sym, ap, ◌∙◌, arith}
use Rattle.std.specs.Prelude.{All, bytes_eq, fold, nat_le}
use Rattle.std.specs.List.{AllByRecursion, list_all, list_any}
use Rattle.std.proofs.lemmas.Bool.{and_from, and_parts, leb-true, or_left, or_right}
use Rattle.std.proofs.lemmas.List.Elements.{All-nil, All-cons}
use Rattle.addr_pattern.specs.declared.addr.Addr.{Addr}
use Rattle.addr_pattern.specs.declared.endpoint.Endpoint.{Endpoint}
use Rattle.addr_pattern.specs.declared.fault.AddrFault.{AddrFault}
use Rattle.addr_pattern.specs.Cuts.{behind_first, first_cut}
use Rattle.addr_pattern.specs.Names.{is_name_byte, name_of}
use Rattle.addr_pattern.specs.PatternText.{pattern_read, port_part}
use Rattle.addr_pattern.specs.Reading.{addr_read}
use Rattle.addr_pattern.specs.ReadAgain.{IsAddr, IsEndpoint, IsPattern}
use Rattle.addr_pattern.proofs.InRange.{addr-in_range, number-within}
use Rattle.addr_pattern.proofs.PatternsInRange.{pattern-in_range, port_part-in_range}
use Rattle.conf_text.proofs.PlainValues.{IsPlainWord}
use Rattle.conf_model.specs.declared.fault.ConfKind.{ConfKind}
use Rattle.conf_model.specs.declared.given.Commands.{Commands}
use Rattle.conf_model.specs.declared.given.Hop.{Hop}
use Rattle.conf_model.specs.declared.given.Methods.{Methods}
use Rattle.conf_model.specs.declared.given.Protocols.{Protocols}
use Rattle.conf_model.specs.declared.given.Versions.{Versions}
use Rattle.socks_grammar.specs.declared.protocol.Method.{Method}
use Rattle.socks_grammar.specs.Equal.{method_eq}
use Rattle.conf_types.specs.Kept.{AreMethods, IsLogin, IsUser, is_name, is_plain_byte, is_readable}
use Rattle.conf_model.specs.Values.{address_of, are_all, at_port, commands_of, endpoint_of, has, hop_at, hop_of, is_command, is_direct, is_method, is_protocol, is_version, joined, login_of, login_parts, login_with, method_fault, method_word, methods_of, number_of, pattern_of, protocols_of, readable, refusal_of, rule_methods_of, unless_fault, users_of, versions_of, with_method}

some_by : {A : Type 0} (P : A → Type 0) (o : Option A) → ((a : A) → o ≡ Some a → P a) → IfSome o P
some_by P None h = tt
some_by P (Some a) h = h a refl

readable_by : {A : Type 0} (P : A → Type 0) (r : Result A AddrFault) → ((a : A) → r ≡ Ok a → P a) → IfSome (readable r) P
readable_by P (Ok a) h = h a refl
readable_by P (Err fault) h = tt

-- ---- patterns, numbers, addresses

pub pattern_kept : (values : List (List ℕ)) → IfSome (pattern_of values) IsPattern
pattern_kept values = readable_by IsPattern (pattern_read (joined values)) (λ p e. pattern-in_range (joined values) p e)

pub number_kept : (limit : ℕ) (values : List (List ℕ)) → IfSome (number_of limit values) (λ n. n ≤ limit)
number_kept limit [] = tt
number_kept limit (value ∷ []) = number-within limit value
number_kept limit (value ∷ other ∷ values) = tt

addr_kept : (text : List ℕ) → IfSome (readable (addr_read text)) IsAddr
addr_kept text = readable_by IsAddr (addr_read text) (λ a e. addr-in_range text a e)

pub address_kept : (values : List (List ℕ)) → IfSome (address_of values) IsAddr
address_kept [] = tt
address_kept (value ∷ []) = addr_kept value
address_kept (value ∷ other ∷ values) = tt

at_port_kept : (addr : Option Addr) (port : Option ℕ) → IfSome addr IsAddr → IfSome port (λ n. n < 65536) → IfSome (at_port addr port) IsEndpoint
at_port_kept None None h k = tt
at_port_kept None (Some port) h k = tt
at_port_kept (Some addr) None h k = tt
at_port_kept (Some addr) (Some port) h k = record { addr = h; port = k }

pub endpoint_kept : (port : Option ℕ) (values : List (List ℕ)) → IfSome port (λ n. n < 65536) → IfSome (endpoint_of port values) IsEndpoint
endpoint_kept port [] h = tt
endpoint_kept port (addr ∷ []) h = at_port_kept (readable (addr_read addr)) port (addr_kept addr) h
endpoint_kept port (addr ∷ value ∷ values) h =
    at_port_kept (readable (addr_read addr)) (port_part (joined (value ∷ values))) (addr_kept addr)
    (some_by (λ n. n < 65536) (port_part (joined (value ∷ values))) (λ n e. port_part-in_range (joined (value ∷ values)) n e))

-- ---- methods

no_repeat : (ms : List Method) (m : Method) → AreMethods ms → AreMethods (cond (list_any (λ k. method_eq k m) ms) ms (ms ++ m ∷ []))
no_repeat [] m h = absurd h
no_repeat (Method.NoAuth ∷ []) Method.NoAuth h = tt
no_repeat (Method.NoAuth ∷ []) Method.Username h = λ e. cc
no_repeat (Method.Username ∷ []) Method.NoAuth h = λ e. cc
no_repeat (Method.Username ∷ []) Method.Username h = tt
no_repeat (Method.NoAuth ∷ Method.NoAuth ∷ []) m h = absurd (h refl)
no_repeat (Method.NoAuth ∷ Method.Username ∷ []) Method.NoAuth h = h
no_repeat (Method.NoAuth ∷ Method.Username ∷ []) Method.Username h = h
no_repeat (Method.Username ∷ Method.NoAuth ∷ []) Method.NoAuth h = h
no_repeat (Method.Username ∷ Method.NoAuth ∷ []) Method.Username h = h
no_repeat (Method.Username ∷ Method.Username ∷ []) m h = absurd (h refl)
no_repeat (a ∷ b ∷ c ∷ ms) m h = absurd h

folded_kept : (ms : List Method) (values : List (List ℕ)) → AreMethods ms → AreMethods (fold with_method ms values)
folded_kept ms [] h = h
folded_kept ms (value ∷ values) h = folded_kept (with_method ms value) values (no_repeat ms (method_word value) h)

unless_kept : {A : Type 0} (P : A → Type 0) (fault : Option ConfKind) (a : A) → (fault ≡ None → P a) → IfOk (unless_fault fault a) P
unless_kept P None a h = h refl
unless_kept P (Some kind) a h = tt

pub methods_kept : (values : List (List ℕ)) → IfOk (methods_of values) AreMethods
methods_kept [] = tt
methods_kept (value ∷ values) =
    unless_kept AreMethods (method_fault is_method (value ∷ values)) (fold with_method [] (value ∷ values)) (λ e. folded_kept (method_word value ∷ []) values tt)

-- ---- sets of words

two_words : (a b x y : Bool) → (a || b) ≡ true → ((a || x) || (b || y)) ≡ true
two_words true b x y h = refl
two_words false true x y h = or_right x true refl
two_words false false x y h = absurd (true≢false (sym h))

five_words : (a b c d e p q r s t : Bool) → (a || b || c || d || e) ≡ true → ((a || p) || (b || q) || (c || r) || (d || s) || (e || t)) ≡ true
five_words true b c d e p q r s t h = refl
five_words false true c d e p q r s t h = or_left _ _ (or_left _ _ (or_left _ _ (or_right p true refl)))
five_words false false true d e p q r s t h = or_left _ _ (or_left _ _ (or_right (p || q) true refl))
five_words false false false true e p q r s t h = or_left _ _ (or_right (p || q || r) true refl)
five_words false false false false true p q r s t h = or_right (p || q || r || s) true refl
five_words false false false false false p q r s t h = absurd (true≢false (sym h))

-- a set of words is there where its words are of a table
set_kept : {A : Type 0} (P : A → Type 0) (test : Bool) (a : A) → (test ≡ true → P a) → IfSome (cond test (Some a) None) P
set_kept P true a h = h refl
set_kept P false a h = tt

abbrev pub HasCommand : Commands → Type 0
HasCommand c = (c.connect || c.bind || c.udpassociate || c.bindreply || c.udpreply) ≡ true

abbrev pub HasProtocol : Protocols → Type 0
HasProtocol p = (p.tcp || p.udp) ≡ true

abbrev pub HasMethod : Methods → Type 0
HasMethod m = (m.noauth || m.username) ≡ true

abbrev pub HasVersion : Versions → Type 0
HasVersion v = (v.v4 || v.v5) ≡ true

pub commands_kept : (values : List (List ℕ)) → IfSome (commands_of values) HasCommand
commands_kept [] = tt
commands_kept (value ∷ values) = set_kept HasCommand (are_all is_command (value ∷ values)) _ (λ e. five_words (bytes_eq value (codes "connect")) (bytes_eq value (codes "bind")) (bytes_eq value (codes "udpassociate"))
    (bytes_eq value (codes "bindreply")) (bytes_eq value (codes "udpreply"))
    (has (codes "connect") values) (has (codes "bind") values) (has (codes "udpassociate") values) (has (codes "bindreply") values) (has (codes "udpreply") values)
    (and_parts (is_command value) (list_all is_command values) e).0)

pub protocols_kept : (values : List (List ℕ)) → IfSome (protocols_of values) HasProtocol
protocols_kept [] = tt
protocols_kept (value ∷ values) = set_kept HasProtocol (are_all is_protocol (value ∷ values)) _ (λ e. two_words (bytes_eq value (codes "tcp")) (bytes_eq value (codes "udp"))
    (has (codes "tcp") values) (has (codes "udp") values) (and_parts (is_protocol value) (list_all is_protocol values) e).0)

pub versions_kept : (values : List (List ℕ)) → IfSome (versions_of values) HasVersion
versions_kept [] = tt
versions_kept (value ∷ values) = set_kept HasVersion (are_all is_version (value ∷ values)) _ (λ e. two_words (bytes_eq value (codes "socks_v4")) (bytes_eq value (codes "socks_v5"))
    (has (codes "socks_v4") values) (has (codes "socks_v5") values) (and_parts (is_version value) (list_all is_version values) e).0)

first_method : (value : List ℕ) (v : Bool) (rest : Option ConfKind) (kind : ConfKind) → is_method value ≡ v → cond v rest (Some kind) ≡ None → is_method value ≡ true
first_method value true rest kind e h = e
first_method value false rest kind e h = cc

pub rule_methods_kept : (values : List (List ℕ)) → IfOk (rule_methods_of values) HasMethod
rule_methods_kept [] = tt
rule_methods_kept (value ∷ values) =
    unless_kept HasMethod (method_fault is_method (value ∷ values)) _ (λ e. two_words (bytes_eq value (codes "none")) (bytes_eq value (codes "username"))
    (has (codes "none") values) (has (codes "username") values) (first_method value (is_method value) (method_fault is_method values) (refusal_of value) refl e))

-- ---- names, proxies and logins

pub record AreUsers (users : List (List ℕ)) : Type 0 where
  pub few : length users ≤ 64
  pub all : All IsUser users

all_users : (values : List (List ℕ)) → AllByRecursion IsPlainWord values → list_all is_name values ≡ true → All IsUser values
all_users [] h k = All-nil IsUser
all_users (value ∷ values) h k =
    let q = and_parts (is_name value) (list_all is_name values) k in
    All-cons IsUser value values (record { name' = q.0; plain = h.0.bytes; no_key = h.0.no_key }) (all_users values h.1 q.1)

pub users_kept : (values : List (List ℕ)) → AllByRecursion IsPlainWord values → IfSome (users_of values) AreUsers
users_kept [] h = tt
users_kept (value ∷ values) h = set_kept AreUsers (are_all is_name (value ∷ values) && nat_le (length (value ∷ values)) 64) (value ∷ values) (λ e.
    let q = and_parts (are_all is_name (value ∷ values)) (nat_le (length (value ∷ values)) 64) e in
    record { few = leb-true (length (value ∷ values)) 64 q.1; all = all_users (value ∷ values) h q.0 })

abbrev pub IsHop : Hop → Type 0
IsHop Hop.Direct = Unit {0}
IsHop (Hop.At at) = IsEndpoint at

hop_at_kept : (at : Option Endpoint) → IfSome at IsEndpoint → IfSome (hop_at at) IsHop
hop_at_kept None h = tt
hop_at_kept (Some at) h = h

pub hop_kept : (values : List (List ℕ)) → IfSome (hop_of values) IsHop
hop_kept values = elim (is_direct values) as (λ t. IfSome (cond t (Some Hop.Direct) (hop_at (endpoint_of (Some 1080) values))) IsHop) [
  | true ↦ tt
  | false ↦ hop_at_kept (endpoint_of (Some 1080) values) (endpoint_kept (Some 1080) values (omega arith))
]

-- the parts of a plain text that is cut at its first colon
record AreCut (x : List ℕ × List ℕ) : Type 0 where
  pub front : list_all is_plain_byte x.0 ≡ true
  pub no_colon : list_any (λ b. b == 58) x.0 ≡ false
  pub behind : list_all is_plain_byte x.1 ≡ true

behind_kept : (b : ℕ) (cut : Option (List ℕ × List ℕ)) → is_plain_byte b ≡ true → (b == 58) ≡ false → IfSome cut AreCut → IfSome (behind_first b cut) AreCut
behind_kept b None h e k = tt
behind_kept b (Some x) h e k =
    record { front = and_from (is_plain_byte b) (list_all is_plain_byte x.0) h k.front; no_colon = ap (λ v. v || list_any (λ b. b == 58) x.0) e ∙ k.no_colon; behind = k.behind }

cut_kept : (text : List ℕ) → list_all is_plain_byte text ≡ true → IfSome (first_cut 58 text) AreCut
cut_kept [] h = tt
cut_kept (b ∷ text) h =
    let q = and_parts (is_plain_byte b) (list_all is_plain_byte text) h in
    elim (b == 58) as (λ t. (b == 58) ≡ t → IfSome (cond t (Some ([], text)) (behind_first b (first_cut 58 text))) AreCut) [
      | true ↦ λ e. record { front = refl; no_colon = refl; behind = q.1 }
      | false ↦ λ e. behind_kept b (first_cut 58 text) q.0 e (cut_kept text q.1)
    ] refl

-- what a name is read as is itself, and a name
record IsRead (text name : List ℕ) : Type 0 where
  pub same : name ≡ text
  pub name' : is_name text ≡ true

name_by : (b : ℕ) (text : List ℕ) (v : Bool) → (nat_le (length (b ∷ text)) 255 && list_all is_name_byte (b ∷ text)) ≡ v →
    IfSome (readable (cond v (Ok (b ∷ text)) (Err AddrFault.BadName))) (IsRead (b ∷ text))
name_by b text true e = record { same = refl; name' = ap (λ v. is_readable (cond v (Ok (b ∷ text)) (Err AddrFault.BadName))) e }
name_by b text false e = tt

name_kept : (text : List ℕ) → IfSome (readable (name_of text)) (IsRead text)
name_kept [] = tt
name_kept (b ∷ text) = name_by b text (nat_le (length (b ∷ text)) 255 && list_all is_name_byte (b ∷ text)) refl

with_kept : (x : List ℕ × List ℕ) (name password : Option (List ℕ)) → AreCut x → IfSome name (IsRead x.0) → IfSome password (IsRead x.1) → IfSome (login_with name password) IsLogin
with_kept x None None h k l = tt
with_kept x None (Some password) h k l = tt
with_kept x (Some name) None h k l = tt
with_kept x (Some name) (Some password) h k l = record {
  name = ap is_name k.same ∙ k.name';
  plain_name = ap (list_all is_plain_byte) k.same ∙ h.front;
  no_colon = ap (list_any (λ b. b == 58)) k.same ∙ h.no_colon;
  password = ap is_name l.same ∙ l.name';
  plain_password = ap (list_all is_plain_byte) l.same ∙ h.behind;
}

parts_kept : (cut : Option (List ℕ × List ℕ)) → IfSome cut AreCut → IfSome (login_parts cut) IsLogin
parts_kept None h = tt
parts_kept (Some x) h = with_kept x (readable (name_of x.0)) (readable (name_of x.1)) h (name_kept x.0) (name_kept x.1)

pub login_kept : (values : List (List ℕ)) → AllByRecursion IsPlainWord values → IfSome (login_of values) IsLogin
login_kept [] h = tt
login_kept (value ∷ []) h = parts_kept (first_cut 58 value) (cut_kept value h.0.bytes)
login_kept (value ∷ other ∷ values) h = tt
