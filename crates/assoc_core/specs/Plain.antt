-- The records that are served: a CONNECT, and no datagrams; and what they owe, in closed form, where no proxy is used.
use Rattle.std.specs.Prelude.{ℕ, ◌≡◌, Bool, true, false, ◌&&◌, not, ◌==◌, if◌then◌else◌, Option, Some, None, option_map, List, [], ◌∷◌, ◌++◌, drop, is_some}
use mathlib.Core.List.{IsPrefix}
use Rattle.addr_pattern.specs.declared.addr.Addr.{Addr}
use Rattle.addr_pattern.specs.declared.endpoint.Endpoint.{Endpoint}
use Rattle.socks_grammar.specs.declared.protocol.Command.{Command}
use Rattle.socks_grammar.specs.declared.protocol.Method.{Method}
use Rattle.socks_grammar.specs.declared.user.User.{User}
use Rattle.socks_grammar.specs.Handshake.{Request, Split, split, offered, login_place, version_of}
use Rattle.rule_list.specs.declared.facts.Facts.{Facts}
use Rattle.socks_machine.specs.declared.cause.Cause.{Cause}
use Rattle.socks_machine.specs.declared.record.Chosen.{Chosen}
use Rattle.socks_machine.specs.declared.record.Decision.{Decision}
use Rattle.socks_machine.specs.declared.record.Record.{Record}
use Rattle.socks_machine.specs.Calls.{name_of}
use Rattle.socks_machine.specs.Decisions.{reached_at}
use Rattle.socks_machine.specs.Replies.{RefusedAt, refusal, choose}
use Rattle.socks_machine.specs.Inputs.{is_served_split}
use Rattle.socks_machine.specs.Socks.{chosen_reply, passed_reply, is_in_login, success}
use Rattle.socks_machine.specs.Step.{fresh}
use Rattle.socks_machine.specs.View.{asks_login}
use Rattle.handshake_core.specs.Lengths.{prelude_end}

-- ---- the client's input

abbrev pub split_by : List User → Option Chosen → List ℕ → Split
split_by users chosen c = split users (option_map (λ c. c.method) chosen) c

-- how far the client's input has come
abbrev pub split_in : List User → Record → Split
split_in users r = split_by users r.chosen r.c

-- the method that was answered to the greeting; any where there was none (SOCKS 4)
abbrev pub method_asked : Option Chosen → ℕ
method_asked None = 0
method_asked (Some chosen) = chosen.method

-- a method with this code, if there is one
abbrev pub method_alone : ℕ → List Method
method_alone code = if code == 0 then Method.NoAuth ∷ [] else (if code == 2 then Method.Username ∷ [] else [])

-- a method was answered exactly where the greeting is whole; it was offered, or it is FF (RFC 1928, section 3)
abbrev pub HasChosen : List ℕ → Option Chosen → Type 0
HasChosen c None = offered c ≡ None
HasChosen c (Some chosen) = (offers : List ℕ) × (offered c ≡ Some offers) × (choose (method_alone chosen.method) offers ≡ chosen.method)

-- the length of the prelude, once it is whole
abbrev pub prelude_of : Record → ℕ
prelude_of r = prelude_end (option_map (λ c. c.method) r.chosen) r.c

abbrev pub is_login_failed : Option Cause → Bool
is_login_failed (Some Cause.LoginFailed) = true
is_login_failed _ = false

abbrev pub is_failed_split : Split → Bool
is_failed_split Split.LoginFailed = true
is_failed_split _ = false

-- ---- what is owed

-- a login was asked for, is whole, and didn't fail
abbrev pub has_passed : Option Chosen → List ℕ → Option Cause → Bool
has_passed chosen c cause = asks_login chosen && (is_some (login_place c) && not (is_login_failed cause))

-- the answers to the greeting and to the login
abbrev pub opening_owed : List ℕ → Option Chosen → Option Cause → List ℕ
opening_owed c chosen cause = chosen_reply chosen ++ passed_reply (has_passed chosen c cause)

abbrev pub refused_at : Option Chosen → List ℕ → Cause → RefusedAt
refused_at chosen c cause = record { in_login = is_in_login chosen c cause; proxy5 = false; granting_udp = false }

abbrev pub success_reply : List ℕ → Option Endpoint → List ℕ
success_reply c None = []
success_reply c (Some at) = success (version_of c) Command.Connect at

-- the answers to the greeting and the login, and the reply of success
abbrev pub replies_by : List ℕ → Option Chosen → Option Cause → Option Endpoint → List ℕ
replies_by c chosen cause at = opening_owed c chosen cause ++ success_reply c at

abbrev pub payload_to_client : List ℕ → Option Endpoint → List ℕ
payload_to_client t None = []
payload_to_client t (Some at) = t

abbrev pub refusal_owed : List ℕ → Option Chosen → Option Endpoint → Option Cause → List ℕ
refusal_owed c chosen None (Some cause) = refusal (version_of c) (refused_at chosen c cause) cause
refusal_owed c chosen _ _ = []

-- the answers to the greeting and the login, the reply of success, the target's payload, and a refusal before the relay
abbrev pub plain_to_client : List ℕ → List ℕ → Option Chosen → Option Endpoint → Option Cause → List ℕ
plain_to_client c t chosen at cause = opening_owed c chosen cause ++ (success_reply c at ++ (payload_to_client t at ++ refusal_owed c chosen at cause))

-- the client's bytes behind a prelude of this length, once the target is reached
abbrev pub plain_to_target : ℕ → List ℕ → Option Endpoint → List ℕ
plain_to_target n c None = []
plain_to_target n c (Some at) = drop n c

abbrev pub owed_c : Record → List ℕ
owed_c r = plain_to_client r.c r.t r.chosen (reached_at r.decisions) r.cause

abbrev pub owed_t : Record → List ℕ
owed_t r = plain_to_target (prelude_of r) r.c (reached_at r.decisions)

-- ---- how far a record has come

-- nothing came from a target, and nothing went there
pub record Untargeted (r : Record) : Type 0 where
  pub t : r.t ≡ []
  pub sent_t : r.sent_t ≡ []
  pub end_t : r.end_t ≡ false
  pub shut_c : r.shut_c ≡ false
  pub shut_t : r.shut_t ≡ false

-- a client that was let in and has no grant yet
pub record Talking (users : List User) (r : Record) : Type 0 where
  pub untargeted : Untargeted r
  pub talks : r.cause ≡ None → (r.end_c ≡ false) × (split_in users r ≡ Split.More)

-- the prelude is whole
pub record HasAsked (users : List User) (r : Record) : Type 0 where
  pub request : Request
  pub len : ℕ
  pub whole : split_in users r ≡ Split.Whole request len

-- a request to a name that was looked up
pub record LookedUp (users : List User) (r : Record) (name : List ℕ) (found : Option Addr) : Type 0 where
  pub untargeted : Untargeted r
  pub asked : HasAsked users r
  pub named : name_of (asked.request).host ≡ Some name
  pub unended : r.end_c ≡ false
  pub stands : found ≡ None → is_some r.cause ≡ true

-- a request to that name, or to an address, that was judged
pub record Judged (users : List User) (r : Record) (name : Option (List ℕ)) (facts : Facts) (refused : Option Cause) : Type 0 where
  pub untargeted : Untargeted r
  pub asked : HasAsked users r
  pub named : name_of (asked.request).host ≡ name
  pub command : facts.command ≡ Command.Connect
  pub unended : r.end_c ≡ false
  pub stands : is_some refused ≡ true → is_some r.cause ≡ true

-- a destination that was dialled, for a request to that name, or to an address
pub record Dialled (users : List User) (r : Record) (name : Option (List ℕ)) (facts : Facts) (at : Option Endpoint) : Type 0 where
  pub asked : HasAsked users r
  pub named : name_of (asked.request).host ≡ name
  pub command : facts.command ≡ Command.Connect
  pub unreached : at ≡ None → Untargeted r
  pub failed : at ≡ None → is_some r.cause ≡ true
  pub apart : r.shut_c && r.shut_t ≡ false
  pub shut_c : r.shut_c ≡ true → (r.end_t ≡ true) × (r.sent_c ≡ owed_c r)
  pub shut_t : r.shut_t ≡ true → (r.end_c ≡ true) × (r.sent_t ≡ owed_t r)

-- a name that was looked up, and its address
pub record Sought : Type 0 where
  pub name : List ℕ
  pub addr : Addr

-- the decisions behind the lookup, where there was one
abbrev pub behind_lookup : Option Sought → List Decision → List Decision
behind_lookup None ds = ds
behind_lookup (Some x) ds = Decision.Looked x.name (Some x.addr) ∷ ds

abbrev pub name_sought : Option Sought → Option (List ℕ)
name_sought None = None
name_sought (Some x) = Some x.name

abbrev pub HasDecided : List User → Record → List Decision → Type 0
HasDecided users r [] = r ≡ fresh r.number r.peer r.local r.since
HasDecided users r (Decision.Opened g rule None ∷ []) = Talking users r
HasDecided users r (Decision.Opened g rule None ∷ Decision.Looked name found ∷ []) = LookedUp users r name found
HasDecided users r (Decision.Opened g rule None ∷ Decision.Granted g' facts verdict route refused ∷ []) = Judged users r None facts refused
HasDecided users r (Decision.Opened g rule None ∷ Decision.Looked name (Some a) ∷ Decision.Granted g' facts verdict route refused ∷ []) =
    Judged users r (Some name) facts refused
HasDecided users r (Decision.Opened g rule None ∷ Decision.Granted g' facts verdict route None ∷ Decision.Reached to at ∷ []) =
    Dialled users r None facts at
HasDecided users r (Decision.Opened g rule None ∷ Decision.Looked name (Some a) ∷ Decision.Granted g' facts verdict route None ∷ Decision.Reached to at ∷ []) =
    Dialled users r (Some name) facts at
HasDecided users r _ = ⊥

-- a record that is served and hasn't ended
pub record IsPlainRecord (users : List User) (r : Record) : Type 0 where
  pub undone : r.done ≡ false
  pub unclosed : r.at_close ≡ None
  pub grams : r.grams ≡ []
  pub sent_u : r.sent_u ≡ []
  pub served : is_served_split (split_in users r) ≡ true
  pub chosen' : HasChosen r.c r.chosen
  pub failed : is_login_failed r.cause ≡ is_failed_split (split_in users r)
  pub decided : HasDecided users r r.decisions
  pub sent_c : IsPrefix r.sent_c (owed_c r)
  pub sent_t : IsPrefix r.sent_t (owed_t r)
