-- What a handshake keeps of the messages so far.
use Rattle.std.specs.Prelude.{ℕ, ◌≡◌, ◌<◌, ◌≤◌, ◌⊎◌, Bool, true, false, ◌&&◌, ◌==◌, if◌then◌else◌, Option, Some, None, is_none, List, [], ◌∷◌, ◌++◌, length, take}
use Rattle.addr_pattern.specs.Equal.{bytes_option_eq}
use Rattle.socks_grammar.specs.declared.protocol.Method.{Method}
use Rattle.socks_grammar.specs.declared.protocol.Version.{Version}
use Rattle.socks_grammar.specs.declared.user.User.{User}
use Rattle.handshake_core.specs.declared.asked.Asked.{Asked}
use Rattle.socks_grammar.specs.Grammar.{Read, Credentials, greeting, login}
use Rattle.socks_grammar.specs.Handshake.{offered, login_end}
use Rattle.socks_grammar.specs.Users.{user_fits}
use Rattle.socks_machine.specs.declared.cause.Cause.{Cause}
use Rattle.socks_machine.specs.Settle.{is_nothing}
use Rattle.handshake_core.specs.declared.fed.Fed.{Fed}
use Rattle.handshake_core.specs.declared.state.Stage.{Stage}
use Rattle.handshake_core.specs.declared.state.State.{State}
use Rattle.handshake_core.specs.Answers.{IsDue, GoesOn, due_after}
use Rattle.handshake_core.specs.Due.{Client, Due, IsOpen, due, method_after, is_place}
use Rattle.handshake_core.specs.Readers.{Ends}

-- all the bytes, message by message
abbrev pub bytes_of : State → List ℕ
bytes_of s = s.greeting ++ (s.login ++ s.message)

abbrev pub is_over : Stage → Bool
is_over Stage.Over = true
is_over _ = false

abbrev pub client_of : State → Client
client_of s = record { bytes = bytes_of s; method = s.method; over = is_over s.stage }

-- ---- the messages that are answered

-- the message is whole, and nothing is behind it
abbrev pub is_whole : {A : Type 0} → Read A → ℕ → Bool
is_whole (Read.Got a at []) n = at == n
is_whole _ n = false

-- the login is whole, and of this user
abbrev pub is_login : Read Credentials → ℕ → Option (List ℕ) → Bool
is_login (Read.Got l at []) n user = (at == n) && bytes_option_eq user (Some l.name)
is_login _ n user = false

-- no login was asked for, or it is answered
abbrev pub is_logged : Option ℕ → List ℕ → Option (List ℕ) → Bool
is_logged None bytes user = false
is_logged (Some method) bytes user =
    if method == 2 then is_login (login 0 bytes) (length bytes) user else (method == 0 && (is_nothing bytes && is_none user))

abbrev pub stands_at : Stage → State → Bool
stands_at Stage.First s = is_nothing s.greeting && (is_nothing s.login && (is_none s.method && (is_none s.user && is_none (offered s.message))))
stands_at Stage.Login s = is_whole (greeting 0 s.greeting) (length s.greeting) && (is_nothing s.login && (is_place s.method 2 && is_none (login_end (login 0 s.message))))
stands_at Stage.Request s = is_whole (greeting 0 s.greeting) (length s.greeting) && is_logged s.method s.login s.user
stands_at Stage.Over s = true

-- what the stage says is so
abbrev pub stands : State → Bool
stands s = stands_at s.stage s

-- ---- the same with the next byte behind the message

-- no message is answered yet, and the message ends where it is whole
pub record AtFirst (s : State) : Type 0 where
  pub greeting' : s.greeting ≡ []
  pub login' : s.login ≡ []
  pub method' : s.method ≡ None
  pub user' : s.user ≡ None
  pub stage' : s.stage ≡ Stage.First
  pub ends : Ends (greeting 0 s.message)

pub record Greeted (bytes : List ℕ) : Type 0 where
  pub methods : List ℕ
  pub whole : greeting 0 bytes ≡ Read.Got methods (length bytes) []

-- a login was asked for, and ends where it is whole
pub record AtLogin (s : State) : Type 0 where
  pub greeted : Greeted s.greeting
  pub login' : s.login ≡ []
  pub method' : s.method ≡ Some 2
  pub stage' : s.stage ≡ Stage.Login
  pub ends : Ends (login 0 s.message)

-- a login that fits a user is answered
pub record Logged (users : List User) (bytes : List ℕ) (user : Option (List ℕ)) : Type 0 where
  pub credentials : Credentials
  pub whole : login 0 bytes ≡ Read.Got credentials (length bytes) []
  pub fits : user_fits users credentials.name credentials.password ≡ true
  pub is : user ≡ Some credentials.name

-- no login was asked for
pub record Unlogged (bytes : List ℕ) (user : Option (List ℕ)) : Type 0 where
  pub none : bytes ≡ []
  pub nobody : user ≡ None

pub record AtRequest (users : List User) (s : State) : Type 0 where
  pub greeted : Greeted s.greeting
  pub logged : ((s.method ≡ Some 0) × Unlogged s.login s.user) ⊎ ((s.method ≡ Some 2) × Logged users s.login s.user)
  pub some : 0 < length s.message
  pub stage' : s.stage ≡ Stage.Request

-- ---- what a step does

-- the bytes stay, and what is due is answered
pub record Hears (methods : List Method) (users : List User) (old new : State) (fed : Fed) : Type 0 where
  pub bytes : bytes_of new ≡ bytes_of old
  pub method' : new.method ≡ method_after methods old.method (bytes_of old)
  pub answer : IsDue fed (due methods users old.method (bytes_of old))
  pub stands' : stands new ≡ true
  pub goes_on : GoesOn users (client_of new) fed

-- a refusal, after which no more is heard
pub record Refuses (old new : State) (cause : Cause) (say : List ℕ) (fed : Fed) : Type 0 where
  pub bytes : bytes_of new ≡ bytes_of old
  pub method' : new.method ≡ old.method
  pub stage' : new.stage ≡ Stage.Over
  pub answer : fed ≡ Fed.Bad cause say

-- a request, after which no more is heard
pub record Asks (old new : State) (version : Version) (method : Method) (asked : Asked) (len : ℕ) (fed : Fed) : Type 0 where
  pub bytes : bytes_of new ≡ bytes_of old
  pub method' : new.method ≡ old.method
  pub stage' : new.stage ≡ Stage.Over
  pub answer : fed ≡ Fed.Ask (record { version = version; command = asked.command; method = method; user = old.user; host = asked.host; port = asked.port; len = len })

abbrev pub stage_behind : ℕ → Stage
stage_behind method = if method == 2 then Stage.Login else Stage.Request

-- a method is answered to the greeting, which is the message, or none was agreed upon
abbrev pub Greets : State → ℕ → State → Fed → Type 0
Greets old method new fed =
    elim (method == 255) [
      | true ↦ Refuses (record old { method = Some method }) new Cause.NoMethod (5 ∷ 255 ∷ []) fed
      | false ↦
          (fed ≡ Fed.Say (5 ∷ method ∷ []))
          × (new ≡ record { stage = stage_behind method; greeting = old.message; login = old.login; message = []; method = Some method; user = old.user })
    ]

-- one byte more, and what is due is answered
pub record HearsByte (methods : List Method) (users : List User) (old : State) (byte : ℕ) (new : State) (fed : Fed) : Type 0 where
  pub bytes : bytes_of new ≡ bytes_of old ++ byte ∷ []
  pub method' : new.method ≡ method_after methods old.method (bytes_of new)
  pub answer : IsDue fed (due methods users old.method (bytes_of new))
  pub stands' : stands new ≡ true
  pub goes_on : GoesOn users (client_of new) fed

-- the method with this code
abbrev pub method_named : Option ℕ → Method
method_named None = Method.NoAuth
method_named (Some m) = if m == 2 then Method.Username else Method.NoAuth

-- so many of the bytes were taken, and none of them made anything due
pub record IsSoFar (methods : List Method) (users : List User) (old : Client) (input : List ℕ) (i : ℕ) (s : State) : Type 0 where
  pub stands' : stands s ≡ true
  pub open' : IsOpen users (client_of s)
  pub bytes : bytes_of s ≡ old.bytes ++ take i input
  pub method' : s.method ≡ old.method
  pub before : (k : ℕ) → 0 < k → k ≤ i → due_after methods users old input k ≡ Due.Nothing
