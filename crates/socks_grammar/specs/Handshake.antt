-- What a client's input is, as a whole: a request, or how far it is from one.
use Rattle.std.specs.Prelude.{ℕ, ◌==◌, if◌then◌else◌, Option, Some, None, List, [], ◌∷◌}
use Rattle.addr_pattern.specs.declared.host.Host.{Host}
use Rattle.addr_pattern.specs.declared.front.BadKind.{BadKind}
use Rattle.socks_grammar.specs.declared.protocol.Command.{Command}
use Rattle.socks_grammar.specs.declared.protocol.Method.{Method}
use Rattle.socks_grammar.specs.declared.protocol.Version.{Version}
use Rattle.socks_grammar.specs.declared.user.User.{User}
use Rattle.socks_grammar.specs.Grammar.{Read, Asked, Credentials, greeting, login, request4, request5}
use Rattle.socks_grammar.specs.Users.{user_fits}

-- what the client asks for (RFC 1928, section 4, and the SOCKS 4 memo)
pub record Request : Type 0 where
  pub version : Version
  pub method : Method
  pub user : Option (List ℕ)
  pub command : Command
  pub host : Host
  pub port : ℕ

-- The input begins with a prelude of this length; no prelude goes on from this byte, at this place; no method was
-- agreed upon; no user fits the login; or more has to come.
pub data Split : Type 0 where
  Whole : Request → ℕ → Split
  Bad : ℕ → ℕ → BadKind → Split
  NoMethod : Split
  LoginFailed : Split
  More : Split

-- a request with the version, the method and the user of its client (RFC 1928, section 4, and the SOCKS 4 memo)
abbrev pub request_of : Version → Method → Option (List ℕ) → Asked → Request
request_of version method user a =
    record { version = version; method = method; user = user; command = a.command; host = a.host; port = a.port }

-- behind the login, if any: the request (RFC 1928, section 4, and the SOCKS 4 and 4A memos)
abbrev pub split_request : Version → Method → Option (List ℕ) → Read Asked → Split
split_request version method user (Read.Got a at rest) = Whole (request_of version method user a) at
split_request version method user Read.Short = More
split_request version method user (Read.Wrong at byte kind) = Bad at byte kind

-- behind the greeting: the login, and the request where a user fits (RFC 1929, section 2)
abbrev pub split_login : List User → Read Credentials → Split
split_login users Read.Short = More
split_login users (Read.Wrong at byte kind) = Bad at byte kind
split_login users (Read.Got l at rest) =
    if user_fits users l.name l.password then split_request Version.V5 Method.Username (Some l.name) (request5 at rest) else LoginFailed

-- what follows a greeting, by the method that was answered to it (RFC 1928, section 3: 00 no login, 02 username and password)
abbrev pub split_answered : List User → ℕ → ℕ → List ℕ → Split
split_answered users method at rest =
    if method == 0 then split_request Version.V5 Method.NoAuth None (request5 at rest)
    else (if method == 2 then split_login users (login at rest) else NoMethod)

-- behind the greeting, once a method was answered (RFC 1928, section 3)
abbrev pub split_greeted : List User → Option ℕ → Read (List ℕ) → Split
split_greeted users method Read.Short = More
split_greeted users method (Read.Wrong at byte kind) = Bad at byte kind
split_greeted users None (Read.Got offered at rest) = More
split_greeted users (Some method) (Read.Got offered at rest) = split_answered users method at rest

-- the whole input of a client, where this method was answered to its greeting, if any was (RFC 1928, section 3, and the SOCKS 4 memo: the first byte says the version)
abbrev pub split : List User → Option ℕ → List ℕ → Split
split users method [] = More
split users method (b ∷ bytes) =
    if b == 4 then split_request Version.V4 Method.NoAuth None (request4 0 (b ∷ bytes))
    else (if b == 5 then split_greeted users method (greeting 0 (b ∷ bytes)) else Bad 0 b BadKind.Version)

-- the methods that a whole greeting offers (RFC 1928, section 3)
abbrev pub offered_by : Read (List ℕ) → Option (List ℕ)
offered_by (Read.Got methods at rest) = Some methods
offered_by _ = None

-- the methods that the input offers, once its greeting is whole (RFC 1928, section 3)
abbrev pub offered : List ℕ → Option (List ℕ)
offered bytes = offered_by (greeting 0 bytes)

-- the place behind the greeting, where it is whole (RFC 1928, section 3)
abbrev pub place_behind : Read (List ℕ) → ℕ
place_behind (Read.Got methods at rest) = at
place_behind _ = 0

-- the length of the greeting, once it is whole (RFC 1928, section 3)
abbrev pub greeting_length : List ℕ → ℕ
greeting_length bytes = place_behind (greeting 0 bytes)

-- the place behind the login, where it is whole (RFC 1929, section 2)
abbrev pub login_end : Read Credentials → Option ℕ
login_end (Read.Got l at rest) = Some at
login_end _ = None

-- the place behind the login that follows this greeting (RFC 1929, section 2)
abbrev pub login_place_of : Read (List ℕ) → Option ℕ
login_place_of (Read.Got methods at rest) = login_end (login at rest)
login_place_of _ = None

-- the place behind the greeting and the login, where both are whole (RFC 1928, section 3, and RFC 1929, section 2)
abbrev pub login_place : List ℕ → Option ℕ
login_place bytes = login_place_of (greeting 0 bytes)

-- the version that the first byte says (RFC 1928, section 3, and the SOCKS 4 memo)
abbrev pub version_of : List ℕ → Option Version
version_of [] = None
version_of (b ∷ bytes) = if b == 4 then Some Version.V4 else (if b == 5 then Some Version.V5 else None)
