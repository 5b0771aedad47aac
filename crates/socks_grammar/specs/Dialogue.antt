-- What a client says to a proxy, and how that ends, from all that it heard.
use Rattle.std.specs.Prelude.{ℕ, ◌==◌, ◌&&◌, if◌then◌else◌, Option, Some, None, List, [], ◌++◌, is_some}
use Rattle.addr_pattern.specs.declared.endpoint.Endpoint.{Endpoint}
use Rattle.addr_pattern.specs.declared.host.Host.{Host}
use Rattle.socks_grammar.specs.declared.protocol.Command.{Command}
use Rattle.socks_grammar.specs.declared.protocol.Version.{Version}
use Rattle.socks_grammar.specs.declared.protocol.Stage.{Stage}
use Rattle.socks_grammar.specs.declared.login.Login.{Login}
use Rattle.socks_grammar.specs.Grammar.{Read, method_answer, login_status, reply4_head, endpoint4, reply5_head, reply5_rest, spelled_greeting, spelled_login, spelled_request4, spelled_request5}

-- what a client wants of a proxy (RFC 1928, section 4, and the SOCKS 4 memo)
pub record Wish : Type 0 where
  pub version : Version
  pub host : Host
  pub port : ℕ
  pub login : Option Login

-- The outcome: more has to come; the way is open, with the endpoint that the proxy gave and the length of all it said;
-- the proxy refused; or no reply goes on from this byte (RFC 1928, section 6, and the SOCKS 4 memo).
pub data Outcome : Type 0 where
  More : Outcome
  Up : Endpoint → ℕ → Outcome
  Refused : Stage → ℕ → Outcome
  Bad : ℕ → ℕ → Outcome

-- the endpoint ends the reply (RFC 1928, section 6, and the SOCKS 4 memo)
abbrev pub outcome_of_endpoint : Read Endpoint → Outcome
outcome_of_endpoint (Read.Got e at rest) = Up e at
outcome_of_endpoint Read.Short = More
outcome_of_endpoint (Read.Wrong at byte kind) = Bad at byte

-- behind the head of a reply (the SOCKS 4 memo: 90 is success)
abbrev pub outcome_of_reply4 : Read ℕ → Outcome
outcome_of_reply4 Read.Short = More
outcome_of_reply4 (Read.Wrong at byte kind) = Bad at byte
outcome_of_reply4 (Read.Got code at rest) = if code == 90 then outcome_of_endpoint (endpoint4 at rest) else Refused Stage.Reply code

-- behind the head of a reply (RFC 1928, section 6: 00 is success)
abbrev pub outcome_of_reply5 : Read ℕ → Outcome
outcome_of_reply5 Read.Short = More
outcome_of_reply5 (Read.Wrong at byte kind) = Bad at byte
outcome_of_reply5 (Read.Got code at rest) = if code == 0 then outcome_of_endpoint (reply5_rest at rest) else Refused Stage.Reply code

-- behind the answer to the login (RFC 1929, section 2: 00 is success)
abbrev pub outcome_of_status : Read ℕ → Outcome
outcome_of_status Read.Short = More
outcome_of_status (Read.Wrong at byte kind) = Bad at byte
outcome_of_status (Read.Got status at rest) = if status == 0 then outcome_of_reply5 (reply5_head at rest) else Refused Stage.Login status

-- 00 is always offered, and 02 with a login (RFC 1928, section 3)
abbrev pub outcome_of_method : Option Login → Read ℕ → Outcome
outcome_of_method login Read.Short = More
outcome_of_method login (Read.Wrong at byte kind) = Bad at byte
outcome_of_method login (Read.Got method at rest) =
    if method == 0 then outcome_of_reply5 (reply5_head at rest)
    else (if method == 2 && is_some login then outcome_of_status (login_status at rest) else Refused Stage.Method method)

-- the outcome of all that was heard (RFC 1928, section 3, and the SOCKS 4 memo)
abbrev pub outcome : Wish → List ℕ → Outcome
outcome w heard = by_version w.version
  where
    by_version : Version → Outcome
    by_version Version.V4 = outcome_of_reply4 (reply4_head 0 heard)
    by_version Version.V5 = outcome_of_method w.login (method_answer 0 heard)

-- ---- what is said

-- the user of a request (the SOCKS 4 memo)
abbrev pub userid : Option Login → List ℕ
userid None = []
userid (Some l) = l.name

-- the login, where there is one (RFC 1929, section 2)
abbrev pub login_message : Option Login → List ℕ
login_message None = []
login_message (Some l) = spelled_login l.name l.password

-- the request (RFC 1928, section 4)
abbrev pub request_message : Wish → List ℕ
request_message w = spelled_request5 Command.Connect w.host w.port

-- the request follows an answer of success alone (RFC 1929, section 2)
abbrev pub said_after_status : Wish → Read ℕ → List ℕ
said_after_status w (Read.Got status at rest) = if status == 0 then request_message w else []
said_after_status w _ = []

-- what follows the answer to the greeting (RFC 1928, section 3)
abbrev pub said_after_method : Wish → Read ℕ → List ℕ
said_after_method w (Read.Got method at rest) =
    if method == 0 then request_message w
    else (if method == 2 && is_some w.login then login_message w.login ++ said_after_status w (login_status at rest) else [])
said_after_method w _ = []

-- all that is said, after all that was heard (RFC 1928, section 3, and the SOCKS 4 memo)
abbrev pub said : Wish → List ℕ → List ℕ
said w heard = by_version w.version
  where
    by_version : Version → List ℕ
    by_version Version.V4 = spelled_request4 Command.Connect w.host w.port (userid w.login)
    by_version Version.V5 = spelled_greeting (is_some w.login) ++ said_after_method w (method_answer 0 heard)
