-- What a call answers, by cases.
use Rattle.std.specs.Prelude.{ℕ, ◌≡◌, ◌<◌, ◌≤◌, true, List, ◌++◌, length, take}
use Rattle.socks_grammar.specs.declared.protocol.Method.{Method}
use Rattle.socks_grammar.specs.declared.user.User.{User}
use Rattle.socks_grammar.specs.Handshake.{Request}
use Rattle.handshake_core.specs.declared.fed.Fed.{Fed}
use Rattle.handshake_core.specs.declared.request.Request.{Request as RequestIs}
use Rattle.handshake_core.specs.Due.{Due, Client, IsOpen, due, method_after}

-- what a request asks for
abbrev pub request_in : RequestIs → Request
request_in r = record { version = r.version; method = r.method; user = r.user; command = r.command; host = r.host; port = r.port }

-- what was due is what is answered
abbrev pub IsDue : Fed → Due → Type 0
IsDue Fed.Need d = d ≡ Due.Nothing
IsDue (Fed.Say bytes) d = d ≡ Due.Say bytes
IsDue (Fed.Ask request) d = d ≡ Due.Ask (request_in request) request.len
IsDue (Fed.Bad cause say) d = d ≡ Due.Bad cause say

-- after nothing and after an answer the client goes on; after a request or a refusal it doesn't
abbrev pub GoesOn : List User → Client → Fed → Type 0
GoesOn users c Fed.Need = IsOpen users c
GoesOn users c (Fed.Say bytes) = IsOpen users c
GoesOn users c (Fed.Ask request) = c.over ≡ true
GoesOn users c (Fed.Bad cause say) = c.over ≡ true

-- what is due after so many of the bytes
abbrev pub due_after : List Method → List User → Client → List ℕ → ℕ → Due
due_after methods users c input n = due methods users c.method (c.bytes ++ take n input)

-- after all of the bytes nothing is due, or the last that was taken is the first after which something is
abbrev pub IsFirstDue : List Method → List User → Client → List ℕ → ℕ → Fed → Type 0
IsFirstDue methods users old input n Fed.Need = (n ≡ length input) × (0 < n → due_after methods users old input n ≡ Due.Nothing)
IsFirstDue methods users old input n fed = (0 < n) × IsDue fed (due_after methods users old input n)

-- the client after so many of the bytes, of which only the last made anything due
pub record Feeds (methods : List Method) (users : List User) (old : Client) (input : List ℕ) (n : ℕ) (fed : Fed) (new : Client) : Type 0 where
  pub took : n ≤ length input
  pub bytes : new.bytes ≡ old.bytes ++ take n input
  pub method : new.method ≡ method_after methods old.method new.bytes
  pub before : (k : ℕ) → 0 < k → k < n → due_after methods users old input k ≡ Due.Nothing
  pub last : IsFirstDue methods users old input n fed
  pub goes_on : GoesOn users new fed
