-- What the server answers.
use Rattle.std.specs.Prelude.{ℕ, Bool, true, false, ◌==◌, ◌||◌, if◌then◌else◌, Option, Some, None, List, [], ◌∷◌, ◌++◌, replicate}
use Rattle.std.specs.List.{list_any}
use Rattle.std.specs.Int.{w16, w32, to_be_bytes}
use Rattle.addr_pattern.specs.declared.addr.Addr.{Addr}
use Rattle.addr_pattern.specs.declared.endpoint.Endpoint.{Endpoint}
use Rattle.socks_grammar.specs.declared.protocol.Command.{Command}
use Rattle.socks_grammar.specs.declared.protocol.Method.{Method}
use Rattle.socks_grammar.specs.declared.protocol.Version.{Version}
use Rattle.socks_grammar.specs.declared.protocol.Stage.{Stage}
use Rattle.socks_machine.specs.declared.cause.Cause.{Cause}
use Rattle.socks_grammar.specs.Grammar.{method_byte, spelled_endpoint}

-- the code of a method (RFC 1928, section 3)
abbrev pub method_code : Method → ℕ
method_code method = method_byte method

-- the first of the methods that was offered, else FF (RFC 1928, section 3)
abbrev pub choose : List Method → List ℕ → ℕ
choose [] offered = 255
choose (m ∷ ms) offered = if list_any (λ b. b == method_code m) offered then method_code m else choose ms offered

-- the answer to a greeting (RFC 1928, section 3)
abbrev pub method_reply : ℕ → List ℕ
method_reply method = 5 ∷ method ∷ []

-- the answer to a login: 0 is success (RFC 1929, section 2)
abbrev pub login_reply : Bool → List ℕ
login_reply true = 1 ∷ 0 ∷ []
login_reply false = 1 ∷ 1 ∷ []

-- an address of IPv6 is written as 0.0.0.0 (the SOCKS 4 memo)
abbrev pub endpoint4_bytes : Endpoint → Addr → List ℕ
endpoint4_bytes e (Addr.V4 n) = to_be_bytes w16 e.port ++ to_be_bytes w32 n
endpoint4_bytes e (Addr.V6 n) = to_be_bytes w16 e.port ++ 0 ∷ 0 ∷ 0 ∷ 0 ∷ []

-- the reply of success (the SOCKS 4 memo: 90; a CONNECT's port and address are ignored)
abbrev pub granted4 : Command → Endpoint → List ℕ
granted4 Command.Connect e = 0 ∷ 90 ∷ replicate 6 0
granted4 _ e = 0 ∷ 90 ∷ endpoint4_bytes e e.addr

-- a reply of success (RFC 1928, section 6, and the SOCKS 4 memo)
abbrev pub granted_reply : Version → Command → Endpoint → List ℕ
granted_reply Version.V4 command e = granted4 command e
granted_reply Version.V5 command e = 5 ∷ 0 ∷ 0 ∷ spelled_endpoint e

-- a failing reply (RFC 1928, section 6, and the SOCKS 4 memo: 91, rejected or failed)
abbrev pub failing_reply : Version → ℕ → List ℕ
failing_reply Version.V4 code = 0 ∷ 91 ∷ replicate 6 0
failing_reply Version.V5 code = 5 ∷ code ∷ 0 ∷ 1 ∷ replicate 6 0

-- What a refusal rests on beside its version and cause: whether the byte that is bad stands in the login, whether the request went to a proxy of SOCKS 5, and whether a grant for UDP was due.
pub record RefusedAt : Type 0 where
  pub in_login : Bool
  pub proxy5 : Bool
  pub granting_udp : Bool

-- the codes of a proxy that say the same of this server (RFC 1928, section 6: network unreachable, host unreachable, connection refused)
abbrev pub is_handed_on : ℕ → Bool
is_handed_on code = code == 3 || code == 4 || code == 5

-- the code for a refusal of a proxy (RFC 1928, section 6: 1 is a general failure)
abbrev pub upstream_code : Bool → Stage → ℕ → ℕ
upstream_code true Stage.Reply code = if is_handed_on code then code else 1
upstream_code _ _ _ = 1

-- The answer to each cause: a code of SOCKS 5 (91 in SOCKS 4), or bytes of their own, or nothing (RFC 1928, section 6).
pub data Answer : Type 0 where
  Code : ℕ → Answer
  Bytes : List ℕ → Answer
  Silence : Answer

-- the answer to a cause (RFC 1928, section 6; 05 FF: section 3; 01 01: RFC 1929, section 2)
abbrev pub answer_to : RefusedAt → Cause → Answer
answer_to w (Cause.Denied g v) = Code 2
answer_to w (Cause.Full g l r held limit) = Code 2
answer_to w (Cause.WrongPeer peer asked) = Code 2
answer_to w Cause.NetUnreachable = Code 3
answer_to w Cause.HostUnreachable = Code 4
answer_to w Cause.NotFound = Code 4
answer_to w Cause.Refused = Code 5
answer_to w (Cause.CommandUnsupported at byte) = Code 7
answer_to w (Cause.AtypUnsupported at byte) = Code 8
answer_to w (Cause.BadRequest at byte) = Code 1
answer_to w (Cause.UpstreamBad at byte) = Code 1
answer_to w Cause.NetFault = Code 1
answer_to w Cause.DoorFault = Code 1
-- where the relay had begun nothing is owed
answer_to w Cause.TargetFault = Code 1
-- the desk answers so at an open, where no version is known, at a grant, or at a peer
answer_to w Cause.LogFault = Code 1
answer_to w (Cause.OutOfTurn standing) = Code 1
answer_to w Cause.Memory = if w.granting_udp then Code 1 else Silence
answer_to w (Cause.Upstream stage code) = Code (upstream_code w.proxy5 stage code)
answer_to w Cause.NoMethod = Bytes (5 ∷ 255 ∷ [])
answer_to w Cause.LoginFailed = Bytes (1 ∷ 1 ∷ [])
answer_to w (Cause.BadVersion at byte) = if w.in_login then Bytes (1 ∷ 1 ∷ []) else Code 1
answer_to w _ = Silence

-- its bytes (RFC 1928, section 6; none is owed before the version is known)
abbrev pub bytes_of_answer : Option Version → Answer → List ℕ
bytes_of_answer None _ = []
bytes_of_answer (Some v) (Code c) = failing_reply v c
bytes_of_answer (Some v) (Bytes bs) = bs
bytes_of_answer (Some v) Silence = []

-- the refusal that a cause owes the client (RFC 1928, section 6, and the SOCKS 4 memo)
abbrev pub refusal : Option Version → RefusedAt → Cause → List ℕ
refusal v w cause = bytes_of_answer v (answer_to w cause)
