-- What is due to a client, by all that it has sent so far.
use Rattle.std.specs.Prelude.{ℕ, ◌≡◌, Bool, true, false, ◌&&◌, ◌==◌, if◌then◌else◌, Option, Some, None, option_map, List, length}
use Rattle.socks_grammar.specs.declared.protocol.Method.{Method}
use Rattle.socks_grammar.specs.declared.user.User.{User}
use Rattle.socks_grammar.specs.Handshake.{Request, Split, split, offered, login_place, version_of}
use Rattle.socks_machine.specs.declared.cause.Cause.{Cause}
use Rattle.socks_machine.specs.declared.record.Chosen.{Chosen}
use Rattle.socks_machine.specs.Replies.{choose, method_reply, login_reply, refusal}
use Rattle.socks_machine.specs.Settle.{bad_cause}
use Rattle.socks_machine.specs.Socks.{is_in_login}

-- nothing yet; an answer, after which the client goes on; a request, which ends at this place; or a refusal
pub data Due : Type 0 where
  Nothing : Due
  Say : List ℕ → Due
  Ask : Request → ℕ → Due
  Bad : Cause → List ℕ → Due

-- the method that is answered to the greeting, once this is whole; FF where none of the server's was offered (RFC 1928, section 3)
abbrev pub method_after : List Method → Option ℕ → List ℕ → Option ℕ
method_after methods None bytes = option_map (choose methods) (offered bytes)
method_after methods (Some method) bytes = Some method

abbrev pub chosen_by : Option ℕ → Option Chosen
chosen_by None = None
chosen_by (Some method) = Some (record { generation = 0; method = method })

-- a refusal, with what is answered
abbrev pub refused : Option ℕ → List ℕ → Cause → Due
refused method bytes cause =
    Due.Bad cause (refusal (version_of bytes) (record { in_login = is_in_login (chosen_by method) bytes cause; proxy5 = false; granting_udp = false }) cause)

abbrev pub is_place : Option ℕ → ℕ → Bool
is_place None n = false
is_place (Some place) n = place == n

-- more has to come: a method is answered as soon as there is one, and a login that fits as soon as it is whole (RFC 1928, section 3, and RFC 1929, section 2)
abbrev pub due_before : Option ℕ → Option ℕ → List ℕ → Due
due_before before None bytes = Due.Nothing
due_before None (Some method) bytes = Due.Say (method_reply method)
due_before (Some before) (Some method) bytes =
    if method == 2 && is_place (login_place bytes) (length bytes) then Due.Say (login_reply true) else Due.Nothing

abbrev pub due_at : Option ℕ → Option ℕ → List ℕ → Split → Due
due_at before after bytes (Split.Whole request n) = Due.Ask request n
due_at before after bytes (Split.Bad at byte kind) = refused after bytes (bad_cause at byte kind)
due_at before after bytes Split.NoMethod = refused after bytes Cause.NoMethod
due_at before after bytes Split.LoginFailed = refused after bytes Cause.LoginFailed
due_at before after bytes Split.More = due_before before after bytes

-- what is due once the client has sent these bytes, where this method was answered before the last of them, if any was
abbrev pub due : List Method → List User → Option ℕ → List ℕ → Due
due methods users before bytes =
    due_at before (method_after methods before bytes) bytes (split users (method_after methods before bytes) bytes)

-- a client: all that it has sent, the method that was answered to it, and whether it had its request or its refusal
pub record Client : Type 0 where
  pub bytes : List ℕ
  pub method : Option ℕ
  pub over : Bool

-- the client may send more: its bytes are the beginning of a prelude
abbrev pub IsOpen : List User → Client → Type 0
IsOpen users c = (c.over ≡ false) × (split users c.method c.bytes ≡ Split.More)
