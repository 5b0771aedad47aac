-- What the whole input of a client is, once bytes were taken of it.
use Rattle.std.specs.Prelude.{ℕ, ◌≡◌, Option, Some, None, List, ◌++◌}
use Rattle.socks_grammar.specs.declared.protocol.Method.{Method}
use Rattle.socks_grammar.specs.declared.user.User.{User}
use Rattle.socks_grammar.specs.Handshake.{Split, split}
use Rattle.socks_machine.specs.declared.cause.Cause.{Cause}
use Rattle.socks_machine.specs.Settle.{bad_cause}
use Rattle.handshake_core.specs.declared.taken.Taken.{Taken}
use Rattle.handshake_core.specs.Answers.{request_in}
use Rattle.handshake_core.specs.Due.{Client, IsOpen, method_after}

-- the cause for which an input is refused
abbrev pub refusal_of : Split → Option Cause
refusal_of (Split.Bad at byte kind) = Some (bad_cause at byte kind)
refusal_of Split.NoMethod = Some Cause.NoMethod
refusal_of Split.LoginFailed = Some Cause.LoginFailed
refusal_of (Split.Whole request n) = None
refusal_of Split.More = None

-- what the input is, over the method that was answered
abbrev pub IsTaken : List User → Client → List ℕ → Taken → Type 0
IsTaken users new bytes Taken.Open = (new.bytes ≡ bytes) × IsOpen users new
IsTaken users new bytes (Taken.Asked q) = split users new.method bytes ≡ Split.Whole (request_in q) q.len
IsTaken users new bytes (Taken.Refused cause) = refusal_of (split users new.method bytes) ≡ Some cause

-- all the bytes of an input were taken, behind those of before
pub record Takes (methods : List Method) (users : List User) (old : Client) (input : List ℕ) (taken : Taken) (new : Client) : Type 0 where
  pub method : new.method ≡ method_after methods old.method (old.bytes ++ input)
  pub is : IsTaken users new (old.bytes ++ input) taken

-- a first part of an input was taken, and the client may send more
pub record IsAt (methods : List Method) (users : List User) (old : Client) (input rest : List ℕ) (now : Client) : Type 0 where
  pub part : List ℕ
  pub input' : input ≡ part ++ rest
  pub bytes : now.bytes ≡ old.bytes ++ part
  pub method : now.method ≡ method_after methods old.method (old.bytes ++ part)
  pub open' : IsOpen users now
