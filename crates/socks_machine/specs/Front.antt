-- What a front of the machine is: how it reads a client's input, and what it answers. SOCKS is one.
use Rattle.std.specs.Prelude.{ℕ, Bool, Option, List}
use Rattle.addr_pattern.specs.declared.endpoint.Endpoint.{Endpoint}
use Rattle.socks_grammar.specs.declared.protocol.Command.{Command}
use Rattle.socks_grammar.specs.declared.login.Login.{Login}
use Rattle.socks_grammar.specs.declared.user.User.{User}
use Rattle.socks_grammar.specs.declared.protocol.Version.{Version}
use Rattle.socks_machine.specs.declared.cause.Cause.{Cause}
use Rattle.socks_machine.specs.declared.record.Chosen.{Chosen}
use Rattle.socks_machine.specs.declared.record.Decision.{Decision}
use Rattle.socks_grammar.specs.Handshake.{Split}

pub record Proxy : Type 0 where
  pub at : Endpoint
  pub version : Version
  pub login : Option Login

pub record Front : Type 0 where
  -- the whole input, where this method was answered
  pub split : List User → Option ℕ → List ℕ → Split
  -- what is answered before a request is whole, and to a login that passed
  pub opening : Option Chosen → Bool → List ℕ
  -- the reply of success
  pub granted : List ℕ → Command → Endpoint → List ℕ
  -- the refusal that a cause owes
  pub refused : Option Chosen → List ℕ → List Decision → Split → Option Proxy → Cause → List ℕ
