-- The request in a client's whole input.
use Rattle.std.specs.Prelude.{◌≡◌, Option, Some, None}
use Rattle.socks_grammar.specs.Handshake.{Split}
use Rattle.handshake_core.specs.declared.request.Request.{Request}
use Rattle.handshake_core.specs.Answers.{request_in}

-- the request of a whole prelude with its length, or there is no whole prelude
abbrev pub OnSplit : Option Request → Split → Type 0
OnSplit (Some r) s = s ≡ Split.Whole (request_in r) r.len
OnSplit None (Split.Whole q n) = ⊥
OnSplit None _ = Unit {0}
