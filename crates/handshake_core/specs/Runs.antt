-- Bytes that leave a message too short.
use Rattle.std.specs.Prelude.{ℕ, ◌≡◌, ◌<◌, ◌≤◌, ◌==◌, Bool, true, false, not, Some, List, ◌++◌, length}
use Rattle.std.specs.List.{list_all}
use Rattle.socks_grammar.specs.declared.protocol.Version.{Version}
use Rattle.socks_grammar.specs.Grammar.{Read, request4, request5}
use Rattle.addr_pattern.specs.Names.{is_name_byte}
use Rattle.socks_grammar.specs.Handshake.{version_of}
use Rattle.handshake_core.specs.declared.run.Kind.{Kind}
use Rattle.handshake_core.specs.declared.run.Run.{Run}
use Rattle.handshake_core.specs.declared.state.Stage.{Stage}

-- the bytes of a kind (the user of the SOCKS 4 memo, and a name)
abbrev pub passes : Kind → ℕ → Bool
passes Kind.User b = not (b == 0)
passes Kind.Name b = is_name_byte b

abbrev pub is_short : {A : Type 0} → Read A → Bool
is_short Read.Short = true
is_short _ = false

-- a request is read here, and these bytes are too few for it
abbrev pub is_short_at : Stage → List ℕ → Bool
is_short_at Stage.First bytes = is_short (request4 0 bytes)
is_short_at Stage.Request bytes = is_short (request5 0 bytes)
is_short_at _ bytes = false

-- where a request is read, more of it has to come
abbrev pub WantsMore : Stage → List ℕ → Type 0
WantsMore Stage.First bytes = version_of bytes ≡ Some Version.V4 → request4 0 bytes ≡ Read.Short
WantsMore Stage.Request bytes = request5 0 bytes ≡ Read.Short
WantsMore _ bytes = Unit {0}

-- with any bytes of the kind behind them, up to so many, the bytes are too few
abbrev pub StaysShort : Stage → List ℕ → Run → Type 0
StaysShort stage bytes run =
    (more : List ℕ) → 0 < length more → length more ≤ run.left → list_all (passes run.kind) more ≡ true → is_short_at stage (bytes ++ more) ≡ true
