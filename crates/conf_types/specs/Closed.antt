-- The configuration without rules.
use Rattle.std.specs.Prelude.{None, [], ◌∷◌}
use Rattle.addr_pattern.specs.declared.endpoint.Endpoint.{Endpoint}
use Rattle.conf_types.specs.declared.entries.Entries.{Entries}
use Rattle.socks_grammar.specs.declared.protocol.Method.{Method}

-- it listens at one endpoint, and no rule lets anybody in
abbrev pub closed_at : Endpoint → Entries
closed_at at = record {
  internals = at ∷ [];
  externals = [];
  control = None;
  methods = Method.NoAuth ∷ [];
  negotiate = 30;
  io = 0;
  client = [];
  socks = [];
  routes = [];
}
