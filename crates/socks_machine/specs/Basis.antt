-- What a definition on one association rests on beside its record.
use Rattle.std.specs.Prelude.{List}
use Rattle.conf_types.specs.declared.entries.Entries.{Entries}
use Rattle.socks_grammar.specs.declared.user.User.{User}
use Rattle.socks_machine.specs.Front.{Front}

pub record Basis : Type 0 where
  pub front : Front
  pub users : List User
  pub pubs : List Entries
