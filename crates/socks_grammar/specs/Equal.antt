-- Whether two values of a data type are the same, as a test.
use Rattle.std.specs.Prelude.{ℕ, Bool, true, false, ◌==◌}
use Rattle.socks_grammar.specs.declared.protocol.Method.{Method}
use Rattle.socks_grammar.specs.declared.protocol.Version.{Version}
use Rattle.socks_grammar.specs.declared.protocol.Command.{Command}

abbrev pub method_eq : Method → Method → Bool
method_eq Method.NoAuth Method.NoAuth = true
method_eq Method.Username Method.Username = true
method_eq _ _ = false

abbrev pub version_eq : Version → Version → Bool
version_eq Version.V4 Version.V4 = true
version_eq Version.V5 Version.V5 = true
version_eq _ _ = false

abbrev pub command_code : Command → ℕ
command_code Command.Connect = 0
command_code Command.Bind = 1
command_code Command.UdpAssociate = 2
command_code Command.BindReply = 3
command_code Command.UdpReply = 4

abbrev pub command_eq : Command → Command → Bool
command_eq a b = command_code a == command_code b
