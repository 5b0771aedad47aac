-- Whether two values of a data type are the same, as a test.
use Rattle.std.specs.Prelude.{ℕ, Bool, true, false, ◌==◌}
use Rattle.socks_machine.specs.declared.cause.StopBy.{StopBy}
use Rattle.socks_machine.specs.declared.cause.ListKind.{ListKind}
use Rattle.socks_machine.specs.declared.world.Object.{Object}
use Rattle.socks_machine.specs.declared.world.NextMark.{NextMark}

abbrev pub stop_by_code : StopBy → ℕ
stop_by_code StopBy.Control = 0
stop_by_code StopBy.Log = 1
stop_by_code StopBy.Sessions = 2

abbrev pub stop_by_eq : StopBy → StopBy → Bool
stop_by_eq a b = stop_by_code a == stop_by_code b

abbrev pub list_kind_eq : ListKind → ListKind → Bool
list_kind_eq ListKind.Client ListKind.Client = true
list_kind_eq ListKind.Socks ListKind.Socks = true
list_kind_eq _ _ = false

abbrev pub object_code : Object → ℕ
object_code Object.Client = 0
object_code Object.Target = 1
object_code Object.Door = 2
object_code Object.Port = 3

abbrev pub object_eq : Object → Object → Bool
object_eq a b = object_code a == object_code b

abbrev pub mark_code : NextMark → ℕ
mark_code NextMark.Going = 0
mark_code NextMark.Wait = 1
mark_code NextMark.Again = 2
mark_code NextMark.Done = 3

abbrev pub mark_eq : NextMark → NextMark → Bool
mark_eq a b = mark_code a == mark_code b
