-- What the words ask for.
use Rattle.std.specs.Prelude.{Option, List, map}
use Rattle.std.specs.declared.alloc.Global.{Global}
use Rattle.std.specs.declared.string.String.{String}
use Rattle.std.specs.String.{string_bytes}
use Rattle.command_line.specs.Words.{Wanted, asked_of}

abbrev pub asked_by : List (String Global) → Option Wanted
asked_by words = asked_of (map string_bytes words)
