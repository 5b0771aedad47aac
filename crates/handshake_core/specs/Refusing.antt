-- The code for a bad byte of a request.
use Rattle.std.specs.Prelude.{ℕ}
use Rattle.addr_pattern.specs.declared.front.BadKind.{BadKind}

-- 1 is a general failure, 7 a command and 8 a type of address that isn't supported (RFC 1928, section 6)
abbrev pub code_of : BadKind → ℕ
code_of BadKind.Version = 1
code_of BadKind.Command = 7
code_of BadKind.Atyp = 8
code_of BadKind.Field = 1
