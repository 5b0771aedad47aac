use Rattle.std.proofs.Common.{◌≡◌, ◌++◌, drop}
use Rattle.addr_pattern.specs.AddressText.{hex_text}
use Rattle.transcript_text.proofs.hex.add_hex.Given as goal

-- what is written, with the bytes that are left, is all bytes
abbrev pub invariant-loop-byte : goal.invariant-loop-byte
invariant-loop-byte l = l.out ++ hex_text (drop l.byte-index l.bytes) ≡ l.fn.out ++ hex_text l.bytes
