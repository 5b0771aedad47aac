-- What the readers of requests need and answer.
use Rattle.std.specs.Prelude.{ℕ, ◌≡◌, ◌≤◌, ◌+◌, Option, Some, None, Ok, List, length, slice_range}
use Rattle.addr_pattern.specs.declared.front.Span.{Span}
use Rattle.addr_pattern.specs.Names.{name_of}
use Rattle.socks_grammar.specs.Grammar.{Asked}
use Rattle.socks5_codec.specs.declared.message.HostAt.{HostAt}
use Rattle.handshake_core.specs.declared.asked.Asked.{Asked as AskedIs}

abbrev pub asked_in : AskedIs → Asked
asked_in a = record { command = a.command; host = a.host; port = a.port }

-- a name stands in the bytes (RFC 1928, section 5, and the SOCKS 4A memo)
pub record IsNameAt (bytes : List ℕ) (s : Span) : Type 0 where
  pub inside : s.at + s.len ≤ length bytes
  pub named : name_of (slice_range bytes s.at (s.at + s.len)) ≡ Ok (slice_range bytes s.at (s.at + s.len))

abbrev pub IsNameAt4 : List ℕ → Option Span → Type 0
IsNameAt4 bytes None = Unit {0}
IsNameAt4 bytes (Some s) = IsNameAt bytes s

abbrev pub IsHostAt : List ℕ → HostAt → Type 0
IsHostAt bytes (HostAt.Addr a) = Unit {0}
IsHostAt bytes (HostAt.Name s) = IsNameAt bytes s
