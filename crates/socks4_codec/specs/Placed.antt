-- What a request has from the places in the bytes that it was read from.
use Rattle.std.specs.Prelude.{ℕ, ◌+◌, ◌≡◌, ◌≤◌, List, IfSome, drop, length, option_map, slice_range}
use Rattle.addr_pattern.specs.declared.front.Span.{Span}
use Rattle.socks_grammar.specs.Grammar.{Read, request4}
use Rattle.socks4_codec.specs.declared.request.Request4.{Request4}
use Rattle.socks4_codec.specs.Parts.{Parts4, parts4, asked_by}

-- the bytes in a place
abbrev pub bytes_in : List ℕ → Span → List ℕ
bytes_in bytes s = slice_range bytes s.at (s.at + s.len)

-- the parts that a request names
abbrev pub parts_in : List ℕ → Request4 → Parts4
parts_in bytes r = record { command = r.command; port = r.port; addr = r.addr; user = bytes_in bytes r.user; name = option_map (bytes_in bytes) r.name }

-- the user stands behind the address, and the name behind the 00 that ends the user
pub record IsPlaced4 (r : Request4) (len : ℕ) : Type 0 where
  pub user_at : r.user.at ≡ 8
  pub name_at : IfSome r.name (λ s. s.at ≡ 9 + r.user.len)
  pub user_inside : r.user.at + r.user.len ≤ len
  pub name_inside : IfSome r.name (λ s. s.at + s.len ≤ len)

-- a request of this length stands at the front of the bytes
pub record IsRequest4 (bytes : List ℕ) (r : Request4) (len : ℕ) : Type 0 where
  pub parts : parts4 0 bytes ≡ Read.Got (parts_in bytes r) len (drop len bytes)
  pub asked : request4 0 bytes ≡ Read.Got (asked_by (parts_in bytes r)) len (drop len bytes)
  pub placed : IsPlaced4 r len
  pub inside : len ≤ length bytes
