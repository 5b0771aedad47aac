-- What the readers of a login answer, beside what the grammar reads.
use Rattle.std.specs.Prelude.{◌≡◌, ◌≤◌, ℕ, ◌+◌, Option, Some, None, List, length, drop, take}
use Rattle.addr_pattern.specs.declared.front.Front.{Front}
use Rattle.addr_pattern.specs.declared.front.BadAt.{BadAt}
use Rattle.addr_pattern.specs.declared.front.BadKind.{BadKind}
use Rattle.addr_pattern.specs.declared.front.Span.{Span}
use Rattle.socks_grammar.specs.Grammar.{Read, Reader, Credentials, ◌>>=◌, any_byte, any_bytes, login}
use Rattle.user_login.specs.declared.login.LoginAt.{LoginAt}

-- the bytes of a part
abbrev pub part : List ℕ → Span → List ℕ
part bytes span = take span.len (drop span.at bytes)

-- the name and the password of a login that was found in these bytes
abbrev pub credentials_at : List ℕ → LoginAt → Credentials
credentials_at bytes l = record { name = part bytes l.name; password = part bytes l.password }

-- a login of this length stands at the front of the bytes, and its parts lie within them
pub record IsLogin (bytes : List ℕ) (l : LoginAt) (len : ℕ) : Type 0 where
  pub spelled : login 0 bytes ≡ Read.Got (credentials_at bytes l) len (drop len bytes)
  pub name_inside : l.name.at + l.name.len ≤ length bytes
  pub password_inside : l.password.at + l.password.len ≤ length bytes
  pub inside : len ≤ length bytes

-- no login stands there, since the version is another one (RFC 1929, section 2)
pub record IsOtherVersion (bytes : List ℕ) (bad : BadAt) : Type 0 where
  pub spelled : login 0 bytes ≡ Read.Wrong bad.at bad.byte bad.kind
  pub first : bad.at ≡ 0
  pub version : bad.kind ≡ BadKind.Version

abbrev pub OnLogin : List ℕ → Front LoginAt → Type 0
OnLogin bytes (Front.Whole l len) = IsLogin bytes l len
OnLogin bytes Front.More = login 0 bytes ≡ Read.Short
OnLogin bytes (Front.Bad bad) = IsOtherVersion bytes bad

-- so many bytes as the first one says (RFC 1929, section 2)
abbrev pub counted : Reader (List ℕ)
counted = any_byte >>= any_bytes

-- the bytes behind a length at a place, or there are too few
abbrev pub OnCounted : List ℕ → ℕ → Option Span → Type 0
OnCounted bytes at None = counted at (drop at bytes) ≡ Read.Short
OnCounted bytes at (Some s) =
    (counted at (drop at bytes) ≡ Read.Got (part bytes s) (s.at + s.len) (drop (s.at + s.len) bytes)) × (s.at + s.len ≤ length bytes)
