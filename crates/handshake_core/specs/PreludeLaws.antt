-- Where more of a client's input is wanted, which byte of it is bad, and where its prelude ends.
use Rattle.std.specs.Prelude.{ℕ, ◌+◌, ◌≡◌, ◌≢◌, ◌⊎◌, ◌↔◌, nat_lt, IsTrue, Option, Some, None, is_some, List, [], ◌++◌, length, take}
use Rattle.std.specs.List.{list_all, slice_get}
use Rattle.addr_pattern.specs.declared.front.BadKind.{BadKind}
use Rattle.socks_grammar.specs.declared.user.User.{User}
use Rattle.socks_grammar.specs.Grammar.{greeting, request4}
use Rattle.socks_grammar.specs.Handshake.{Request, Split, split, offered, greeting_length, login_place}
use Rattle.socks_grammar.specs.Prefixes.{IsProperPrefix}

-- The input ends where it is settled: with a whole prelude, with a greeting of whose methods none was taken (RFC 1928, section 3),
-- or with a login that no user fits (RFC 1929, section 2).
abbrev pub EndsSettled : List ℕ → Split → Type 0
EndsSettled bytes (Split.Whole request n) = n ≡ length bytes
EndsSettled bytes Split.NoMethod = greeting_length bytes ≡ length bytes
EndsSettled bytes Split.LoginFailed = login_place bytes ≡ Some (length bytes)
EndsSettled bytes _ = ⊥

-- a proper prefix of an input that ends where it is settled
abbrev pub IsUnsettled : List User → ℕ → List ℕ → Type 0
IsUnsettled users method bytes =
    (more : List ℕ) × (more ≢ []) × IsTrue (list_all (λ b. nat_lt b 256) more) × EndsSettled (bytes ++ more) (split users (Some method) (bytes ++ more))

-- once a method was answered, more is wanted exactly of these
abbrev pub MoreIsUnsettled : Type 0
MoreIsUnsettled = (users : List User) (method : ℕ) (bytes : List ℕ) → (split users (Some method) bytes ≡ Split.More) ↔ IsUnsettled users method bytes

-- a proper prefix of a request of version 4 or of a greeting, or a whole greeting, which waits for its answer (the SOCKS 4 memo, and RFC 1928, section 3)
abbrev pub IsUnanswered : List ℕ → Type 0
IsUnanswered bytes = IsProperPrefix request4 bytes ⊎ (IsProperPrefix greeting bytes ⊎ IsTrue (is_some (offered bytes)))

-- as long as no method was answered, more is wanted exactly of these
abbrev pub MoreIsUnanswered : Type 0
MoreIsUnanswered = (users : List User) (bytes : List ℕ) → (split users None bytes ≡ Split.More) ↔ IsUnanswered bytes

-- the byte stands there, more was wanted before it, and after it all is bad
pub record IsFirstBad (users : List User) (method : Option ℕ) (bytes : List ℕ) (at byte : ℕ) (kind : BadKind) : Type 0 where
  pub there : slice_get bytes at ≡ Some byte
  pub before : split users method (take at bytes) ≡ Split.More
  pub after : (more : List ℕ) → split users method (take (at + 1) bytes ++ more) ≡ Split.Bad at byte kind

-- the bad byte is the first after which no prelude is possible
abbrev pub BadIsFirst : Type 0
BadIsFirst = (users : List User) (method : Option ℕ) (bytes : List ℕ) (at byte : ℕ) (kind : BadKind)
    → split users method bytes ≡ Split.Bad at byte kind → IsFirstBad users method bytes at byte kind

-- so many bytes are there, and whatever follows them they are this prelude
pub record IsPreludeAlone (users : List User) (method : Option ℕ) (bytes : List ℕ) (request : Request) (len : ℕ) : Type 0 where
  pub size : length (take len bytes) ≡ len
  pub alone : (more : List ℕ) → split users method (take len bytes ++ more) ≡ Split.Whole request len

-- a whole prelude stands at the front, and doesn't depend on what follows
abbrev pub WholeStandsAlone : Type 0
WholeStandsAlone = (users : List User) (method : Option ℕ) (bytes : List ℕ) (request : Request) (len : ℕ)
    → split users method bytes ≡ Split.Whole request len → IsPreludeAlone users method bytes request len
