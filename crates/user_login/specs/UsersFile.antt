-- The users file: the users that a text says, or its first fault.
use Rattle.std.specs.Prelude.{◌≡◌, ◌⊎◌, ℕ, ◌+◌, Bool, true, ◌&&◌, not, ◌==◌, nat_lt, nat_le, if◌then◌else◌, Option, Some, None, Result, Ok, Err, List, [], ◌∷◌, ◌++◌, length, bytes_eq}
use Rattle.std.specs.List.{list_any}
use Rattle.addr_pattern.specs.declared.fault.AddrFault.{AddrFault}
use Rattle.addr_pattern.specs.AddressText.{parts}
use Rattle.addr_pattern.specs.Cuts.{first_cut}
use Rattle.addr_pattern.specs.Names.{name_of}
use Rattle.hex.specs.declared.error.FromHexError.{FromHexError}
use Rattle.hex.specs.Hex.{decode_sized}
use Rattle.socks_grammar.specs.declared.user.User.{User}
use Rattle.user_login.specs.declared.fault.UsersFault.{UsersFault}
use Rattle.user_login.specs.declared.fault.UsersKind.{UsersKind}

-- ---- a line

-- the line but for one CR at its end
abbrev pub without_cr : List ℕ → List ℕ
without_cr [] = []
without_cr (b ∷ []) = if b == 13 then [] else b ∷ []
without_cr (b ∷ c ∷ bs) = b ∷ without_cr (c ∷ bs)

-- an empty line, or one that begins with `#`
abbrev pub is_skipped : List ℕ → Bool
is_skipped [] = true
is_skipped (b ∷ bs) = b == 35

-- a name, and a digest of 32 bytes
abbrev pub user_with : Result (List ℕ) AddrFault → Result (List ℕ) FromHexError → Option User
user_with (Ok name) (Ok digest) = Some (record { name = name; digest = digest })
user_with _ _ = None

-- what stands before the `:` is the name, and what stands behind it are the 64 digits of the digest
abbrev pub user_at : Option (List ℕ × List ℕ) → Option User
user_at None = None
user_at (Some cut) = user_with (name_of cut.0) (decode_sized cut.1 32)

-- the user that a line says
abbrev pub user_of : List ℕ → Option User
user_of line = user_at (first_cut 58 line)

-- ---- the lines

abbrev pub has_name : List ℕ → User → Bool
has_name name user = bytes_eq user.name name

abbrev pub most_users : ℕ
most_users = 4096

-- the users with one more, whose name is new and who is within the limit
abbrev pub user_onto : List User → User → Result (List User) UsersKind
user_onto users user =
    if list_any (has_name user.name) users then Err UsersKind.Repeated
    else (if nat_le most_users (length users) then Err UsersKind.TooMany else Ok (users ++ user ∷ []))

abbrev pub said_onto : List User → Option User → Result (List User) UsersKind
said_onto users None = Err UsersKind.BadLine
said_onto users (Some user) = user_onto users user

-- the users of the lines before, and what this one says
abbrev pub line_onto : List User → List ℕ → Result (List User) UsersKind
line_onto users line = if is_skipped (without_cr line) then Ok users else said_onto users (user_of (without_cr line))

-- the users of the lines before and of these, of which the first has this number; or the first of these with a fault
abbrev pub lines_onto : ℕ → List User → List (List ℕ) → Result (List User) UsersFault
lines_onto n users [] = Ok users
lines_onto n users (line ∷ lines) =
    elim (line_onto users line) [ Ok more ↦ lines_onto (n + 1) more lines | Err kind ↦ Err (record { line = n; kind = kind }) ]

-- ---- the text

abbrev pub longest : ℕ
longest = 1048576

-- the lines between the LFs; behind the last one there is an empty line, which says nothing
abbrev pub lines : List ℕ → List (List ℕ)
lines text = parts 10 text

abbrev pub users_of : List ℕ → Result (List User) UsersFault
users_of text = if nat_lt longest (length text) then Err (record { line = 0; kind = UsersKind.TooLong }) else lines_onto 1 [] (lines text)

-- ---- the limits

-- no two users have one name
abbrev pub are_distinct : List User → Bool
are_distinct [] = true
are_distinct (user ∷ users) = not (list_any (has_name user.name) users) && are_distinct users

-- at most 4,096 users, and no two of one name
abbrev pub are_users : List User → Bool
are_users users = nat_le (length users) most_users && are_distinct users

-- the users of a list, if there is one
abbrev pub listed : Option (List User) → List User
listed None = []
listed (Some users) = users

-- ---- what the reader answers

-- want of memory is no fault of a text, and may come at any
abbrev pub OnUsers : List ℕ → Result (List User) UsersFault → Type 0
OnUsers text (Ok users) = users_of text ≡ Ok users
OnUsers text (Err fault) = (fault.kind ≡ UsersKind.Memory) ⊎ (users_of text ≡ Err fault)

-- the same of one line
abbrev pub OnLine : List User → List ℕ → List User → Result (Unit {0}) UsersKind → Type 0
OnLine users line new (Ok done) = line_onto users line ≡ Ok new
OnLine users line new (Err kind) = (kind ≡ UsersKind.Memory) ⊎ (line_onto users line ≡ Err kind)

-- the same with the number of the line
abbrev pub OnNumbered : List User → ℕ → List ℕ → List User → Result (Unit {0}) UsersFault → Type 0
OnNumbered users n line new (Ok done) = line_onto users line ≡ Ok new
OnNumbered users n line new (Err fault) = (fault.kind ≡ UsersKind.Memory) ⊎ ((fault.line ≡ n) × (line_onto users line ≡ Err fault.kind))
