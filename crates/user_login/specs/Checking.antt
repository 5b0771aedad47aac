-- Which user a login is.
use denote.Ref.{Bor}
use Rattle.std.specs.Prelude.{◌≡◌, ℕ, ◌+◌, Bool, true, false, ◌||◌, ◌==◌, if◌then◌else◌, Option, Some, None, List, [], ◌∷◌, length}
use Rattle.sha2.specs.Sha256.{sha256}
use Rattle.socks_grammar.specs.declared.user.User.{User}
use Rattle.socks_grammar.specs.Users.{is_user, user_fits}

-- the number of the first user who passes, where the first of all has this number
abbrev pub number_from : ℕ → (User → Bool) → List User → Option ℕ
number_from n test [] = None
number_from n test (user ∷ users) = if test user then Some n else number_from (n + 1) test users

-- the number of the user with this name and this password, of which none is empty; numbers count from 1
abbrev pub user_number : List User → List ℕ → List ℕ → Option ℕ
user_number users name password =
    if length name == 0 || length password == 0 then None else number_from 1 (is_user name (sha256 password)) users

-- a user who fits, or nobody does
abbrev pub OnFound : List User → List ℕ → List ℕ → Option (Bor User) → Type 0
OnFound users name password None = user_fits users name password ≡ false
OnFound users name password (Some user) = (user_fits users name password ≡ true) × (user.now.name ≡ name) × (user.now.digest ≡ sha256 password)
