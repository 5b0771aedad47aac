-- Which user a login names.
use Rattle.std.specs.Prelude.{ℕ, Bool, ◌&&◌, not, ◌==◌, List, length, bytes_eq}
use Rattle.std.specs.List.{list_any}
use Rattle.sha2.specs.Sha256.{sha256}
use Rattle.socks_grammar.specs.declared.user.User.{User}

-- the user has this name and the password with this digest
abbrev pub is_user : List ℕ → List ℕ → User → Bool
is_user name digest user = bytes_eq user.name name && bytes_eq user.digest digest

-- a user fits: neither the name nor the password is empty
abbrev pub user_fits : List User → List ℕ → List ℕ → Bool
user_fits users name password =
    not (length name == 0) && not (length password == 0) && list_any (is_user name (sha256 password)) users
