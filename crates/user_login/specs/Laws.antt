-- Laws of the login and of the users file.
use Rattle.std.specs.Prelude.{◌≡◌, ◌<◌, ℕ, true, Ok, List, ◌∷◌, ◌++◌, length}
use Rattle.socks_grammar.specs.declared.user.User.{User}
use Rattle.socks_grammar.specs.Grammar.{Read, login, login_status, spelled_login}
use Rattle.user_login.specs.UsersFile.{users_of, are_users}

abbrev pub LoginReadAgain : Type 0
LoginReadAgain = (name password rest : List ℕ) → length name < 256 → length password < 256
    → login 0 (spelled_login name password ++ rest) ≡ Read.Got (record { name = name; password = password }) (length (spelled_login name password)) rest

abbrev pub StatusReadAgain : Type 0
StatusReadAgain = (status : ℕ) (rest : List ℕ) → login_status 0 (1 ∷ status ∷ rest) ≡ Read.Got status 2 rest

abbrev pub UsersKeepLimits : Type 0
UsersKeepLimits = (text : List ℕ) (users : List User) → users_of text ≡ Ok users → are_users users ≡ true
