-- The lines that give the users who may log in.
use Rattle.std.specs.Prelude.{◌≡◌, ℕ, Ok, Err, List, codes}
use Rattle.socks_grammar.specs.declared.user.User.{User}
use Rattle.user_login.specs.declared.fault.UsersFault.{UsersFault}
use Rattle.user_login.specs.UsersFile.{users_of}
use Rattle.replay_script.specs.Counted.{Counts}

abbrev pub users_word : List ℕ
users_word = codes "users "

-- the lines give these users, as the text of a users file
pub record Gives (text : List ℕ) (users : List User) (lines : ℕ) (behind : List ℕ) : Type 0 where
  pub counted : List ℕ
  pub given : Counts users_word text counted lines behind
  pub users' : users_of counted ≡ Ok users

-- the lines give a text that is no users file, with this first fault
pub record RefusesUsers (text : List ℕ) (fault : UsersFault) : Type 0 where
  pub counted : List ℕ
  pub lines : ℕ
  pub behind : List ℕ
  pub given : Counts users_word text counted lines behind
  pub faulty : users_of counted ≡ Err fault

-- the text begins with neither
pub record Ungiven (text : List ℕ) : Type 0 where
  pub serves : (users : List User) (lines : ℕ) (behind : List ℕ) → Gives text users lines behind → ⊥
  pub refuses : (fault : UsersFault) → RefusesUsers text fault → ⊥
