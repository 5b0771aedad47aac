-- The lines that give the users.
use Rattle.std.proofs.Common.{◌≡◌, ℕ, true, List, Result, Ok, Err, sym, ap, ◌∙◌}
use Rattle.socks_grammar.specs.declared.user.User.{User}
use Rattle.user_login.specs.declared.fault.UsersFault.{UsersFault}
use Rattle.user_login.specs.UsersFile.{users_of, are_users}
use Rattle.user_login.proofs.Limits.{users-keep}
use Rattle.replay_script.specs.Users.{Gives, RefusesUsers, users_word}
use Rattle.replay_script.proofs.Counting.{one_counts}

pub one_gift : (text : List ℕ) (us vs : List User) (n m : ℕ) (x y : List ℕ) → Gives text us n x → Gives text vs m y → (us ≡ vs) × (n ≡ m) × (x ≡ y)
one_gift text us vs n m x y h k =
    let q = one_counts users_word text h.counted k.counted n m x y h.given k.given in
    let e : ◌≡◌ {A = Result (List User) UsersFault} (Ok us) (Ok vs) = sym h.users' ∙ (ap users_of q.0 ∙ k.users') in
    (cc e, q.1, q.2)

pub given_unrefused : (text : List ℕ) (us : List User) (n : ℕ) (x : List ℕ) (f : UsersFault) → Gives text us n x → RefusesUsers text f → ⊥
given_unrefused text us n x f h k =
    let q = one_counts users_word text h.counted k.counted n k.lines x k.behind h.given k.given in
    let e : ◌≡◌ {A = Result (List User) UsersFault} (Ok us) (Err f) = sym h.users' ∙ (ap users_of q.0 ∙ k.faulty) in
    cc e

pub one_users_refusal : (text : List ℕ) (f g : UsersFault) → RefusesUsers text f → RefusesUsers text g → f ≡ g
one_users_refusal text f g h k =
    let q = one_counts users_word text h.counted k.counted h.lines k.lines h.behind k.behind h.given k.given in
    let e : ◌≡◌ {A = Result (List User) UsersFault} (Err f) (Err g) = sym h.faulty ∙ (ap users_of q.0 ∙ k.faulty) in
    cc e

-- they keep the limits of a users file
pub given_fits : (text : List ℕ) (us : List User) (n : ℕ) (x : List ℕ) → Gives text us n x → are_users us ≡ true
given_fits text us n x h = users-keep h.counted us h.users'
