-- The users of a file keep its limits.
use Rattle.std.proofs.Common.{ℕ, ◌≡◌, ◌+◌, Bool, true, false, cond, ◌&&◌, ◌||◌, not, nat_le, nat_lt, Option, Some, None, Result, Ok, Err, List, [], ◌∷◌, ◌++◌, length, bytes_eq, refl, sym, ap, ◌∙◌, length-append, arith}
use Rattle.std.specs.List.{list_any}
use Rattle.std.proofs.lemmas.Bool.{false_from_ne_true}
use Rattle.std.proofs.lemmas.Bool.Decides.{nat_tests}
use Rattle.std.proofs.lemmas.List.Folds.{list_any-append}
use Rattle.std.proofs.lemmas.Slice.Eq.{bytes_eq-Decides}
use Rattle.socks_grammar.specs.declared.user.User.{User}
use Rattle.user_login.specs.declared.fault.UsersKind.{UsersKind}
use Rattle.user_login.specs.declared.fault.UsersFault.{UsersFault}
use Rattle.user_login.specs.Laws.{UsersKeepLimits}
use Rattle.user_login.specs.UsersFile.{without_cr, is_skipped, user_of, has_name, most_users, said_onto, line_onto, lines_onto, lines, longest, are_distinct, are_users}

other-way : (xs ys : List ℕ) → bytes_eq xs ys ≡ false → bytes_eq ys xs ≡ false
other-way xs ys h = false_from_ne_true (bytes_eq ys xs) (λ k. let e : bytes_eq xs ys ≡ true = (bytes_eq-Decides xs ys).1 (sym ((bytes_eq-Decides ys xs).0 k)) in cc)

or-none : (a b : Bool) → (a || b) ≡ false → (a ≡ false) × (b ≡ false)
or-none true b h = cc
or-none false b h = (refl, h)

or-nones : (a b : Bool) → a ≡ false → b ≡ false → (a || b) ≡ false
or-nones a b h k = rw h (rw k refl)

and-both : (a b : Bool) → (a && b) ≡ true → (a ≡ true) × (b ≡ true)
and-both true b h = (refl, h)
and-both false b h = cc

and-of : (a b : Bool) → a ≡ true → b ≡ true → (a && b) ≡ true
and-of a b h k = rw h (rw k refl)

not-is : (a : Bool) → not a ≡ true → a ≡ false
not-is true h = cc
not-is false h = refl

distinct-more : (users : List User) (user : User) → are_distinct users ≡ true → list_any (has_name user.name) users ≡ false → are_distinct (users ++ user ∷ []) ≡ true
distinct-more [] user h k = refl
distinct-more (u ∷ users) user h k =
    let new = or-none (has_name user.name u) (list_any (has_name user.name) users) k in
    let old = and-both (not (list_any (has_name u.name) users)) (are_distinct users) h in
    let one : (has_name u.name user || false) ≡ false = or-nones (has_name u.name user) false (other-way u.name user.name new.0) refl in
    let none : list_any (has_name u.name) (users ++ user ∷ []) ≡ false =
    list_any-append (has_name u.name) users (user ∷ []) ∙ or-nones (list_any (has_name u.name) users) (has_name u.name user || false) (not-is _ old.0) one in
    and-of (not (list_any (has_name u.name) (users ++ user ∷ []))) (are_distinct (users ++ user ∷ [])) (ap not none) (distinct-more users user old.1 new.1)

user-keeps : (t s : Bool) (users more : List User) (user : User) → t ≡ list_any (has_name user.name) users → s ≡ nat_le most_users (length users)
    → are_users users ≡ true → cond t (Err UsersKind.Repeated) (cond s (Err UsersKind.TooMany) (Ok (users ++ user ∷ []))) ≡ Ok more → are_users more ≡ true
user-keeps true s users more user e f k h = cc
user-keeps false true users more user e f k h = cc
user-keeps false false users more user e f k h =
    let is : users ++ user ∷ [] ≡ more = cc in
    let both = and-both (nat_le (length users) most_users) (are_distinct users) k in
    let room : nat_le (length (users ++ user ∷ [])) most_users ≡ true = simp length-append (grind (arith, nat_tests)) in
    rw (sym is) (and-of (nat_le (length (users ++ user ∷ [])) most_users) (are_distinct (users ++ user ∷ [])) room (distinct-more users user both.1 (sym e)))

said-keeps : (said : Option User) (users more : List User) → are_users users ≡ true → said_onto users said ≡ Ok more → are_users more ≡ true
said-keeps None users more k h = cc
said-keeps (Some user) users more k h = user-keeps (list_any (has_name user.name) users) (nat_le most_users (length users)) users more user refl refl k h

skip-keeps : (t : Bool) (users more : List User) (said : Option User) → are_users users ≡ true → cond t (Ok users) (said_onto users said) ≡ Ok more → are_users more ≡ true
skip-keeps true users more said k h = let is : users ≡ more = cc in rw (sym is) k
skip-keeps false users more said k h = said-keeps said users more k h

line-keeps : (users more : List User) (line : List ℕ) → are_users users ≡ true → line_onto users line ≡ Ok more → are_users more ≡ true
line-keeps users more line k h = skip-keeps (is_skipped (without_cr line)) users more (user_of (without_cr line)) k h

step-keeps : (n : ℕ) (users more : List User) (line : List ℕ) (ls : List (List ℕ)) (x : Result (List User) UsersKind) → line_onto users line ≡ x → are_users users ≡ true
    → ((next : List User) → are_users next ≡ true → lines_onto (n + 1) next ls ≡ Ok more → are_users more ≡ true)
    → ◌≡◌ {A = Result (List User) UsersFault} (elim x [ Ok next ↦ lines_onto (n + 1) next ls | Err kind ↦ Err (record { line = n; kind = kind }) ]) (Ok more) → are_users more ≡ true
step-keeps n users more line ls (Ok next) e k behind h = behind next (line-keeps users next line k e) h
step-keeps n users more line ls (Err kind) e k behind h = cc

lines-keep : (n : ℕ) (users more : List User) (ls : List (List ℕ)) → are_users users ≡ true → lines_onto n users ls ≡ Ok more → are_users more ≡ true
lines-keep n users more [] k h = let is : users ≡ more = cc in rw (sym is) k
lines-keep n users more (line ∷ ls) k h = step-keeps n users more line ls (line_onto users line) refl k (λ next. lines-keep (n + 1) next more ls) h

long-keeps : (t : Bool) (more : List User) (ls : List (List ℕ)) → cond t (Err (record { line = 0; kind = UsersKind.TooLong })) (lines_onto 1 [] ls) ≡ Ok more → are_users more ≡ true
long-keeps true more ls h = cc
long-keeps false more ls h = lines-keep 1 [] more ls refl h

pub users-keep : UsersKeepLimits
users-keep text users h = long-keeps (nat_lt longest (length text)) users (lines text) h
