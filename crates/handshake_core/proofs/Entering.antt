-- The next byte behind the message that is read.
use Rattle.std.proofs.Common.{ℕ, suc, ◌≡◌, ◌<◌, ◌≤◌, ◌+◌, Bool, true, false, cond, ◌==◌, ◌&&◌, inl, inr, Option, Some, None, is_none, option_map, List, [], ◌∷◌, ◌++◌, length, refl, sym, subst, ap, ◌∙◌, length-append, append_assoc, arith}
use Rattle.std.specs.Prelude.{◌⊎◌}
use Rattle.std.proofs.lemmas.Bool.Decides.{nat_tests}
use Rattle.std.proofs.lemmas.Slice.Eq.{bytes_eq-Decides}
use Rattle.addr_pattern.specs.Equal.{bytes_option_eq}
use Rattle.addr_pattern.specs.declared.front.BadKind.{BadKind}
use Rattle.socks_grammar.specs.declared.protocol.Method.{Method}
use Rattle.socks_grammar.specs.declared.protocol.Version.{Version}
use Rattle.socks_grammar.specs.declared.user.User.{User}
use Rattle.socks_grammar.specs.Grammar.{Read, Reader, Asked, Credentials, and_then, greeting, login, request4, request5}
use Rattle.socks_grammar.specs.Handshake.{Split, split, split_request, split_login, split_greeted, offered, offered_by, login_end, version_of}
use Rattle.socks_grammar.specs.Stable.{Extends}
use Rattle.socks_grammar.specs.Users.{user_fits}
use Rattle.socks_machine.specs.Replies.{choose}
use Rattle.socks_machine.specs.Settle.{is_nothing}
use Rattle.handshake_core.specs.declared.fed.Fed.{Fed}
use Rattle.handshake_core.specs.declared.state.Stage.{Stage}
use Rattle.handshake_core.specs.declared.state.State.{State}
use Rattle.handshake_core.specs.Answers.{IsDue}
use Rattle.handshake_core.specs.Due.{IsOpen, due, method_after, is_place}
use Rattle.handshake_core.specs.Readers.{AllBytes, Ends, Fine, Tight, shifted}
use Rattle.handshake_core.specs.Runs.{WantsMore, is_short, is_short_at}
use Rattle.handshake_core.specs.Standing.{bytes_of, client_of, is_whole, is_login, is_logged, is_over, method_named, stands, stands_at, AtFirst, AtLogin, AtRequest, Greeted, Logged, Unlogged, Hears, HearsByte}
use Rattle.handshake_core.proofs.Fine.{Anything, greeting-fine, login-fine, request4-fine, request5-fine}
use Rattle.handshake_core.proofs.Hearing.{after-some, first-needs, request-needs, login-done, requests-when}
use Rattle.handshake_core.proofs.Shifting.{login-at, request5-at}
use Rattle.handshake_core.proofs.Stages.{at-behind, at-five, at-four, split-neither}
use Rattle.handshake_core.proofs.Tight.{greeting-tight, login-tight}

and-both : (a b : Bool) → (a && b) ≡ true → (a ≡ true) × (b ≡ true)
and-both true b h = (refl, h)
and-both false b h = cc

abbrev pub with_message : State → List ℕ → State
with_message s m = record { stage = s.stage; greeting = s.greeting; login = s.login; message = m; method = s.method; user = s.user }

nothing-is : (xs : List ℕ) → is_nothing xs ≡ true → xs ≡ []
nothing-is [] h = refl
nothing-is (x ∷ xs) h = cc

none-is : {A : Type 0} (x : Option A) → is_none x ≡ true → x ≡ None
none-is None h = refl
none-is (Some x) h = cc

place-is : (x : Option ℕ) (n : ℕ) → is_place x n ≡ true → x ≡ Some n
place-is None n h = cc
place-is (Some k) n h = let e : k ≡ n = grind (arith, nat_tests, h) in ap (λ j. Some j) e

-- ---- a message ends where it is whole

greeting-ends : (x y : Read (List ℕ)) (more : List ℕ) → is_none (offered_by x) ≡ true → Tight x y → Extends x more y → Ends y
greeting-ends (Read.Got o at rest) y more h t e = cc
greeting-ends Read.Short y more h t e = t
greeting-ends (Read.Wrong at byte kind) y more h t e = subst (λ z. Ends z) (sym e) tt

login-ends : (x y : Read Credentials) (more : List ℕ) → is_none (login_end x) ≡ true → Tight x y → Extends x more y → Ends y
login-ends (Read.Got l at rest) y more h t e = cc
login-ends Read.Short y more h t e = t
login-ends (Read.Wrong at byte kind) y more h t e = subst (λ z. Ends z) (sym e) tt

stands-here : (s : State) (g : Stage) → stands s ≡ true → s.stage ≡ g → stands_at g s ≡ true
stands-here s g h e = sym (ap (λ x. stands_at x s) e) ∙ h

pub record OnFirst (s : State) : Type 0 where
  pub greeting' : s.greeting ≡ []
  pub login' : s.login ≡ []
  pub method' : s.method ≡ None
  pub user' : s.user ≡ None
  pub offered' : is_none (offered s.message) ≡ true

on-first : (s : State) → stands s ≡ true → s.stage ≡ Stage.First → OnFirst s
on-first s h e =
    let a = and-both (is_nothing s.greeting) _ (stands-here s Stage.First h e) in
    let b = and-both (is_nothing s.login) _ a.1 in
    let c = and-both (is_none s.method) _ b.1 in
    let d = and-both (is_none s.user) _ c.1 in
    record { greeting' = nothing-is s.greeting a.0; login' = nothing-is s.login b.0; method' = none-is s.method c.0; user' = none-is s.user d.0; offered' = d.1 }

pub at-first : (s : State) (b : ℕ) (m : List ℕ) → stands s ≡ true → s.stage ≡ Stage.First → m ≡ s.message ++ b ∷ [] → AtFirst (with_message s m)
at-first s b m h e k =
    let f = on-first s h e in
    let t : Ends (greeting 0 (s.message ++ b ∷ [])) = greeting-ends (greeting 0 s.message) (greeting 0 (s.message ++ b ∷ [])) (b ∷ []) f.offered' (greeting-tight.law 0 s.message b) (greeting-tight.stable 0 s.message (b ∷ [])) in
    record { greeting' = f.greeting'; login' = f.login'; method' = f.method'; user' = f.user'; stage' = e; ends = subst (λ (x : List ℕ). Ends (greeting 0 x)) (sym k) t }

whole-got : (x : Read (List ℕ)) (n : ℕ) → is_whole x n ≡ true → (o : List ℕ) × (x ≡ Read.Got o n [])
whole-got (Read.Got o at []) n h = let e : at ≡ n = grind (arith, nat_tests, h) in (o, ap (λ (j : ℕ). Read.Got o j []) e)
whole-got (Read.Got o at (y ∷ ys)) n h = cc
whole-got Read.Short n h = cc
whole-got (Read.Wrong at byte kind) n h = cc

is-greeted : (g : List ℕ) → is_whole (greeting 0 g) (length g) ≡ true → Greeted g
is-greeted g h = let w = whole-got (greeting 0 g) (length g) h in record { methods = w.0; whole = w.1 }

pub record OnLogin (s : State) : Type 0 where
  pub greeted : Greeted s.greeting
  pub login' : s.login ≡ []
  pub method' : s.method ≡ Some 2
  pub ends' : is_none (login_end (login 0 s.message)) ≡ true

on-login : (s : State) → stands s ≡ true → s.stage ≡ Stage.Login → OnLogin s
on-login s h e =
    let a = and-both (is_whole (greeting 0 s.greeting) (length s.greeting)) _ (stands-here s Stage.Login h e) in
    let b = and-both (is_nothing s.login) _ a.1 in
    let c = and-both (is_place s.method 2) _ b.1 in
    record { greeted = is-greeted s.greeting a.0; login' = nothing-is s.login b.0; method' = place-is s.method 2 c.0; ends' = c.1 }

pub at-login : (s : State) (b : ℕ) (m : List ℕ) → stands s ≡ true → s.stage ≡ Stage.Login → m ≡ s.message ++ b ∷ [] → AtLogin (with_message s m)
at-login s b m h e k =
    let f = on-login s h e in
    let t : Ends (login 0 (s.message ++ b ∷ [])) = login-ends (login 0 s.message) (login 0 (s.message ++ b ∷ [])) (b ∷ []) f.ends' (login-tight.law 0 s.message b) (login-tight.stable 0 s.message (b ∷ [])) in
    record { greeted = f.greeted; login' = f.login'; method' = f.method'; stage' = e; ends = subst (λ (x : List ℕ). Ends (login 0 x)) (sym k) t }

-- ---- the request

option-is : (user : Option (List ℕ)) (name : List ℕ) → bytes_option_eq user (Some name) ≡ true → user ≡ Some name
option-is None name h = cc
option-is (Some u) name h = let e = (bytes_eq-Decides u name).0 h in ap (λ (x : List ℕ). Some x) e

-- the login that is answered, whoever its user is
pub record Whole (bytes : List ℕ) (user : Option (List ℕ)) : Type 0 where
  pub credentials : Credentials
  pub whole : login 0 bytes ≡ Read.Got credentials (length bytes) []
  pub is : user ≡ Some credentials.name

login-got : (bytes : List ℕ) (x : Read Credentials) (user : Option (List ℕ)) → login 0 bytes ≡ x → is_login x (length bytes) user ≡ true → Whole bytes user
login-got bytes (Read.Got l at []) user w h =
    let b = and-both (at == length bytes) (bytes_option_eq user (Some l.name)) h in
    let t = b.0 in
    let e : at ≡ length bytes = grind (arith, nat_tests, t) in
    record { credentials = l; whole = w ∙ ap (λ (j : ℕ). Read.Got l j []) e; is = option-is user l.name b.1 }
login-got bytes (Read.Got l at (y ∷ ys)) user w h = cc
login-got bytes Read.Short user w h = cc
login-got bytes (Read.Wrong at byte kind) user w h = cc

logged-when : (m : ℕ) (t : Bool) (bytes : List ℕ) (user : Option (List ℕ)) → t ≡ (m == 2) → cond t (is_login (login 0 bytes) (length bytes) user) (m == 0 && (is_nothing bytes && is_none user)) ≡ true
    → ((m ≡ 0) × Unlogged bytes user) ⊎ ((m ≡ 2) × Whole bytes user)
logged-when m true bytes user e h = let k : m ≡ 2 = grind (arith, nat_tests, e) in inr (k, login-got bytes (login 0 bytes) user refl h)
logged-when m false bytes user e h =
    let a = and-both (m == 0) (is_nothing bytes && is_none user) h in
    let b = and-both (is_nothing bytes) (is_none user) a.1 in
    let z = a.0 in
    let k : m ≡ 0 = grind (arith, nat_tests, z) in
    inl (k, record { none = nothing-is bytes b.0; nobody = none-is user b.1 })

logged-by : (method : Option ℕ) (bytes : List ℕ) (user : Option (List ℕ)) → is_logged method bytes user ≡ true → ((method ≡ Some 0) × Unlogged bytes user) ⊎ ((method ≡ Some 2) × Whole bytes user)
logged-by None bytes user h = cc
logged-by (Some m) bytes user h = elim (logged-when m (m == 2) bytes user refl h) [ inl x ↦ inl (ap (λ (j : ℕ). Some j) x.0, x.1) | inr x ↦ inr (ap (λ (j : ℕ). Some j) x.0, x.1) ]

fits-by : (t : Bool) (x : Split) → cond t x Split.LoginFailed ≡ Split.More → t ≡ true
fits-by true x h = refl
fits-by false x h = cc

-- where more may come, the user of the login fits
still-fits : (users : List User) (s : State) → Greeted s.greeting → s.method ≡ Some 2 → (w : Whole s.login s.user) → split users s.method (bytes_of s) ≡ Split.More → user_fits users w.credentials.name w.credentials.password ≡ true
still-fits users s g m w h =
    let B = at-behind users s.greeting (s.login ++ s.message) g in
    let d = login-done s w.credentials w.whole in
    let e : split_login users (Read.Got w.credentials (length s.greeting + length s.login) s.message) ≡ Split.More =
    sym (ap (split_login users) d) ∙ (sym (B.split' 2) ∙ (sym (ap (λ x. split users x (bytes_of s)) m) ∙ h)) in
    fits-by (user_fits users w.credentials.name w.credentials.password) _ e

logged-in : (users : List User) (s : State) → Greeted s.greeting → split users s.method (bytes_of s) ≡ Split.More → ((s.method ≡ Some 0) × Unlogged s.login s.user) ⊎ ((s.method ≡ Some 2) × Whole s.login s.user)
    → ((s.method ≡ Some 0) × Unlogged s.login s.user) ⊎ ((s.method ≡ Some 2) × Logged users s.login s.user)
logged-in users s g h (inl x) = inl x
logged-in users s g h (inr x) = let w = x.1 in inr (x.0, record { credentials = w.credentials; whole = w.whole; fits = still-fits users s g x.0 w h; is = w.is })

pub record OnRequest (users : List User) (s : State) : Type 0 where
  pub greeted : Greeted s.greeting
  pub logged : ((s.method ≡ Some 0) × Unlogged s.login s.user) ⊎ ((s.method ≡ Some 2) × Logged users s.login s.user)

on-request : (users : List User) (s : State) → stands s ≡ true → s.stage ≡ Stage.Request → split users s.method (bytes_of s) ≡ Split.More → OnRequest users s
on-request users s h e m =
    let a = and-both (is_whole (greeting 0 s.greeting) (length s.greeting)) (is_logged s.method s.login s.user) (stands-here s Stage.Request h e) in
    let g = is-greeted s.greeting a.0 in
    record { greeted = g; logged = logged-in users s g m (logged-by s.method s.login s.user a.1) }

pub at-request : (users : List User) (s : State) (b : ℕ) (m : List ℕ) → stands s ≡ true → s.stage ≡ Stage.Request → IsOpen users (client_of s) → m ≡ s.message ++ b ∷ [] → AtRequest users (with_message s m)
at-request users s b m h e o k =
    let f = on-request users s h e o.1 in
    let l : length m ≡ length (s.message ++ b ∷ []) = ap length k in
    record { greeted = f.greeted; logged = f.logged; some = omega (arith, l, length-append s.message (b ∷ [])); stage' = e }

-- ---- room for the byte

greeting-room : (bytes : List ℕ) → AllBytes bytes → Greeted bytes → length bytes ≤ 257
greeting-room bytes all g = let f = subst (Fine 257 Anything 0 bytes) g.whole (greeting-fine.law 0 bytes all) in f.3

login-room : (users : List User) (bytes : List ℕ) (user : Option (List ℕ)) → AllBytes bytes → Logged users bytes user → length bytes ≤ 513
login-room users bytes user all h = let f = subst (Fine 513 Anything 0 bytes) h.whole (login-fine.law 0 bytes all) in f.3

both-room : (users : List User) (s : State) → AllBytes s.greeting → AllBytes s.login → Greeted s.greeting → ((s.method ≡ Some 0) × Unlogged s.login s.user) ⊎ ((s.method ≡ Some 2) × Logged users s.login s.user) → length s.greeting + length s.login ≤ 770
both-room users s a b g (inl x) = let k = greeting-room s.greeting a g in let u = x.1 in let z : length s.login ≡ 0 = ap length u.none in omega (arith, k, z)
both-room users s a b g (inr x) = let k = greeting-room s.greeting a g in let l = login-room users s.login s.user b x.1 in omega (arith, k, l)

pub request-room : (users : List User) (s : State) → stands s ≡ true → s.stage ≡ Stage.Request → IsOpen users (client_of s) → AllBytes s.greeting → AllBytes s.login → length s.greeting + length s.login ≤ 770
request-room users s h e o a b = let f = on-request users s h e o.1 in both-room users s a b f.greeted f.logged

short4 : (v : Version) (m : Method) (user : Option (List ℕ)) (x : Read Asked) → split_request v m user x ≡ Split.More → x ≡ Read.Short
short4 v m user (Read.Got a at rest) h = cc
short4 v m user Read.Short h = refl
short4 v m user (Read.Wrong at byte kind) h = cc

short-greeting : (users : List User) (x : Read (List ℕ)) → is_none (offered_by x) ≡ true → split_greeted users None x ≡ Split.More → x ≡ Read.Short
short-greeting users (Read.Got o at rest) n h = cc
short-greeting users Read.Short n h = refl
short-greeting users (Read.Wrong at byte kind) n h = cc

short-login : (users : List User) (n : ℕ) (x : Read Credentials) → is_none (login_end x) ≡ true → split_login users (shifted n x) ≡ Split.More → x ≡ Read.Short
short-login users n (Read.Got l at rest) k h = cc
short-login users n Read.Short k h = refl
short-login users n (Read.Wrong at byte kind) k h = cc

unshifted : (n : ℕ) (x : Read Asked) → shifted n x ≡ Read.Short → x ≡ Read.Short
unshifted n (Read.Got a at rest) h = cc
unshifted n Read.Short h = refl
unshifted n (Read.Wrong at byte kind) h = cc

first-wants : (users : List User) (m : List ℕ) → split users None m ≡ Split.More → version_of m ≡ Some Version.V4 → request4 0 m ≡ Read.Short
first-wants users m h v = short4 Version.V4 Method.NoAuth None (request4 0 m) (sym (at-four [] users m v).split' ∙ h)

first-room : (users : List User) (m : List ℕ) (v : Option Version) → version_of m ≡ v → is_none (offered m) ≡ true → split users None m ≡ Split.More → AllBytes m → length m < 520
first-room users m (Some Version.V4) v n h all = subst (Fine 520 Anything 0 m) (first-wants users m h v) (request4-fine.law 0 m all)
first-room users m (Some Version.V5) v n h all =
    let f = at-five [] users m v in
    let e = short-greeting users (greeting 0 m) n (sym (f.split' None) ∙ h) in
    let k : length m < 257 = subst (Fine 257 Anything 0 m) e (greeting-fine.law 0 m all) in
    omega (arith, k)
first-room users [] None v n h all = omega arith
first-room users (b ∷ m) None v n h all = let e = split-neither users b m v in cc

login-message : (users : List User) (s : State) → OnLogin s → split users s.method (bytes_of s) ≡ Split.More → AllBytes s.message → length s.message < 520
login-message users s f h all =
    let B = at-behind users s.greeting (s.login ++ s.message) f.greeted in
    let b : s.login ++ s.message ≡ s.message = rw f.login' refl in
    let L : login (length s.greeting) (s.login ++ s.message) ≡ shifted (length s.greeting) (login 0 s.message) = ap (login (length s.greeting)) b ∙ login-at (length s.greeting) s.message in
    let e : split_login users (shifted (length s.greeting) (login 0 s.message)) ≡ Split.More = sym (ap (split_login users) L) ∙ (sym (B.split' 2) ∙ (sym (ap (λ x. split users x (bytes_of s)) f.method') ∙ h)) in
    let k : length s.message < 513 = subst (Fine 513 Anything 0 s.message) (short-login users (length s.greeting) (login 0 s.message) f.ends' e) (login-fine.law 0 s.message all) in
    omega (arith, k)

request-wants : (users : List User) (s : State) → OnRequest users s → split users s.method (bytes_of s) ≡ Split.More → (xs : List ℕ) → s.message ≡ xs → request5 0 s.message ≡ Read.Short
request-wants users s f h [] e = ap (request5 0) e
request-wants users s f h (x ∷ xs) e =
    let l : length s.message ≡ suc (length xs) = ap length e in
    let r = requests-when [] users s f.greeted f.logged (omega (arith, l)) in
    let k = length s.greeting + length s.login in
    unshifted k (request5 0 s.message) (sym (request5-at k s.message) ∙ short4 Version.V5 (method_named s.method) s.user (request5 k s.message) (sym r.split' ∙ h))

request-message : (users : List User) (s : State) → OnRequest users s → split users s.method (bytes_of s) ≡ Split.More → AllBytes s.message → length s.message < 520
request-message users s f h all =
    let j : length s.message < 262 = subst (Fine 262 Anything 0 s.message) (request-wants users s f h s.message refl) (request5-fine.law 0 s.message all) in
    omega (arith, j)

first-split : (users : List User) (s : State) → OnFirst s → IsOpen users (client_of s) → split users None s.message ≡ Split.More
first-split users s f o =
    let c : bytes_of s ≡ s.message = rw f.greeting' (rw f.login' refl) in
    sym (ap (split users None) c) ∙ (sym (ap (λ x. split users x (bytes_of s)) f.method') ∙ o.1)

stage-wants : (users : List User) (s : State) (g : Stage) → s.stage ≡ g → stands s ≡ true → IsOpen users (client_of s) → WantsMore g s.message
stage-wants users s Stage.First e h o = first-wants users s.message (first-split users s (on-first s h e) o)
stage-wants users s Stage.Login e h o = tt
stage-wants users s Stage.Request e h o = request-wants users s (on-request users s h e o.1) o.1 s.message refl
stage-wants users s Stage.Over e h o = tt

pub wants : (users : List User) (s : State) → stands s ≡ true → IsOpen users (client_of s) → WantsMore s.stage s.message
wants users s h o = stage-wants users s s.stage refl h o

stage-room : (users : List User) (s : State) (g : Stage) → s.stage ≡ g → stands s ≡ true → IsOpen users (client_of s) → AllBytes s.message → length s.message < 520
stage-room users s Stage.First e h o all = let f = on-first s h e in first-room users s.message (version_of s.message) refl f.offered' (first-split users s f o) all
stage-room users s Stage.Login e h o all = login-message users s (on-login s h e) o.1 all
stage-room users s Stage.Request e h o all = request-message users s (on-request users s h e o.1) o.1 all
stage-room users s Stage.Over e h o all = let k : is_over s.stage ≡ true = ap is_over e in let j = o.0 in cc

pub room : (users : List User) (s : State) → stands s ≡ true → IsOpen users (client_of s) → AllBytes s.message → length s.message + 1 ≤ 520
room users s h o all = let k = stage-room users s s.stage refl h o all in omega (arith, k)

-- what a client has sent that may send more
of-parts : (s : State) (n : ℕ) → length s.greeting + (length s.login + length s.message) ≤ n → length (bytes_of s) ≤ n
of-parts s n h = omega (arith, h, length-append s.greeting (s.login ++ s.message), length-append s.login s.message)

stage-short : (users : List User) (s : State) (g : Stage) → s.stage ≡ g → stands s ≡ true → IsOpen users (client_of s) → AllBytes s.greeting → AllBytes s.login → AllBytes s.message → length (bytes_of s) ≤ 1289
stage-short users s Stage.First e h o a b c =
    let f = on-first s h e in
    let m : length s.message < 520 = stage-room users s Stage.First e h o c in
    let x : length s.greeting ≡ 0 = ap (λ (z : List ℕ). length z) f.greeting' in
    let y : length s.login ≡ 0 = ap (λ (z : List ℕ). length z) f.login' in
    of-parts s 1289 (omega (arith, m, x, y))
stage-short users s Stage.Login e h o a b c =
    let f = on-login s h e in
    let m : length s.message < 520 = stage-room users s Stage.Login e h o c in
    let x : length s.greeting ≤ 257 = greeting-room s.greeting a f.greeted in
    let y : length s.login ≡ 0 = ap (λ (z : List ℕ). length z) f.login' in
    of-parts s 1289 (omega (arith, m, x, y))
stage-short users s Stage.Request e h o a b c =
    let m : length s.message < 520 = stage-room users s Stage.Request e h o c in
    let x : length s.greeting + length s.login ≤ 770 = request-room users s h e o a b in
    of-parts s 1289 (omega (arith, m, x))
stage-short users s Stage.Over e h o a b c = let k : is_over s.stage ≡ true = ap is_over e in let j = o.0 in cc

pub short-bytes : (users : List User) (s : State) → stands s ≡ true → IsOpen users (client_of s) → AllBytes s.greeting → AllBytes s.login → AllBytes s.message → length (bytes_of s) ≤ 1289
short-bytes users s h o a b c = stage-short users s s.stage refl h o a b c

-- ---- the answer

with-bytes : (s : State) (b : ℕ) (m : List ℕ) → m ≡ s.message ++ b ∷ [] → bytes_of (with_message s m) ≡ bytes_of s ++ b ∷ []
with-bytes s b m e =
    ap (λ (x : List ℕ). s.greeting ++ (s.login ++ x)) e
    ∙ sym (append_assoc s.greeting (s.login ++ s.message) (b ∷ []) ∙ ap (λ (x : List ℕ). s.greeting ++ x) (append_assoc s.login s.message (b ∷ [])))

pub byte-heard : (methods : List Method) (users : List User) (s new : State) (b : ℕ) (m : List ℕ) (fed : Fed) → m ≡ s.message ++ b ∷ [] → Hears methods users (with_message s m) new fed → HearsByte methods users s b new fed
byte-heard methods users s new b m fed e h = record {
  bytes = h.bytes ∙ with-bytes s b m e;
  method' = h.method' ∙ ap (method_after methods s.method) (sym h.bytes);
  answer = subst (λ (x : List ℕ). IsDue fed (due methods users s.method x)) (sym h.bytes) h.answer;
  stands' = h.stands';
  goes_on = h.goes_on;
}

-- ---- the method

some-of : (users : List User) (s : State) → ((s.method ≡ Some 0) × Unlogged s.login s.user) ⊎ ((s.method ≡ Some 2) × Logged users s.login s.user) → (m : ℕ) × (s.method ≡ Some m)
some-of users s (inl l) = (0, l.0)
some-of users s (inr l) = (2, l.0)

stage-settled : (methods : List Method) (users : List User) (s : State) (g : Stage) → s.stage ≡ g → stands s ≡ true → IsOpen users (client_of s) → method_after methods s.method (bytes_of s) ≡ s.method
stage-settled methods users s Stage.First e h o =
    let f = on-first s h e in
    let c : bytes_of s ≡ s.message = rw f.greeting' (rw f.login' refl) in
    ap (λ x. method_after methods x (bytes_of s)) f.method' ∙ (ap (method_after methods None) c ∙ (ap (option_map (choose methods)) (none-is (offered s.message) f.offered') ∙ sym f.method'))
stage-settled methods users s Stage.Login e h o = let f = on-login s h e in after-some methods s.method 2 (bytes_of s) f.method'
stage-settled methods users s Stage.Request e h o = let f = on-request users s h e o.1 in let m = some-of users s f.logged in after-some methods s.method m.0 (bytes_of s) m.1
stage-settled methods users s Stage.Over e h o = let k : is_over s.stage ≡ true = ap is_over e in let j = o.0 in cc

-- the method is the one that is answered by now
pub settled : (methods : List Method) (users : List User) (s : State) → stands s ≡ true → IsOpen users (client_of s) → method_after methods s.method (bytes_of s) ≡ s.method
settled methods users s h o = stage-settled methods users s s.stage refl h o

-- ---- a byte that leaves the message too short

short-is : {A : Type 0} (x : Read A) → is_short x ≡ true → x ≡ Read.Short
short-is (Read.Got a at rest) h = cc
short-is Read.Short h = refl
short-is (Read.Wrong at byte kind) h = cc

four-by : (t : Bool) (b : ℕ) (rest : List ℕ) (next : ℕ → Reader Asked) → and_then (cond t (Read.Got b 1 rest) (Read.Wrong 0 b BadKind.Version)) next ≡ Read.Short → t ≡ true
four-by true b rest next h = refl
four-by false b rest next h = cc

four-when : (m : List ℕ) → 0 < length m → request4 0 m ≡ Read.Short → version_of m ≡ Some Version.V4
four-when [] l h = absurd (omega (arith, l))
four-when (b ∷ rest) l h = rw (four-by (b == 4) b rest _ h) refl

stage-passes : (methods : List Method) (users : List User) (s : State) (b : ℕ) (g : Stage) → s.stage ≡ g → stands s ≡ true → IsOpen users (client_of s) → is_short_at g (s.message ++ b ∷ []) ≡ true
    → Hears methods users (with_message s (s.message ++ b ∷ [])) (with_message s (s.message ++ b ∷ [])) Fed.Need
stage-passes methods users s b Stage.First e h o k =
    let m = s.message ++ b ∷ [] in
    let l : length m ≡ length s.message + 1 = length-append s.message (b ∷ []) in
    let z = short-is (request4 0 m) k in
    first-needs methods users (with_message s m) (at-first s b m h e refl) (four-when m (omega (arith, l)) z) z
stage-passes methods users s b Stage.Login e h o k = cc
stage-passes methods users s b Stage.Request e h o k =
    let m = s.message ++ b ∷ [] in
    request-needs methods users (with_message s m) (at-request users s b m h e o refl) (short-is (request5 0 m) k)
stage-passes methods users s b Stage.Over e h o k = cc

-- nothing is due for such a byte
pub passes-heard : (methods : List Method) (users : List User) (s : State) (b : ℕ) (m : List ℕ) → m ≡ s.message ++ b ∷ [] → stands s ≡ true → IsOpen users (client_of s) → is_short_at s.stage (s.message ++ b ∷ []) ≡ true
    → HearsByte methods users s b (with_message s m) Fed.Need
passes-heard methods users s b m e h o k =
    let base = stage-passes methods users s b s.stage refl h o k in
    byte-heard methods users s (with_message s m) b m Fed.Need e
    (subst (λ (x : List ℕ). Hears methods users (with_message s x) (with_message s x) Fed.Need) (sym e) base)
