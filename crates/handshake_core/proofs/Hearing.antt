-- One byte at each stage.
use Rattle.std.proofs.Common.{ℕ, ◌≡◌, ◌<◌, ◌≤◌, ◌+◌, ◌-◌, Bool, true, false, cond, ◌==◌, ◌&&◌, inl, inr, Option, Some, None, option_map, List, [], ◌∷◌, ◌++◌, length, drop, take, get_or, bytes_eq, refl, sym, subst, ap, ◌∙◌, length-append, arith}
use Rattle.std.specs.Prelude.{◌⊎◌}
use Rattle.std.specs.List.{list_any}
use Rattle.addr_pattern.specs.Equal.{bytes_option_eq}
use Rattle.std.proofs.lemmas.List.{append-nil, length-drop, take_all}
use Rattle.std.proofs.lemmas.Bool.Decides.{nat_tests}
use Rattle.std.proofs.lemmas.Slice.Eq.{bytes_eq-Decides}
use Rattle.addr_pattern.specs.declared.front.BadKind.{BadKind}
use Rattle.socks_grammar.specs.declared.protocol.Method.{Method}
use Rattle.socks_grammar.specs.declared.protocol.Version.{Version}
use Rattle.socks_grammar.specs.declared.user.User.{User}
use Rattle.socks_grammar.specs.Grammar.{Read, Asked, Credentials, method_byte, greeting, login, request4, request5}
use Rattle.socks_grammar.specs.Handshake.{Split, split, split_request, split_login, split_answered, split_greeted, request_of, offered, offered_by, greeting_length, login_place, login_end, version_of}
use Rattle.socks_grammar.specs.Users.{user_fits}
use Rattle.socks_grammar.proofs.GrammarLaws.{login-stable}
use Rattle.socks_machine.specs.declared.cause.Cause.{Cause}
use Rattle.socks_machine.specs.Replies.{choose, login_reply, failing_reply, refusal, bytes_of_answer, Bytes}
use Rattle.socks_machine.specs.Settle.{bad_cause}
use Rattle.socks_machine.specs.View.{asks_login}
use Rattle.handshake_core.specs.declared.asked.Asked.{Asked as AskedIs}
use Rattle.handshake_core.specs.declared.fed.Fed.{Fed}
use Rattle.handshake_core.specs.declared.state.Stage.{Stage}
use Rattle.handshake_core.specs.declared.state.State.{State}
use Rattle.handshake_core.specs.Answers.{IsDue, GoesOn}
use Rattle.handshake_core.specs.Asking.{asked_in}
use Rattle.handshake_core.specs.Due.{Due, due, due_at, due_before, refused, method_after, chosen_by, is_place}
use Rattle.handshake_core.specs.Readers.{Ends, shifted}
use Rattle.handshake_core.specs.Refusing.{code_of}
use Rattle.handshake_core.specs.Standing.{bytes_of, client_of, is_over, is_whole, is_login, is_logged, stands, stands_at, stage_behind, AtFirst, AtLogin, AtRequest, Greeted, Logged, Unlogged, Hears, Refuses, Asks, Greets, method_named}
use Rattle.std.specs.Prelude.{slice_range}
use Rattle.addr_pattern.specs.declared.front.BadAt.{BadAt}
use Rattle.addr_pattern.specs.declared.front.Span.{Span}
use Rattle.user_login.specs.declared.login.LoginAt.{LoginAt}
use Rattle.user_login.specs.Messages.{part, credentials_at, IsLogin, IsOtherVersion}
use Rattle.handshake_core.specs.Readers.{AllBytes, Fine}
use Rattle.handshake_core.proofs.Fine.{Anything, request5-fine}
use Rattle.handshake_core.proofs.Shifting.{login-at, request5-at}
use Rattle.handshake_core.proofs.Stages.{at-behind, at-five, at-four, at-neither, choose-is, due_greeted, got-extends, refused-bad}

same : (n : ℕ) → (n == n) ≡ true
same n = grind (arith, nat_tests)

pub and-of : (a b : Bool) → a ≡ true → b ≡ true → (a && b) ≡ true
and-of a b h k = rw h (rw k refl)

-- ---- answers

hears-need : (methods : List Method) (users : List User) (s : State) → method_after methods s.method (bytes_of s) ≡ s.method → due methods users s.method (bytes_of s) ≡ Due.Nothing
    → is_over s.stage ≡ false → split users s.method (bytes_of s) ≡ Split.More → stands s ≡ true → Hears methods users s s Fed.Need
hears-need methods users s a d o m k = record { bytes = refl; method' = sym a; answer = d; stands' = k; goes_on = (o, m) }

over-stands : (s : State) → s.stage ≡ Stage.Over → stands s ≡ true
over-stands s e = ap (λ g. stands_at g s) e

pub hears-refused : (methods : List Method) (users : List User) (old new : State) (cause : Cause) (say : List ℕ) (fed : Fed) → Refuses old new cause say fed
    → method_after methods old.method (bytes_of old) ≡ old.method → due methods users old.method (bytes_of old) ≡ Due.Bad cause say → Hears methods users old new fed
hears-refused methods users old new cause say fed r a d = record {
  bytes = r.bytes;
  method' = r.method' ∙ sym a;
  answer = subst (λ f. IsDue f (due methods users old.method (bytes_of old))) (sym r.answer) d;
  stands' = over-stands new r.stage';
  goes_on = subst (λ f. GoesOn users (client_of new) f) (sym r.answer) (ap is_over r.stage');
}

hears-asked : (methods : List Method) (users : List User) (old new : State) (version : Version) (method : Method) (asked : AskedIs) (len : ℕ) (fed : Fed) → Asks old new version method asked len fed
    → method_after methods old.method (bytes_of old) ≡ old.method → due methods users old.method (bytes_of old) ≡ Due.Ask (request_of version method old.user (asked_in asked)) len → Hears methods users old new fed
hears-asked methods users old new version method asked len fed r a d = record {
  bytes = r.bytes;
  method' = r.method' ∙ sym a;
  answer = subst (λ f. IsDue f (due methods users old.method (bytes_of old))) (sym r.answer) d;
  stands' = over-stands new r.stage';
  goes_on = subst (λ f. GoesOn users (client_of new) f) (sym r.answer) (ap is_over r.stage');
}

pub after-some : (methods : List Method) (method : Option ℕ) (m : ℕ) (bytes : List ℕ) → method ≡ Some m → method_after methods method bytes ≡ method
after-some methods method m bytes e = subst (λ k. method_after methods k bytes ≡ k) (sym e) refl

-- ---- the greeting

first-bytes : (s : State) → AtFirst s → bytes_of s ≡ s.message
first-bytes s h = rw h.greeting' (rw h.login' refl)

none-left : (n : ℕ) (m : List ℕ) → n ≤ length m → drop n m ≡ [] → n ≡ length m
none-left n m h e = let k = length-drop n m in let z : length (drop n m) ≡ 0 = ap length e in omega (arith, k, z, h)

answered-none : (users : List User) (m : List ℕ) (n : ℕ) → version_of m ≡ Some Version.V5 → due_at None (Some 255) m (split_answered users 255 n []) ≡ Due.Bad Cause.NoMethod (5 ∷ 255 ∷ [])
answered-none users m n v = ap (λ w. Due.Bad Cause.NoMethod (bytes_of_answer w (Bytes (5 ∷ 255 ∷ [])))) v

greeted-due : (methods : List Method) (users : List User) (s : State) (o : List ℕ) (k : ℕ) → AtFirst s → version_of s.message ≡ Some Version.V5 → greeting 0 s.message ≡ Read.Got o (length s.message) [] → k ≡ choose methods o
    → due methods users s.method (bytes_of s) ≡ due_at None (Some k) s.message (split_answered users k (length s.message) [])
greeted-due methods users s o k h v w e =
    ap (λ x. due methods users x (bytes_of s)) h.method' ∙ (ap (due methods users None) (first-bytes s h)
    ∙ ((at-five methods users s.message v).due' ∙ (ap (due_greeted methods users s.message) w
    ∙ ap (λ (j : ℕ). due_at None (Some j) s.message (split_answered users j (length s.message) [])) (sym e))))

greeted-after : (methods : List Method) (s : State) (o : List ℕ) (k n : ℕ) → AtFirst s → greeting 0 s.message ≡ Read.Got o n [] → k ≡ choose methods o → Some k ≡ method_after methods s.method (bytes_of s)
greeted-after methods s o k n h w e =
    ap (λ j. Some j) e ∙ sym (ap (λ x. method_after methods x (bytes_of s)) h.method' ∙ (ap (method_after methods None) (first-bytes s h) ∙ ap (λ x. option_map (choose methods) (offered_by x)) w))

abbrev behind_greeting : State → ℕ → State
behind_greeting s k = record { stage = stage_behind k; greeting = s.message; login = s.login; message = []; method = Some k; user = s.user }

greeted-bytes : (s : State) (k : ℕ) → AtFirst s → bytes_of (behind_greeting s k) ≡ s.message
greeted-bytes s k h = rw h.login' (append-nil s.message)

whole-is : (m o : List ℕ) → greeting 0 m ≡ Read.Got o (length m) [] → is_whole (greeting 0 m) (length m) ≡ true
whole-is m o w = ap (λ x. is_whole x (length m)) w ∙ same (length m)

greeted-open : (methods : List Method) (users : List User) (s : State) (o : List ℕ) (k : ℕ) → AtFirst s → version_of s.message ≡ Some Version.V5 → greeting 0 s.message ≡ Read.Got o (length s.message) []
    → split_answered users k (length s.message) [] ≡ Split.More → split users (Some k) (bytes_of (behind_greeting s k)) ≡ Split.More
greeted-open methods users s o k h v w e =
    ap (split users (Some k)) (greeted-bytes s k h) ∙ ((at-five methods users s.message v).split' (Some k) ∙ (ap (split_greeted users (Some k)) w ∙ e))

greeted-said : (methods : List Method) (users : List User) (s new : State) (fed : Fed) (o : List ℕ) (k : ℕ) → AtFirst s → version_of s.message ≡ Some Version.V5 → greeting 0 s.message ≡ Read.Got o (length s.message) []
    → k ≡ choose methods o → fed ≡ Fed.Say (5 ∷ k ∷ []) → new ≡ behind_greeting s k
    → due_at None (Some k) s.message (split_answered users k (length s.message) []) ≡ Due.Say (5 ∷ k ∷ []) → split_answered users k (length s.message) [] ≡ Split.More
    → is_over (stage_behind k) ≡ false → stands (behind_greeting s k) ≡ true → Hears methods users s new fed
greeted-said methods users s new fed o k h v w e f n d m ov st =
    let P : State → Type 0 = λ new. Hears methods users s new fed in
    subst P (sym n) (record {
      bytes = greeted-bytes s k h ∙ sym (first-bytes s h);
      method' = greeted-after methods s o k (length s.message) h w e;
      answer = subst (λ x. IsDue x (due methods users s.method (bytes_of s))) (sym f) (greeted-due methods users s o k h v w e ∙ d);
      stands' = st;
      goes_on = subst (λ x. GoesOn users (client_of (behind_greeting s k)) x) (sym f) (ov, greeted-open methods users s o k h v w m);
    })

greeted-by : (methods : List Method) (users : List User) (s new : State) (fed : Fed) (o : List ℕ) (k : ℕ) → AtFirst s → version_of s.message ≡ Some Version.V5 → greeting 0 s.message ≡ Read.Got o (length s.message) []
    → k ≡ choose methods o → Greets s k new fed → (k ≡ 255) ⊎ ((k ≡ 0) ⊎ (k ≡ 2)) → Hears methods users s new fed
greeted-by methods users s new fed o k h v w e g (inl i) =
    let r : Refuses (record s { method = Some 255 }) new Cause.NoMethod (5 ∷ 255 ∷ []) fed = subst (λ (j : ℕ). Greets s j new fed) i g in
    let e' : 255 ≡ choose methods o = sym i ∙ e in
    record {
      bytes = r.bytes;
      method' = r.method' ∙ greeted-after methods s o 255 (length s.message) h w e';
      answer = subst (λ x. IsDue x (due methods users s.method (bytes_of s))) (sym r.answer) (greeted-due methods users s o 255 h v w e' ∙ answered-none users s.message (length s.message) v);
      stands' = over-stands new r.stage';
      goes_on = subst (λ x. GoesOn users (client_of new) x) (sym r.answer) (ap is_over r.stage');
    }
greeted-by methods users s new fed o k h v w e g (inr (inl i)) =
    let r = subst (λ (j : ℕ). Greets s j new fed) i g in
    let st : stands (behind_greeting s 0) ≡ true = and-of (is_whole (greeting 0 s.message) (length s.message)) (is_logged (Some 0) s.login s.user) (whole-is s.message o w) (rw h.login' (rw h.user' refl)) in
    greeted-said methods users s new fed o 0 h v w (sym i ∙ e) r.0 r.1 refl refl refl st
greeted-by methods users s new fed o k h v w e g (inr (inr i)) =
    let r = subst (λ (j : ℕ). Greets s j new fed) i g in
    let st : stands (behind_greeting s 2) ≡ true = rw (whole-is s.message o w) (rw h.login' refl) in
    greeted-said methods users s new fed o 2 h v w (sym i ∙ e) r.0 r.1 refl refl refl st

pub greeted : (methods : List Method) (users : List User) (s new : State) (fed : Fed) (o : List ℕ) (k n : ℕ) → AtFirst s → version_of s.message ≡ Some Version.V5 → greeting 0 s.message ≡ Read.Got o n (drop n s.message) → n ≤ length s.message
    → k ≡ choose methods o → Greets s k new fed → Hears methods users s new fed
greeted methods users s new fed o k n h v w inside e g =
    let left : drop n s.message ≡ [] = subst Ends w h.ends in
    let len = none-left n s.message inside left in
    let w' : greeting 0 s.message ≡ Read.Got o (length s.message) [] = w ∙ (ap (λ x. Read.Got o n x) left ∙ ap (λ j. Read.Got o j []) len) in
    greeted-by methods users s new fed o k h v w' e g (subst (λ (j : ℕ). (j ≡ 255) ⊎ ((j ≡ 0) ⊎ (j ≡ 2))) (sym e) (choose-is methods o))

pub greeted-shown : (methods : List Method) (users : List User) (s new : State) (fed : Fed) (o shown : List ℕ) (k n : ℕ) → AtFirst s → version_of s.message ≡ Some Version.V5 → shown ≡ s.message → greeting 0 shown ≡ Read.Got o n (drop n shown) → n ≤ length shown
    → k ≡ choose methods o → Greets s k new fed → Hears methods users s new fed
greeted-shown methods users s new fed o shown k n h v b w inside e g =
    greeted methods users s new fed o k n h v (subst (λ (x : List ℕ). greeting 0 x ≡ Read.Got o n (drop n x)) b w) (subst (λ (x : List ℕ). n ≤ length x) b inside) e g

pub choose-skips : (ms : List Method) (o : List ℕ) (code : ℕ) → 1 ≤ length ms → code ≡ method_byte (get_or ms 0 Method.NoAuth) → list_any (λ y. y == code) o ≡ false
    → choose (take (length ms - 1) (drop 1 ms)) o ≡ choose ms o
choose-skips [] o code l e h = absurd (omega arith)
choose-skips (m ∷ rest) o code l e h =
    let t : take (length (m ∷ rest) - 1) rest ≡ rest = take_all (length (m ∷ rest) - 1) rest (omega arith) in
    let k : list_any (λ b. b == method_byte m) o ≡ false = subst (λ (j : ℕ). list_any (λ b. b == j) o ≡ false) e h in
    rw t (rw k refl)

-- ---- the first byte

version-at : (m : List ℕ) (r : Option Version) → 0 < length m → ((rest : List ℕ) → r ≡ version_of (get_or m 0 0 ∷ rest)) → version_of m ≡ r
version-at [] r l h = absurd (omega arith)
version-at (b ∷ m) r l h = sym (h m)

pub version-first : (m shown : List ℕ) (r : Option Version) → shown ≡ m → 0 < length m → ((rest : List ℕ) → r ≡ version_of (get_or shown 0 0 ∷ rest)) → version_of m ≡ r
version-first m shown r e l h = version-at m r l (subst (λ (x : List ℕ). (rest : List ℕ) → r ≡ version_of (get_or x 0 0 ∷ rest)) e h)

neither-due : (methods : List Method) (users : List User) (m : List ℕ) → 0 < length m → version_of m ≡ None
    → (due methods users None m ≡ Due.Bad (Cause.BadVersion 0 (get_or m 0 0)) []) × (offered m ≡ None)
neither-due methods users [] l h = absurd (omega arith)
neither-due methods users (b ∷ m) l h = at-neither methods users b m h

first-after : (methods : List Method) (s : State) → AtFirst s → offered s.message ≡ None → method_after methods s.method (bytes_of s) ≡ s.method
first-after methods s h e =
    ap (λ x. method_after methods x (bytes_of s)) h.method' ∙ (ap (method_after methods None) (first-bytes s h) ∙ (ap (option_map (choose methods)) e ∙ sym h.method'))

first-due : (methods : List Method) (users : List User) (s : State) → AtFirst s → due methods users s.method (bytes_of s) ≡ due methods users None s.message
first-due methods users s h = ap (λ x. due methods users x (bytes_of s)) h.method' ∙ ap (due methods users None) (first-bytes s h)

first-stands : (s : State) → AtFirst s → offered s.message ≡ None → stands s ≡ true
first-stands s h e = ap (λ g. stands_at g s) h.stage' ∙ (rw h.greeting' (rw h.login' (rw h.method' (rw h.user' (rw e refl)))))

pub first-needs : (methods : List Method) (users : List User) (s : State) → AtFirst s → version_of s.message ≡ Some Version.V4 → request4 0 s.message ≡ Read.Short → Hears methods users s s Fed.Need
first-needs methods users s h v e =
    let f = at-four methods users s.message v in
    let x = ap (split_request Version.V4 Method.NoAuth None) e in
    hears-need methods users s (first-after methods s h f.offered') (first-due methods users s h ∙ (f.due' ∙ ap (due_at None None s.message) x)) (ap is_over h.stage')
    (ap (λ k. split users k (bytes_of s)) h.method' ∙ (ap (split users None) (first-bytes s h) ∙ (f.split' ∙ x))) (first-stands s h f.offered')

pub first-neither : (methods : List Method) (users : List User) (s new : State) (fed : Fed) (say shown : List ℕ) → AtFirst s → shown ≡ s.message → 0 < length s.message → version_of s.message ≡ None → say ≡ []
    → Refuses s new (Cause.BadVersion 0 (get_or shown 0 0)) say fed → Hears methods users s new fed
first-neither methods users s new fed say shown h e l v n r =
    let d = neither-due methods users s.message l v in
    let w : Due.Bad (Cause.BadVersion 0 (get_or s.message 0 0)) [] ≡ Due.Bad (Cause.BadVersion 0 (get_or shown 0 0)) say =
    ap (λ (x : List ℕ). Due.Bad (Cause.BadVersion 0 (get_or x 0 0)) []) (sym e) ∙ ap (λ (x : List ℕ). Due.Bad (Cause.BadVersion 0 (get_or shown 0 0)) x) (sym n) in
    hears-refused methods users s new (Cause.BadVersion 0 (get_or shown 0 0)) say fed r (first-after methods s h d.1) (first-due methods users s h ∙ (d.0 ∙ w))

-- ---- the login

abbrev pub body : State → List ℕ
body s = s.login ++ s.message

login-body : (s : State) → AtLogin s → body s ≡ s.message
login-body s h = rw h.login' refl

pub login-read : (s : State) (x : Read Credentials) → AtLogin s → login 0 s.message ≡ x → login (length s.greeting) (body s) ≡ shifted (length s.greeting) x
login-read s x h e = ap (login (length s.greeting)) (login-body s h) ∙ (login-at (length s.greeting) s.message ∙ ap (shifted (length s.greeting)) e)

login-split : (users : List User) (s : State) (x : Read Credentials) → AtLogin s → login 0 s.message ≡ x → split users (Some 2) (bytes_of s) ≡ split_login users (shifted (length s.greeting) x)
login-split users s x h e = (at-behind users s.greeting (body s) h.greeted).split' 2 ∙ ap (split_login users) (login-read s x h e)

login-stands : (users : List User) (s : State) (x : Read Credentials) → AtLogin s → login 0 s.message ≡ x → login_place (bytes_of s) ≡ login_end (shifted (length s.greeting) x)
login-stands users s x h e = (at-behind users s.greeting (body s) h.greeted).login' ∙ ap login_end (login-read s x h e)

login-due : (methods : List Method) (users : List User) (s : State) (x : Read Credentials) → AtLogin s → login 0 s.message ≡ x
    → due methods users s.method (bytes_of s) ≡ due_at (Some 2) (Some 2) (bytes_of s) (split_login users (shifted (length s.greeting) x))
login-due methods users s x h e =
    ap (λ k. due methods users k (bytes_of s)) h.method' ∙ ap (due_at (Some 2) (Some 2) (bytes_of s)) (login-split users s x h e)

login-after : (methods : List Method) (s : State) → AtLogin s → method_after methods s.method (bytes_of s) ≡ s.method
login-after methods s h = after-some methods s.method 2 (bytes_of s) h.method'

due-more : (s : State) (p : Option ℕ) → login_place (bytes_of s) ≡ p → due_before (Some 2) (Some 2) (bytes_of s) ≡ cond (is_place p (length (bytes_of s))) (Due.Say (login_reply true)) Due.Nothing
due-more s p e = ap (λ (q : Option ℕ). cond (is_place q (length (bytes_of s))) (Due.Say (login_reply true)) Due.Nothing) e

login-keeps : (s : State) → AtLogin s → login 0 s.message ≡ Read.Short → stands s ≡ true
login-keeps s h e =
    let w : is_whole (greeting 0 s.greeting) (length s.greeting) ≡ true = whole-is s.greeting h.greeted.methods h.greeted.whole in
    ap (λ g. stands_at g s) h.stage' ∙ (rw w (rw h.login' (rw h.method' (rw e refl))))

pub login-needs : (methods : List Method) (users : List User) (s : State) → AtLogin s → login 0 s.message ≡ Read.Short → Hears methods users s s Fed.Need
login-needs methods users s h e =
    hears-need methods users s (login-after methods s h) (login-due methods users s Read.Short h e ∙ due-more s None (login-stands users s Read.Short h e)) (ap is_over h.stage')
    (ap (λ k. split users k (bytes_of s)) h.method' ∙ login-split users s Read.Short h e) (login-keeps s h e)

refused-login : (c : List ℕ) (n b : ℕ) → version_of c ≡ Some Version.V5 → greeting_length c ≡ n → refused (Some 2) c (Cause.BadVersion n b) ≡ Due.Bad (Cause.BadVersion n b) (1 ∷ 1 ∷ [])
refused-login c n b v g =
    ap (λ (w : Option Version). Due.Bad (Cause.BadVersion n b) (refusal w (record { in_login = n == greeting_length c; proxy5 = false; granting_udp = false }) (Cause.BadVersion n b))) v
    ∙ (ap (λ (k : ℕ). Due.Bad (Cause.BadVersion n b) (refusal (Some Version.V5) (record { in_login = n == k; proxy5 = false; granting_udp = false }) (Cause.BadVersion n b))) g
    ∙ ap (λ (t : Bool). Due.Bad (Cause.BadVersion n b) (refusal (Some Version.V5) (record { in_login = t; proxy5 = false; granting_udp = false }) (Cause.BadVersion n b))) (same n))

pub login-refused : (methods : List Method) (users : List User) (s new : State) (fed : Fed) (at b : ℕ) (kind : BadKind) (say : List ℕ) → AtLogin s → login 0 s.message ≡ Read.Wrong at b kind → at ≡ 0 → kind ≡ BadKind.Version → say ≡ 1 ∷ 1 ∷ []
    → Refuses s new (Cause.BadVersion (length s.greeting) b) say fed → Hears methods users s new fed
login-refused methods users s new fed at b kind say h e z k y r =
    let n = length s.greeting in
    let B = at-behind users s.greeting (body s) h.greeted in
    let e' : login 0 s.message ≡ Read.Wrong 0 b BadKind.Version = e ∙ (ap (λ (j : ℕ). Read.Wrong j b kind) z ∙ ap (λ (j : BadKind). Read.Wrong 0 b j) k) in
    let w : n + 0 ≡ n = omega arith in
    hears-refused methods users s new (Cause.BadVersion n b) say fed r (login-after methods s h)
    (login-due methods users s (Read.Wrong 0 b BadKind.Version) h e' ∙ (ap (λ (j : ℕ). refused (Some 2) (bytes_of s) (Cause.BadVersion j b)) w
    ∙ (refused-login (bytes_of s) n b B.version' B.length' ∙ ap (λ (x : List ℕ). Due.Bad (Cause.BadVersion n b) x) (sym y))))

refused-failed : (c : List ℕ) → version_of c ≡ Some Version.V5 → refused (Some 2) c Cause.LoginFailed ≡ Due.Bad Cause.LoginFailed (1 ∷ 1 ∷ [])
refused-failed c v = ap (λ (w : Option Version). Due.Bad Cause.LoginFailed (bytes_of_answer w (Bytes (1 ∷ 1 ∷ [])))) v

pub login-fails : (methods : List Method) (users : List User) (s new : State) (fed : Fed) (l : Credentials) (at : ℕ) (rest say : List ℕ) → AtLogin s → login 0 s.message ≡ Read.Got l at rest → user_fits users l.name l.password ≡ false → say ≡ 1 ∷ 1 ∷ []
    → Refuses s new Cause.LoginFailed say fed → Hears methods users s new fed
login-fails methods users s new fed l at rest say h e f y r =
    let n = length s.greeting in
    let B = at-behind users s.greeting (body s) h.greeted in
    let w : split_login users (shifted n (Read.Got l at rest)) ≡ Split.LoginFailed = rw f refl in
    hears-refused methods users s new Cause.LoginFailed say fed r (login-after methods s h)
    (login-due methods users s (Read.Got l at rest) h e ∙ (ap (due_at (Some 2) (Some 2) (bytes_of s)) w
    ∙ (refused-failed (bytes_of s) B.version' ∙ ap (λ (x : List ℕ). Due.Bad Cause.LoginFailed x) (sym y))))

abbrev behind_login : State → Option (List ℕ) → State
behind_login s user = record { stage = Stage.Request; greeting = s.greeting; login = s.message; message = []; method = s.method; user = user }

login-same : (s : State) → AtLogin s → bytes_of (behind_login s s.user) ≡ bytes_of s
login-same s h = ap (λ x. s.greeting ++ x) (append-nil s.message ∙ sym (login-body s h))

bytes-same : (xs ys : List ℕ) → xs ≡ ys → bytes_eq xs ys ≡ true
bytes-same xs ys e = (bytes_eq-Decides xs ys).1 e

pub login-passes : (methods : List Method) (users : List User) (s : State) (l : Credentials) (at : ℕ) (name say : List ℕ) → AtLogin s → login 0 s.message ≡ Read.Got l at (drop at s.message) → at ≤ length s.message
    → user_fits users l.name l.password ≡ true → name ≡ l.name → say ≡ 1 ∷ 0 ∷ [] → Hears methods users s (behind_login s (Some name)) (Fed.Say say)
login-passes methods users s l at name say h e inside f m y =
    let n = length s.greeting in
    let left : drop at s.message ≡ [] = subst Ends e h.ends in
    let len = none-left at s.message inside left in
    let w : login 0 s.message ≡ Read.Got l (length s.message) [] = e ∙ (ap (λ x. Read.Got l at x) left ∙ ap (λ j. Read.Got l j []) len) in
    let z : split_login users (shifted n (Read.Got l (length s.message) [])) ≡ Split.More = rw f refl in
    let c : length (bytes_of s) ≡ n + length s.message = ap length (ap (λ x. s.greeting ++ x) (login-body s h)) ∙ length-append s.greeting s.message in
    let p : is_place (Some (n + length s.message)) (length (bytes_of s)) ≡ true = rw c (same (n + length s.message)) in
    let d : due methods users s.method (bytes_of s) ≡ Due.Say (1 ∷ 0 ∷ []) =
    login-due methods users s (Read.Got l (length s.message) []) h w ∙ (ap (due_at (Some 2) (Some 2) (bytes_of s)) z
    ∙ (due-more s (Some (n + length s.message)) (login-stands users s (Read.Got l (length s.message) []) h w)
    ∙ ap (λ (t : Bool). cond t (Due.Say (login_reply true)) Due.Nothing) p)) in
    let g : is_whole (greeting 0 s.greeting) (length s.greeting) ≡ true = whole-is s.greeting h.greeted.methods h.greeted.whole in
    let q : is_login (login 0 s.message) (length s.message) (Some name) ≡ true =
    ap (λ x. is_login x (length s.message) (Some name)) w ∙ and-of (length s.message == length s.message) (bytes_eq name l.name) (same (length s.message)) (bytes-same name l.name m) in
    let lg : is_logged s.method s.message (Some name) ≡ true = ap (λ k. is_logged k s.message (Some name)) h.method' ∙ q in
    record {
      bytes = login-same s h;
      method' = sym (login-after methods s h);
      answer = d ∙ ap (λ (x : List ℕ). Due.Say x) (sym y);
      stands' = and-of (is_whole (greeting 0 s.greeting) (length s.greeting)) (is_logged s.method s.message (Some name)) g lg;
      goes_on = (refl, ap (split users s.method) (login-same s h) ∙ (ap (λ k. split users k (bytes_of s)) h.method' ∙ (login-split users s (Read.Got l (length s.message) []) h w ∙ z)));
    }

-- ---- the request of version 5

-- what is read behind the greeting and the login
pub record Requests (methods : List Method) (users : List User) (s : State) (method : Method) : Type 0 where
  pub split' : split users s.method (bytes_of s) ≡ split_request Version.V5 method s.user (request5 (length s.greeting + length s.login) s.message)
  pub nothing : due_before s.method s.method (bytes_of s) ≡ Due.Nothing
  pub outside : (at : ℕ) → (asks_login (chosen_by s.method) && ((length s.greeting + length s.login + at) == greeting_length (bytes_of s))) ≡ false
  pub version' : version_of (bytes_of s) ≡ Some Version.V5
  pub after : method_after methods s.method (bytes_of s) ≡ s.method

no-login : (methods : List Method) (users : List User) (s : State) → Greeted s.greeting → s.method ≡ Some 0 → Unlogged s.login s.user → Requests methods users s Method.NoAuth
no-login methods users s g m u =
    let B = at-behind users s.greeting (body s) g in
    let b : body s ≡ s.message = rw u.none refl in
    let k : length s.greeting ≡ length s.greeting + length s.login = let z : length s.login ≡ 0 = ap length u.none in omega (arith, z) in
    record {
      split' = ap (λ x. split users x (bytes_of s)) m ∙ (B.split' 0
          ∙ (ap (λ (x : List ℕ). split_request Version.V5 Method.NoAuth None (request5 (length s.greeting) x)) b
          ∙ (ap (λ (j : ℕ). split_request Version.V5 Method.NoAuth None (request5 j s.message)) k
          ∙ ap (λ (x : Option (List ℕ)). split_request Version.V5 Method.NoAuth x (request5 (length s.greeting + length s.login) s.message)) (sym u.nobody))));
      nothing = ap (λ x. due_before x x (bytes_of s)) m;
      outside = λ at. ap (λ (x : Option ℕ). asks_login (chosen_by x) && ((length s.greeting + length s.login + at) == greeting_length (bytes_of s))) m;
      version' = B.version';
      after = after-some methods s.method 0 (bytes_of s) m;
    }

some-login : (bytes : List ℕ) (l : Credentials) → login 0 bytes ≡ Read.Got l (length bytes) [] → 0 < length bytes
some-login [] l h = cc
some-login (b ∷ bytes) l h = omega arith

pub login-done : (s : State) (l : Credentials) → login 0 s.login ≡ Read.Got l (length s.login) [] → login (length s.greeting) (body s) ≡ Read.Got l (length s.greeting + length s.login) s.message
login-done s l h =
    let n = length s.greeting in
    let e : login n s.login ≡ Read.Got l (n + length s.login) [] = login-at n s.login ∙ ap (shifted n) h in
    got-extends (login n s.login) (login n (body s)) l (n + length s.login) s.message e (login-stable.law n s.login s.message)

further-on : (n l at : ℕ) → 0 < l → (n + l + at == n) ≡ false
further-on n l at h = grind (arith, nat_tests, h)

with-login : (methods : List Method) (users : List User) (s : State) → Greeted s.greeting → s.method ≡ Some 2 → Logged users s.login s.user → 0 < length s.message → Requests methods users s Method.Username
with-login methods users s g m h some =
    let n = length s.greeting in
    let B = at-behind users s.greeting (body s) g in
    let d = login-done s h.credentials h.whole in
    let some' = some-login s.login h.credentials h.whole in
    let c : length (bytes_of s) ≡ n + (length s.login + length s.message) = length-append s.greeting (body s) ∙ ap (λ (j : ℕ). n + j) (length-append s.login s.message) in
    let far : (n + length s.login == length (bytes_of s)) ≡ false = grind (arith, nat_tests, c, some) in
    let z : split_login users (Read.Got h.credentials (n + length s.login) s.message) ≡ split_request Version.V5 Method.Username (Some h.credentials.name) (request5 (n + length s.login) s.message) = rw h.fits refl in
    record {
      split' = ap (λ x. split users x (bytes_of s)) m ∙ (B.split' 2 ∙ (ap (split_login users) d ∙ (z
          ∙ ap (λ (x : Option (List ℕ)). split_request Version.V5 Method.Username x (request5 (n + length s.login) s.message)) (sym h.is))));
      nothing = ap (λ x. due_before x x (bytes_of s)) m ∙ (due-more s (Some (n + length s.login)) (B.login' ∙ ap login_end d)
          ∙ ap (λ (t : Bool). cond t (Due.Say (login_reply true)) Due.Nothing) far);
      outside = λ at. ap (λ (x : Option ℕ). asks_login (chosen_by x) && ((n + length s.login + at) == greeting_length (bytes_of s))) m
          ∙ (ap (λ (j : ℕ). (n + length s.login + at) == j) B.length' ∙ further-on n (length s.login) at some');
      version' = B.version';
      after = after-some methods s.method 2 (bytes_of s) m;
    }

pub requests-when : (methods : List Method) (users : List User) (s : State) → Greeted s.greeting → ((s.method ≡ Some 0) × Unlogged s.login s.user) ⊎ ((s.method ≡ Some 2) × Logged users s.login s.user) → 0 < length s.message → Requests methods users s (method_named s.method)
requests-when methods users s g (inl l) some = subst (λ (x : Option ℕ). Requests methods users s (method_named x)) (sym l.0) (no-login methods users s g l.0 l.1)
requests-when methods users s g (inr l) some = subst (λ (x : Option ℕ). Requests methods users s (method_named x)) (sym l.0) (with-login methods users s g l.0 l.1 some)

requests : (methods : List Method) (users : List User) (s : State) → AtRequest users s → Requests methods users s (method_named s.method)
requests methods users s h = requests-when methods users s h.greeted h.logged h.some

request-split : (methods : List Method) (users : List User) (s : State) (x : Read Asked) → AtRequest users s → request5 0 s.message ≡ x
    → split users s.method (bytes_of s) ≡ split_request Version.V5 (method_named s.method) s.user (shifted (length s.greeting + length s.login) x)
request-split methods users s x h e =
    (requests methods users s h).split' ∙ ap (split_request Version.V5 (method_named s.method) s.user) (request5-at (length s.greeting + length s.login) s.message ∙ ap (shifted (length s.greeting + length s.login)) e)

due-after-some : (methods : List Method) (users : List User) (method : Option ℕ) (m : ℕ) (c : List ℕ) → method ≡ Some m → due methods users method c ≡ due_at method method c (split users method c)
due-after-some methods users method m c e = subst (λ (x : Option ℕ). due methods users x c ≡ due_at x x c (split users x c)) (sym e) refl

some-method : (users : List User) (s : State) → ((s.method ≡ Some 0) × Unlogged s.login s.user) ⊎ ((s.method ≡ Some 2) × Logged users s.login s.user) → (m : ℕ) × (s.method ≡ Some m)
some-method users s (inl l) = (0, l.0)
some-method users s (inr l) = (2, l.0)

request-due : (methods : List Method) (users : List User) (s : State) (x : Read Asked) → AtRequest users s → request5 0 s.message ≡ x
    → due methods users s.method (bytes_of s) ≡ due_at s.method s.method (bytes_of s) (split_request Version.V5 (method_named s.method) s.user (shifted (length s.greeting + length s.login) x))
request-due methods users s x h e =
    let m = some-method users s h.logged in
    due-after-some methods users s.method m.0 (bytes_of s) m.1 ∙ ap (due_at s.method s.method (bytes_of s)) (request-split methods users s x h e)

option-same : (user : Option (List ℕ)) (name : List ℕ) → user ≡ Some name → bytes_option_eq user (Some name) ≡ true
option-same user name e = subst (λ (u : Option (List ℕ)). bytes_option_eq u (Some name) ≡ true) (sym e) (bytes-same name name refl)

logged-is : (users : List User) (s : State) → ((s.method ≡ Some 0) × Unlogged s.login s.user) ⊎ ((s.method ≡ Some 2) × Logged users s.login s.user) → is_logged s.method s.login s.user ≡ true
logged-is users s (inl l) = ap (λ x. is_logged x s.login s.user) l.0 ∙ (let u = l.1 in rw u.none (rw u.nobody refl))
logged-is users s (inr l) =
    let h = l.1 in
    ap (λ x. is_logged x s.login s.user) l.0 ∙ (ap (λ x. is_login x (length s.login) s.user) h.whole
    ∙ and-of (length s.login == length s.login) (bytes_option_eq s.user (Some h.credentials.name)) (same (length s.login)) (option-same s.user h.credentials.name h.is))

request-stands : (users : List User) (s : State) → AtRequest users s → stands s ≡ true
request-stands users s h =
    ap (λ g. stands_at g s) h.stage' ∙ and-of (is_whole (greeting 0 s.greeting) (length s.greeting)) (is_logged s.method s.login s.user) (whole-is s.greeting h.greeted.methods h.greeted.whole) (logged-is users s h.logged)

pub request-needs : (methods : List Method) (users : List User) (s : State) → AtRequest users s → request5 0 s.message ≡ Read.Short → Hears methods users s s Fed.Need
request-needs methods users s h e =
    let r = requests methods users s h in
    hears-need methods users s r.after (request-due methods users s Read.Short h e ∙ r.nothing) (ap is_over h.stage') (request-split methods users s Read.Short h e) (request-stands users s h)

pub request-refused : (methods : List Method) (users : List User) (s new : State) (fed : Fed) (at b : ℕ) (kind : BadKind) (cause : Cause) (say : List ℕ) → AtRequest users s → request5 0 s.message ≡ Read.Wrong at b kind
    → cause ≡ bad_cause (length s.greeting + length s.login + at) b kind → say ≡ failing_reply Version.V5 (code_of kind) → Refuses s new cause say fed → Hears methods users s new fed
request-refused methods users s new fed at b kind cause say h e k y r =
    let q = requests methods users s h in
    let p = length s.greeting + length s.login + at in
    hears-refused methods users s new cause say fed r q.after
    (request-due methods users s (Read.Wrong at b kind) h e ∙ (refused-bad Version.V5 s.method (bytes_of s) p b kind q.version' (q.outside at)
    ∙ (ap (λ (x : Cause). Due.Bad x (failing_reply Version.V5 (code_of kind))) (sym k) ∙ ap (λ (x : List ℕ). Due.Bad cause x) (sym y))))

pub request-asked : (methods : List Method) (users : List User) (s new : State) (fed : Fed) (asked : AskedIs) (method : Method) (at len : ℕ) (rest : List ℕ) → AtRequest users s → request5 0 s.message ≡ Read.Got (asked_in asked) at rest
    → method ≡ method_named s.method → len ≡ length s.greeting + length s.login + at → Asks s new Version.V5 method asked len fed → Hears methods users s new fed
request-asked methods users s new fed asked method at len rest h e m l r =
    let q = requests methods users s h in
    hears-asked methods users s new Version.V5 method asked len fed r q.after
    (request-due methods users s (Read.Got (asked_in asked) at rest) h e
    ∙ (ap (λ (x : Method). Due.Ask (request_of Version.V5 x s.user (asked_in asked)) (length s.greeting + length s.login + at)) (sym m)
    ∙ ap (λ (j : ℕ). Due.Ask (request_of Version.V5 method s.user (asked_in asked)) j) (sym l)))

-- ---- the same of what the code has at hand

pub part-is : (bytes : List ℕ) (s : Span) → part bytes s ≡ slice_range bytes s.at (s.at + s.len)
part-is bytes s = let e : s.len ≡ s.at + s.len - s.at = omega arith in ap (λ (k : ℕ). take k (drop s.at bytes)) e

fits-as : (users : List User) (shown : List ℕ) (l : LoginAt) (t : Bool)
    → user_fits users (slice_range shown l.name.at (l.name.at + l.name.len)) (slice_range shown l.password.at (l.password.at + l.password.len)) ≡ t
    → user_fits users (part shown l.name) (part shown l.password) ≡ t
fits-as users shown l t h =
    ap (λ (x : List ℕ). user_fits users x (part shown l.password)) (part-is shown l.name)
    ∙ (ap (λ (x : List ℕ). user_fits users (slice_range shown l.name.at (l.name.at + l.name.len)) x) (part-is shown l.password) ∙ h)

pub login-bad-shown : (methods : List Method) (users : List User) (s new : State) (fed : Fed) (bad : BadAt) (shown greeting' say : List ℕ) → AtLogin s → shown ≡ s.message → greeting' ≡ s.greeting → IsOtherVersion shown bad → say ≡ 1 ∷ 1 ∷ []
    → Refuses s new (Cause.BadVersion (length greeting') bad.byte) say fed → Hears methods users s new fed
login-bad-shown methods users s new fed bad shown greeting' say h b g w y r =
    login-refused methods users s new fed bad.at bad.byte bad.kind say h (sym (ap (login 0) b) ∙ w.spelled) w.first w.version y
    (subst (λ (x : List ℕ). Refuses s new (Cause.BadVersion (length x) bad.byte) say fed) g r)

pub login-fails-shown : (methods : List Method) (users : List User) (s new : State) (fed : Fed) (l : LoginAt) (len : ℕ) (shown say : List ℕ) → AtLogin s → shown ≡ s.message → IsLogin shown l len
    → user_fits users (slice_range shown l.name.at (l.name.at + l.name.len)) (slice_range shown l.password.at (l.password.at + l.password.len)) ≡ false → say ≡ 1 ∷ 1 ∷ []
    → Refuses s new Cause.LoginFailed say fed → Hears methods users s new fed
login-fails-shown methods users s new fed l len shown say h b w f y r =
    login-fails methods users s new fed (credentials_at shown l) len (drop len shown) say h (sym (ap (login 0) b) ∙ w.spelled) (fits-as users shown l false f) y r

pub login-passes-shown : (methods : List Method) (users : List User) (s : State) (l : LoginAt) (len : ℕ) (shown user moved left say : List ℕ) → AtLogin s → shown ≡ s.message → IsLogin shown l len
    → user_fits users (slice_range shown l.name.at (l.name.at + l.name.len)) (slice_range shown l.password.at (l.password.at + l.password.len)) ≡ true
    → user ≡ slice_range shown l.name.at (l.name.at + l.name.len) → say ≡ 1 ∷ 0 ∷ [] → moved ≡ s.message → left ≡ []
    → Hears methods users s (record { stage = Stage.Request; greeting = s.greeting; login = moved; message = left; method = s.method; user = Some user }) (Fed.Say say)
login-passes-shown methods users s l len shown user moved left say h b w f n y m e =
    let c = credentials_at shown l in
    let w' : login 0 s.message ≡ Read.Got c len (drop len s.message) = subst (λ (x : List ℕ). login 0 x ≡ Read.Got (credentials_at shown l) len (drop len x)) b w.spelled in
    let inside : len ≤ length s.message = subst (λ (x : List ℕ). len ≤ length x) b w.inside in
    let base = login-passes methods users s c len user say h w' inside (fits-as users shown l true f) (n ∙ sym (part-is shown l.name)) y in
    subst (λ (x : List ℕ). Hears methods users s (record { stage = Stage.Request; greeting = s.greeting; login = x; message = left; method = s.method; user = Some user }) (Fed.Say say)) (sym m)
    (subst (λ (x : List ℕ). Hears methods users s (record { stage = Stage.Request; greeting = s.greeting; login = s.message; message = x; method = s.method; user = Some user }) (Fed.Say say)) (sym e) base)

pub before-is : (s : State) (g l : List ℕ) → g ≡ s.greeting → l ≡ s.login → length g + length l ≡ length s.greeting + length s.login
before-is s g l e f = ap (λ (x : List ℕ). length x + length l) e ∙ ap (λ (x : List ℕ). length s.greeting + length x) f

pub bad-place : (bytes : List ℕ) (at b : ℕ) (kind : BadKind) → AllBytes bytes → request5 0 bytes ≡ Read.Wrong at b kind → at < 262
bad-place bytes at b kind all e = subst (Fine 262 Anything 0 bytes) e (request5-fine.law 0 bytes all)

pub whole-place : (bytes : List ℕ) (a : Asked) (at : ℕ) (rest : List ℕ) → AllBytes bytes → request5 0 bytes ≡ Read.Got a at rest → at ≤ 262
whole-place bytes a at rest all e = let f = subst (Fine 262 Anything 0 bytes) e (request5-fine.law 0 bytes all) in f.3
