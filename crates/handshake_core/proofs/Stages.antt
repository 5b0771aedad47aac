-- What is due at each stage of a prelude.
use Rattle.std.proofs.Common.{ℕ, ◌≡◌, Bool, true, false, cond, ◌==◌, ◌&&◌, inl, inr, Option, Some, None, option_map, List, [], ◌∷◌, ◌++◌, length, refl, sym, subst, ap, ◌∙◌, arith}
use Rattle.std.specs.Prelude.{◌⊎◌}
use Rattle.std.specs.List.{list_any}
use Rattle.std.proofs.lemmas.Bool.Decides.{nat_tests}
use Rattle.addr_pattern.specs.declared.front.BadKind.{BadKind}
use Rattle.socks_grammar.specs.declared.protocol.Method.{Method}
use Rattle.socks_grammar.specs.declared.protocol.Version.{Version}
use Rattle.socks_grammar.specs.declared.user.User.{User}
use Rattle.socks_grammar.specs.Grammar.{Read, and_then, greeting, login, request4}
use Rattle.socks_grammar.specs.Handshake.{Split, split, split_request, split_answered, split_greeted, offered, offered_by, greeting_length, place_behind, login_place, login_place_of, login_end, version_of}
use Rattle.socks_grammar.specs.Stable.{Extends}
use Rattle.socks_grammar.proofs.GrammarLaws.{greeting-stable}
use Rattle.socks_machine.specs.declared.cause.Cause.{Cause}
use Rattle.socks_machine.specs.declared.record.Chosen.{Chosen}
use Rattle.socks_machine.specs.Replies.{choose, method_code, failing_reply, refusal, bytes_of_answer, Code}
use Rattle.socks_machine.specs.Settle.{bad_cause}
use Rattle.socks_machine.specs.Socks.{is_in_login}
use Rattle.socks_machine.specs.View.{asks_login}
use Rattle.handshake_core.specs.Due.{Due, due, due_at, refused, chosen_by}
use Rattle.handshake_core.specs.Refusing.{code_of}
use Rattle.handshake_core.specs.Standing.{Greeted}

-- ---- the version

is-four : (t u : Bool) → cond t (Some Version.V4) (cond u (Some Version.V5) None) ≡ Some Version.V4 → t ≡ true
is-four true u h = refl
is-four false true h = cc
is-four false false h = cc

is-five : (t u : Bool) → cond t (Some Version.V4) (cond u (Some Version.V5) None) ≡ Some Version.V5 → u ≡ true
is-five true u h = cc
is-five false true h = refl
is-five false false h = cc

is-neither : (t u : Bool) → cond t (Some Version.V4) (cond u (Some Version.V5) None) ≡ None → (t ≡ false) × (u ≡ false)
is-neither true u h = cc
is-neither false true h = cc
is-neither false false h = (refl, refl)

four : (m : List ℕ) → version_of m ≡ Some Version.V4 → (rest : List ℕ) × (m ≡ 4 ∷ rest)
four [] h = cc
four (b ∷ rest) h = let t = is-four (b == 4) (b == 5) h in let e : b ≡ 4 = grind (arith, nat_tests, t) in (rest, ap (λ x. x ∷ rest) e)

pub five : (m : List ℕ) → version_of m ≡ Some Version.V5 → (rest : List ℕ) × (m ≡ 5 ∷ rest)
five [] h = cc
five (b ∷ rest) h = let t = is-five (b == 4) (b == 5) h in let e : b ≡ 5 = grind (arith, nat_tests, t) in (rest, ap (λ x. x ∷ rest) e)

-- ---- refusals

outside-login : (chosen : Option Chosen) (m : List ℕ) (at byte : ℕ) (kind : BadKind) → (asks_login chosen && (at == greeting_length m)) ≡ false → is_in_login chosen m (bad_cause at byte kind) ≡ false
outside-login chosen m at byte BadKind.Version h = h
outside-login chosen m at byte BadKind.Command h = refl
outside-login chosen m at byte BadKind.Atyp h = refl
outside-login chosen m at byte BadKind.Field h = refl

refused-with : (v : Version) (t : Bool) (at byte : ℕ) (kind : BadKind) → t ≡ false
    → Due.Bad (bad_cause at byte kind) (refusal (Some v) (record { in_login = t; proxy5 = false; granting_udp = false }) (bad_cause at byte kind)) ≡ Due.Bad (bad_cause at byte kind) (failing_reply v (code_of kind))
refused-with v t at byte BadKind.Version h = rw h refl
refused-with v t at byte BadKind.Command h = refl
refused-with v t at byte BadKind.Atyp h = refl
refused-with v t at byte BadKind.Field h = refl

pub refused-bad : (v : Version) (method : Option ℕ) (m : List ℕ) (at byte : ℕ) (kind : BadKind) → version_of m ≡ Some v → (asks_login (chosen_by method) && (at == greeting_length m)) ≡ false
    → refused method m (bad_cause at byte kind) ≡ Due.Bad (bad_cause at byte kind) (failing_reply v (code_of kind))
refused-bad v method m at byte kind e h =
    ap (λ w. Due.Bad (bad_cause at byte kind) (refusal w (record { in_login = is_in_login (chosen_by method) m (bad_cause at byte kind); proxy5 = false; granting_udp = false }) (bad_cause at byte kind))) e
    ∙ refused-with v (is_in_login (chosen_by method) m (bad_cause at byte kind)) at byte kind (outside-login (chosen_by method) m at byte kind h)

-- ---- the first message

pub record Four (methods : List Method) (users : List User) (m : List ℕ) : Type 0 where
  pub due' : due methods users None m ≡ due_at None None m (split_request Version.V4 Method.NoAuth None (request4 0 m))
  pub split' : split users None m ≡ split_request Version.V4 Method.NoAuth None (request4 0 m)
  pub offered' : offered m ≡ None

pub at-four : (methods : List Method) (users : List User) (m : List ℕ) → version_of m ≡ Some Version.V4 → Four methods users m
at-four methods users m h = let f = four m h in subst (Four methods users) (sym f.1) (record { due' = refl; split' = refl; offered' = refl })

abbrev pub due_greeted : List Method → List User → List ℕ → Read (List ℕ) → Due
due_greeted methods users m x =
    due_at None (option_map (choose methods) (offered_by x)) m (split_greeted users (option_map (choose methods) (offered_by x)) x)

pub record Five (methods : List Method) (users : List User) (m : List ℕ) : Type 0 where
  pub due' : due methods users None m ≡ due_greeted methods users m (greeting 0 m)
  pub split' : (method : Option ℕ) → split users method m ≡ split_greeted users method (greeting 0 m)

pub at-five : (methods : List Method) (users : List User) (m : List ℕ) → version_of m ≡ Some Version.V5 → Five methods users m
at-five methods users m h = let f = five m h in subst (Five methods users) (sym f.1) (record { due' = refl; split' = λ method. refl })

pub at-neither : (methods : List Method) (users : List User) (b : ℕ) (rest : List ℕ) → version_of (b ∷ rest) ≡ None
    → (due methods users None (b ∷ rest) ≡ Due.Bad (Cause.BadVersion 0 b) []) × (offered (b ∷ rest) ≡ None)
at-neither methods users b rest h =
    let n = is-neither (b == 4) (b == 5) h in
    let t : (b == 4) ≡ false = n.0 in
    let u : (b == 5) ≡ false = n.1 in
    (rw (t, u) (ap (λ v. Due.Bad (Cause.BadVersion 0 b) (bytes_of_answer v (Code 1))) h), rw u refl)

pub split-neither : (users : List User) (b : ℕ) (rest : List ℕ) → version_of (b ∷ rest) ≡ None → split users None (b ∷ rest) ≡ Split.Bad 0 b BadKind.Version
split-neither users b rest h =
    let n = is-neither (b == 4) (b == 5) h in
    let t : (b == 4) ≡ false = n.0 in
    let u : (b == 5) ≡ false = n.1 in
    rw (t, u) refl

choose-if : (t : Bool) (k x : ℕ) → (k ≡ 0) ⊎ (k ≡ 2) → ((x ≡ 255) ⊎ ((x ≡ 0) ⊎ (x ≡ 2))) → (cond t k x ≡ 255) ⊎ ((cond t k x ≡ 0) ⊎ (cond t k x ≡ 2))
choose-if true k x h e = inr h
choose-if false k x h e = e

code-is : (m : Method) → (method_code m ≡ 0) ⊎ (method_code m ≡ 2)
code-is Method.NoAuth = inl refl
code-is Method.Username = inr refl

pub choose-is : (methods : List Method) (o : List ℕ) → (choose methods o ≡ 255) ⊎ ((choose methods o ≡ 0) ⊎ (choose methods o ≡ 2))
choose-is [] o = inl refl
choose-is (m ∷ ms) o = choose-if (list_any (λ b. b == method_code m) o) (method_code m) (choose ms o) (code-is m) (choose-is ms o)

-- ---- behind the greeting

then-first : (b : ℕ) (t : Bool) (bs o rest : List ℕ) (n : ℕ) (next : ℕ → ℕ → List ℕ → Read (List ℕ)) → t ≡ (b == 5)
    → and_then (cond t (Read.Got b 1 bs) (Read.Wrong 0 b BadKind.Version)) next ≡ Read.Got o n rest → b ≡ 5
then-first b true bs o rest n next e h = grind (arith, nat_tests, e)
then-first b false bs o rest n next e h = cc

begins-five : (g o rest : List ℕ) (n : ℕ) → greeting 0 g ≡ Read.Got o n rest → (more : List ℕ) × (g ≡ 5 ∷ more)
begins-five [] o rest n h = cc
begins-five (b ∷ bs) o rest n h = (bs, ap (λ x. x ∷ bs) (then-first b (b == 5) bs o rest n _ refl h))

pub got-extends : {A : Type 0} (x y : Read A) (a : A) (n : ℕ) (more : List ℕ) → x ≡ Read.Got a n [] → Extends x more y → y ≡ Read.Got a n more
got-extends x y a n more e h = subst (λ x. Extends x more y) e h

-- a greeting is whole, and more stands behind it
pub record Behind (users : List User) (g c : List ℕ) (m : List ℕ) : Type 0 where
  pub version' : version_of c ≡ Some Version.V5
  pub length' : greeting_length c ≡ length g
  pub split' : (method : ℕ) → split users (Some method) c ≡ split_answered users method (length g) m
  pub login' : login_place c ≡ login_end (login (length g) m)

five-behind : (users : List User) (g c m o more : List ℕ) → c ≡ 5 ∷ more → greeting 0 c ≡ Read.Got o (length g) m → Behind users g c m
five-behind users g c m o more e h =
    let P : List ℕ → Type 0 = λ c. greeting 0 c ≡ Read.Got o (length g) m → Behind users g c m in
    subst P (sym e) (λ k. record {
      version' = refl;
      length' = ap place_behind k;
      split' = λ method. ap (split_greeted users (Some method)) k;
      login' = ap login_place_of k;
    }) h

pub at-behind : (users : List User) (g m : List ℕ) → Greeted g → Behind users g (g ++ m) m
at-behind users g m h =
    let f = begins-five g h.methods [] (length g) h.whole in
    let e : greeting 0 (g ++ m) ≡ Read.Got h.methods (length g) m =
    got-extends (greeting 0 g) (greeting 0 (g ++ m)) h.methods (length g) m h.whole (greeting-stable.law 0 g m) in
    five-behind users g (g ++ m) m h.methods (f.0 ++ m) (ap (λ x. x ++ m) f.1) e
