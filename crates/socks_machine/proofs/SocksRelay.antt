-- The relay of SOCKS: whatever the client says next changes nothing but its payload.
use Rattle.std.proofs.Common.{sym, ℕ, ◌≡◌, ◌≤◌, ◌==◌, refl, Bool, true, false, if◌then◌else◌, Option, Some, None, List, [], ◌∷◌, ◌++◌, length, ap, subst, ◌∙◌, is_some, option_map, eqb-true}
use Rattle.addr_pattern.specs.declared.endpoint.Endpoint.{Endpoint}
use Rattle.addr_pattern.specs.declared.front.BadKind.{BadKind}
use Rattle.socks_machine.specs.declared.cause.Cause.{Cause}
use Rattle.socks_grammar.specs.declared.protocol.Command.{Command}
use Rattle.socks_grammar.specs.declared.protocol.Method.{Method}
use Rattle.socks_grammar.specs.declared.protocol.Version.{Version}
use Rattle.socks_grammar.specs.declared.user.User.{User}
use Rattle.socks_machine.specs.declared.record.Chosen.{Chosen}
use Rattle.socks_machine.specs.declared.record.Record.{Record}
use Rattle.socks_machine.specs.Basis.{Basis}
use Rattle.socks_machine.specs.Calls.{Context}
use Rattle.socks_machine.specs.Front.{Front}
use Rattle.socks_grammar.specs.Grammar.{Read, Credentials, greeting, login, request4}
use Rattle.socks_grammar.specs.Handshake.{Split, Request, split, split_request, split_login, split_greeted, offered}
use Rattle.socks_machine.specs.Owed.{has_target}
use Rattle.socks_machine.specs.Phase.{Phase, phase, relay_began, prelude_length}
use Rattle.socks_machine.specs.PhaseFacts.{PhaseFacts, HasReached}
use Rattle.socks_machine.specs.Relaying.{RelayFacts}
use Rattle.socks_machine.specs.Socks.{socks_front}
use Rattle.socks_grammar.specs.Stable.{Extends, SplitExtends}
use Rattle.socks_machine.specs.Taking.{chosen_after, choose_from}
use Rattle.socks_machine.specs.View.{view, proxy_of, asks_login, login_fits, login_fits_behind}
use Rattle.socks_grammar.proofs.GrammarLaws.{greeting-stable, login-stable, split-extends}
use Rattle.socks_machine.proofs.PhaseFactsLaws.{phase-says}

none-of : (k : Option Cause) → is_some k ≡ false → k ≡ None
none-of None h = refl
none-of (Some k) h = cc

-- a whole prelude stays
whole-extends : (x y : Split) (q : Request) (n : ℕ) → SplitExtends x y → x ≡ Split.Whole q n → y ≡ x
whole-extends (Split.Whole q' n') y q n e h = e
whole-extends (Split.Bad at byte kind) y q n e h = e
whole-extends Split.NoMethod y q n e h = e
whole-extends Split.LoginFailed y q n e h = e
whole-extends Split.More y q n e h = cc

-- a whole prelude has a first byte, which says the version
success-same : (users : List User) (method : Option ℕ) (c x : List ℕ) (q : Request) (n : ℕ) (command : Command) (at : Endpoint) → split users method c ≡ Split.Whole q n
    → (socks_front).granted (c ++ x) command at ≡ (socks_front).granted c command at
success-same users method [] x q n command at h = cc
success-same users method (b ∷ bytes) x q n command at h = refl

-- a prelude that is whole where no method was answered is one of SOCKS 4, and offers none
unoffered : (users : List User) (c x : List ℕ) (q : Request) (n : ℕ) → split users None c ≡ Split.Whole q n → offered (c ++ x) ≡ None
unoffered users [] x q n h = absurd (cc)
unoffered users (b ∷ bs) x q n h = by (b == 4) (b == 5) refl refl h
  where
    greeted : (r : Read (List ℕ)) → split_greeted users None r ≡ Split.Whole q n → ⊥
    greeted (Read.Got o at rest) k = cc
    greeted Read.Short k = cc
    greeted (Read.Wrong at byte kind) k = cc

    by : (four five : Bool) → b == 4 ≡ four → b == 5 ≡ five
        → (if four then split_request Version.V4 Method.NoAuth None (request4 0 (b ∷ bs)) else (if five then split_greeted users None (greeting 0 (b ∷ bs)) else Split.Bad 0 b BadKind.Version)) ≡ Split.Whole q n
        → offered (b ∷ bs ++ x) ≡ None
    by true five e4 e5 k = let e : b ≡ 4 = eqb-true b 4 e4 in subst (λ (z : ℕ). offered (z ∷ bs ++ x) ≡ None) (sym e) refl
    by false true e4 e5 k = absurd (greeted (greeting 0 (b ∷ bs)) k)
    by false false e4 e5 k = rw e5 refl

-- the method that was answered, if any, stays the answer
choice-same : (users : List User) (generation : ℕ) (methods : List Method) (chosen : Option Chosen) (c x : List ℕ) (q : Request) (n : ℕ)
    → split users (option_map (λ c. c.method) chosen) c ≡ Split.Whole q n → chosen_after generation methods chosen (c ++ x) ≡ chosen
choice-same users generation methods None c x q n h = ap (choose_from generation methods) (unoffered users c x q n h)
choice-same users generation methods (Some chosen) c x q n h = refl

-- ---- a login

logged-same : (basis : Basis) (users : List User) (more : List ℕ) (x y : Read Credentials) → Extends x more y → (q : Request) (n : ℕ) → split_login users x ≡ Split.Whole q n
    → login_fits basis y ≡ login_fits basis x
logged-same basis users more (Read.Got l at rest) y e q n h = ap (login_fits basis) e
logged-same basis users more Read.Short y e q n h = absurd (cc)
logged-same basis users more (Read.Wrong at byte kind) y e q n h = absurd (cc)

greeted-same : (basis : Basis) (users : List User) (more : List ℕ) (x y : Read (List ℕ)) → Extends x more y → (q : Request) (n : ℕ) → split_greeted users (Some 2) x ≡ Split.Whole q n
    → login_fits_behind basis y ≡ login_fits_behind basis x
greeted-same basis users more (Read.Got o at rest) y e q n h =
    ap (login_fits_behind basis) e ∙ logged-same basis users more (login at rest) (login at (rest ++ more)) (login-stable.law at rest more) q n h
greeted-same basis users more Read.Short y e q n h = absurd (cc)
greeted-same basis users more (Read.Wrong at byte kind) y e q n h = absurd (cc)

-- the greeting and the login of a whole prelude are found in it, and stay
login-same : (basis : Basis) (users : List User) (c x : List ℕ) (q : Request) (n : ℕ) → split users (Some 2) c ≡ Split.Whole q n
    → login_fits_behind basis (greeting 0 (c ++ x)) ≡ login_fits_behind basis (greeting 0 c)
login-same basis users [] x q n h = absurd (cc)
login-same basis users (b ∷ bs) x q n h = by (b == 4) (b == 5) refl refl h
  where
    by : (four five : Bool) → b == 4 ≡ four → b == 5 ≡ five
        → (if four then split_request Version.V4 Method.NoAuth None (request4 0 (b ∷ bs)) else (if five then split_greeted users (Some 2) (greeting 0 (b ∷ bs)) else Split.Bad 0 b BadKind.Version)) ≡ Split.Whole q n
        → login_fits_behind basis (greeting 0 (b ∷ bs ++ x)) ≡ login_fits_behind basis (greeting 0 (b ∷ bs))
    by true five e4 e5 k = let e : b ≡ 4 = eqb-true b 4 e4 in
        subst (λ (z : ℕ). login_fits_behind basis (greeting 0 (z ∷ bs ++ x)) ≡ login_fits_behind basis (greeting 0 (z ∷ bs))) (sym e) refl
    by false true e4 e5 k = greeted-same basis users x (greeting 0 (b ∷ bs)) (greeting 0 (b ∷ bs ++ x)) (greeting-stable.law 0 (b ∷ bs) x) q n k
    by false false e4 e5 k = absurd (cc)

abbrev passed_if : Basis → Bool → List ℕ → Bool
passed_if basis asks c = elim asks [ true ↦ login_fits_behind basis (greeting 0 c) | false ↦ false ]

passed-same : (basis : Basis) (users : List User) (chosen : Option Chosen) (c x : List ℕ) (q : Request) (n : ℕ)
    → split users (option_map (λ c. c.method) chosen) c ≡ Split.Whole q n → passed_if basis (asks_login chosen) (c ++ x) ≡ passed_if basis (asks_login chosen) c
passed-same basis users None c x q n h = refl
passed-same basis users (Some chosen) c x q n h = by (chosen.method == 2) refl
  where
    by : (asks : Bool) → chosen.method == 2 ≡ asks → passed_if basis asks (c ++ x) ≡ passed_if basis asks c
    by true e = login-same basis users c x q n (subst (λ (m : ℕ). split users (Some m) c ≡ Split.Whole q n) (eqb-true chosen.method 2 e) h)
    by false e = refl

-- ---- the facts

-- Of a record in Relay.
pub relay-facts : (s : Context) (r : Record) → (s.basis).front ≡ socks_front → phase s.basis r ≡ Phase.Relay
    → proxy_of s.basis r ≡ None → relay_began s.basis r ≡ true → has_target r ≡ true → r.grams ≡ [] → r.sent_u ≡ []
    → prelude_length s.basis r ≤ length r.c → RelayFacts s r
relay-facts s r fronted relays direct began there grams sent_u prelude = record {
  relays = relays;
  uncaused = none-of r.cause reaches.granted'.asked.going.uncaused;
  direct = direct;
  began = began;
  there = there;
  grams = grams;
  sent_u = sent_u;
  choice = λ x. choice-same (s.basis).users s.generation (s.config).methods r.chosen r.c x reaches.granted'.request reaches.granted'.asked.length' whole;
  whole = λ x. subst (λ (f : Front). f.split (s.basis).users (option_map (λ c. c.method) r.chosen) (r.c ++ x) ≡ f.split (s.basis).users (option_map (λ c. c.method) r.chosen) r.c) (sym fronted)
      (whole-extends (split (s.basis).users (option_map (λ c. c.method) r.chosen) r.c) (split (s.basis).users (option_map (λ c. c.method) r.chosen) (r.c ++ x)) reaches.granted'.request reaches.granted'.asked.length'
      (split-extends (s.basis).users (option_map (λ c. c.method) r.chosen) r.c x) whole);
  passed = λ x. passed-same s.basis (s.basis).users r.chosen r.c x reaches.granted'.request reaches.granted'.asked.length' whole;
  success = λ x command at. subst (λ (f : Front). f.granted (r.c ++ x) command at ≡ f.granted r.c command at) (sym fronted)
      (success-same (s.basis).users (option_map (λ c. c.method) r.chosen) r.c x reaches.granted'.request reaches.granted'.asked.length' command at whole);
  prelude = prelude;
}
  where
    reaches : HasReached (view s.basis r) r
    reaches = let f : PhaseFacts (view s.basis r) r Phase.Relay = subst (λ (p : Phase). PhaseFacts (view s.basis r) r p) relays (phase-says (view s.basis r) r) in f

    whole : split (s.basis).users (option_map (λ c. c.method) r.chosen) r.c ≡ Split.Whole reaches.granted'.request reaches.granted'.asked.length'
    whole = sym (ap (λ (f : Front). f.split (s.basis).users (option_map (λ c. c.method) r.chosen) r.c) fronted) ∙ reaches.granted'.asked.whole
