-- A prelude that is whole: how long it is, and that nothing behind it changes what it says.
use Rattle.std.proofs.Common.{◌≡◌, ◌≤◌, ◌==◌, ◌&&◌, ℕ, Bool, true, false, not, Option, Some, None, option_map, List, [], ◌∷◌, ◌++◌, length, is_some, refl, sym, ap, subst, ◌∙◌, eqb-true, arith}
use Rattle.conf_types.specs.declared.entries.Entries.{Entries}
use Rattle.socks_grammar.specs.declared.user.User.{User}
use Rattle.socks_grammar.specs.Grammar.{Read, Credentials, greeting, login}
use Rattle.socks_grammar.specs.Handshake.{Request, Split, split, split_login, split_greeted, login_end, login_place, login_place_of, offered, offered_by, version_of}
use Rattle.socks_grammar.specs.Stable.{Extends}
use Rattle.socks_grammar.proofs.GrammarLaws.{greeting-stable}
use Rattle.handshake_core.proofs.Lengths.{ends-there}
use Rattle.handshake_core.proofs.Places.{ends-within}
use Rattle.socks_machine.specs.declared.cause.Cause.{Cause}
use Rattle.socks_machine.specs.declared.record.Chosen.{Chosen}
use Rattle.socks_machine.specs.declared.record.Record.{Record}
use Rattle.socks_machine.specs.Inputs.{is_served_split}
use Rattle.socks_machine.specs.Socks.{socks, chosen_reply, passed_reply}
use Rattle.socks_machine.specs.View.{length_of, split_of}
use Rattle.assoc_core.specs.Plain.{HasAsked, HasChosen, split_in, split_by, prelude_of, opening_owed, has_passed, is_login_failed, is_failed_split}
use Rattle.assoc_core.proofs.Inputs.{whole-stays}

-- ---- how long it is

prelude-is : (users : List User) (r : Record) (h : HasAsked users r) → prelude_of r ≡ h.len
prelude-is users r h = ends-there users (option_map (λ c. c.method) r.chosen) r.c h.request h.len h.whole

pub length-is : (users : List User) (pubs : List Entries) (r : Record) → HasAsked users r → length_of (split_of (socks users pubs) r) ≡ prelude_of r
length-is users pubs r h = ap length_of h.whole ∙ sym (prelude-is users r h)

pub prelude-within : (r : Record) → prelude_of r ≤ length r.c
prelude-within r = ends-within (option_map (λ c. c.method) r.chosen) r.c

-- ---- more bytes behind it

abbrev pub asked-extends : (users : List User) (r : Record) (x : List ℕ) → HasAsked users r → HasAsked users (record r { c = r.c ++ x })
asked-extends users r x h = record {
  request = h.request;
  len = h.len;
  whole = whole-stays users (option_map (λ c. c.method) r.chosen) r.c x h.request h.len h.whole;
}

pub prelude-stays : (users : List User) (r : Record) (x : List ℕ) → HasAsked users r → prelude_of (record r { c = r.c ++ x }) ≡ prelude_of r
prelude-stays users r x h =
    ends-there users (option_map (λ c. c.method) r.chosen) (r.c ++ x) h.request h.len (whole-stays users (option_map (λ c. c.method) r.chosen) r.c x h.request h.len h.whole)
    ∙ sym (prelude-is users r h)

version-first : (users : List User) (method : Option ℕ) (c x : List ℕ) (q : Request) (n : ℕ) → split users method c ≡ Split.Whole q n → version_of (c ++ x) ≡ version_of c
version-first users method [] x q n h = absurd (cc)
version-first users method (b ∷ bytes) x q n h = refl

pub version-stays : (users : List User) (r : Record) (x : List ℕ) → HasAsked users r → version_of (r.c ++ x) ≡ version_of r.c
version-stays users r x h = version-first users (option_map (λ c. c.method) r.chosen) r.c x h.request h.len h.whole

pub served-stays : (users : List User) (r : Record) (x : List ℕ) → HasAsked users r → is_served_split (split_in users r) ≡ true → is_served_split (split_in users (record r { c = r.c ++ x })) ≡ true
served-stays users r x h served = ap is_served_split (whole-stays users (option_map (λ c. c.method) r.chosen) r.c x h.request h.len h.whole ∙ sym h.whole) ∙ served

pub unfailed : (users : List User) (r : Record) → HasAsked users r → is_failed_split (split_in users r) ≡ false
unfailed users r h = ap is_failed_split h.whole

-- ---- the method that was answered

offered-stays : (x y : Read (List ℕ)) (more : List ℕ) → Extends x more y → (offers : List ℕ) → offered_by x ≡ Some offers → offered_by y ≡ Some offers
offered-stays (Read.Got a at rest) y more e offers h = ap offered_by e ∙ h
offered-stays Read.Short y more e offers h = absurd (cc)
offered-stays (Read.Wrong at byte kind) y more e offers h = absurd (cc)

unanswered-whole : (users : List User) (x : Read (List ℕ)) (q : Request) (n : ℕ) → split_greeted users None x ≡ Split.Whole q n → ⊥
unanswered-whole users (Read.Got o at rest) q n h = absurd (cc)
unanswered-whole users Read.Short q n h = absurd (cc)
unanswered-whole users (Read.Wrong at byte kind) q n h = absurd (cc)

-- what is asked for without a method is asked for in version 4
unoffered : (users : List User) (c : List ℕ) (q : Request) (n : ℕ) → split users None c ≡ Split.Whole q n → (x : List ℕ) → offered (c ++ x) ≡ None
unoffered users [] q n h x = absurd (cc)
unoffered users (b ∷ bytes) q n h x = by (b == 4) (b == 5) refl refl
  where
    by : (four five : Bool) → b == 4 ≡ four → b == 5 ≡ five → offered (b ∷ bytes ++ x) ≡ None
    by four false e4 e5 = rw e5 refl
    by true true e4 e5 = let u : b ≡ 4 = grind (arith, e4) in let v : b ≡ 5 = grind (arith, e5) in absurd (omega (arith, u, v))
    by false true e4 e5 =
        let k : split users None (b ∷ bytes) ≡ split_greeted users None (greeting 0 (b ∷ bytes)) = rw (e4, e5) refl in
        absurd (unanswered-whole users (greeting 0 (b ∷ bytes)) q n (sym k ∙ h))

pub offers-stay : (c x offers : List ℕ) → offered c ≡ Some offers → offered (c ++ x) ≡ Some offers
offers-stay c x offers h = offered-stays (greeting 0 c) (greeting 0 (c ++ x)) x (greeting-stable.law 0 c x) offers h

pub choice-stays : (c x : List ℕ) (chosen : Chosen) → HasChosen c (Some chosen) → HasChosen (c ++ x) (Some chosen)
choice-stays c x chosen k = (k.0, offers-stay c x k.0 k.1, k.2)

chosen-first : (users : List User) (chosen : Option Chosen) (c x : List ℕ) (q : Request) (n : ℕ) → split_by users chosen c ≡ Split.Whole q n → HasChosen c chosen → HasChosen (c ++ x) chosen
chosen-first users None c x q n h k = unoffered users c q n h x
chosen-first users (Some chosen) c x q n h k = choice-stays c x chosen k

pub chosen-stays : (users : List User) (r : Record) (x : List ℕ) → HasAsked users r → HasChosen r.c r.chosen → HasChosen (r.c ++ x) r.chosen
chosen-stays users r x h k = chosen-first users r.chosen r.c x h.request h.len h.whole k

-- ---- the login

whole-login : (users : List User) (x : Read Credentials) (q : Request) (n : ℕ) → split_login users x ≡ Split.Whole q n → is_some (login_end x) ≡ true
whole-login users (Read.Got l at rest) q n h = refl
whole-login users Read.Short q n h = absurd (cc)
whole-login users (Read.Wrong at byte kind) q n h = absurd (cc)

whole-greeted : (users : List User) (x : Read (List ℕ)) (q : Request) (n : ℕ) → split_greeted users (Some 2) x ≡ Split.Whole q n → is_some (login_place_of x) ≡ true
whole-greeted users (Read.Got o at rest) q n h = whole-login users (login at rest) q n h
whole-greeted users Read.Short q n h = absurd (cc)
whole-greeted users (Read.Wrong at byte kind) q n h = absurd (cc)

login-stays : (users : List User) (c x : List ℕ) (q : Request) (n : ℕ) → split users (Some 2) c ≡ Split.Whole q n → is_some (login_place (c ++ x)) ≡ is_some (login_place c)
login-stays users [] x q n h = absurd (cc)
login-stays users (b ∷ bytes) x q n h = by (b == 4) (b == 5) refl refl
  where
    greeted : b == 4 ≡ false → b == 5 ≡ true → (c : List ℕ) → split users (Some 2) (b ∷ c) ≡ split_greeted users (Some 2) (greeting 0 (b ∷ c))
    greeted e4 e5 c = rw (e4, e5) refl

    by : (four five : Bool) → b == 4 ≡ four → b == 5 ≡ five → is_some (login_place (b ∷ bytes ++ x)) ≡ is_some (login_place (b ∷ bytes))
    by four false e4 e5 = rw e5 refl
    by true true e4 e5 = let u : b ≡ 4 = grind (arith, e4) in let v : b ≡ 5 = grind (arith, e5) in absurd (omega (arith, u, v))
    by false true e4 e5 =
        whole-greeted users (greeting 0 (b ∷ bytes ++ x)) q n (sym (greeted e4 e5 (bytes ++ x)) ∙ whole-stays users (Some 2) (b ∷ bytes) x q n h)
        ∙ sym (whole-greeted users (greeting 0 (b ∷ bytes)) q n (sym (greeted e4 e5 bytes) ∙ h))

and-same : (a b d : Bool) → (a ≡ true → b ≡ d) → a && b ≡ a && d
and-same true b d h = h refl
and-same false b d h = refl

passed-stays : (users : List User) (chosen : Option Chosen) (c x : List ℕ) (q : Request) (n : ℕ) (cause : Option Cause) → split_by users chosen c ≡ Split.Whole q n
    → has_passed chosen (c ++ x) cause ≡ has_passed chosen c cause
passed-stays users None c x q n cause h = refl
passed-stays users (Some chosen) c x q n cause h = and-same (chosen.method == 2) _ _ (λ e.
    let m : chosen.method ≡ 2 = eqb-true chosen.method 2 e in
    ap (λ b. b && not (is_login_failed cause)) (login-stays users c x q n (subst (λ m. split users (Some m) c ≡ Split.Whole q n) m h)))

pub opening-stays : (users : List User) (r : Record) (x : List ℕ) → HasAsked users r → opening_owed (r.c ++ x) r.chosen r.cause ≡ opening_owed r.c r.chosen r.cause
opening-stays users r x h = ap (λ b. chosen_reply r.chosen ++ passed_reply b) (passed-stays users r.chosen r.c x h.request h.len r.cause h.whole)
