-- More of an input is wanted exactly of proper prefixes.
use Rattle.std.proofs.Common.{ℕ, ◌≡◌, ◌+◌, ◌==◌, ◌⊎◌, inl, inr, Bool, true, false, cond, Option, Some, None, List, [], ◌∷◌, ◌++◌, length, take, refl, sym, ap, subst, ◌∙◌, arith, append_assoc, length-append, IsTrue, is_some}
use Rattle.std.proofs.lemmas.List.{append-nil, take_at}
use Rattle.addr_pattern.specs.declared.front.BadKind.{BadKind}
use Rattle.socks_grammar.specs.declared.protocol.Method.{Method}
use Rattle.socks_grammar.specs.declared.protocol.Version.{Version}
use Rattle.socks_grammar.specs.declared.user.User.{User}
use Rattle.socks_grammar.specs.Grammar.{Read, Asked, greeting, request4}
use Rattle.socks_grammar.specs.Handshake.{Request, Split, split, split_request, split_greeted, offered, offered_by}
use Rattle.socks_grammar.specs.Prefixes.{IsProperPrefix, StopsExactly}
use Rattle.socks_grammar.proofs.Exact.{FoundAt, Tells, stops-exactly}
use Rattle.socks4_codec.proofs.Prefixes.{requests-stop}
use Rattle.socks5_codec.proofs.Prefixes.{greetings-stop}
use Rattle.handshake_core.proofs.Preludes.{Settled, prelude, prelude-exact, split_of, splits, Ended, ends}
use Rattle.handshake_core.specs.PreludeLaws.{EndsSettled, IsUnsettled, IsUnanswered, MoreIsUnsettled, MoreIsUnanswered, BadIsFirst, WholeStandsAlone}

stops : (users : List User) (method : Option ℕ) → StopsExactly (prelude users method)
stops users method = stops-exactly (prelude users method) (prelude-exact users method)

-- ---- a bad byte

is-wrong : (r : Read Settled) (at byte : ℕ) (kind : BadKind) → split_of r ≡ Split.Bad at byte kind → r ≡ Read.Wrong at byte kind
is-wrong (Read.Got (Settled.Prelude q) n rest) at byte kind e = absurd (cc)
is-wrong (Read.Got Settled.NoMethod n rest) at byte kind e = absurd (cc)
is-wrong (Read.Got Settled.LoginFailed n rest) at byte kind e = absurd (cc)
is-wrong (Read.Got Settled.Unanswered n rest) at byte kind e = absurd (cc)
is-wrong Read.Short at byte kind e = absurd (cc)
is-wrong (Read.Wrong p b k) at byte kind e = cc

pub bad-is-first : BadIsFirst
bad-is-first users method bytes at byte kind e =
    let w : prelude users method 0 bytes ≡ Read.Wrong at byte kind = is-wrong (prelude users method 0 bytes) at byte kind (sym (splits users method bytes) ∙ e) in
    let s = stops users method in
    let b = s.before_bad bytes at byte kind w in
    record {
      there = b.0;
      before = splits users method (take at bytes) ∙ ap split_of (s.only_more (take at bytes) b.1);
      after = λ more. splits users method (take (at + 1) bytes ++ more) ∙ ap split_of (s.after_bad bytes at byte kind w more);
    }

-- ---- a whole prelude

is-whole : (r : Read Settled) (q : Request) (n : ℕ) → split_of r ≡ Split.Whole q n → (rest : List ℕ) × (r ≡ Read.Got (Settled.Prelude q) n rest)
is-whole (Read.Got (Settled.Prelude p) m rest) q n e = (rest, cc)
is-whole (Read.Got Settled.NoMethod m rest) q n e = absurd (cc)
is-whole (Read.Got Settled.LoginFailed m rest) q n e = absurd (cc)
is-whole (Read.Got Settled.Unanswered m rest) q n e = absurd (cc)
is-whole Read.Short q n e = absurd (cc)
is-whole (Read.Wrong p b k) q n e = absurd (cc)

found-size : (users : List User) (method : Option ℕ) (bytes : List ℕ) (a : Settled) (len : ℕ) (rest : List ℕ) → FoundAt (prelude users method) 0 bytes a len rest → length (take len bytes) ≡ len
found-size users method bytes a len rest t =
    let size : length t.used ≡ len = let p = t.place-is in omega arith in
    ap length (ap (take len) t.is ∙ take_at t.used rest len size) ∙ size

pub whole-stands-alone : WholeStandsAlone
whole-stands-alone users method bytes q len e =
    let w = is-whole (prelude users method 0 bytes) q len (sym (splits users method bytes) ∙ e) in
    let s = stops users method in
    record {
      size = found-size users method bytes (Settled.Prelude q) len w.0 (subst (Tells (prelude users method) 0 bytes) w.1 ((prelude-exact users method).law 0 bytes));
      alone = λ more. splits users method (take len bytes ++ more) ∙ ap split_of (s.whole bytes (Settled.Prelude q) len w.0 w.1 more);
    }

-- ---- once a method was answered

some-method : {B : Type 0} (m : ℕ) → ◌≡◌ {A = Option ℕ} (Some m) None → B
some-method m e = cc

is-short : (m : ℕ) (all : List ℕ) (r : Read Settled) → Ended (Some m) all r → split_of r ≡ Split.More → r ≡ Read.Short
is-short m all (Read.Got (Settled.Prelude q) n rest) h e = absurd (cc)
is-short m all (Read.Got Settled.NoMethod n rest) h e = absurd (cc)
is-short m all (Read.Got Settled.LoginFailed n rest) h e = absurd (cc)
is-short m all (Read.Got Settled.Unanswered n rest) h e = some-method m h
is-short m all Read.Short h e = refl
is-short m all (Read.Wrong p b k) h e = absurd (cc)

settled-there : (m : ℕ) (all : List ℕ) (s : Settled) → Ended (Some m) all (Read.Got s (length all) []) → EndsSettled all (split_of (Read.Got s (length all) []))
settled-there m all (Settled.Prelude q) h = refl
settled-there m all Settled.NoMethod h = h
settled-there m all Settled.LoginFailed h = h
settled-there m all Settled.Unanswered h = some-method m h

none-left : (used rest all : List ℕ) → all ≡ used ++ rest → length used ≡ length all → rest ≡ []
none-left used [] all e size = refl
none-left used (b ∷ rest) all e size =
    let both : length all ≡ length used + length (b ∷ rest) = ap length e ∙ length-append used (b ∷ rest) in
    absurd (omega arith)

place-there : (m : ℕ) (all : List ℕ) (s : Settled) (n : ℕ) (rest : List ℕ) → Ended (Some m) all (Read.Got s n rest) → EndsSettled all (split_of (Read.Got s n rest)) → n ≡ length all
place-there m all (Settled.Prelude q) n rest h k = k
place-there m all Settled.NoMethod n rest h k = sym h ∙ k
place-there m all Settled.LoginFailed n rest h k =
    let both : ◌≡◌ {A = Option ℕ} (Some n) (Some (length all)) = sym h ∙ k in
    cc
place-there m all Settled.Unanswered n rest h k = absurd k

module _ (users : List User) (m : ℕ) where
  whole-there : (all : List ℕ) (r : Read Settled) → prelude users (Some m) 0 all ≡ r → Tells (prelude users (Some m)) 0 all r → Ended (Some m) all r → EndsSettled all (split_of r)
      → (s : Settled) × (prelude users (Some m) 0 all ≡ Read.Got s (length all) [])
  whole-there all (Read.Got s n rest) e t h k =
      let place : n ≡ length all = place-there m all s n rest h k in
      let size : length t.used ≡ length all = let p = t.place-is in omega arith in
      let none : rest ≡ [] = none-left t.used rest all t.is size in
      (s, e ∙ (ap (λ n. Read.Got s n rest) place ∙ ap (λ (xs : List ℕ). Read.Got s (length all) xs) none))
  whole-there all Read.Short e t h k = absurd k
  whole-there all (Read.Wrong p b kind) e t h k = absurd k

  unsettled : (bytes : List ℕ) → split users (Some m) bytes ≡ Split.More → IsUnsettled users m bytes
  unsettled bytes e =
      let s = stops users (Some m) in
      let short = is-short m bytes (prelude users (Some m) 0 bytes) (ends users (Some m) bytes) (sym (splits users (Some m) bytes) ∙ e) in
      let p = s.more bytes short in
      let all = bytes ++ p.0 in
      let w : prelude users (Some m) 0 (bytes ++ p.0) ≡ Read.Got p.3.0 (length (bytes ++ p.0)) [] = p.3.1 in
      let there = settled-there m (bytes ++ p.0) p.3.0 (subst (Ended (Some m) (bytes ++ p.0)) w (ends users (Some m) (bytes ++ p.0))) in
      (p.0, p.1, p.2, subst (EndsSettled (bytes ++ p.0)) (sym (splits users (Some m) (bytes ++ p.0) ∙ ap split_of w)) there)

  wanted : (bytes : List ℕ) → IsUnsettled users m bytes → split users (Some m) bytes ≡ Split.More
  wanted bytes p =
      let s = stops users (Some m) in
      let k : EndsSettled (bytes ++ p.0) (split_of (prelude users (Some m) 0 (bytes ++ p.0))) = subst (EndsSettled (bytes ++ p.0)) (splits users (Some m) (bytes ++ p.0)) p.3 in
      let w = whole-there (bytes ++ p.0) (prelude users (Some m) 0 (bytes ++ p.0)) refl ((prelude-exact users (Some m)).law 0 (bytes ++ p.0)) (ends users (Some m) (bytes ++ p.0)) k in
      splits users (Some m) bytes ∙ ap split_of (s.only_more bytes (p.0, p.1, p.2, (w.0, w.1)))

pub more-is-unsettled : MoreIsUnsettled
more-is-unsettled users m bytes = (unsettled users m bytes, wanted users m bytes)

-- ---- as long as none was answered

request-more : (r : Read Asked) → split_request Version.V4 Method.NoAuth None r ≡ Split.More → r ≡ Read.Short
request-more (Read.Got a n rest) e = absurd (cc)
request-more Read.Short e = refl
request-more (Read.Wrong p b k) e = absurd (cc)

greeted-more : (users : List User) (r : Read (List ℕ)) → split_greeted users None r ≡ Split.More → (r ≡ Read.Short) ⊎ IsTrue (is_some (offered_by r))
greeted-more users (Read.Got o n rest) e = inr refl
greeted-more users Read.Short e = inl refl
greeted-more users (Read.Wrong p b k) e = absurd (cc)

waiting : (users : List User) (r : Read (List ℕ)) → (r ≡ Read.Short) ⊎ IsTrue (is_some (offered_by r)) → split_greeted users None r ≡ Split.More
waiting users (Read.Got o n rest) k = refl
waiting users Read.Short k = refl
waiting users (Read.Wrong p b kind) (inl e) = absurd (cc)
waiting users (Read.Wrong p b kind) (inr e) = absurd (cc)

not-greeted : (r : Read (List ℕ)) (p b : ℕ) (kind : BadKind) → r ≡ Read.Wrong p b kind → (r ≡ Read.Short) ⊎ IsTrue (is_some (offered_by r)) → ⊥
not-greeted r p b kind e (inl k) = let both : Read.Wrong p b kind ≡ Read.Short = sym e ∙ k in cc
not-greeted r p b kind e (inr k) = let both : false ≡ true = sym (ap (λ r. is_some (offered_by r)) e) ∙ k in cc

other-greeting : (b : ℕ) (bytes : List ℕ) → (b == 5) ≡ false → greeting 0 (b ∷ bytes) ≡ Read.Wrong 0 b BadKind.Version
other-greeting b bytes e = rw e refl

other-request : (b : ℕ) (bytes : List ℕ) → (b == 4) ≡ false → request4 0 (b ∷ bytes) ≡ Read.Wrong 0 b BadKind.Version
other-request b bytes e = rw e refl

not-four : (b : ℕ) → (b == 5) ≡ true → (b == 4) ≡ false
not-four b e = grind arith

module _ (users : List User) where
  by-byte : (b : ℕ) (bytes : List ℕ) (s t : Bool)
      → cond s (split_request Version.V4 Method.NoAuth None (request4 0 (b ∷ bytes))) (cond t (split_greeted users None (greeting 0 (b ∷ bytes))) (Split.Bad 0 b BadKind.Version)) ≡ Split.More
      → IsUnanswered (b ∷ bytes)
  by-byte b bytes true t e = inl (requests-stop.more (b ∷ bytes) (request-more (request4 0 (b ∷ bytes)) e))
  by-byte b bytes false true e = inr (greets (greeted-more users (greeting 0 (b ∷ bytes)) e))
    where
      greets : (greeting 0 (b ∷ bytes) ≡ Read.Short) ⊎ IsTrue (is_some (offered_by (greeting 0 (b ∷ bytes)))) → IsProperPrefix greeting (b ∷ bytes) ⊎ IsTrue (is_some (offered (b ∷ bytes)))
      greets (inl k) = inl (greetings-stop.more (b ∷ bytes) k)
      greets (inr k) = inr k
  by-byte b bytes false false e = absurd (cc)

  unanswered : (bytes : List ℕ) → split users None bytes ≡ Split.More → IsUnanswered bytes
  unanswered [] e = inl (requests-stop.more [] refl)
  unanswered (b ∷ bytes) e = by-byte b bytes (b == 4) (b == 5) e

  request-wanted : (bytes : List ℕ) → request4 0 bytes ≡ Read.Short → split users None bytes ≡ Split.More
  request-wanted [] k = refl
  request-wanted (b ∷ bytes) k = choice (b == 4) refl
    where
      choice : (s : Bool) → (b == 4) ≡ s
          → cond s (split_request Version.V4 Method.NoAuth None (request4 0 (b ∷ bytes))) (cond (b == 5) (split_greeted users None (greeting 0 (b ∷ bytes))) (Split.Bad 0 b BadKind.Version)) ≡ Split.More
      choice true e = ap (split_request Version.V4 Method.NoAuth None) k
      choice false e =
          let both : Read.Wrong 0 b BadKind.Version ≡ Read.Short = sym (other-request b bytes e) ∙ k in
          absurd (cc)

  greeting-wanted : (bytes : List ℕ) → (greeting 0 bytes ≡ Read.Short) ⊎ IsTrue (is_some (offered_by (greeting 0 bytes))) → split users None bytes ≡ Split.More
  greeting-wanted [] k = refl
  greeting-wanted (b ∷ bytes) k = choice (b == 5) refl
    where
      choice : (t : Bool) → (b == 5) ≡ t
          → cond (b == 4) (split_request Version.V4 Method.NoAuth None (request4 0 (b ∷ bytes))) (cond t (split_greeted users None (greeting 0 (b ∷ bytes))) (Split.Bad 0 b BadKind.Version)) ≡ Split.More
      choice true e =
          ap (λ s. cond s (split_request Version.V4 Method.NoAuth None (request4 0 (b ∷ bytes))) (split_greeted users None (greeting 0 (b ∷ bytes)))) (not-four b e)
          ∙ waiting users (greeting 0 (b ∷ bytes)) k
      choice false e = absurd (not-greeted (greeting 0 (b ∷ bytes)) 0 b BadKind.Version (other-greeting b bytes e) k)

  answerless : (bytes : List ℕ) → IsUnanswered bytes → split users None bytes ≡ Split.More
  answerless bytes (inl p) = request-wanted bytes (requests-stop.only_more bytes p)
  answerless bytes (inr (inl p)) = greeting-wanted bytes (inl (greetings-stop.only_more bytes p))
  answerless bytes (inr (inr k)) = greeting-wanted bytes (inr k)

pub more-is-unanswered : MoreIsUnanswered
more-is-unanswered users bytes = (unanswered users bytes, answerless users bytes)
