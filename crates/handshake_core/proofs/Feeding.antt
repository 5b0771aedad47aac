-- The bytes of a piece, one by one.
use Rattle.std.proofs.Common.{ℕ, Bool, true, false, nat_le, ◌≡◌, ◌<◌, ◌≤◌, ◌+◌, Option, Some, None, option_map, List, [], ◌∷◌, ◌++◌, length, take, get_or, refl, sym, subst, ap, ◌∙◌, append_assoc, inl, inr, arith}
use Rattle.std.specs.Prelude.{◌⊎◌}
use Rattle.std.proofs.lemmas.Bool.Decides.{nat_tests}
use Rattle.std.proofs.lemmas.List.{append-nil, take_more}
use Rattle.socks_grammar.specs.declared.protocol.Method.{Method}
use Rattle.socks_grammar.specs.declared.user.User.{User}
use Rattle.socks_grammar.specs.Handshake.{Split, split, offered}
use Rattle.socks_machine.specs.Replies.{choose}
use Rattle.handshake_core.specs.declared.fed.Fed.{Fed}
use Rattle.handshake_core.specs.declared.state.State.{State}
use Rattle.handshake_core.specs.Answers.{Feeds, IsDue, IsFirstDue, due_after}
use Rattle.handshake_core.specs.Due.{Client, Due, IsOpen, due, due_at, method_after}
use Rattle.handshake_core.specs.Standing.{bytes_of, client_of, stands, HearsByte, IsSoFar}
use Rattle.handshake_core.proofs.Entering.{settled}

pub so-far-start : (methods : List Method) (users : List User) (s : State) (input : List ℕ) → stands s ≡ true → IsOpen users (client_of s) → IsSoFar methods users (client_of s) input 0 s
so-far-start methods users s input h o = record { stands' = h; open' = o; bytes = sym (append-nil (bytes_of s)); method' = refl; before = λ k a b. absurd (omega (arith, a, b)) }

never : (k : ℕ) (c : List ℕ) (x : Split) → due_at None (Some k) c x ≡ Due.Nothing → ⊥
never k c (Split.Whole r n) h = cc
never k c (Split.Bad at byte kind) h = cc
never k c Split.NoMethod h = cc
never k c Split.LoginFailed h = cc
never k c Split.More h = cc

none-chosen : (methods : List Method) (users : List User) (c : List ℕ) (o : Option (List ℕ)) → due_at None (option_map (choose methods) o) c (split users (option_map (choose methods) o) c) ≡ Due.Nothing → option_map (choose methods) o ≡ None
none-chosen methods users c None h = refl
none-chosen methods users c (Some o) h = absurd (never (choose methods o) c (split users (Some (choose methods o)) c) h)

-- where nothing is due no method is answered
still : (methods : List Method) (users : List User) (m : Option ℕ) (c : List ℕ) → due methods users m c ≡ Due.Nothing → method_after methods m c ≡ m
still methods users None c h = none-chosen methods users c (offered c) h
still methods users (Some m) c h = refl

one-more : (old : Client) (input : List ℕ) (i : ℕ) (xs : List ℕ) → i < length input → xs ≡ old.bytes ++ take i input → xs ++ get_or input i 0 ∷ [] ≡ old.bytes ++ take (i + 1) input
one-more old input i xs l e =
    ap (λ (x : List ℕ). x ++ get_or input i 0 ∷ []) e ∙ (append_assoc old.bytes (take i input) (get_or input i 0 ∷ []) ∙ ap (λ (x : List ℕ). old.bytes ++ x) (sym (take_more input i 0 l)))

due-now : (methods : List Method) (users : List User) (old : Client) (input : List ℕ) (i : ℕ) (s new : State) → IsSoFar methods users old input i s → bytes_of new ≡ old.bytes ++ take (i + 1) input
    → due methods users s.method (bytes_of new) ≡ due_after methods users old input (i + 1)
due-now methods users old input i s new h b = ap (λ (m : Option ℕ). due methods users m (bytes_of new)) h.method' ∙ ap (due methods users old.method) b

order-by : (t : Bool) (k i : ℕ) → t ≡ nat_le k i → k ≤ i + 1 → (k ≤ i) ⊎ (k ≡ i + 1)
order-by true k i e h = inl (grind (arith, nat_tests, e))
order-by false k i e h = inr (grind (arith, nat_tests, e, h))

split-order : (k i : ℕ) → k ≤ i + 1 → (k ≤ i) ⊎ (k ≡ i + 1)
split-order k i h = order-by (nat_le k i) k i refl h

pub so-far-more : (methods : List Method) (users : List User) (old : Client) (input : List ℕ) (i : ℕ) (s new : State) → IsSoFar methods users old input i s → i < length input
    → HearsByte methods users s (get_or input i 0) new Fed.Need → IsSoFar methods users old input (i + 1) new
so-far-more methods users old input i s new h l b =
    let c : bytes_of new ≡ old.bytes ++ take (i + 1) input = b.bytes ∙ one-more old input i (bytes_of s) l h.bytes in
    let d : due_after methods users old input (i + 1) ≡ Due.Nothing = sym (due-now methods users old input i s new h c) ∙ b.answer in
    record {
      stands' = b.stands';
      open' = b.goes_on;
      bytes = c;
      method' = b.method' ∙ (still methods users s.method (bytes_of new) b.answer ∙ h.method');
      before = λ k a e. elim (split-order k i e) [ inl x ↦ h.before k a x | inr x ↦ ap (due_after methods users old input) x ∙ d ];
    }

first-due : (methods : List Method) (users : List User) (old : Client) (input : List ℕ) (n : ℕ) (fed : Fed) → (fed ≡ Fed.Need → ⊥) → 0 < n → IsDue fed (due_after methods users old input n) → IsFirstDue methods users old input n fed
first-due methods users old input n Fed.Need o l d = absurd (o refl)
first-due methods users old input n (Fed.Say say) o l d = (l, d)
first-due methods users old input n (Fed.Ask request) o l d = (l, d)
first-due methods users old input n (Fed.Bad cause say) o l d = (l, d)

pub feeds-here : (methods : List Method) (users : List User) (old : Client) (input : List ℕ) (i : ℕ) (s new : State) (fed : Fed) → IsSoFar methods users old input i s → i < length input
    → HearsByte methods users s (get_or input i 0) new fed → (fed ≡ Fed.Need → ⊥) → Feeds methods users old input (i + 1) fed (client_of new)
feeds-here methods users old input i s new fed h l b o =
    let c : bytes_of new ≡ old.bytes ++ take (i + 1) input = b.bytes ∙ one-more old input i (bytes_of s) l h.bytes in
    record {
      took = omega (arith, l);
      bytes = c;
      method = b.method' ∙ ap (λ (m : Option ℕ). method_after methods m (bytes_of new)) h.method';
      before = λ k a e. h.before k a (omega (arith, e));
      last = first-due methods users old input (i + 1) fed o (omega arith) (subst (IsDue fed) (due-now methods users old input i s new h c) b.answer);
      goes_on = b.goes_on;
    }

pub feeds-all : (methods : List Method) (users : List User) (old : Client) (input : List ℕ) (i : ℕ) (s : State) → IsSoFar methods users old input i s → i ≡ length input → Feeds methods users old input (length input) Fed.Need (client_of s)
feeds-all methods users old input i s h e = record {
  took = omega arith;
  bytes = h.bytes ∙ ap (λ (j : ℕ). old.bytes ++ take j input) e;
  method = sym (settled methods users s h.stands' h.open') ∙ ap (λ (m : Option ℕ). method_after methods m (bytes_of s)) h.method';
  before = λ k a b. h.before k a (omega (arith, b, e));
  last = (refl, λ l. h.before (length input) l (omega (arith, e)));
  goes_on = h.open';
}
