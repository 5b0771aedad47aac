-- What a handshake that takes an input byte by byte comes to.
use Rattle.std.proofs.Common.{ℕ, Bool, true, false, ◌≡◌, ◌==◌, ◌+◌, Option, Some, None, List, [], ◌∷◌, ◌++◌, take, drop, refl, sym, ap, ◌∙◌, is_some}
use Rattle.std.proofs.lemmas.List.{take-append-drop}
use Rattle.socks_grammar.specs.declared.protocol.Method.{Method}
use Rattle.socks_grammar.specs.declared.user.User.{User}
use Rattle.socks_grammar.specs.Grammar.{Read, greeting}
use Rattle.socks_grammar.specs.Handshake.{Split, split, split_greeted}
use Rattle.socks_grammar.specs.Stable.{SplitExtends}
use Rattle.socks_grammar.proofs.GrammarLaws.{split-extends}
use Rattle.handshake_core.specs.declared.taken.Taken.{Taken}
use Rattle.handshake_core.specs.Due.{Client, IsOpen, method_after}
use Rattle.handshake_core.specs.Taking.{Takes, IsTaken, refusal_of}
use Rattle.handshake_core.proofs.Taking.{method-on}
use Rattle.measure.specs.Asks.{is_whole, asks}

-- ---- what a first part of an input decides

unanswered : (users : List User) (method : Option ℕ) (x : Read (List ℕ)) → (split_greeted users None x ≡ Split.More → ⊥) → split_greeted users method x ≡ split_greeted users None x
unanswered users method (Read.Got o at rest) some = absurd (some refl)
unanswered users method Read.Short some = absurd (some refl)
unanswered users method (Read.Wrong at byte kind) some = refl

-- what is decided without a method is decided by any
any-method : (users : List User) (method : Option ℕ) (c : List ℕ) → (split users None c ≡ Split.More → ⊥) → split users method c ≡ split users None c
any-method users method [] some = refl
any-method users method (b ∷ bytes) some = by (b == 4) (b == 5) refl refl
  where
    greeted : b == 4 ≡ false → b == 5 ≡ true → (m : Option ℕ) → split users m (b ∷ bytes) ≡ split_greeted users m (greeting 0 (b ∷ bytes))
    greeted e4 e5 m = rw (e4, e5) refl

    by : (four five : Bool) → b == 4 ≡ four → b == 5 ≡ five → split users method (b ∷ bytes) ≡ split users None (b ∷ bytes)
    by true five e4 e5 = rw e4 refl
    by false true e4 e5 = greeted e4 e5 method ∙ (unanswered users method (greeting 0 (b ∷ bytes)) (λ e. some (greeted e4 e5 None ∙ e)) ∙ sym (greeted e4 e5 None))
    by false false e4 e5 = rw (e4, e5) refl

stays-same : (s s' : Split) → SplitExtends s s' → (s ≡ Split.More → ⊥) → s' ≡ s
stays-same (Split.Whole q n) s' e some = e
stays-same (Split.Bad at byte kind) s' e some = e
stays-same Split.NoMethod s' e some = e
stays-same Split.LoginFailed s' e some = e
stays-same Split.More s' e some = absurd (some refl)

abbrev split_with : List Method → List User → List ℕ → Split
split_with methods users bytes = split users (method_after methods None bytes) bytes

-- an input is what its first part is, where that is more than a beginning
decided-by : (methods : List Method) (users : List User) (part rest : List ℕ) → (split_with methods users part ≡ Split.More → ⊥) → split_with methods users (part ++ rest) ≡ split_with methods users part
decided-by methods users part rest some = by (method_after methods None part) refl
  where
    whole : Option ℕ
    whole = method_after methods None (part ++ rest)

    extends : (m : Option ℕ) → (split users m part ≡ Split.More → ⊥) → split users m (part ++ rest) ≡ split users m part
    extends m = stays-same (split users m part) (split users m (part ++ rest)) (split-extends users m part rest)

    by : (m : Option ℕ) → method_after methods None part ≡ m → split users whole (part ++ rest) ≡ split_with methods users part
    by (Some m) e =
        let same : whole ≡ Some m = sym (method-on methods None part rest) ∙ ap (λ z. method_after methods z (part ++ rest)) e in
        ap (λ z. split users z (part ++ rest)) same ∙ (extends (Some m) (λ k. some (ap (λ z. split users z part) e ∙ k)) ∙ sym (ap (λ z. split users z part) e))
    by None e =
        let none : split users None part ≡ Split.More → ⊥ = λ k. some (ap (λ z. split users z part) e ∙ k) in
        extends whole (λ k. none (sym (any-method users whole part none) ∙ k)) ∙ (any-method users whole part none ∙ sym (ap (λ z. split users z part) e))

-- ---- byte by byte

-- a client that has sent so many of the bytes, and may send more
pub record IsSoFar (methods : List Method) (users : List User) (bytes : List ℕ) (n : ℕ) (c : Client) : Type 0 where
  pub open' : IsOpen users c
  pub bytes' : c.bytes ≡ take n bytes
  pub method : c.method ≡ method_after methods None (take n bytes)

pub at-start : (methods : List Method) (users : List User) (bytes : List ℕ) → IsSoFar methods users bytes 0 (record { bytes = []; method = None; over = false })
at-start methods users bytes = record { open' = (refl, refl); bytes' = refl; method = refl }

-- the part that is taken with the next byte
method-next : (methods : List Method) (users : List User) (bytes part : List ℕ) (n b : ℕ) (old : Client) (m : Option ℕ) → IsSoFar methods users bytes n old → take n bytes ++ b ∷ [] ≡ part
    → m ≡ method_after methods old.method (old.bytes ++ b ∷ []) → m ≡ method_after methods None part
method-next methods users bytes part n b old m h next e =
    e ∙ ((λ i. method_after methods (h.method i) (h.bytes' i ++ b ∷ [])) ∙ (method-on methods None (take n bytes) (b ∷ []) ∙ ap (method_after methods None) next))

pub at-next : (methods : List Method) (users : List User) (bytes : List ℕ) (n b : ℕ) (old new : Client) → IsSoFar methods users bytes n old → take n bytes ++ b ∷ [] ≡ take (n + 1) bytes
    → Takes methods users old (b ∷ []) Taken.Open new → IsSoFar methods users bytes (n + 1) new
at-next methods users bytes n b old new h next k = record {
  open' = k.is.1;
  bytes' = k.is.0 ∙ (ap (λ z. z ++ b ∷ []) h.bytes' ∙ next);
  method = method-next methods users bytes (take (n + 1) bytes) n b old new.method h next k.method;
}

split-next : (methods : List Method) (users : List User) (bytes part : List ℕ) (n b : ℕ) (old new : Client) (taken : Taken) → IsSoFar methods users bytes n old → take n bytes ++ b ∷ [] ≡ part
    → Takes methods users old (b ∷ []) taken new → split users new.method (old.bytes ++ b ∷ []) ≡ split_with methods users part
split-next methods users bytes part n b old new taken h next k =
    λ i. split users (method-next methods users bytes part n b old new.method h next k.method i) ((ap (λ z. z ++ b ∷ []) h.bytes' ∙ next) i)

from-part : (methods : List Method) (users : List User) (bytes : List ℕ) (n : ℕ) (s : Split) → s ≡ split_with methods users (take n bytes) → (s ≡ Split.More → ⊥) → asks methods users bytes ≡ is_whole s
from-part methods users bytes n s is some =
    ap (λ z. is_whole (split_with methods users z)) (sym (take-append-drop n bytes))
    ∙ (ap is_whole (decided-by methods users (take n bytes) (drop n bytes) (λ e. some (is ∙ e))) ∙ ap is_whole (sym is))

abbrev pub is_asked : Taken → Bool
is_asked (Taken.Asked q) = true
is_asked _ = false

-- what a handshake ends with is what the input is
abbrev EndsWith : Taken → Split → Type 0
EndsWith taken s = (s ≡ Split.More → ⊥) × (is_whole s ≡ is_asked taken)

whole-ends : (s : Split) → is_whole s ≡ true → s ≡ Split.More → ⊥
whole-ends (Split.Whole q n) e k = cc
whole-ends (Split.Bad at byte kind) e k = cc
whole-ends Split.NoMethod e k = cc
whole-ends Split.LoginFailed e k = cc
whole-ends Split.More e k = cc

refusal-ends : (s : Split) → is_some (refusal_of s) ≡ true → (s ≡ Split.More → ⊥) × (is_whole s ≡ false)
refusal-ends (Split.Whole q n) e = absurd (cc)
refusal-ends (Split.Bad at byte kind) e = (λ k. cc, refl)
refusal-ends Split.NoMethod e = (λ k. cc, refl)
refusal-ends Split.LoginFailed e = (λ k. cc, refl)
refusal-ends Split.More e = absurd (cc)

ends-as : (users : List User) (new : Client) (bytes : List ℕ) (taken : Taken) → (taken ≡ Taken.Open → ⊥) → IsTaken users new bytes taken → EndsWith taken (split users new.method bytes)
ends-as users new bytes Taken.Open some h = absurd (some refl)
ends-as users new bytes (Taken.Asked q) some h = (whole-ends (split users new.method bytes) (ap is_whole h), ap is_whole h)
ends-as users new bytes (Taken.Refused cause) some h = refusal-ends (split users new.method bytes) (ap is_some h)

pub at-answer : (methods : List Method) (users : List User) (bytes : List ℕ) (n b : ℕ) (old new : Client) (taken : Taken) → (taken ≡ Taken.Open → ⊥) → IsSoFar methods users bytes n old → take n bytes ++ b ∷ [] ≡ take (n + 1) bytes
    → Takes methods users old (b ∷ []) taken new → asks methods users bytes ≡ is_asked taken
at-answer methods users bytes n b old new taken some h next k =
    let e = ends-as users new (old.bytes ++ b ∷ []) taken some k.is in
    from-part methods users bytes (n + 1) (split users new.method (old.bytes ++ b ∷ [])) (split-next methods users bytes (take (n + 1) bytes) n b old new taken h next k) e.0 ∙ e.1

-- no request has come of all bytes
pub at-end : (methods : List Method) (users : List User) (bytes : List ℕ) (n : ℕ) (c : Client) → IsSoFar methods users bytes n c → take n bytes ≡ bytes → asks methods users bytes ≡ false
at-end methods users bytes n c h all =
    ap is_whole ((λ i. split users (method_after methods None (sym all i)) (sym all i)) ∙ ((λ i. split users (sym h.method i) (sym h.bytes' i)) ∙ h.open'.1))
