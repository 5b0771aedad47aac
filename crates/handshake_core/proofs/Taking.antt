-- Bytes that are taken answer by answer.
use Rattle.std.proofs.Common.{ℕ, Bool, true, false, ◌≡◌, ◌==◌, ◌&&◌, if◌then◌else◌, Option, Some, None, option_map, List, [], ◌∷◌, ◌++◌, length, take, drop, refl, sym, subst, ap, ◌∙◌, append_assoc, arith}
use Rattle.std.proofs.lemmas.List.{append-nil, take-append-drop}
use Rattle.addr_pattern.specs.declared.front.BadKind.{BadKind}
use Rattle.socks_grammar.specs.declared.protocol.Method.{Method}
use Rattle.socks_grammar.specs.declared.user.User.{User}
use Rattle.socks_grammar.specs.Grammar.{Read, greeting}
use Rattle.socks_grammar.specs.Handshake.{Split, Request, split, split_greeted, offered_by, login_place}
use Rattle.socks_grammar.specs.Stable.{Extends, SplitExtends}
use Rattle.socks_grammar.proofs.GrammarLaws.{greeting-stable, split-extends}
use Rattle.socks_machine.specs.declared.cause.Cause.{Cause}
use Rattle.socks_machine.specs.Replies.{choose, login_reply}
use Rattle.handshake_core.specs.declared.fed.Fed.{Fed}
use Rattle.handshake_core.specs.declared.state.State.{State}
use Rattle.handshake_core.specs.declared.taken.Taken.{Taken}
use Rattle.handshake_core.specs.declared.request.Request.{Request as RequestIs}
use Rattle.handshake_core.specs.Answers.{Feeds, request_in}
use Rattle.handshake_core.specs.Due.{Client, Due, IsOpen, due, due_at, due_before, is_place, method_after}
use Rattle.handshake_core.specs.Standing.{client_of, bytes_of, stands}
use Rattle.handshake_core.specs.Taking.{refusal_of, Takes, IsAt}
use Rattle.handshake_core.proofs.Entering.{settled}

-- ---- the method

chosen-stays : (methods : List Method) (x y : Read (List ℕ)) (more : List ℕ) → Extends x more y → (x ≡ Read.Short → ⊥) → option_map (choose methods) (offered_by y) ≡ option_map (choose methods) (offered_by x)
chosen-stays methods (Read.Got o at rest) y more e some = ap (λ z. option_map (choose methods) (offered_by z)) e
chosen-stays methods Read.Short y more e some = absurd (some refl)
chosen-stays methods (Read.Wrong at byte kind) y more e some = ap (λ z. option_map (choose methods) (offered_by z)) e

by-version : (users : List User) (b : ℕ) (bs : List ℕ) (four five : Bool) → b == 4 ≡ four → b == 5 ≡ five → greeting 0 (b ∷ bs) ≡ Read.Short → split users None (b ∷ bs) ≡ Split.More
by-version users b bs true five e4 e5 h = absurd (let n : b ≡ 4 = grind (arith, e4) in let k : greeting 0 (4 ∷ bs) ≡ Read.Short = sym (ap (λ z. greeting 0 (z ∷ bs)) n) ∙ h in cc)
by-version users b bs false true e4 e5 h =
    let n : b ≡ 5 = grind (arith, e5) in
    ap (λ z. split users None (z ∷ bs)) n ∙ ap (split_greeted users None) (sym (ap (λ z. greeting 0 (z ∷ bs)) n) ∙ h)
by-version users b bs false false e4 e5 h = absurd (let k : greeting 0 (b ∷ bs) ≡ Read.Wrong 0 b BadKind.Version = rw e5 refl in cc)

-- a greeting that isn't whole has more to come
short-more : (users : List User) (bytes : List ℕ) → greeting 0 bytes ≡ Read.Short → split users None bytes ≡ Split.More
short-more users [] h = refl
short-more users (b ∷ bs) h = by-version users b bs (b == 4) (b == 5) refl refl h

-- a method that was answered stays the method
pub method-on : (methods : List Method) (method : Option ℕ) (bytes more : List ℕ) → method_after methods (method_after methods method bytes) (bytes ++ more) ≡ method_after methods method (bytes ++ more)
method-on methods (Some m) bytes more = refl
method-on methods None bytes more = by (greeting 0 bytes) refl
  where
    by : (x : Read (List ℕ)) → greeting 0 bytes ≡ x → method_after methods (option_map (choose methods) (offered_by (greeting 0 bytes))) (bytes ++ more) ≡ method_after methods None (bytes ++ more)
    by (Read.Got o at rest) e =
        let y : greeting 0 (bytes ++ more) ≡ Read.Got o at (rest ++ more) = subst (λ z. Extends z more (greeting 0 (bytes ++ more))) e (greeting-stable.law 0 bytes more) in
        ap (λ z. method_after methods (option_map (choose methods) (offered_by z)) (bytes ++ more)) e ∙ sym (ap (λ z. option_map (choose methods) (offered_by z)) y)
    by Read.Short e = ap (λ z. method_after methods (option_map (choose methods) (offered_by z)) (bytes ++ more)) e
    by (Read.Wrong at byte kind) e = ap (λ z. method_after methods (option_map (choose methods) (offered_by z)) (bytes ++ more)) e

-- .. and where the input is more than a beginning, so does none
pub method-stays : (methods : List Method) (users : List User) (method : Option ℕ) (bytes more : List ℕ) → (split users (method_after methods method bytes) bytes ≡ Split.More → ⊥)
    → method_after methods method (bytes ++ more) ≡ method_after methods method bytes
method-stays methods users (Some m) bytes more some = refl
method-stays methods users None bytes more some = chosen-stays methods (greeting 0 bytes) (greeting 0 (bytes ++ more)) more (greeting-stable.law 0 bytes more) (λ e.
    some (ap (λ z. split users (option_map (choose methods) (offered_by z)) bytes) e ∙ short-more users bytes e))

-- ---- what was due

said-asks : (t : Bool) (say : List ℕ) (q : Request) (n : ℕ) → (if t then Due.Say say else Due.Nothing) ≡ Due.Ask q n → ⊥
said-asks true say q n h = cc
said-asks false say q n h = cc

before-asks : (before after : Option ℕ) (bytes : List ℕ) (q : Request) (n : ℕ) → due_before before after bytes ≡ Due.Ask q n → ⊥
before-asks before None bytes q n h = cc
before-asks None (Some m) bytes q n h = cc
before-asks (Some b) (Some m) bytes q n h = said-asks (m == 2 && is_place (login_place bytes) (length bytes)) (login_reply true) q n h

due-asks : (before after : Option ℕ) (bytes : List ℕ) (s : Split) (q : Request) (n : ℕ) → due_at before after bytes s ≡ Due.Ask q n → s ≡ Split.Whole q n
due-asks before after bytes (Split.Whole r k) q n h = cc
due-asks before after bytes (Split.Bad at byte kind) q n h = absurd (cc)
due-asks before after bytes Split.NoMethod q n h = absurd (cc)
due-asks before after bytes Split.LoginFailed q n h = absurd (cc)
due-asks before after bytes Split.More q n h = absurd (before-asks before after bytes q n h)

said-refuses : (t : Bool) (say : List ℕ) (cause : Cause) (refused : List ℕ) → (if t then Due.Say say else Due.Nothing) ≡ Due.Bad cause refused → ⊥
said-refuses true say cause refused h = cc
said-refuses false say cause refused h = cc

before-refuses : (before after : Option ℕ) (bytes : List ℕ) (cause : Cause) (say : List ℕ) → due_before before after bytes ≡ Due.Bad cause say → ⊥
before-refuses before None bytes cause say h = cc
before-refuses None (Some m) bytes cause say h = cc
before-refuses (Some b) (Some m) bytes cause say h = said-refuses (m == 2 && is_place (login_place bytes) (length bytes)) (login_reply true) cause say h

due-refuses : (before after : Option ℕ) (bytes : List ℕ) (s : Split) (cause : Cause) (say : List ℕ) → due_at before after bytes s ≡ Due.Bad cause say → refusal_of s ≡ Some cause
due-refuses before after bytes (Split.Whole r k) cause say h = absurd (cc)
due-refuses before after bytes (Split.Bad at byte kind) cause say h = cc
due-refuses before after bytes Split.NoMethod cause say h = cc
due-refuses before after bytes Split.LoginFailed cause say h = cc
due-refuses before after bytes Split.More cause say h = absurd (before-refuses before after bytes cause say h)

whole-stays : (s s' : Split) (q : Request) (n : ℕ) → SplitExtends s s' → s ≡ Split.Whole q n → s' ≡ Split.Whole q n
whole-stays (Split.Whole r k) s' q n e h = e ∙ h
whole-stays (Split.Bad at byte kind) s' q n e h = absurd (cc)
whole-stays Split.NoMethod s' q n e h = absurd (cc)
whole-stays Split.LoginFailed s' q n e h = absurd (cc)
whole-stays Split.More s' q n e h = absurd (cc)

refusal-stays : (s s' : Split) (cause : Cause) → SplitExtends s s' → refusal_of s ≡ Some cause → refusal_of s' ≡ Some cause
refusal-stays (Split.Whole r k) s' cause e h = absurd (cc)
refusal-stays (Split.Bad at byte kind) s' cause e h = ap refusal_of e ∙ h
refusal-stays Split.NoMethod s' cause e h = ap refusal_of e ∙ h
refusal-stays Split.LoginFailed s' cause e h = ap refusal_of e ∙ h
refusal-stays Split.More s' cause e h = absurd (cc)

whole-is-more : (s : Split) (q : Request) (n : ℕ) → s ≡ Split.Whole q n → s ≡ Split.More → ⊥
whole-is-more s q n h k = cc

refusal-is-more : (s : Split) (cause : Cause) → refusal_of s ≡ Some cause → s ≡ Split.More → ⊥
refusal-is-more s cause h k = let e : refusal_of s ≡ None = ap refusal_of k in cc

-- ---- part by part

from-state : (methods : List Method) (users : List User) (s : State) (input : List ℕ) → stands s ≡ true → IsOpen users (client_of s) → IsAt methods users (client_of s) input input (client_of s)
from-state methods users s input h o = record {
  part = [];
  input' = refl;
  bytes = sym (append-nil (bytes_of s));
  method = sym (ap (method_after methods s.method) (append-nil (bytes_of s)) ∙ settled methods users s h o);
  open' = o;
}

pub at-start : (methods : List Method) (users : List User) (s : State) (old : Client) (input : List ℕ) → stands s ≡ true → client_of s ≡ old → IsOpen users old → IsAt methods users old input input old
at-start methods users s old input h is o = subst (λ (c : Client). IsAt methods users c input input c) is (from-state methods users s input h (subst (IsOpen users) (sym is) o))

-- the bytes that were taken with an answer
joins : (old bytes part taken rest input now : List ℕ) → now ≡ bytes ++ taken → bytes ≡ old ++ part → input ≡ part ++ (taken ++ rest) → (now ≡ old ++ (part ++ taken)) × (input ≡ (part ++ taken) ++ rest)
joins old bytes part taken rest input now e f g = (e ∙ (ap (λ z. z ++ taken) f ∙ append_assoc old part taken), g ∙ sym (append_assoc part taken rest))

joined : (methods : List Method) (users : List User) (old : Client) (input rest : List ℕ) (now new : Client) (n : ℕ) (fed : Fed) (h : IsAt methods users old input rest now) → Feeds methods users now rest n fed new
    → (new.bytes ≡ old.bytes ++ (h.part ++ take n rest)) × (input ≡ (h.part ++ take n rest) ++ drop n rest)
joined methods users old input rest now new n fed h f =
    joins old.bytes now.bytes h.part (take n rest) (drop n rest) input new.bytes f.bytes h.bytes (h.input' ∙ ap (λ z. h.part ++ z) (sym (take-append-drop n rest)))

method-now : (methods : List Method) (users : List User) (old : Client) (input rest : List ℕ) (now new : Client) (n : ℕ) (fed : Fed) (h : IsAt methods users old input rest now) → Feeds methods users now rest n fed new
    → new.method ≡ method_after methods old.method (old.bytes ++ (h.part ++ take n rest))
method-now methods users old input rest now new n fed h f =
    f.method
    ∙ ((λ i. method_after methods (h.method i) (((joined methods users old input rest now new n fed h f).0 ∙ sym (append_assoc old.bytes h.part (take n rest))) i))
    ∙ (method-on methods old.method (old.bytes ++ h.part) (take n rest)
    ∙ ap (method_after methods old.method) (append_assoc old.bytes h.part (take n rest))))

pub at-next : (methods : List Method) (users : List User) (old : Client) (input rest rest' : List ℕ) (now new : Client) (n : ℕ) (fed : Fed) → IsAt methods users old input rest now → Feeds methods users now rest n fed new
    → rest' ≡ drop n rest → IsOpen users new → IsAt methods users old input rest' new
at-next methods users old input rest rest' now new n fed h f e o = record {
  part = h.part ++ take n rest;
  input' = (joined methods users old input rest now new n fed h f).1 ∙ ap (λ z. (h.part ++ take n rest) ++ z) (sym e);
  bytes = (joined methods users old input rest now new n fed h f).0;
  method = method-now methods users old input rest now new n fed h f;
  open' = o;
}

pub at-end : (methods : List Method) (users : List User) (old : Client) (input rest : List ℕ) (now : Client) → IsAt methods users old input rest now → rest ≡ [] → Takes methods users old input Taken.Open now
at-end methods users old input rest now h none = record {
  method = h.method ∙ ap (λ z. method_after methods old.method (old.bytes ++ z)) (sym all);
  is = (h.bytes ∙ ap (λ z. old.bytes ++ z) (sym all), h.open');
}
  where
    all : input ≡ h.part
    all = h.input' ∙ (ap (λ z. h.part ++ z) none ∙ append-nil h.part)

-- what was due behind the part that was taken last
due-then : (methods : List Method) (users : List User) (now new : Client) (rest : List ℕ) (n : ℕ) (fed : Fed) → Feeds methods users now rest n fed new
    → due methods users now.method (now.bytes ++ take n rest) ≡ due_at now.method new.method new.bytes (split users new.method new.bytes)
due-then methods users now new rest n fed f =
    ap (due methods users now.method) (sym f.bytes) ∙ (λ i. due_at now.method (sym f.method i) new.bytes (split users (sym f.method i) new.bytes))

whole-input : (methods : List Method) (users : List User) (old : Client) (input rest : List ℕ) (now new : Client) (n : ℕ) (fed : Fed) (h : IsAt methods users old input rest now) → Feeds methods users now rest n fed new
    → new.bytes ++ drop n rest ≡ old.bytes ++ input
whole-input methods users old input rest now new n fed h f =
    ap (λ z. z ++ drop n rest) (joined methods users old input rest now new n fed h f).0
    ∙ (append_assoc old.bytes (h.part ++ take n rest) (drop n rest) ∙ ap (λ z. old.bytes ++ z) (sym (joined methods users old input rest now new n fed h f).1))

method-all : (methods : List Method) (users : List User) (old : Client) (input rest : List ℕ) (now new : Client) (n : ℕ) (fed : Fed) (h : IsAt methods users old input rest now) → Feeds methods users now rest n fed new
    → (split users new.method new.bytes ≡ Split.More → ⊥) → new.method ≡ method_after methods old.method (old.bytes ++ input)
method-all methods users old input rest now new n fed h f some =
    is ∙ (sym (method-stays methods users old.method new.bytes (drop n rest) (λ e. some (ap (λ m. split users m new.bytes) is ∙ e)))
    ∙ ap (method_after methods old.method) (whole-input methods users old input rest now new n fed h f))
  where
    is : new.method ≡ method_after methods old.method new.bytes
    is = method-now methods users old input rest now new n fed h f ∙ ap (method_after methods old.method) (sym (joined methods users old input rest now new n fed h f).0)

pub at-request : (methods : List Method) (users : List User) (old : Client) (input rest : List ℕ) (now new : Client) (n : ℕ) (q : RequestIs) → IsAt methods users old input rest now → Feeds methods users now rest n (Fed.Ask q) new
    → Takes methods users old input (Taken.Asked q) new
at-request methods users old input rest now new n q h f = record {
  method = method-all methods users old input rest now new n (Fed.Ask q) h f (whole-is-more (split users new.method new.bytes) (request_in q) q.len asks);
  is = subst (λ z. split users new.method z ≡ Split.Whole (request_in q) q.len) (whole-input methods users old input rest now new n (Fed.Ask q) h f)
      (whole-stays (split users new.method new.bytes) (split users new.method (new.bytes ++ drop n rest)) (request_in q) q.len (split-extends users new.method new.bytes (drop n rest)) asks);
}
  where
    asks : split users new.method new.bytes ≡ Split.Whole (request_in q) q.len
    asks = due-asks now.method new.method new.bytes (split users new.method new.bytes) (request_in q) q.len (sym (due-then methods users now new rest n (Fed.Ask q) f) ∙ f.last.1)

pub at-refusal : (methods : List Method) (users : List User) (old : Client) (input rest : List ℕ) (now new : Client) (n : ℕ) (cause : Cause) (say : List ℕ) → IsAt methods users old input rest now → Feeds methods users now rest n (Fed.Bad cause say) new
    → Takes methods users old input (Taken.Refused cause) new
at-refusal methods users old input rest now new n cause say h f = record {
  method = method-all methods users old input rest now new n (Fed.Bad cause say) h f (refusal-is-more (split users new.method new.bytes) cause refuses);
  is = subst (λ z. refusal_of (split users new.method z) ≡ Some cause) (whole-input methods users old input rest now new n (Fed.Bad cause say) h f)
      (refusal-stays (split users new.method new.bytes) (split users new.method (new.bytes ++ drop n rest)) cause (split-extends users new.method new.bytes (drop n rest)) refuses);
}
  where
    refuses : refusal_of (split users new.method new.bytes) ≡ Some cause
    refuses = due-refuses now.method new.method new.bytes (split users new.method new.bytes) cause say (sym (due-then methods users now new rest n (Fed.Bad cause say) f) ∙ f.last.1)
