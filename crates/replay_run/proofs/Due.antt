-- Which kinds of calls are to fail, behind a line that says so of one more and behind calls that failed.
use Rattle.std.proofs.Common.{suc, ◌≡◌, ◌<◌, ◌∙◌, sym, ap, subst, refl, Bool, true, false, ◌||◌, not, cond, filter, Option, Some, None, List, [], ◌∷◌, ◌++◌, length, arith}
use Rattle.std.proofs.Math.Bool.{or-false, or-true}
use Rattle.std.proofs.lemmas.List.Folds.{list_any-append}
use Rattle.std.specs.Prelude.{Contains}
use Rattle.std.specs.List.{list_any}
use Rattle.net_ends.specs.declared.kinds.Kind.{Kind}
use Rattle.net_ends.specs.Faults.{with_kind, without}
use Rattle.socks_machine.specs.declared.script.CallKind.{CallKind}
use Rattle.socks_machine.specs.declared.world.Object.{Object}
use Rattle.socks_machine.specs.Equal.{object_eq}
use Rattle.socks_machine.specs.FailedCalls.{Failing}
use Rattle.socks_machine.specs.Script.{is_among, is_fault}
use Rattle.assoc_core.specs.Turns.{call_of}
use Rattle.replay_run.specs.Changes.{kind_of}
use Rattle.replay_run.specs.Mirrors.{due_on}

-- ---- failed calls

-- the call on the link of an object that failed, if one did
abbrev pub failed_on : Object → Option Kind → List Failing
failed_on x None = []
failed_on x (Some kind) = (x, call_of kind) ∷ []

-- those of the client's link and of the target's
abbrev pub failed_calls : Option Kind → Option Kind → List Failing
failed_calls c t = failed_on Object.Client c ++ failed_on Object.Target t

-- ---- one call

same-object : (x y : Object) → object_eq x y ≡ true → x ≡ y
same-object Object.Client Object.Client h = refl
same-object Object.Client Object.Target h = cc
same-object Object.Client Object.Door h = cc
same-object Object.Client Object.Port h = cc
same-object Object.Target Object.Client h = cc
same-object Object.Target Object.Target h = refl
same-object Object.Target Object.Door h = cc
same-object Object.Target Object.Port h = cc
same-object Object.Door Object.Client h = cc
same-object Object.Door Object.Target h = cc
same-object Object.Door Object.Door h = refl
same-object Object.Door Object.Port h = cc
same-object Object.Port Object.Client h = cc
same-object Object.Port Object.Target h = cc
same-object Object.Port Object.Door h = cc
same-object Object.Port Object.Port h = refl

-- the call that is asked for is that one
pub fault-is : (x : Object) (call : CallKind) (f : Failing) → is_fault x call f ≡ true → f ≡ (x, call)
fault-is x CallKind.Reading (y, CallKind.Reading) h = ap (λ (z : Object). let f : Failing = (z, CallKind.Reading) in f) (sym (same-object x y h))
fault-is x CallKind.Reading (y, CallKind.Writing) h = cc
fault-is x CallKind.Reading (y, CallKind.Shutting) h = cc
fault-is x CallKind.Writing (y, CallKind.Reading) h = cc
fault-is x CallKind.Writing (y, CallKind.Writing) h = ap (λ (z : Object). let f : Failing = (z, CallKind.Writing) in f) (sym (same-object x y h))
fault-is x CallKind.Writing (y, CallKind.Shutting) h = cc
fault-is x CallKind.Shutting (y, CallKind.Reading) h = cc
fault-is x CallKind.Shutting (y, CallKind.Writing) h = cc
fault-is x CallKind.Shutting (y, CallKind.Shutting) h = ap (λ (z : Object). let f : Failing = (z, CallKind.Shutting) in f) (sym (same-object x y h))

pub itself : (f : Failing) → is_fault f.0 f.1 f ≡ true
itself (Object.Client, CallKind.Reading) = refl
itself (Object.Client, CallKind.Writing) = refl
itself (Object.Client, CallKind.Shutting) = refl
itself (Object.Target, CallKind.Reading) = refl
itself (Object.Target, CallKind.Writing) = refl
itself (Object.Target, CallKind.Shutting) = refl
itself (Object.Door, CallKind.Reading) = refl
itself (Object.Door, CallKind.Writing) = refl
itself (Object.Door, CallKind.Shutting) = refl
itself (Object.Port, CallKind.Reading) = refl
itself (Object.Port, CallKind.Writing) = refl
itself (Object.Port, CallKind.Shutting) = refl

-- ---- behind a line

due-with : (x : Object) → object_eq x x ≡ true → (call : CallKind) (fs : List Failing) → list_any (is_fault x call) (fs ++ (x, call) ∷ []) ≡ true
due-with x same call fs = list_any-append (is_fault x call) fs ((x, call) ∷ [])
    ∙ (ap (λ b. list_any (is_fault x call) fs || (b || false)) (itself (x, call)) ∙ or-true (list_any (is_fault x call) fs))

due-beside : (x : Object) (call : CallKind) (f : Failing) (fs : List Failing) → is_fault x call f ≡ false → list_any (is_fault x call) fs ≡ list_any (is_fault x call) (fs ++ f ∷ [])
due-beside x call f fs other = sym (list_any-append (is_fault x call) fs (f ∷ [])
    ∙ (ap (λ b. list_any (is_fault x call) fs || (b || false)) other ∙ or-false (list_any (is_fault x call) fs)))

-- one more is to fail of the object that the line names
pub due-more : (x : Object) → object_eq x x ≡ true → (call : CallKind) (fs : List Failing) → with_kind (due_on x fs) (kind_of call) ≡ due_on x (fs ++ (x, call) ∷ [])
due-more x same CallKind.Reading fs = λ i. record {
  reads = sym (due-with x same CallKind.Reading fs) i;
  writes = due-beside x CallKind.Writing (x, CallKind.Reading) fs refl i;
  shuts = due-beside x CallKind.Shutting (x, CallKind.Reading) fs refl i;
}
due-more x same CallKind.Writing fs = λ i. record {
  reads = due-beside x CallKind.Reading (x, CallKind.Writing) fs refl i;
  writes = sym (due-with x same CallKind.Writing fs) i;
  shuts = due-beside x CallKind.Shutting (x, CallKind.Writing) fs refl i;
}
due-more x same CallKind.Shutting fs = λ i. record {
  reads = due-beside x CallKind.Reading (x, CallKind.Shutting) fs refl i;
  writes = due-beside x CallKind.Writing (x, CallKind.Shutting) fs refl i;
  shuts = sym (due-with x same CallKind.Shutting fs) i;
}

-- and as much as before of another
fault-of-other : (x y : Object) → object_eq x y ≡ false → (k call : CallKind) → is_fault x k (y, call) ≡ false
fault-of-other x y other CallKind.Reading CallKind.Reading = other
fault-of-other x y other CallKind.Reading CallKind.Writing = refl
fault-of-other x y other CallKind.Reading CallKind.Shutting = refl
fault-of-other x y other CallKind.Writing CallKind.Reading = refl
fault-of-other x y other CallKind.Writing CallKind.Writing = other
fault-of-other x y other CallKind.Writing CallKind.Shutting = refl
fault-of-other x y other CallKind.Shutting CallKind.Reading = refl
fault-of-other x y other CallKind.Shutting CallKind.Writing = refl
fault-of-other x y other CallKind.Shutting CallKind.Shutting = other

pub due-same : (x y : Object) → object_eq x y ≡ false → (call : CallKind) (fs : List Failing) → due_on x fs ≡ due_on x (fs ++ (y, call) ∷ [])
due-same x y other call fs = λ i. record {
  reads = due-beside x CallKind.Reading (y, call) fs (fault-of-other x y other CallKind.Reading call) i;
  writes = due-beside x CallKind.Writing (y, call) fs (fault-of-other x y other CallKind.Writing call) i;
  shuts = due-beside x CallKind.Shutting (y, call) fs (fault-of-other x y other CallKind.Shutting call) i;
}

-- ---- behind failed calls

any-kept : (p q : Failing → Bool) → ((f : Failing) → p f ≡ true → q f ≡ true) → (fs : List Failing) → list_any p (filter q fs) ≡ list_any p fs
any-kept p q h [] = refl
any-kept p q h (f ∷ fs) = by (p f) (q f) refl refl (any-kept p q h fs)
  where
    by : (a b : Bool) → p f ≡ a → q f ≡ b → list_any p (filter q fs) ≡ list_any p fs → list_any p (filter q (f ∷ fs)) ≡ list_any p (f ∷ fs)
    by a true is kept rest = ap (λ c. list_any p (cond c (f ∷ filter q fs) (filter q fs))) kept ∙ ap (λ c. p f || c) rest
    by false false is kept rest = ap (λ c. list_any p (cond c (f ∷ filter q fs) (filter q fs))) kept ∙ (rest ∙ sym (ap (λ c. c || list_any p fs) is))
    by true false is kept rest = let k : q f ≡ true = h f is in absurd (cc)

any-gone : (p q : Failing → Bool) → ((f : Failing) → p f ≡ true → q f ≡ false) → (fs : List Failing) → list_any p (filter q fs) ≡ false
any-gone p q h [] = refl
any-gone p q h (f ∷ fs) = by (p f) (q f) refl refl (any-gone p q h fs)
  where
    by : (a b : Bool) → p f ≡ a → q f ≡ b → list_any p (filter q fs) ≡ false → list_any p (filter q (f ∷ fs)) ≡ false
    by a false is kept rest = ap (λ c. list_any p (cond c (f ∷ filter q fs) (filter q fs))) kept ∙ rest
    by false true is kept rest = ap (λ c. list_any p (cond c (f ∷ filter q fs) (filter q fs))) kept ∙ (ap (λ c. c || list_any p (filter q fs)) is ∙ rest)
    by true true is kept rest = let k : q f ≡ false = h f is in absurd (cc)

-- a call that failed is not named any more, and the others are
left-gone : (x : Object) (call : CallKind) (used fs : List Failing) → list_any (is_fault x call) used ≡ true → list_any (is_fault x call) (filter (λ f. not (is_among used f)) fs) ≡ false
left-gone x call used fs h = any-gone (is_fault x call) (λ f. not (is_among used f)) (λ f is. ap (λ (z : Failing). not (is_among used z)) (fault-is x call f is) ∙ ap not h) fs

left-kept : (x : Object) (call : CallKind) (used fs : List Failing) → list_any (is_fault x call) used ≡ false → list_any (is_fault x call) (filter (λ f. not (is_among used f)) fs) ≡ list_any (is_fault x call) fs
left-kept x call used fs h = any-kept (is_fault x call) (λ f. not (is_among used f)) (λ f is. ap (λ (z : Failing). not (is_among used z)) (fault-is x call f is) ∙ ap not h) fs

due-left : (x : Object) → object_eq x x ≡ true → (failed : Option Kind) (used fs : List Failing) → ((call : CallKind) → list_any (is_fault x call) used ≡ list_any (is_fault x call) (failed_on x failed))
    → due_on x (filter (λ f. not (is_among used f)) fs) ≡ without (due_on x fs) failed
due-left x same None used fs h = λ i. record {
  reads = left-kept x CallKind.Reading used fs (h CallKind.Reading) i;
  writes = left-kept x CallKind.Writing used fs (h CallKind.Writing) i;
  shuts = left-kept x CallKind.Shutting used fs (h CallKind.Shutting) i;
}
due-left x same (Some Kind.Read) used fs h = λ i. record {
  reads = left-gone x CallKind.Reading used fs (h CallKind.Reading ∙ ap (λ b. b || false) same) i;
  writes = left-kept x CallKind.Writing used fs (h CallKind.Writing) i;
  shuts = left-kept x CallKind.Shutting used fs (h CallKind.Shutting) i;
}
due-left x same (Some Kind.Write) used fs h = λ i. record {
  reads = left-kept x CallKind.Reading used fs (h CallKind.Reading) i;
  writes = left-gone x CallKind.Writing used fs (h CallKind.Writing ∙ ap (λ b. b || false) same) i;
  shuts = left-kept x CallKind.Shutting used fs (h CallKind.Shutting) i;
}
due-left x same (Some Kind.Shut) used fs h = λ i. record {
  reads = left-kept x CallKind.Reading used fs (h CallKind.Reading) i;
  writes = left-kept x CallKind.Writing used fs (h CallKind.Writing) i;
  shuts = left-gone x CallKind.Shutting used fs (h CallKind.Shutting ∙ ap (λ b. b || false) same) i;
}

any-of-other : (x y : Object) → object_eq x y ≡ false → (call : CallKind) (failed : Option Kind) → list_any (is_fault x call) (failed_on y failed) ≡ false
any-of-other x y other call None = refl
any-of-other x y other call (Some kind) = ap (λ b. b || false) (fault-of-other x y other call (call_of kind))

pub due-left-c : (c t : Option Kind) (fs : List Failing) → due_on Object.Client (filter (λ f. not (is_among (failed_calls c t) f)) fs) ≡ without (due_on Object.Client fs) c
due-left-c c t fs = due-left Object.Client refl c (failed_calls c t) fs (λ call. list_any-append (is_fault Object.Client call) (failed_on Object.Client c) (failed_on Object.Target t)
    ∙ (ap (λ b. list_any (is_fault Object.Client call) (failed_on Object.Client c) || b) (any-of-other Object.Client Object.Target refl call t)
    ∙ or-false (list_any (is_fault Object.Client call) (failed_on Object.Client c))))

pub due-left-t : (c t : Option Kind) (fs : List Failing) → due_on Object.Target (filter (λ f. not (is_among (failed_calls c t) f)) fs) ≡ without (due_on Object.Target fs) t
due-left-t c t fs = due-left Object.Target refl t (failed_calls c t) fs (λ call. list_any-append (is_fault Object.Target call) (failed_on Object.Client c) (failed_on Object.Target t)
    ∙ ap (λ b. b || list_any (is_fault Object.Target call) (failed_on Object.Target t)) (any-of-other Object.Target Object.Client refl call c))
