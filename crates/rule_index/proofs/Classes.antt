-- Classes that are told the same are the same.
use Rattle.std.proofs.Common.{ℕ, ◌≡◌, ◌<◌, ◌+◌, ◌||◌, Bool, true, false, List, [], ◌∷◌, Some, suc, refl, sym, ap, ◌∙◌, subst, arith}
use Rattle.std.proofs.lemmas.Bool.{false≢true, eqb-true, eq-eqb, and_parts, and_from}
use Rattle.std.specs.List.{slice_get, list_any}
use mathlib.Core.Logic.{dite}
use native.Mathlib.Decide.{ℕ_discrete}
use Rattle.conf_types.specs.declared.rule.SocksRule.{SocksRule}
use Rattle.rule_index.specs.declared.class.HostClass.{HostClass}
use Rattle.rule_index.specs.declared.class.Class.{Class}
use Rattle.rule_index.specs.Classes.{host_class_eq, bool_eq, class_eq, class_of}
use Rattle.rule_index.proofs.Places.{one_at}

same_host : (a b : HostClass) → host_class_eq a b ≡ true → a ≡ b
same_host HostClass.Every HostClass.Every h = refl
same_host (HostClass.V4 a) (HostClass.V4 b) h = ap (λ (bits : ℕ). HostClass.V4 bits) (eqb-true a b h)
same_host (HostClass.V6 a) (HostClass.V6 b) h = ap (λ (bits : ℕ). HostClass.V6 bits) (eqb-true a b h)
same_host HostClass.Every (HostClass.V4 b) h = absurd (false≢true h)
same_host HostClass.Every (HostClass.V6 b) h = absurd (false≢true h)
same_host (HostClass.V4 a) HostClass.Every h = absurd (false≢true h)
same_host (HostClass.V4 a) (HostClass.V6 b) h = absurd (false≢true h)
same_host (HostClass.V6 a) HostClass.Every h = absurd (false≢true h)
same_host (HostClass.V6 a) (HostClass.V4 b) h = absurd (false≢true h)

same_bool : (a b : Bool) → bool_eq a b ≡ true → a ≡ b
same_bool true true h = refl
same_bool false false h = refl
same_bool true false h = absurd (false≢true h)
same_bool false true h = absurd (false≢true h)

pub same_class : (a b : Class) → class_eq a b ≡ true → a ≡ b
same_class a b h =
    let parts = and_parts (host_class_eq a.host b.host) (bool_eq a.one_port b.one_port) h in
    let host = same_host a.host b.host parts.0 in
    let one_port = same_bool a.one_port b.one_port parts.1 in
    λ k. record { host = host k; one_port = one_port k }

host_class_itself : (a : HostClass) → host_class_eq a a ≡ true
host_class_itself HostClass.Every = refl
host_class_itself (HostClass.V4 bits) = eq-eqb bits bits refl
host_class_itself (HostClass.V6 bits) = eq-eqb bits bits refl

bool_itself : (a : Bool) → bool_eq a a ≡ true
bool_itself true = refl
bool_itself false = refl

pub class_itself : (a : Class) → class_eq a a ≡ true
class_itself a = and_from (host_class_eq a.host a.host) (bool_eq a.one_port a.one_port) (host_class_itself a.host) (bool_itself a.one_port)

listed_from : (class : Class) (classes : List Class) (first : Class) (is : Bool) → (class_eq class first ≡ is)
    → (is || list_any (class_eq class) classes) ≡ true → ((list_any (class_eq class) classes ≡ true) → (j : ℕ) × (slice_get classes j ≡ Some class))
    → (j : ℕ) × (slice_get (first ∷ classes) j ≡ Some class)
listed_from class classes first true is h later = (0, ap (λ (c : Class). Some c) (sym (same_class class first is)))
listed_from class classes first false is h later = let there = later h in (suc there.0, there.1)

-- a class that is listed stands at a place
pub listed_at : (class : Class) (classes : List Class) → list_any (class_eq class) classes ≡ true → (j : ℕ) × (slice_get classes j ≡ Some class)
listed_at class [] h = absurd (false≢true h)
listed_at class (first ∷ classes) h = listed_from class classes first (class_eq class first) refl h (listed_at class classes)

-- the classes of the rules before a place, and of the one there
pub classes_more : (rules : List SocksRule) (at : ℕ) (rule : SocksRule) (class : Class) (old new : List Class) → slice_get rules at ≡ Some rule → class ≡ class_of rule.to
    → list_any (class_eq class) new ≡ true → ((other : Class) → list_any (class_eq other) old ≡ true → list_any (class_eq other) new ≡ true)
    → ((k : ℕ) (r : SocksRule) → k < at → slice_get rules k ≡ Some r → list_any (class_eq (class_of r.to)) old ≡ true)
    → (k : ℕ) (r : SocksRule) → k < at + 1 → slice_get rules k ≡ Some r → list_any (class_eq (class_of r.to)) new ≡ true
classes_more rules at rule class old new stands is added kept was = λ k r lt h. dite (ℕ_discrete k at)
    (λ e. let same = one_at rules at rule r stands (subst (λ (k : ℕ). slice_get rules k ≡ Some r) e h) in
    subst (λ (c : Class). list_any (class_eq c) new ≡ true) (is ∙ ap (λ (r : SocksRule). class_of r.to) same) added)
    (λ ne. kept (class_of r.to) (was k r (omega arith) h))
