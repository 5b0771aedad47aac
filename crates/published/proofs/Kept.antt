-- The configuration that a reader keeps.
use Rattle.std.proofs.Common.{◌≡◌, ℕ, List, [], Bool, true, false, true≢false, Option, Some, None, sym, refl, subst}
use Rattle.std.specs.Prelude.{is_some, if◌then◌else◌}
use Rattle.std.specs.Option.{ForSome, option_map_or}
use Rattle.std.proofs.lemmas.Option.{cond_some}
use Rattle.conf_types.specs.declared.entries.Entries.{Entries}
use Rattle.published.specs.Lists.{IsAt}

-- it stands in the list that was told, or in the one that was shown
pub at_list : {A : Type 0} (known : A → List Entries) (was_told : Bool) (end : Option A) (told : List Entries) (number : ℕ) (config : Entries)
    → is_some end ≡ true → (was_told ≡ true → IsAt told number config) → (was_told ≡ false → ForSome end (λ reader. IsAt (known reader) number config))
    → IsAt (if was_told then told else option_map_or known end []) number config
at_list known true end told number config present by_told by_seen = by_told refl
at_list known false (Some reader) told number config present by_told by_seen = by_seen refl reader refl
at_list known false None told number config present by_told by_seen = absurd (true≢false (sym present))

-- what holds of a value holds of whatever stands in its Some
pub of_some : {A : Type 0} (P : A → Type 0) (a : A) → P a → (x : A) → Some a ≡ Some x → P x
of_some P a p x e = subst P (cond_some true a x e).1 p
