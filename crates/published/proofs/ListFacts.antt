-- Beginnings of a list, and its last item.
use Rattle.std.proofs.Common.{◌≡◌, ℕ, zero, suc, ◌-◌, ◌≤◌, List, [], ◌∷◌, ◌++◌, length, slice_get, Some, sym, refl, ap, ◌∙◌, subst, arith, append_assoc, append-nil, length-append}
use Rattle.conf_types.specs.declared.entries.Entries.{Entries}
use Rattle.published.specs.Lists.{IsPrefixOf, IsAt}

pub empty : (l : List Entries) → length l ≡ 0 → l ≡ []
empty [] e = refl
empty (x ∷ xs) e = absurd (omega arith)

pub nothing_before : (part : List Entries) → IsPrefixOf part [] → part ≡ []
nothing_before [] h = refl
nothing_before (x ∷ xs) h = absurd (cc h.1)

pub last_of : (l : List Entries) (config : Entries) → slice_get (l ++ config ∷ []) (length l) ≡ Some config
last_of [] config = refl
last_of (x ∷ xs) config = last_of xs config

pub prefix_self : (l : List Entries) → IsPrefixOf l l
prefix_self l = ([], sym (append-nil l))

pub prefix_nil : (l : List Entries) → IsPrefixOf [] l
prefix_nil l = (l, refl)

pub prefix_more : (part whole : List Entries) (config : Entries) → IsPrefixOf part whole → IsPrefixOf part (whole ++ config ∷ [])
prefix_more part whole config h = (h.0 ++ config ∷ [], ap (λ (l : List Entries). l ++ config ∷ []) h.1 ∙ append_assoc part h.0 (config ∷ []))

pub prefix_length : (part whole : List Entries) → IsPrefixOf part whole → length part ≤ length whole
prefix_length part whole h = let size : length whole ≡ length (part ++ h.0) = ap length h.1 in let sum = length-append part h.0 in omega arith

get_front : (part rest : List Entries) (k : ℕ) (config : Entries) → slice_get part k ≡ Some config → slice_get (part ++ rest) k ≡ Some config
get_front [] rest k config h = absurd (cc h)
get_front (x ∷ xs) rest zero config h = h
get_front (x ∷ xs) rest (suc k) config h = get_front xs rest k config h

-- what stands in a beginning of a list stands in the list at the same number
pub at_longer : (part whole : List Entries) (number : ℕ) (config : Entries) → IsPrefixOf part whole → IsAt part number config → IsAt whole number config
at_longer part whole number config h is = let long = prefix_length part whole h in
    (is.0, omega arith, subst (λ (l : List Entries). slice_get l (number - 1) ≡ Some config) (sym h.1) (get_front part h.0 (number - 1) config is.2))
