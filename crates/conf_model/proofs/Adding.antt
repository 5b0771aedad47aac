-- Lines that are added one after the other.
use Rattle.std.proofs.Common.{◌≡◌, ℕ, Bool, arith, List, [], ◌∷◌, ◌++◌, ◌<◌, ◌+◌, length, take, get_or, map, append_assoc, append-nil, ap, sym, ◌∙◌, refl, subst}
use Rattle.std.specs.List.{flat_map}
use Rattle.std.proofs.lemmas.List.{map-append, take_more}
use Rattle.std.proofs.lemmas.Grind.{flat_map-append}
use Rattle.conf_model.specs.Canonical.{set_lines, text_of}
use Rattle.conf_model.specs.Writing.{Adds}

pub text_of-append : (ls ms : List (List ℕ)) → text_of (ls ++ ms) ≡ text_of ls ++ text_of ms
text_of-append [] ms = refl
text_of-append (l ∷ ls) ms = ap (λ (t : List ℕ). l ++ 10 ∷ t) (text_of-append ls ms) ∙ sym (append_assoc l (10 ∷ text_of ls) (text_of ms))

pub adds_nothing : (text : List ℕ) → Adds text text []
unfolding Adds
adds_nothing text = sym (append-nil text)

pub adds_more : (a b c : List ℕ) (ls ms : List (List ℕ)) → Adds a b ls → Adds b c ms → Adds a c (ls ++ ms)
unfolding Adds
adds_more a b c ls ms g h = h ∙ (ap (λ (t : List ℕ). t ++ text_of ms) g ∙ (append_assoc a (text_of ls) (text_of ms) ∙ ap (λ (t : List ℕ). a ++ t) (sym (text_of-append ls ms))))

pub adds_same : (a b : List ℕ) (ls ms : List (List ℕ)) → Adds a b ls → ls ≡ ms → Adds a b ms
adds_same a b ls ms h e = subst (Adds a b) e h

pub adds_then : (a b c : List ℕ) (ls ms all : List (List ℕ)) → Adds a b ls → Adds b c ms → ls ++ ms ≡ all → Adds a c all
adds_then a b c ls ms all g h e = adds_same a c (ls ++ ms) all (adds_more a b c ls ms g h) e

-- ---- values that are equal

pub adds_value : (a b : List ℕ) (line : List ℕ → List ℕ) (v w : List ℕ) → Adds a b (line v ∷ []) → v ≡ w → Adds a b (line w ∷ [])
adds_value a b line v w h e = subst (λ (z : List ℕ). Adds a b (line z ∷ [])) e h

-- ---- loops

pub adds_mapped : {A : Type 0} (a b c : List ℕ) (line : A → List ℕ) (xs : List A) (i : ℕ) (x : A) → i < length xs →
    Adds a b (map line (take i xs)) → Adds b c (line (get_or xs i x) ∷ []) → Adds a c (map line (take (i + 1) xs))
adds_mapped a b c line xs i x h g k =
    adds_then a b c _ _ _ g k (sym (map-append line (take i xs) (get_or xs i x ∷ [])) ∙ ap (map line) (sym (take_more xs i x h)))

pub adds_flat : {A : Type 0} (a b c : List ℕ) (lines : A → List (List ℕ)) (xs : List A) (i : ℕ) (x : A) → i < length xs →
    Adds a b (flat_map lines (take i xs)) → Adds b c (lines (get_or xs i x)) → Adds a c (flat_map lines (take (i + 1) xs))
adds_flat a b c lines xs i x h g k =
    adds_then a b c _ _ _ g k (ap (λ (z : List (List ℕ)). flat_map lines (take i xs) ++ z) (sym (append-nil (lines (get_or xs i x)))) ∙ (sym (flat_map-append lines (take i xs) (get_or xs i x ∷ [])) ∙ ap (flat_map lines) (sym (take_more xs i x h))))

-- ---- entries of a block, one list after the other

pub regrouped : (h : List ℕ) (p c r m u v x e : List (List ℕ)) →
    (h ∷ []) ++ (p ++ (c ++ (r ++ (m ++ (u ++ (v ++ (x ++ e))))))) ≡ h ∷ ((p ++ (c ++ (r ++ (m ++ (u ++ (v ++ x)))))) ++ e)
regrouped h p c r m u v x e = ap (λ (ls : List (List ℕ)). h ∷ ls) (simp append_assoc)

pub adds_set : (a b key : List ℕ) (all both : Bool) (words others : List (List ℕ)) → Adds a b (set_lines key all words) → all ≡ both → words ≡ others →
    Adds a b (set_lines key both others)
adds_set a b key all both words others h e f = subst (λ (w : List (List ℕ)). Adds a b (set_lines key both w)) f (subst (λ (z : Bool). Adds a b (set_lines key z words)) e h)

pub empty-below : {A : Type 0} (xs : List A) → length xs < 1 → xs ≡ []
empty-below [] h = refl
empty-below (x ∷ xs) h = absurd (omega arith)

-- ---- the whole

pub whole-text : (empty text : List ℕ) (lines : List (List ℕ)) → empty ≡ [] → Adds empty text lines → text ≡ text_of lines
unfolding Adds
whole-text empty text lines e h = h ∙ ap (λ (t : List ℕ). t ++ text_of lines) e
