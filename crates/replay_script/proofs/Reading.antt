-- The first line of a text.
use Rattle.std.proofs.Common.{◌≡◌, ◌<◌, ℕ, List, ◌∷◌, length, inl, inr, sym, subst, ap, ◌∙◌, arith, length-append}
use Rattle.replay_script.specs.Cuts.{Lacks, IsLine}
use Rattle.replay_script.proofs.Cutting.{cut_one, cut_none}

-- a text has one first line
pub one_first : (text a b x y : List ℕ) → IsLine text a x → IsLine text b y → (a ≡ b) × (x ≡ y)
one_first text a b x y (inl h) (inl k) = cut_one 10 a b x y h.0 k.0 (sym h.1 ∙ k.1)
one_first text a b x y (inl h) (inr k) = absurd (cut_none 10 a x (subst (Lacks 10) h.1 k.1))
one_first text a b x y (inr h) (inl k) = absurd (cut_none 10 b y (subst (Lacks 10) k.1 h.1))
one_first text a b x y (inr h) (inr k) = (h.2 ∙ sym k.2, h.3 ∙ sym k.3)

pub some_text : (text a x : List ℕ) → IsLine text a x → 0 < length text
some_text text a x (inl h) = let e = ap length h.1 in let f = length-append a (10 ∷ x) in omega arith
some_text text a x (inr h) = h.0

pub shorter : (text a x : List ℕ) → IsLine text a x → length x < length text
shorter text a x (inl h) = let e = ap length h.1 in let f = length-append a (10 ∷ x) in omega (arith, e, f)
shorter text a x (inr h) = let e = ap length h.3 in let f = h.0 in omega (arith, e, f)
