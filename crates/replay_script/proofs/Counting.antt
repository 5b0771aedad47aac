-- Lines that are counted by the one before them.
use Rattle.std.proofs.Common.{◌≡◌, ◌<◌, ◌≤◌, ◌+◌, ◌-◌, ℕ, zero, suc, List, [], ◌∷◌, ◌++◌, length, take, inl, inr, ap, ◌∙◌, sym, subst, arith, append_assoc, length-append}
use Rattle.std.proofs.lemmas.List.{append_cancel_right, append-nil}
use Rattle.std.proofs.Math.Seq.{take-append_seam}
use Rattle.replay_script.specs.Cuts.{IsLine}
use Rattle.replay_script.specs.Counted.{IsBehindLines, IsCounted, Counts}
use Rattle.replay_script.specs.Forms.{IsNumbered}
use Rattle.replay_script.proofs.Unique.{one_numbered}
use Rattle.replay_script.proofs.Reading.{one_first, shorter}

-- ---- the counted text

behind_shorter : (n : ℕ) (text behind : List ℕ) → IsBehindLines n text behind → n + length behind ≤ length text
behind_shorter zero text behind h = let e = ap length h in omega (arith, e)
behind_shorter (suc n) text behind h =
    let a = shorter text h.0 h.1 h.2 in
    let b = behind_shorter n h.1 behind h.3 in
    omega (arith, a, b)

nothing_behind : (front behind : List ℕ) → [] ≡ front ++ behind → behind ≡ []
nothing_behind [] behind e = sym e
nothing_behind (x ∷ front) behind e = let k = ap length e in absurd (omega (arith, k))

-- a front before the first line's end, too
longer_front : (text line rest : List ℕ) → IsLine text line rest → (front behind : List ℕ) → rest ≡ front ++ behind → (whole : List ℕ) × (text ≡ whole ++ behind)
longer_front text line rest (inl h) front behind e =
    (line ++ 10 ∷ front, h.1 ∙ (ap (λ (z : List ℕ). line ++ 10 ∷ z) e ∙ sym (append_assoc line (10 ∷ front) behind)))
longer_front text line rest (inr h) front behind e =
    (text, sym (append-nil text) ∙ ap (λ (z : List ℕ). text ++ z) (sym (nothing_behind front behind (sym h.3 ∙ e))))

-- what is behind lines is the end of the text
front_of : (n : ℕ) (text behind : List ℕ) → IsBehindLines n text behind → (front : List ℕ) × (text ≡ front ++ behind)
front_of zero text behind h = ([], sym h)
front_of (suc n) text behind h =
    let r = front_of n h.1 behind h.3 in
    longer_front text h.0 h.1 h.2 r.0 behind r.1

front_taken : (text front behind : List ℕ) → text ≡ front ++ behind → text ≡ take (length text - length behind) text ++ behind
front_taken text front behind e =
    let l = ap length e in
    let k = length-append front behind in
    let n : length text - length behind ≡ length front = omega (arith, l, k) in
    let t : take (length text - length behind) text ≡ front =
    ap (λ (z : ℕ). take z text) n ∙ (ap (λ (z : List ℕ). take (length front) z) e ∙ take-append_seam front behind) in
    e ∙ ap (λ (z : List ℕ). z ++ behind) (sym t)

-- the text before what is behind so many lines is the counted text
pub counted_text : (n : ℕ) (text behind : List ℕ) → IsBehindLines n text behind → IsCounted n text (take (length text - length behind) text) behind
counted_text n text behind h =
    let r = front_of n text behind h in
    record { last = h; counted' = front_taken text r.0 behind r.1 }

-- one line more, and one less
pub more_lines : (n : ℕ) (text line rest behind : List ℕ) → 0 < n → IsLine text line rest → IsBehindLines (n - 1) rest behind → IsBehindLines n text behind
more_lines zero text line rest behind some first h = absurd (omega (arith, some))
more_lines (suc n) text line rest behind some first h =
    let e : suc n - 1 ≡ n = omega arith in
    (line, rest, first, subst (λ (z : ℕ). IsBehindLines z rest behind) e h)

pub fewer_lines : (n : ℕ) (text line rest behind : List ℕ) → 0 < n → IsLine text line rest → IsBehindLines n text behind → IsBehindLines (n - 1) rest behind
fewer_lines zero text line rest behind some first h = absurd (omega (arith, some))
fewer_lines (suc n) text line rest behind some first h =
    let q = (one_first text h.0 line h.1 rest h.2 first).1 in
    let e : n ≡ suc n - 1 = omega arith in
    subst (λ (z : ℕ). IsBehindLines z rest behind) e (subst (λ (z : List ℕ). IsBehindLines n z behind) q h.3)

pub no_line_left : (n : ℕ) (text behind : List ℕ) → 0 < n → text ≡ [] → IsBehindLines n text behind → ⊥
no_line_left zero text behind some none h = omega (arith, some)
no_line_left (suc n) text behind some none h =
    let a = shorter text h.0 h.1 h.2 in
    let e = ap length none in
    absurd (omega (arith, a, e))

pub counted_length : (n : ℕ) (text behind : List ℕ) → IsBehindLines n text behind → n + length behind ≤ length text
counted_length n text behind h = behind_shorter n text behind h

pub one_behind : (n : ℕ) (text x y : List ℕ) → IsBehindLines n text x → IsBehindLines n text y → x ≡ y
one_behind zero text x y h k = h ∙ sym k
one_behind (suc n) text x y h k =
    let q = one_first text h.0 k.0 h.1 k.1 h.2 k.2 in
    one_behind n h.1 x y h.3 (subst (λ (z : List ℕ). IsBehindLines n z y) (sym q.1) k.3)

one_counted : (n : ℕ) (text c d x y : List ℕ) → IsCounted n text c x → IsCounted n text d y → (c ≡ d) × (x ≡ y)
one_counted n text c d x y h k =
    let q = one_behind n text x y h.last k.last in
    let e : c ++ x ≡ d ++ x = sym h.counted' ∙ (k.counted' ∙ ap (λ (z : List ℕ). d ++ z) (sym q)) in
    (append_cancel_right c d x e, q)

-- ---- the lines with the one that counts them

pub counts_shorter : (word text counted : List ℕ) (lines : ℕ) (behind : List ℕ) → Counts word text counted lines behind → (lines + length behind ≤ length text) × (0 < lines)
unfolding Counts
counts_shorter word text counted lines behind h =
    let a = shorter text h.0 h.1 h.2 in
    let b = behind_shorter h.3.0 h.1 behind h.3.2.last in
    let e = h.3.3 in
    (omega (arith, a, b, e), omega (arith, e))

-- the first line of the text is this word and a number
pub record IsHeaded (word text : List ℕ) : Type 0 where
  pub first : List ℕ
  pub rest : List ℕ
  pub number : ℕ
  pub line : IsLine text first rest
  pub numbered : IsNumbered word first number

pub counts_head : (word text counted : List ℕ) (lines : ℕ) (behind : List ℕ) → Counts word text counted lines behind → IsHeaded word text
unfolding Counts
counts_head word text counted lines behind h = record { first = h.0; rest = h.1; number = h.3.0; line = h.2; numbered = h.3.1 }

-- a text begins with the lines of at most one counted text
pub one_counts : (word text c d : List ℕ) (n m : ℕ) (x y : List ℕ) → Counts word text c n x → Counts word text d m y → (c ≡ d) × (n ≡ m) × (x ≡ y)
unfolding Counts
one_counts word text c d n m x y h k =
    let q = one_first text h.0 k.0 h.1 k.1 h.2 k.2 in
    let number : h.3.0 ≡ k.3.0 = one_numbered word h.0 h.3.0 k.3.0 h.3.1 (subst (λ (z : List ℕ). IsNumbered word z k.3.0) (sym q.0) k.3.1) in
    let other : IsCounted h.3.0 h.1 d y =
    subst (λ (z : ℕ). IsCounted z h.1 d y) (sym number) (subst (λ (z : List ℕ). IsCounted k.3.0 z d y) (sym q.1) k.3.2) in
    let r = one_counted h.3.0 h.1 c d x y h.3.2 other in
    (r.0, h.3.3 ∙ (ap (λ (z : ℕ). z + 1) number ∙ sym k.3.3), r.1)
