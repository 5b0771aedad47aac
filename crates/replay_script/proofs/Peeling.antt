-- What is behind a front, a number or a cut is one text.
use Rattle.std.proofs.Common.{◌≡◌, ◌<◌, ◌^◌, ℕ, false, List, [], ◌∷◌, ◌++◌, sym, subst, ◌∙◌, decimal, arith}
use Rattle.std.proofs.lemmas.Fmt.{decimal_injective}
use Rattle.replay_script.specs.Cuts.{CutsAt, IsNumberThen, After, NumberThen, CutThen, is_digit}
use Rattle.replay_script.proofs.Cutting.{cut_one, lacks_decimal}

pub cancel : (front xs ys : List ℕ) → front ++ xs ≡ front ++ ys → xs ≡ ys
cancel [] xs ys e = e
cancel (z ∷ front) xs ys e = let q : front ++ xs ≡ front ++ ys = cc in cancel front xs ys q

pub peel_after : (front text rest : List ℕ) (P : List ℕ → Type 0) → text ≡ front ++ rest → After front text P → P rest
peel_after front text rest P is h = subst P (cancel front h.0 rest (sym h.1 ∙ is)) h.2

pub peel_cut : (at : ℕ) (text front rest : List ℕ) (P : List ℕ → List ℕ → Type 0) → CutsAt at text front rest → CutThen at text P → P front rest
peel_cut at text front rest P is h =
    let q = cut_one at h.0 front h.1 rest h.2.0 is.0 (sym h.2.1 ∙ is.1) in
    subst (λ (z : List ℕ). P z rest) q.0 (subst (λ (z : List ℕ). P h.0 z) q.1 h.3)

pub peel_number : (at limit : ℕ) (text : List ℕ) (n : ℕ) (rest : List ℕ) (P : ℕ → List ℕ → Type 0) → is_digit at ≡ false → limit < 2 ^ 64 →
    IsNumberThen at limit text n rest → NumberThen at limit text P → P n rest
peel_number at limit text n rest P digit small is h =
    let k = h.2.fits in
    let j = is.fits in
    let fits_m : h.0 < 2 ^ 64 = omega arith in
    let fits_n : n < 2 ^ 64 = omega arith in
    let q = cut_one at (decimal h.0) (decimal n) h.1 rest (lacks_decimal at h.0 fits_m digit) (lacks_decimal at n fits_n digit) (sym h.2.spelled ∙ is.spelled) in
    let e : h.0 ≡ n = decimal_injective h.0 n fits_m fits_n q.0 in
    subst (λ (z : ℕ). P z rest) e (subst (λ (z : List ℕ). P h.0 z) q.1 h.3)
