-- How numbers stand by the entries behind a change.
use Rattle.std.proofs.Common.{ℕ, ◌≡◌, Bool, true, false, ◌==◌, cond, List, [], ◌∷◌, ◌++◌, refl, sym, ◌∙◌, ap, arith}
use Rattle.std.specs.Prelude.{if◌then◌else◌}
use Rattle.std.proofs.lemmas.Bool.Decides.{nat_tests}
use Rattle.socks_machine.specs.History.{Stand, is_live}
use Rattle.session_desk.specs.declared.entry.Live.{Live}
use Rattle.session_desk.specs.declared.entry.LiveAssociation.{LiveAssociation}
use Rattle.session_desk.specs.Entries.{stand_of_live, has_number, standing_in, IsApart, renewed, without}

pub stand_of_live-is_live : (live : Live) → is_live (stand_of_live live) ≡ true
stand_of_live-is_live Live.Opened = refl
stand_of_live-is_live (Live.Granted g c s) = refl

-- by cases on a test
pub by_cases : (P : Type 0) (b : Bool) → (b ≡ true → P) → (b ≡ false → P) → P
by_cases P true holds fails = holds refl
by_cases P false holds fails = fails refl

pub cond-same : {X : Type 0} (b : Bool) (x : X) → cond b x x ≡ x
cond-same true x = refl
cond-same false x = refl

gone_behind : (b : Bool) (live : Live) (rest : Stand) → cond b (stand_of_live live) rest ≡ Stand.Gone → (b ≡ false) × (rest ≡ Stand.Gone)
gone_behind true Live.Opened rest h = cc
gone_behind true (Live.Granted g c s) rest h = cc
gone_behind false live rest h = (refl, h)

-- two numbers that differ aren't both this one
exchanged : (x e m : ℕ) → (x == e) ≡ false → (a b rest : Stand) → cond (x == m) a (cond (e == m) b rest) ≡ cond (e == m) b (cond (x == m) a rest)
exchanged x e m apart a b rest =
    by_cases (cond (x == m) a (cond (e == m) b rest) ≡ cond (e == m) b (cond (x == m) a rest)) (x == m)
    (λ h. let other : (e == m) ≡ false = grind (arith, nat_tests) in rw h (rw other refl)) (λ h. rw h refl)

-- ---- one entry more

pub standing_in-more : (es : List LiveAssociation) (e : LiveAssociation) (m : ℕ) → standing_in es e.number ≡ Stand.Gone
    → standing_in (es ++ e ∷ []) m ≡ (if has_number m e then stand_of_live e.live else standing_in es m)
standing_in-more [] e m h = refl
standing_in-more (x ∷ es) e m h =
    let gone = gone_behind (has_number e.number x) x.live (standing_in es e.number) h in
    ap (λ rest. cond (has_number m x) (stand_of_live x.live) rest) (standing_in-more es e m gone.1)
    ∙ exchanged x.number e.number m gone.0 (stand_of_live x.live) (stand_of_live e.live) (standing_in es m)

pub IsApart-more : (es : List LiveAssociation) (e : LiveAssociation) → standing_in es e.number ≡ Stand.Gone → IsApart es → IsApart (es ++ e ∷ [])
IsApart-more [] e h apart = (refl, tt)
IsApart-more (x ∷ es) e h apart =
    let gone = gone_behind (has_number e.number x) x.live (standing_in es e.number) h in
    let other : has_number x.number e ≡ false = grind (arith, nat_tests, gone.0) in
    (standing_in-more es e x.number gone.1 ∙ (rw other apart.0), IsApart-more es e gone.1 apart.1)

-- ---- another entry of a number

-- how a number stands by the renewed entries
abbrev renewal : ℕ → Live → ℕ → Stand → Stand
renewal n live m stand = if n == m then (if is_live stand then stand_of_live live else Stand.Gone) else stand

pub standing_in-renewed : (n : ℕ) (live : Live) (es : List LiveAssociation) (m : ℕ) → standing_in (renewed n live es) m ≡ renewal n live m (standing_in es m)
standing_in-renewed n live [] m = sym (cond-same (n == m) Stand.Gone)
standing_in-renewed n live (x ∷ es) m =
    by_cases (standing_in (renewed n live (x ∷ es)) m ≡ renewal n live m (standing_in (x ∷ es) m)) (has_number n x)
    (λ here. by_cases (standing_in (renewed n live (x ∷ es)) m ≡ renewal n live m (standing_in (x ∷ es) m)) (n == m)
    (λ this. let found : has_number m x ≡ true = grind (arith, nat_tests, here) in
    rw here (rw this (rw found (rw (stand_of_live-is_live x.live) refl))))
    (λ that. let other : has_number m x ≡ false = grind (arith, nat_tests, here) in rw here (rw that (rw other refl))))
    (λ behind. by_cases (standing_in (renewed n live (x ∷ es)) m ≡ renewal n live m (standing_in (x ∷ es) m)) (has_number m x)
    (λ found. let other : (n == m) ≡ false = grind (arith, nat_tests, behind, found) in rw behind (rw found (rw other refl)))
    (λ lost. rw behind (rw lost (standing_in-renewed n live es m))))

pub IsApart-renewed : (n : ℕ) (live : Live) (es : List LiveAssociation) → IsApart es → IsApart (renewed n live es)
IsApart-renewed n live [] apart = tt
IsApart-renewed n live (x ∷ es) apart =
    by_cases (IsApart (renewed n live (x ∷ es))) (has_number n x)
    (λ here. let same : x.number ≡ n = grind (arith, nat_tests, here) in rw here ((rw same at apart.0), apart.1))
    (λ behind. let other : (n == x.number) ≡ false = grind (arith, nat_tests, behind) in
    rw behind (standing_in-renewed n live es x.number ∙ (rw other apart.0), IsApart-renewed n live es apart.1))

-- ---- no entry of a number

pub standing_in-without : (n : ℕ) (es : List LiveAssociation) (m : ℕ) → IsApart es → standing_in (without n es) m ≡ cond (n == m) Stand.Gone (standing_in es m)
standing_in-without n [] m apart = sym (cond-same (n == m) Stand.Gone)
standing_in-without n (x ∷ es) m apart =
    by_cases (standing_in (without n (x ∷ es)) m ≡ cond (n == m) Stand.Gone (standing_in (x ∷ es) m)) (has_number n x)
    (λ here. by_cases (standing_in (without n (x ∷ es)) m ≡ cond (n == m) Stand.Gone (standing_in (x ∷ es) m)) (n == m)
    (λ this. let same : x.number ≡ m = grind (arith, nat_tests, here, this) in rw here (rw this (rw same at apart.0)))
    (λ that. let other : has_number m x ≡ false = grind (arith, nat_tests, here) in rw here (rw that (rw other refl))))
    (λ behind. by_cases (standing_in (without n (x ∷ es)) m ≡ cond (n == m) Stand.Gone (standing_in (x ∷ es) m)) (has_number m x)
    (λ found. let other : (n == m) ≡ false = grind (arith, nat_tests, behind, found) in rw behind (rw found (rw other refl)))
    (λ lost. rw behind (rw lost (standing_in-without n es m apart.1))))

pub IsApart-without : (n : ℕ) (es : List LiveAssociation) → IsApart es → IsApart (without n es)
IsApart-without n [] apart = tt
IsApart-without n (x ∷ es) apart =
    by_cases (IsApart (without n (x ∷ es))) (has_number n x) (λ here. rw here apart.1)
    (λ behind. let other : (n == x.number) ≡ false = grind (arith, nat_tests, behind) in
    rw behind (standing_in-without n es x.number apart.1 ∙ (rw other apart.0), IsApart-without n es apart.1))
