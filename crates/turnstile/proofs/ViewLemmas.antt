-- Views: the mark of each slot, and the slots that callers see.
use Rattle.std.proofs.Common.{◌≡◌, ℕ, zero, suc, ◌<◌, ◌++◌, ◌≢◌, List, [], ◌∷◌, Contains, length, sym, refl, ap, ◌∙◌, subst, arith, slice_index_or, eq-eqb, ne_eqb, Some, None, if◌then◌else◌}
use Rattle.std.proofs.lemmas.Option.{none-some}
use mathlib.Core.Logic.{dite}
use native.Mathlib.Decide.{ℕ_discrete}
use Rattle.atomic_table.specs.Seated.{TableId}
use Rattle.turnstile.specs.declared.mark.Mark.{Mark}
use Rattle.turnstile.specs.declared.mark.Mark.TheVariants.{AtHome, Out, Placed}
use Rattle.turnstile.specs.Views.{View, Holding, mark_of, unmarked, IsAtHome, AllAtHome, slots_of, without}

-- ---- marks

pub mark_here : (i : ℕ) (m : Mark) (v : View) → mark_of i ((i, m) ∷ v) ≡ Some m
mark_here i m v = subst (λ b. (if b then Some m else mark_of i v) ≡ Some m) (sym (eq-eqb i i refl)) refl

pub mark_else : (i k : ℕ) (m : Mark) (v : View) → k ≢ i → mark_of k ((i, m) ∷ v) ≡ mark_of k v
mark_else i k m v ne = subst (λ b. (if b then Some m else mark_of k v) ≡ mark_of k v) (sym (ne_eqb i k (λ e. ne (sym e)))) refl

pub unmarked_here : (i : ℕ) (v : View) → mark_of i (unmarked i v) ≡ None
unmarked_here i [] = refl
unmarked_here i (x ∷ xs) = dite (ℕ_discrete x.0 i)
    (λ hit. subst (λ b. mark_of i (if b then unmarked i xs else x ∷ unmarked i xs) ≡ None) (sym (eq-eqb x.0 i hit)) (unmarked_here i xs))
    (λ miss. subst (λ b. mark_of i (if b then unmarked i xs else x ∷ unmarked i xs) ≡ None) (sym (ne_eqb x.0 i miss)) (mark_else x.0 i x.1 (unmarked i xs) (λ e. miss (sym e)) ∙ unmarked_here i xs))

pub unmarked_else : (i k : ℕ) (v : View) → k ≢ i → mark_of k (unmarked i v) ≡ mark_of k v
unmarked_else i k [] ne = refl
unmarked_else i k (x ∷ xs) ne = dite (ℕ_discrete x.0 i)
    (λ hit. subst (λ b. mark_of k (if b then unmarked i xs else x ∷ unmarked i xs) ≡ mark_of k (x ∷ xs)) (sym (eq-eqb x.0 i hit))
    (unmarked_else i k xs ne ∙ sym (mark_else x.0 k x.1 xs (λ e. ne (e ∙ hit)))))
    (λ miss. subst (λ b. mark_of k (if b then unmarked i xs else x ∷ unmarked i xs) ≡ mark_of k (x ∷ xs)) (sym (ne_eqb x.0 i miss))
    (dite (ℕ_discrete x.0 k)
    (λ same. subst (λ b. (if b then Some x.1 else mark_of k (unmarked i xs)) ≡ (if b then Some x.1 else mark_of k xs)) (sym (eq-eqb x.0 k same)) refl)
    (λ not. subst (λ b. (if b then Some x.1 else mark_of k (unmarked i xs)) ≡ (if b then Some x.1 else mark_of k xs)) (sym (ne_eqb x.0 k not)) (unmarked_else i k xs ne))))

pub unmarked_cons : (i : ℕ) (m : Mark) (v : View) → unmarked i ((i, m) ∷ v) ≡ unmarked i v
unmarked_cons i m v = subst (λ b. (if b then unmarked i v else (i, m) ∷ unmarked i v) ≡ unmarked i v) (sym (eq-eqb i i refl)) refl

pub unmarked_again : (i : ℕ) (v : View) → unmarked i (unmarked i v) ≡ unmarked i v
unmarked_again i [] = refl
unmarked_again i (x ∷ xs) = dite (ℕ_discrete x.0 i)
    (λ hit. subst (λ b. unmarked i (if b then unmarked i xs else x ∷ unmarked i xs) ≡ (if b then unmarked i xs else x ∷ unmarked i xs)) (sym (eq-eqb x.0 i hit)) (unmarked_again i xs))
    (λ miss. subst (λ b. unmarked i (if b then unmarked i xs else x ∷ unmarked i xs) ≡ (if b then unmarked i xs else x ∷ unmarked i xs)) (sym (ne_eqb x.0 i miss))
    (subst (λ b. (if b then unmarked i (unmarked i xs) else x ∷ unmarked i (unmarked i xs)) ≡ x ∷ unmarked i xs) (sym (ne_eqb x.0 i miss)) (ap (λ (r : View). x ∷ r) (unmarked_again i xs))))

pub unmarked_none : (i : ℕ) (v : View) → mark_of i v ≡ None → unmarked i v ≡ v
unmarked_none i [] e = refl
unmarked_none i (x ∷ xs) e = dite (ℕ_discrete x.0 i)
    (λ hit. absurd (none-some x.1 (sym (subst (λ b. (if b then Some x.1 else mark_of i xs) ≡ None) (eq-eqb x.0 i hit) e))))
    (λ miss. let later : mark_of i xs ≡ None = subst (λ b. (if b then Some x.1 else mark_of i xs) ≡ None) (ne_eqb x.0 i miss) e in
    subst (λ b. (if b then unmarked i xs else x ∷ unmarked i xs) ≡ x ∷ xs) (sym (ne_eqb x.0 i miss)) (ap (λ (l : View). x ∷ l) (unmarked_none i xs later)))

-- ---- slots at home

home_mark : (m : Mark) → IsAtHome m → m ≡ AtHome
home_mark AtHome h = refl
home_mark Out h = absurd h
home_mark Placed h = absurd h

pub home_unmarked : (i : ℕ) (v : View) → AllAtHome v → AllAtHome (unmarked i v)
home_unmarked i [] home = tt
home_unmarked i (x ∷ xs) home = dite (ℕ_discrete x.0 i)
    (λ hit. subst (λ b. AllAtHome (if b then unmarked i xs else x ∷ unmarked i xs)) (sym (eq-eqb x.0 i hit)) (home_unmarked i xs home.1))
    (λ miss. subst (λ b. AllAtHome (if b then unmarked i xs else x ∷ unmarked i xs)) (sym (ne_eqb x.0 i miss)) (home.0, home_unmarked i xs home.1))

pub home_both : (v w : View) → AllAtHome v → AllAtHome w → AllAtHome (v ++ w)
home_both [] w left right = right
home_both (x ∷ xs) w left right = (left.0, home_both xs w left.1 right)

-- ---- the slots that callers see

later_at : (i y k : ℕ) (l : List ℕ) → y ≢ i → k < length (y ∷ l) → slice_index_or (y ∷ l) k i ≡ i → Contains l i
later_at i y zero l miss lt at = absurd (miss at)
later_at i y (suc k) l miss lt at = (k, omega arith, at)

pub mark_held : (i : ℕ) (v : View) → AllAtHome v → Contains (slots_of v) i → mark_of i v ≡ Some AtHome
mark_held i [] home has = let none : has.0 < 0 = has.1 in absurd (omega arith)
mark_held i (x ∷ xs) home has = dite (ℕ_discrete x.0 i)
    (λ hit. subst (λ b. (if b then Some x.1 else mark_of i xs) ≡ Some AtHome) (sym (eq-eqb x.0 i hit)) (ap (λ (m : Mark). Some m) (home_mark x.1 home.0)))
    (λ miss. subst (λ b. (if b then Some x.1 else mark_of i xs) ≡ Some AtHome) (sym (ne_eqb x.0 i miss))
    (mark_held i xs home.1 (later_at i x.0 has.0 (slots_of xs) miss has.1 has.2)))

pub slots_unmarked : (i : ℕ) (v : View) → slots_of (unmarked i v) ≡ without i (slots_of v)
slots_unmarked i [] = refl
slots_unmarked i (x ∷ xs) = dite (ℕ_discrete x.0 i)
    (λ hit. subst (λ b. slots_of (if b then unmarked i xs else x ∷ unmarked i xs) ≡ (if b then without i (slots_of xs) else x.0 ∷ without i (slots_of xs))) (sym (eq-eqb x.0 i hit)) (slots_unmarked i xs))
    (λ miss. subst (λ b. slots_of (if b then unmarked i xs else x ∷ unmarked i xs) ≡ (if b then without i (slots_of xs) else x.0 ∷ without i (slots_of xs))) (sym (ne_eqb x.0 i miss)) (ap (λ (l : List ℕ). x.0 ∷ l) (slots_unmarked i xs)))

-- ---- a pass and its turnstile

-- two holdings with equal fields
pub holding_is : {t u : TableId} {l m : List ℕ} → t ≡ u → l ≡ m → ◌≡◌ {A = Holding} record { turnstile = t; held = l } record { turnstile = u; held = m }
holding_is p q = λ i. record { turnstile = p i; held = q i }

-- a pass of a turnstile has its table
pub same_table : {h k : Holding} {t u : TableId} → h ≡ k → k.turnstile ≡ u → t ≡ u → h.turnstile ≡ t
same_table view of table = ap (λ (h : Holding). h.turnstile) view ∙ of ∙ sym table

pub in_slots : {t u : TableId} {i : ℕ} → t ≡ u → i < u.slots → i < t.slots
in_slots {i = i} table lt = subst (λ (x : TableId). i < x.slots) (sym table) lt

pub in_words : {t u : TableId} {i : ℕ} → t ≡ u → t.words ≡ t.slots → i < u.slots → i < t.words
in_words {i = i} table even lt = subst (λ n. i < n) (sym even) (subst (λ (x : TableId). i < x.slots) (sym table) lt)

-- what a pass holds is at home
pub held_mark : {h : Holding} {i : ℕ} (t : TableId) (v : View) → ◌≡◌ {A = Holding} record { turnstile = t; held = slots_of v } h → AllAtHome v → Contains h.held i → mark_of i v ≡ Some AtHome
held_mark {i = i} t v view home has = mark_held i v home (subst (λ (h : Holding). Contains h.held i) (sym view) has)
