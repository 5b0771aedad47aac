-- Each step keeps the rule.
use Rattle.std.proofs.Common.{map, replicate, ◌≡◌, ℕ, zero, suc, ◌++◌, ◌≢◌, ◌⊎◌, ◌<◌, false, eqb, List, [], ◌∷◌, get_or, set, length, sym, refl, ap, ◌∙◌, subst, inl, inr, ⊎_elim, arith, length-set, length-append, get_or-set_same, get_or-set_other, eq-eqb, ne_eqb, Option, Some, None, bit_or, bit_and, if◌then◌else◌}
use Rattle.std.proofs.lemmas.Option.{none-some, cond_some}
use Rattle.std.proofs.lemmas.List.{set-get_or, length-replicate, get_or-replicate, length-map}
use mathlib.Core.Logic.{dite}
use mathlib.Core.Option.{none, some, some-ne-none, some-injective}
use mathlib.Core.Option as maybe
use native.Mathlib.Decide.{ℕ_discrete}
use prog.Atomic.{either}
use lib.ListN.{get_elem?}
use Rattle.atomic_table.specs.Table.{State, Me, step, keeps, takes, gives, stepped, Allows, Splits, Joins, opening, rest}
use Rattle.atomic_table.proofs.Lists.{at_set, at_map, at_index, set_here, set_else, set_again}
use Rattle.turnstile.specs.declared.mark.Mark.{Mark}
use Rattle.turnstile.specs.declared.mark.Mark.TheVariants.{AtHome, Out, Placed}
use Rattle.turnstile.specs.Views.{View, mark_of, unmarked, IsAtHome, IsPlaced}
use Rattle.turnstile.proofs.ViewLemmas.{mark_here, mark_else, unmarked_here, unmarked_else}
use Rattle.turnstile.specs.Rule.{Owner, mark_for, Home, IsLawful, Rule}
use Rattle.turnstile.specs.Steps.{IsWord, Stood, placed, readied, woke, claimed, settled, lifted, gave_back, cleared, freed}

-- ---- owners

mark_for_mine : (id : ℕ) (m : Mark) → mark_for id (Some (id, m)) ≡ Some m
mark_for_mine id m = subst (λ b. (if b then Some m else None) ≡ Some m) (sym (eq-eqb id id refl)) refl

mark_for_other : (id : ℕ) (m : Mark) (j : ℕ) → j ≢ id → mark_for j (Some (id, m)) ≡ None
mark_for_other id m j ne = subst (λ b. (if b then Some m else None) ≡ None) (sym (ne_eqb id j (λ e. ne (sym e)))) refl

owned : (id : ℕ) (m : Mark) (o : Option Owner) → mark_for id o ≡ Some m → o ≡ Some (id, m)
owned id m None e = absurd (none-some m e)
owned id m (Some o) e = dite (ℕ_discrete o.0 id)
    (λ hit. let c = cond_some (eqb o.0 id) o.1 m e in λ k. Some (hit k, c.1 k))
    (λ miss. absurd (none-some m (subst (λ b. (if b then Some o.1 else None) ≡ Some m) (ne_eqb o.0 id miss) e)))

-- ---- one slot

abbrev second : Mark → Option Owner → Mark
second b None = b
second b (Some x) = x.1

some_mark : (a : ℕ) (b : Mark) (c : ℕ) (d : Mark) → ◌≡◌ {A = Option Owner} (Some (a, b)) (Some (c, d)) → b ≡ d
some_mark a b c d e = ap (λ (o : Option Owner). second b o) e

abbrev pick : ℕ → Option Owner → (ℕ → Option Owner) → ℕ → Option Owner
pick i o f k = if eqb k i then o else f k

pick_here : (i : ℕ) (o : Option Owner) (f : ℕ → Option Owner) (k : ℕ) → k ≡ i → pick i o f k ≡ o
pick_here i o f k e = subst (λ b. (if b then o else f k) ≡ o) (sym (eq-eqb k i e)) refl

pick_else : (i : ℕ) (o : Option Owner) (f : ℕ → Option Owner) (k : ℕ) → k ≢ i → pick i o f k ≡ f k
pick_else i o f k ne = subst (λ b. (if b then o else f k) ≡ f k) (sym (ne_eqb k i ne)) refl

abbrev first : ℕ → Option Owner → ℕ
first a None = a
first a (Some x) = x.0

some_seat : (a : ℕ) (b : Mark) (c : ℕ) (d : Mark) → ◌≡◌ {A = Option Owner} (Some (a, b)) (Some (c, d)) → a ≡ c
some_seat a b c d e = ap (λ (o : Option Owner). first a o) e

pub within : {A : Type 0} (l : List A) (i : ℕ) (a : A) → get_elem? l i ≡ some a → i < length l
within [] i a e = absurd (some-ne-none a (sym e))
within (x ∷ xs) zero a e = omega arith
within (x ∷ xs) (suc i) a e = let h = within xs i a e in omega arith

-- where the owner is this seat
seats : (views : List View) (id : ℕ) (m : Mark) (v : View) → get_elem? views id ≡ some v → (j : ℕ) (n : Mark) → ◌≡◌ {A = Option Owner} (Some (id, m)) (Some (j, n)) → j < length views
seats views id m v at j n e = subst (λ z. z < length views) (some_seat id m j n e) (within views id v at)

nobody : (views : List View) (j : ℕ) (n : Mark) → ◌≡◌ {A = Option Owner} None (Some (j, n)) → j < length views
nobody views j n e = absurd (none-some (j, n) e)

at_end : (l : List View) (a b : View) (j : ℕ) → get_elem? (l ++ a ∷ []) j ≡ some b → (get_elem? l j ≡ some b) ⊎ ((j ≡ length l) × (a ≡ b))
at_end [] a b zero e = inr (refl, some-injective a b e)
at_end [] a b (suc j) e = absurd (some-ne-none b (sym e))
at_end (x ∷ xs) a b zero e = inl e
at_end (x ∷ xs) a b (suc j) e = ⊎_elim (λ t. inl t) (λ t. inr (ap suc t.0, t.1)) (at_end xs a b j e)

mark_for_new : (n : ℕ) (o : Option Owner) → ((seat : ℕ) (mark : Mark) → o ≡ Some (seat, mark) → seat < n) → mark_for n o ≡ None
mark_for_new n None sits = refl
mark_for_new n (Some o) sits = let lt : o.0 < n = sits o.0 o.1 refl in mark_for_other o.0 o.1 n (λ e. omega arith)

either_mark : Option Mark → Option Mark → Option Mark
either_mark None b = b
either_mark (Some m) b = Some m

mark_both : (k : ℕ) (v w : View) → mark_of k (v ++ w) ≡ either_mark (mark_of k v) (mark_of k w)
unfolding either_mark
mark_both k [] w = refl
mark_both k (x ∷ xs) w = dite (ℕ_discrete x.0 k)
    (λ hit. subst (λ b. (if b then Some x.1 else mark_of k (xs ++ w)) ≡ either_mark (if b then Some x.1 else mark_of k xs) (mark_of k w)) (sym (eq-eqb x.0 k hit)) refl)
    (λ miss. subst (λ b. (if b then Some x.1 else mark_of k (xs ++ w)) ≡ either_mark (if b then Some x.1 else mark_of k xs) (mark_of k w)) (sym (ne_eqb x.0 k miss)) (mark_both k xs w))

-- the owner, with what the other had now with this seat
moved : ℕ → ℕ → Option Owner → Option Owner
moved id other None = None
moved id other (Some o) = if eqb o.0 other then Some (id, o.1) else Some o

moved_mine : (id other : ℕ) (o : Option Owner) → ¬ (other ≡ id) → either_mark (mark_for id o) (mark_for other o) ≡ mark_for id (moved id other o)
unfolding moved either_mark
moved_mine id other None apart = refl
moved_mine id other (Some o) apart = dite (ℕ_discrete o.0 other)
    (λ hit. let theirs : eqb o.0 id ≡ false = ne_eqb o.0 id (λ e. apart (sym hit ∙ e)) in
    subst (λ b. either_mark (mark_for id (Some o)) (if b then Some o.1 else None) ≡ mark_for id (if b then Some (id, o.1) else Some o)) (sym (eq-eqb o.0 other hit))
    (subst (λ b. either_mark (if b then Some o.1 else None) (Some o.1) ≡ mark_for id (Some (id, o.1))) (sym theirs) (sym (mark_for_mine id o.1))))
    (λ miss. subst (λ b. either_mark (mark_for id (Some o)) (if b then Some o.1 else None) ≡ mark_for id (if b then Some (id, o.1) else Some o)) (sym (ne_eqb o.0 other miss))
    (dite (ℕ_discrete o.0 id)
    (λ h. subst (λ b. either_mark (if b then Some o.1 else None) None ≡ (if b then Some o.1 else None)) (sym (eq-eqb o.0 id h)) refl)
    (λ n. subst (λ b. either_mark (if b then Some o.1 else None) None ≡ (if b then Some o.1 else None)) (sym (ne_eqb o.0 id n)) refl)))

moved_other : (id other : ℕ) (o : Option Owner) → ¬ (other ≡ id) → None ≡ mark_for other (moved id other o)
unfolding moved
moved_other id other None apart = refl
moved_other id other (Some o) apart = dite (ℕ_discrete o.0 other)
    (λ hit. subst (λ b. None ≡ mark_for other (if b then Some (id, o.1) else Some o)) (sym (eq-eqb o.0 other hit)) (sym (mark_for_other id o.1 other apart)))
    (λ miss. subst (λ b. None ≡ mark_for other (if b then Some (id, o.1) else Some o)) (sym (ne_eqb o.0 other miss)) (sym (mark_for_other o.0 o.1 other (λ e. miss (sym e)))))

moved_third : (id other j : ℕ) (o : Option Owner) → ¬ (j ≡ id) → ¬ (j ≡ other) → mark_for j o ≡ mark_for j (moved id other o)
unfolding moved
moved_third id other j None a b = refl
moved_third id other j (Some o) a b = dite (ℕ_discrete o.0 other)
    (λ hit. subst (λ c. mark_for j (Some o) ≡ mark_for j (if c then Some (id, o.1) else Some o)) (sym (eq-eqb o.0 other hit)) (mark_for_other o.0 o.1 j (λ e. b (e ∙ hit)) ∙ sym (mark_for_other id o.1 j a)))
    (λ miss. subst (λ c. mark_for j (Some o) ≡ mark_for j (if c then Some (id, o.1) else Some o)) (sym (ne_eqb o.0 other miss)) refl)

moved_seat : (id other n : ℕ) (o : Option Owner) → id < n → ((seat : ℕ) (mark : Mark) → o ≡ Some (seat, mark) → seat < n) → (seat : ℕ) (mark : Mark) → moved id other o ≡ Some (seat, mark) → seat < n
unfolding moved
moved_seat id other n None lt sits seat mark = λ e. absurd (none-some (seat, mark) e)
moved_seat id other n (Some o) lt sits seat mark = dite (ℕ_discrete o.0 other)
    (λ hit. subst (λ b. (if b then Some (id, o.1) else Some o) ≡ Some (seat, mark) → seat < n) (sym (eq-eqb o.0 other hit)) (λ e. subst (λ z. z < n) (some_seat id o.1 seat mark e) lt))
    (λ miss. subst (λ b. (if b then Some (id, o.1) else Some o) ≡ Some (seat, mark) → seat < n) (sym (ne_eqb o.0 other miss)) (λ e. sits seat mark e))

moved_some : (id other : ℕ) (o : Option Owner) (X : Type 0) → ((seat : ℕ) (mark : Mark) → o ≡ Some (seat, mark) → X) → (seat : ℕ) (mark : Mark) → moved id other o ≡ Some (seat, mark) → X
unfolding moved
moved_some id other None X from seat mark e = absurd (none-some (seat, mark) e)
moved_some id other (Some o) X from seat mark e = from o.0 o.1 refl

only : (seat : ℕ) (v : View) → get_elem? ([] ∷ []) seat ≡ some v → [] ≡ v
only zero v e = some-injective [] v e
only (suc k) v e = absurd (some-ne-none v (sym e))

module _ {U : Type 0} where
  vacant : (w : ℕ) (h : Home U) (o : Option Owner) → IsLawful w h o → w ≡ 4 → (h ≡ some (some None)) × (o ≡ None)
  vacant w h o ok is = ⊎_elim (λ t. (t.1, t.2)) (λ r. absurd (⊎_elim (λ t. ⊎_elim (λ (e : w ≡ 1). omega arith) (λ (e : w ≡ 5). omega arith) t.0) (λ t. ⊎_elim (λ (e : w ≡ 3). omega arith) (λ (e : w ≡ 7). omega arith) t.0) r)) ok

  ready : (w : ℕ) (h : Home U) (o : Option Owner) → IsLawful w h o → w ≡ 5 → ((u : U) × (h ≡ some (some (Some u)))) × (o ≡ None)
  ready w h o ok is = ⊎_elim (λ t. let e : w ≡ 4 = t.0 in absurd (omega arith)) (λ r. ⊎_elim (λ t. (t.1, t.2)) (λ t. absurd (⊎_elim (λ (e : w ≡ 3). omega arith) (λ (e : w ≡ 7). omega arith) t.0)) r) ok

  mine : (w : ℕ) (h : Home U) (o : Option Owner) (id : ℕ) (m : Mark) → IsLawful w h o → o ≡ Some (id, m) → ((w ≡ 3) ⊎ (w ≡ 7)) × (IsPlaced m → w ≡ 7) × (IsAtHome m → h ≡ some (some None))
  mine w h o id m ok is = ⊎_elim (λ t. absurd (none-some (id, m) (sym t.2 ∙ is)))
      (λ r. ⊎_elim (λ t. absurd (none-some (id, m) (sym t.2 ∙ is)))
      (λ t. let same : m ≡ t.1.1 = some_mark id m t.1.0 t.1.1 (sym is ∙ t.1.2) in (t.0, (λ e. t.1.3 (subst IsPlaced same e)), λ e. t.1.4 (subst IsAtHome same e))) r) ok

  is_word : (w : ℕ) (h : Home U) (o : Option Owner) → IsLawful w h o → IsWord w
  is_word w h o ok = ⊎_elim (λ t. inl t.0) (λ r. inr (⊎_elim (λ t. inl t.0) (λ t. inr t.0) r)) ok

  -- a slot that this seat holds
  held : (w : ℕ) (h : Home U) (id : ℕ) (m : Mark) → (w ≡ 3) ⊎ (w ≡ 7) → (IsPlaced m → w ≡ 7) → (IsAtHome m → h ≡ some (some None)) → IsLawful w h (Some (id, m))
  held w h id m which two rests = inr (inr (which, (id, m, refl, two, rests)))

  -- ---- the table

  frame : (s : State (Option U) View) (r : Rule s) (id i n : ℕ) (w : View) (hs : List (maybe.Option (Option U))) (o : Option Owner)
      → i < length s.words → length hs ≡ length s.homes → ((k : ℕ) → k ≢ i → get_elem? hs k ≡ get_elem? s.homes k) → IsLawful n (get_elem? hs i) o
      → ((j : ℕ) → j ≢ id → mark_for j o ≡ mark_for j (r.owner i)) → mark_of i w ≡ mark_for id o → ((k : ℕ) → k ≢ i → mark_of k w ≡ mark_for id (r.owner k))
      → ((j : ℕ) (m : Mark) → o ≡ Some (j, m) → j < length s.views)
      → Rule record { words = set s.words i n; homes = hs; views = set s.views id w }
  frame s r id i n w hs o inside wide elsewhere here others mine rest sits = record {
    owner = pick i o r.owner;
    wide = wide ∙ r.wide ∙ sym (length-set s.words i n);
    slots = λ k lt. dite (ℕ_discrete k i)
        (λ e. subst (λ j. IsLawful (get_or (set s.words i n) j 0) (get_elem? hs j) (pick i o r.owner j)) (sym e)
        (subst (λ x. IsLawful x (get_elem? hs i) (pick i o r.owner i)) (sym (get_or-set_same s.words i n 0 inside)) (subst (IsLawful n (get_elem? hs i)) (sym (pick_here i o r.owner i refl)) here)))
        (λ ne. subst (λ x. IsLawful x (get_elem? hs k) (pick i o r.owner k)) (sym (get_or-set_other s.words i k n 0 ne))
        (subst (λ h. IsLawful (get_or s.words k 0) h (pick i o r.owner k)) (sym (elsewhere k ne))
        (subst (IsLawful (get_or s.words k 0) (get_elem? s.homes k)) (sym (pick_else i o r.owner k ne)) (r.slots k (subst (λ z. k < z) (length-set s.words i n) lt)))));
    views = λ seat v at k. ⊎_elim
        (λ t. dite (ℕ_discrete k i)
        (λ e. subst (λ z. mark_of k z ≡ mark_for seat (pick i o r.owner k)) t.1
        (subst (λ j. mark_of j w ≡ mark_for seat (pick i o r.owner j)) (sym e)
        (mine ∙ subst (λ j. mark_for id o ≡ mark_for j o) (sym t.0) refl ∙ sym (ap (mark_for seat) (pick_here i o r.owner i refl)))))
        (λ ne. subst (λ z. mark_of k z ≡ mark_for seat (pick i o r.owner k)) t.1
        (rest k ne ∙ subst (λ j. mark_for id (r.owner k) ≡ mark_for j (r.owner k)) (sym t.0) refl ∙ sym (ap (mark_for seat) (pick_else i o r.owner k ne)))))
        (λ t. dite (ℕ_discrete k i)
        (λ e. r.views seat v t.1 k ∙ ap (λ j. mark_for seat (r.owner j)) e ∙ sym (others seat t.0) ∙ sym (ap (mark_for seat) (pick_here i o r.owner k e)))
        (λ ne. r.views seat v t.1 k ∙ sym (ap (mark_for seat) (pick_else i o r.owner k ne))))
        (at_set s.views id seat w v at);
    seated = λ k seat mark e. dite (ℕ_discrete k i)
        (λ h. (subst (λ z. k < z) (sym (length-set s.words i n)) (subst (λ z. z < length s.words) (sym h) inside), subst (λ z. seat < z) (sym (length-set s.views id w)) (sits seat mark (sym (pick_here i o r.owner k h) ∙ e))))
        (λ ne. let old = r.seated k seat mark (sym (pick_else i o r.owner k ne) ∙ e) in (subst (λ z. k < z) (sym (length-set s.words i n)) old.0, subst (λ z. seat < z) (sym (length-set s.views id w)) old.1));
  }

  -- a step that changes nothing
  same : (s : State (Option U) View) (r : Rule s) (id i : ℕ) (v : View) (c : List (ℕ × Option U)) → get_elem? s.views id ≡ some v → Rule (stepped s i (get_or s.words i 0) id c v keeps)
  same s r id i v c at = subst Rule (λ k. record { words = sym (set-get_or s.words i 0) k; homes = s.homes; views = sym (set_again s.views id v at) k }) r

  -- the state after a step is one that stood
  stood_after : (s : State (Option U) View) (id i n : ℕ) (v w : View) (hs : List (maybe.Option (Option U))) → i < length s.words → get_elem? s.views id ≡ some v
      → Rule record { words = set s.words i n; homes = hs; views = set s.views id w } → Stood U i n w
  stood_after s id i n v w hs inside at rule =
      (record { words = set s.words i n; homes = hs; views = set s.views id w }, id, rule, get_or-set_same s.words i n 0 inside, set_here s.views id w (within s.views id v at))

  -- ---- the steps

  pub places : (slots id i : ℕ) (v : View) (c : List (ℕ × Option U)) → i < slots → Allows Rule slots id (v, c) i (λ n. either (eqb n 4) 7 n) (placed (step slots i 4 7 none) (v, c))
  places slots id i v c lt s r wide at small = let w : ℕ = get_or s.words i 0 in let inside : i < length s.words = subst (λ z. i < z) (sym wide ∙ r.wide) lt in
      let there : i < length s.homes = subst (λ z. i < z) (sym wide) lt in
      dite (ℕ_discrete w 4)
      (λ hit. let was = vacant w (get_elem? s.homes i) (r.owner i) (r.slots i inside) hit in (
        (i, Placed) ∷ v,
        takes i None,
        was.0,
        subst (λ b. Rule (stepped s i (either b 7 w) id c ((i, Placed) ∷ v) (takes i None))) (sym (eq-eqb w 4 hit))
            (frame s r id i 7 ((i, Placed) ∷ v) (set s.homes i none) (Some (id, Placed)) inside (length-set s.homes i none) (λ k ne. set_else s.homes i k none ne)
            (held 7 _ id Placed (inr refl) (λ _. refl) (λ e. absurd e))
            (λ j ne. mark_for_other id Placed j ne ∙ sym (ap (mark_for j) was.1)) (mark_here i Placed v ∙ sym (mark_for_mine id Placed)) (λ k ne. mark_else i k Placed v ne ∙ r.views id v at k) (seats s.views id Placed v at)),
        ((s, id, r, refl, at), (λ _. (r.views id v at i ∙ ap (mark_for id) was.1, refl, refl)), λ not. absurd (not hit)),
      ))
      (λ miss. (v, keeps, tt, subst (λ b. Rule (stepped s i (either b 7 w) id c v keeps)) (sym (ne_eqb w 4 miss)) (same s r id i v c at), ((s, id, r, refl, at), (λ hit. absurd (miss hit)), λ _. refl)))

  pub claims : (slots id i : ℕ) (v : View) (c : List (ℕ × Option U)) → i < slots → Allows Rule slots id (v, c) i (λ n. either (eqb n 5) 3 n) (claimed (step slots i 5 3 none) (v, c))
  claims slots id i v c lt s r wide at small = let w : ℕ = get_or s.words i 0 in let inside : i < length s.words = subst (λ z. i < z) (sym wide ∙ r.wide) lt in
      dite (ℕ_discrete w 5)
      (λ hit. let was = ready w (get_elem? s.homes i) (r.owner i) (r.slots i inside) hit in
      let kept : Rule record { words = set s.words i 3; homes = set s.homes i none; views = set s.views id ((i, Out) ∷ v) } = frame s r id i 3 ((i, Out) ∷ v) (set s.homes i none) (Some (id, Out)) inside (length-set s.homes i none) (λ k ne. set_else s.homes i k none ne)
      (held 3 _ id Out (inl refl) (λ e. absurd e) (λ e. absurd e))
      (λ j ne. mark_for_other id Out j ne ∙ sym (ap (mark_for j) was.1)) (mark_here i Out v ∙ sym (mark_for_mine id Out)) (λ k ne. mark_else i k Out v ne ∙ r.views id v at k) (seats s.views id Out v at) in (
        (i, Out) ∷ v,
        takes i (Some was.0.0),
        was.0.1,
        subst (λ b. Rule (stepped s i (either b 3 w) id c ((i, Out) ∷ v) (takes i (Some was.0.0)))) (sym (eq-eqb w 5 hit))
            kept,
        ((s, id, r, refl, at), (λ _. (r.views id v at i ∙ ap (mark_for id) was.1, refl, (was.0.0, refl, (s, r, hit, was.0.1)), stood_after s id i 3 v ((i, Out) ∷ v) (set s.homes i none) inside at kept)), λ not. absurd (not hit)),
      ))
      (λ miss. (v, keeps, tt, subst (λ b. Rule (stepped s i (either b 3 w) id c v keeps)) (sym (ne_eqb w 5 miss)) (same s r id i v c at), ((s, id, r, refl, at), (λ hit. absurd (miss hit)), λ _. refl)))

  wakes_slot : (w : ℕ) (h : Home U) (o : Option Owner) → IsLawful w h o → IsLawful (bit_or w 4) h o
  wakes_slot w h o ok = ⊎_elim (λ t. inl (ap (λ n. bit_or n 4) t.0, t.1, t.2))
      (λ r. ⊎_elim (λ t. inr (inl (⊎_elim (λ e. inr (ap (λ n. bit_or n 4) e)) (λ e. inr (ap (λ n. bit_or n 4) e)) t.0, t.1, t.2)))
      (λ t. let woken : bit_or w 4 ≡ 7 = ⊎_elim (λ (e : w ≡ 3). ap (λ n. bit_or n 4) e) (λ (e : w ≡ 7). ap (λ n. bit_or n 4) e) t.0 in
      inr (inr (inr woken, (t.1.0, t.1.1, t.1.2, (λ _. woken), t.1.4)))) r) ok

  pub wakes : (slots id i : ℕ) (v : View) (c : List (ℕ × Option U)) → i < slots → Allows Rule slots id (v, c) i (λ n. bit_or n 4) (woke (step slots i 4 0 none) (v, c))
  wakes slots id i v c lt s r wide at small = let inside : i < length s.words = subst (λ z. i < z) (sym wide ∙ r.wide) lt in
      let kept : Rule record { words = set s.words i (bit_or (get_or s.words i 0) 4); homes = s.homes; views = set s.views id v } = frame s r id i (bit_or (get_or s.words i 0) 4) v s.homes (r.owner i) inside refl (λ k ne. refl) (wakes_slot _ _ _ (r.slots i inside)) (λ j ne. refl) (r.views id v at i) (λ k ne. r.views id v at k) (λ j m e. (r.seated i j m e).1) in (
        v,
        keeps,
        tt,
        kept,
        (refl, is_word _ _ _ (r.slots i inside), (s, id, r, refl, at), stood_after s id i (bit_or (get_or s.words i 0) 4) v v s.homes inside at kept),
      )

  -- the slot's word, home and owner, where a seat holds it
  mine_at : (s : State (Option U) View) (r : Rule s) (id i : ℕ) (m : Mark) (v : View) → i < length s.words → get_elem? s.views id ≡ some v → mark_of i v ≡ Some m → r.owner i ≡ Some (id, m)
  mine_at s r id i m v inside at has = owned id m (r.owner i) (sym (r.views id v at i) ∙ has)

  pub settles : (slots id i : ℕ) (m : Mark) (v : View) (c : List (ℕ × Option U)) → i < slots → mark_of i v ≡ Some m → Allows Rule slots id (v, (i, None) ∷ c) i (λ n. n) (settled (step slots i 0 0 none) (v, (i, None) ∷ c))
  settles slots id i m v c lt has s r wide at small = let inside : i < length s.words = subst (λ z. i < z) (sym wide ∙ r.wide) lt in
      let there : i < length s.homes = subst (λ z. i < z) (sym wide) lt in let own = mine_at s r id i m v inside at has in let was = mine _ _ _ id m (r.slots i inside) own in (
        (i, AtHome) ∷ unmarked i v,
        gives,
        tt,
        frame s r id i (get_or s.words i 0) ((i, AtHome) ∷ unmarked i v) (set s.homes i (some None)) (Some (id, AtHome)) inside (length-set s.homes i (some None)) (λ k ne. set_else s.homes i k (some None) ne)
            (held _ _ id AtHome was.0 (λ e. absurd e) (λ _. set_here s.homes i (some None) there))
            (λ j ne. mark_for_other id AtHome j ne ∙ sym (mark_for_other id m j ne) ∙ sym (ap (mark_for j) own)) (mark_here i AtHome (unmarked i v) ∙ sym (mark_for_mine id AtHome))
            (λ k ne. mark_else i k AtHome (unmarked i v) ne ∙ unmarked_else i k v ne ∙ r.views id v at k) (seats s.views id AtHome v at),
        (refl, refl),
      )

  pub lifts : (slots id i : ℕ) (v : View) (c : List (ℕ × Option U)) → i < slots → mark_of i v ≡ Some AtHome → Allows Rule slots id (v, c) i (λ n. n) (lifted (step slots i 0 0 none) (v, c))
  lifts slots id i v c lt has s r wide at small = let inside : i < length s.words = subst (λ z. i < z) (sym wide ∙ r.wide) lt in
      let own = mine_at s r id i AtHome v inside at has in let was = mine _ _ _ id AtHome (r.slots i inside) own in (
        (i, Out) ∷ unmarked i v,
        takes i None,
        was.2 tt,
        frame s r id i (get_or s.words i 0) ((i, Out) ∷ unmarked i v) (set s.homes i none) (Some (id, Out)) inside (length-set s.homes i none) (λ k ne. set_else s.homes i k none ne)
            (held _ _ id Out was.0 (λ e. absurd e) (λ e. absurd e))
            (λ j ne. mark_for_other id Out j ne ∙ sym (mark_for_other id AtHome j ne) ∙ sym (ap (mark_for j) own)) (mark_here i Out (unmarked i v) ∙ sym (mark_for_mine id Out))
            (λ k ne. mark_else i k Out (unmarked i v) ne ∙ unmarked_else i k v ne ∙ r.views id v at k) (seats s.views id Out v at),
        (refl, refl),
      )

  -- the slot goes back with a unit
  leaves : (s : State (Option U) View) (r : Rule s) (id i : ℕ) (m : Mark) (n : ℕ) (v : View) (u : U) → i < length s.words → get_elem? s.views id ≡ some v → mark_of i v ≡ Some m → (n ≡ 1) ⊎ (n ≡ 5)
      → Rule record { words = set s.words i n; homes = set s.homes i (some (Some u)); views = set s.views id (unmarked i v) }
  leaves s r id i m n v u inside at has which = let there : i < length s.homes = subst (λ z. i < z) (sym r.wide) inside in let own = mine_at s r id i m v inside at has in
      frame s r id i n (unmarked i v) (set s.homes i (some (Some u))) None inside (length-set s.homes i (some (Some u))) (λ k ne. set_else s.homes i k (some (Some u)) ne)
      (inr (inl (which, (u, set_here s.homes i (some (Some u)) there), refl)))
      (λ j ne. sym (mark_for_other id m j ne) ∙ sym (ap (mark_for j) own)) (unmarked_here i v) (λ k ne. unmarked_else i k v ne ∙ r.views id v at k) (nobody s.views)

  pub parks : (slots id i : ℕ) (v : View) (u : U) (c : List (ℕ × Option U)) → i < slots → mark_of i v ≡ Some Out
      → Allows Rule slots id (v, (i, Some u) ∷ c) i (λ n. either (eqb n 3) 1 n) (gave_back (step slots i 3 1 none) (v, (i, Some u) ∷ c))
  parks slots id i v u c lt has s r wide at small = let w : ℕ = get_or s.words i 0 in let inside : i < length s.words = subst (λ z. i < z) (sym wide ∙ r.wide) lt in
      let own = mine_at s r id i Out v inside at has in let was = mine _ _ _ id Out (r.slots i inside) own in
      let kept = leaves s r id i Out 1 v u inside at has (inl refl) in
      dite (ℕ_discrete w 3)
      (λ hit. (unmarked i v, gives, tt, subst (λ b. Rule (stepped s i (either b 1 w) id ((i, Some u) ∷ c) (unmarked i v) gives)) (sym (eq-eqb w 3 hit)) kept, ((s, id, r, refl, at), (λ _. (refl, refl, stood_after s id i 1 v (unmarked i v) (set s.homes i (some (Some u))) inside at kept)), λ not. absurd (not hit))))
      (λ miss. (
        v,
        keeps,
        tt,
        subst (λ b. Rule (stepped s i (either b 1 w) id ((i, Some u) ∷ c) v keeps)) (sym (ne_eqb w 3 miss)) (same s r id i v ((i, Some u) ∷ c) at),
        ((s, id, r, refl, at), (λ hit. absurd (miss hit)), λ _. (⊎_elim (λ e. absurd (miss e)) (λ e. e) was.0, refl)),
      ))

  pub readies : (slots id i : ℕ) (v : View) (u : U) (c : List (ℕ × Option U)) → i < slots → mark_of i v ≡ Some Placed
      → Allows Rule slots id (v, (i, Some u) ∷ c) i (λ n. either (eqb n 7) 5 n) (readied (step slots i 7 5 none) (v, (i, Some u) ∷ c))
  readies slots id i v u c lt has s r wide at small = let w : ℕ = get_or s.words i 0 in let inside : i < length s.words = subst (λ z. i < z) (sym wide ∙ r.wide) lt in
      let own = mine_at s r id i Placed v inside at has in let was = mine _ _ _ id Placed (r.slots i inside) own in let hit : w ≡ 7 = was.1 tt in let kept = leaves s r id i Placed 5 v u inside at has (inr refl) in
      (unmarked i v, gives, tt, subst (λ b. Rule (stepped s i (either b 5 w) id ((i, Some u) ∷ c) (unmarked i v) gives)) (sym (eq-eqb w 7 hit)) kept, (refl, refl, stood_after s id i 5 v (unmarked i v) (set s.homes i (some (Some u))) inside at kept))

  -- ---- the same of a seat that is known by equations

  pub settles_at : (slots id i : ℕ) (m : Mark) (me : Me (Option U) View) (c : List (ℕ × Option U)) → i < slots → mark_of i me.0 ≡ Some m → me.1 ≡ (i, None) ∷ c
      → Allows Rule slots id me i (λ n. n) (settled (step slots i 0 0 none) me)
  settles_at slots id i m me c lt has is = subst (λ (l : List (ℕ × Option U)). Allows Rule slots id (me.0, l) i (λ n. n) (settled (step slots i 0 0 none) (me.0, l))) (sym is) (settles slots id i m me.0 c lt has)

  pub parks_at : (slots id i : ℕ) (u : U) (me : Me (Option U) View) (c : List (ℕ × Option U)) → i < slots → mark_of i me.0 ≡ Some Out → me.1 ≡ (i, Some u) ∷ c
      → Allows Rule slots id me i (λ n. either (eqb n 3) 1 n) (gave_back (step slots i 3 1 none) me)
  parks_at slots id i u me c lt has is = subst (λ (l : List (ℕ × Option U)). Allows Rule slots id (me.0, l) i (λ n. either (eqb n 3) 1 n) (gave_back (step slots i 3 1 none) (me.0, l))) (sym is) (parks slots id i me.0 u c lt has)

  pub readies_at : (slots id i : ℕ) (u : U) (me : Me (Option U) View) (c : List (ℕ × Option U)) → i < slots → mark_of i me.0 ≡ Some Placed → me.1 ≡ (i, Some u) ∷ c
      → Allows Rule slots id me i (λ n. either (eqb n 7) 5 n) (readied (step slots i 7 5 none) me)
  readies_at slots id i u me c lt has is = subst (λ (l : List (ℕ × Option U)). Allows Rule slots id (me.0, l) i (λ n. either (eqb n 7) 5 n) (readied (step slots i 7 5 none) (me.0, l))) (sym is) (readies slots id i me.0 u c lt has)

  -- the slot is in hand, so `exchange` may be called
  pub in_hand : (i : ℕ) (x : Option U) (l c : List (ℕ × Option U)) → l ≡ (i, x) ∷ c → (y : Option U) × (l ≡ (i, y) ∷ rest l)
  in_hand i x l c is = (x, is ∙ ap (λ (r : List (ℕ × Option U)). (i, x) ∷ r) (sym (ap rest is)))

  -- ---- clear and free

  pub clears : (slots id i : ℕ) (v : View) (c : List (ℕ × Option U)) → i < slots → mark_of i v ≡ Some AtHome
      → Allows Rule slots id (v, c) i (λ n. bit_and n 18446744073709551611) (cleared (step slots i 18446744073709551611 0 none) (v, c))
  clears slots id i v c lt has s r wide at small = let w : ℕ = get_or s.words i 0 in let inside : i < length s.words = subst (λ z. i < z) (sym wide ∙ r.wide) lt in
      let own = mine_at s r id i AtHome v inside at has in let was = mine _ _ _ id AtHome (r.slots i inside) own in
      let plain : bit_and w 18446744073709551611 ≡ 3 = ⊎_elim (λ (e : w ≡ 3). ap (λ n. bit_and n 18446744073709551611) e) (λ (e : w ≡ 7). ap (λ n. bit_and n 18446744073709551611) e) was.0 in
      let kept : Rule record { words = set s.words i (bit_and w 18446744073709551611); homes = s.homes; views = set s.views id v } =
      frame s r id i (bit_and w 18446744073709551611) v s.homes (Some (id, AtHome)) inside refl (λ k ne. refl) (held _ _ id AtHome (inl plain) (λ e. absurd e) was.2)
      (λ j ne. mark_for_other id AtHome j ne ∙ sym (mark_for_other id AtHome j ne) ∙ sym (ap (mark_for j) own)) (has ∙ sym (mark_for_mine id AtHome)) (λ k ne. r.views id v at k) (seats s.views id AtHome v at) in (
        v,
        keeps,
        tt,
        kept,
        (refl, subst (λ n. Stood U i n v) plain (stood_after s id i (bit_and w 18446744073709551611) v v s.homes inside at kept)),
      )

  pub frees : (slots id i : ℕ) (v : View) (c : List (ℕ × Option U)) → i < slots → mark_of i v ≡ Some AtHome
      → Allows Rule slots id (v, c) i (λ _. 4) (freed (step slots i 4 0 none) (v, c))
  frees slots id i v c lt has s r wide at small = let inside : i < length s.words = subst (λ z. i < z) (sym wide ∙ r.wide) lt in
      let own = mine_at s r id i AtHome v inside at has in let was = mine _ _ _ id AtHome (r.slots i inside) own in (
        unmarked i v,
        keeps,
        tt,
        frame s r id i 4 (unmarked i v) s.homes None inside refl (λ k ne. refl) (inl (refl, was.2 tt, refl))
            (λ j ne. sym (mark_for_other id AtHome j ne) ∙ sym (ap (mark_for j) own)) (unmarked_here i v) (λ k ne. unmarked_else i k v ne ∙ r.views id v at k) (nobody s.views),
        (refl, refl),
      )

  -- ---- split and join

  pub splits : (id : ℕ) (v : View) → Splits (Rule {U = U}) id v v []
  splits id v s r at = record {
    owner = r.owner;
    wide = r.wide;
    slots = r.slots;
    views = λ seat u e k. ⊎_elim
        (λ h. r.views seat u (subst (λ (l : List View). get_elem? l seat ≡ some u) (set_again s.views id v at) h) k)
        (λ t. subst (λ (x : View). mark_of k x ≡ mark_for seat (r.owner k)) t.1 (sym (mark_for_new seat (r.owner k) (λ j m o. subst (λ z. j < z) (sym (t.0 ∙ length-set s.views id v)) (r.seated k j m o).1))))
        (at_end (set s.views id v) [] u seat e);
    seated = λ k seat mark o. let old = r.seated k seat mark o in (old.0, let more = length-append (set s.views id v) ([] ∷ []) in let same = length-set s.views id v in let h : seat < length s.views = old.1 in omega arith);
  }

  moved_slot : (id other w : ℕ) (h : Home U) (o : Option Owner) → IsLawful w h o → IsLawful w h (moved id other o)
  unfolding moved
  moved_slot id other w h None ok = ok
  moved_slot id other w h (Some o) ok = dite (ℕ_discrete o.0 other)
      (λ hit. subst (λ b. IsLawful w h (if b then Some (id, o.1) else Some o)) (sym (eq-eqb o.0 other hit)) (let was = mine w h (Some o) o.0 o.1 ok refl in held w h id o.1 was.0 was.1 was.2))
      (λ miss. subst (λ b. IsLawful w h (if b then Some (id, o.1) else Some o)) (sym (ne_eqb o.0 other miss)) ok)

  pub joins : (id other : ℕ) (v w : View) → Joins (Rule {U = U}) id v other w (v ++ w) []
  joins id other v w s r at apart at_other = let theirs : get_elem? s.views other ≡ some w = ⊎_elim (λ t. absurd (apart t.0)) (λ t. t.1) (at_set s.views id other (v ++ w) w at_other) in record {
    owner = λ k. moved id other (r.owner k);
    wide = r.wide;
    slots = λ k lt. moved_slot id other _ _ (r.owner k) (r.slots k lt);
    views = λ seat u e k. ⊎_elim
        (λ t. subst (λ (x : View). mark_of k x ≡ mark_for seat (moved id other (r.owner k))) t.1 (subst (λ j. None ≡ mark_for j (moved id other (r.owner k))) (sym t.0) (moved_other id other (r.owner k) apart)))
        (λ t. ⊎_elim
        (λ q. subst (λ (x : View). mark_of k x ≡ mark_for seat (moved id other (r.owner k))) q.1
        (subst (λ j. mark_of k (v ++ w) ≡ mark_for j (moved id other (r.owner k))) (sym q.0)
        (mark_both k v w ∙ ap (λ m. either_mark m (mark_of k w)) (r.views id v at k) ∙ ap (either_mark (mark_for id (r.owner k))) (r.views other w theirs k) ∙ moved_mine id other (r.owner k) apart)))
        (λ q. r.views seat u q.1 k ∙ moved_third id other seat (r.owner k) q.0 t.0)
        (at_set s.views id seat (v ++ w) u t.1))
        (at_set (set s.views id (v ++ w)) other seat [] u e);
    seated = λ k seat mark o. (
      moved_some id other (r.owner k) (k < length s.words) (λ j m e. (r.seated k j m e).0) seat mark o,
      subst (λ z. seat < z) (sym (length-set (set s.views id (v ++ w)) other [] ∙ length-set s.views id (v ++ w))) (moved_seat id other (length s.views) (r.owner k) (within s.views id v at) (λ j m e. (r.seated k j m e).1) seat mark o),
    );
  }

  -- ---- the start

  abbrev nones : ℕ → List (Option U)
  nones n = replicate n None

  homes_at : (n k : ℕ) → k < n → get_elem? (map some (nones n)) k ≡ some (some None)
  homes_at n k lt = at_map some (nones n) k None (at_index (nones n) k None (subst (λ z. k < z) (sym (length-replicate n None)) lt) (sym (get_or-replicate n k None None lt)))

  pub opens : (n : ℕ) → Rule {U = U} (opening (replicate n 4) (replicate n None) [])
  opens n = record {
    owner = λ k. None;
    wide = length-map (nones n) some ∙ length-replicate n None ∙ sym (length-replicate n 4);
    slots = λ k lt. let in_range : k < n = subst (λ z. k < z) (length-replicate n 4) lt in inl (get_or-replicate n k 4 0 in_range, homes_at n k in_range, refl);
    views = λ seat v e k. subst (λ (x : View). mark_of k x ≡ None) (only seat v e) refl;
    seated = λ k seat mark o. absurd (none-some (seat, mark) o);
  }

  pub opens_at : (n : ℕ) (l : List ℕ) → l ≡ replicate n 4 → Rule {U = U} (opening l (replicate n None) [])
  opens_at n l is = subst (λ (k : List ℕ). Rule {U = U} (opening k (replicate n None) [])) (sym is) (opens n)
