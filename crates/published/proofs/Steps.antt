-- Each step keeps the rule of the published list.
use Rattle.std.proofs.Common.{◌≡◌, ◌≢◌, ℕ, zero, suc, ◌+◌, ◌-◌, true, false, eqb, true≢false, List, [], ◌∷◌, ◌++◌, length, set, slice_get, fold, Some, sym, refl, ap, ◌∙◌, subst, ⊎_elim, arith, length-append, Result, Ok, Err, MatchResult, OnOk}
use Rattle.std.proofs.lemmas.List.Sums.{fold-append}
use Rattle.std.specs.Arc.{arc_value}
use Rattle.published.specs.declared.shown.Shown.{Shown}
use mathlib.Core.Option.{none, some, some-injective, some-ne-none}
use lib.ListN.{get_elem?}
use Rattle.atomic_table.specs.Table.{State, step, keeps, Allows, Splits, Joins}
use Rattle.atomic_table.proofs.Lists.{at_set, at_snoc}
use prog.Atomic.{either}
use Rattle.published.specs.declared.knows.Knows.{Knows}
use Rattle.conf_types.specs.declared.entries.Entries.{Entries}
use Rattle.published.specs.Lists.{IsPrefixOf}
use Rattle.published.specs.Rules.{FitsIn, EachFits, ShowsLast, HasOneList, Begins, Extends, Sees, AddsSaid, CatchesUp, hearing, reader_of, owner_of}
use Rattle.published.proofs.ListFacts.{empty, nothing_before, last_of, prefix_self, prefix_nil, prefix_more}

-- ---- what each seat knows

-- a seat that knows a beginning of the list, and doesn't extend it, fits at any place
plain : (configs : List Entries) (owner seat : ℕ) (k : Knows) → IsPrefixOf k.configs configs → IsPrefixOf k.heard configs → k.extends ≡ false → FitsIn configs owner seat k
plain configs owner seat k known heard free = record { known = known; heard = heard; whole = λ owns. absurd (true≢false (sym owns ∙ free)) }

-- one seat knows otherwise now
fits_set : (configs : List Entries) (owner seat : ℕ) (k : Knows) (views : List Knows) → EachFits configs owner views → FitsIn configs owner seat k → EachFits configs owner (set views seat k)
fits_set configs owner seat k views all here j u e = ⊎_elim
    (λ (t : (j ≡ seat) × (k ≡ u)). subst (λ (n : ℕ). FitsIn configs owner n u) (sym t.0) (subst (FitsIn configs owner seat) t.1 here))
    (λ (t : (j ≢ seat) × (get_elem? views j ≡ some u)). all j u t.1)
    (at_set views seat j k u e)

-- a seat more
fits_more : (configs : List Entries) (owner : ℕ) (k : Knows) (views : List Knows) → EachFits configs owner views → IsPrefixOf k.configs configs → IsPrefixOf k.heard configs → k.extends ≡ false
    → EachFits configs owner (views ++ k ∷ [])
fits_more configs owner k views all known heard free j u e = ⊎_elim
    (λ t. all j u t)
    (λ t. subst (FitsIn configs owner j) t (plain configs owner j k known heard free))
    (at_snoc views k u j e)

fits_again : (configs : List Entries) (owner seat : ℕ) (k : Knows) (views : List Knows) → EachFits configs owner views → get_elem? views seat ≡ some k → EachFits configs owner (set views seat k)
fits_again configs owner seat k views all at = fits_set configs owner seat k views all (all seat k at)

-- the owner adds a configuration
fits_added : (configs : List Entries) (owner seat : ℕ) (k : Knows) (config : Entries) (views : List Knows) → EachFits configs owner views → get_elem? views seat ≡ some k → k.extends ≡ true
    → EachFits (configs ++ config ∷ []) owner (set views seat (owner_of (k.configs ++ config ∷ [])))
fits_added configs owner seat k config views all at owns j u e = let mine = (all seat k at).whole owns in let more : List Entries = configs ++ config ∷ [] in
    let whole : k.configs ++ config ∷ [] ≡ more = ap (λ (l : List Entries). l ++ config ∷ []) mine.1 in ⊎_elim
    (λ (t : (j ≡ seat) × (owner_of (k.configs ++ config ∷ []) ≡ u)). subst (FitsIn more owner j) t.1 (record {
      known = subst (IsPrefixOf (k.configs ++ config ∷ [])) whole (prefix_self (k.configs ++ config ∷ []));
      heard = prefix_nil more;
      whole = λ _. (t.0 ∙ mine.0, whole);
    }))
    (λ (t : (j ≢ seat) × (get_elem? views j ≡ some u)). let f = all j u t.1 in record {
      known = prefix_more u.configs configs config f.known;
      heard = prefix_more u.heard configs config f.heard;
      whole = λ too. absurd (t.0 ((f.whole too).0 ∙ sym mine.0));
    })
    (at_set views seat j (owner_of (k.configs ++ config ∷ [])) u e)

first_only : (j : ℕ) (k u : Knows) → get_elem? (k ∷ []) j ≡ some u → (j ≡ 0) × (k ≡ u)
first_only zero k u e = (refl, some-injective k u e)
first_only (suc j) k u e = absurd (some-ne-none u (sym e))

fits_one : (k : Knows) → k.configs ≡ [] → k.heard ≡ [] → EachFits [] 0 (k ∷ [])
fits_one k none_known none_heard j u e = let t = first_only j k u e in subst (FitsIn [] 0 j) t.1 (record {
  known = subst (λ (l : List Entries). IsPrefixOf l []) (sym none_known) (prefix_self []);
  heard = subst (λ (l : List Entries). IsPrefixOf l []) (sym none_heard) (prefix_self []);
  whole = λ _. (t.0, none_known);
})

-- ---- the copies that readers see

pub unbegun : (config : Entries) → ShowsLast 0 config (reader_of [] ∷ [])
unbegun config = record {
  configs = [];
  owner = 0;
  counted = refl;
  last = λ some_there. absurd (omega arith);
  unowned = λ z j u e. let t = first_only j (reader_of []) u e in subst (λ (k : Knows). k.extends ≡ false) t.1 refl;
  fits = fits_one (reader_of []) refl refl;
}

pub begins : (n m : ℕ) (old config : Entries) (seat : ℕ) (k : Knows) (views : List Knows) → n ≡ 0 → m ≡ 1 → ShowsLast n old views → get_elem? views seat ≡ some k
    → (after : Knows) × ShowsLast m config (set views seat after) × Begins config after
begins n m old config seat k views zero_is one_is r at = let has : n ≡ length r.configs = r.counted in let none_yet : r.configs ≡ [] = empty r.configs (sym has ∙ zero_is) in
    let one : List Entries = config ∷ [] in let after : Knows = owner_of one in (
      after,
      record {
        configs = one;
        owner = seat;
        counted = one_is;
        last = λ h. subst (λ (i : ℕ). slice_get one (i - 1) ≡ Some config) (sym one_is) refl;
        unowned = λ z j u e. absurd (omega arith);
        fits = λ j u e. ⊎_elim
            (λ (t : (j ≡ seat) × (after ≡ u)). subst (FitsIn one seat j) t.1 (record { known = prefix_self one; heard = prefix_nil one; whole = λ _. (t.0, refl) }))
            (λ (t : (j ≢ seat) × (get_elem? views j ≡ some u)). let f = r.fits j u t.1 in
            plain one seat j u
            (subst (λ (l : List Entries). IsPrefixOf l one) (sym (nothing_before u.configs (subst (IsPrefixOf u.configs) none_yet f.known))) (prefix_nil one))
            (subst (λ (l : List Entries). IsPrefixOf l one) (sym (nothing_before u.heard (subst (IsPrefixOf u.heard) none_yet f.heard))) (prefix_nil one))
            (r.unowned zero_is j u t.1))
            (at_set views seat j after u e);
      },
      refl,
    )

pub extends : (n m : ℕ) (old config : Entries) (seat : ℕ) (k : Knows) (views : List Knows) → k.extends ≡ true → m ≡ n + 1 → ShowsLast n old views → get_elem? views seat ≡ some k
    → (after : Knows) × ShowsLast m config (set views seat after) × Extends k config after
extends n m old config seat k views owns next r at = let more : List Entries = r.configs ++ config ∷ [] in let size : length more ≡ length r.configs + 1 = length-append r.configs (config ∷ []) in
    let has : n ≡ length r.configs = r.counted in (
      owner_of (k.configs ++ config ∷ []),
      record {
        configs = more;
        owner = r.owner;
        counted = omega arith;
        last = λ some_there. subst (λ (i : ℕ). slice_get more i ≡ Some config) (omega arith) (last_of r.configs config);
        unowned = λ z j u e. absurd (omega arith);
        fits = fits_added r.configs r.owner seat k config views r.fits at owns;
      },
      refl,
    )

pub sees : (n : ℕ) (config : Entries) (seat : ℕ) (k : Knows) (views : List Knows) → ShowsLast n config views → get_elem? views seat ≡ some k
    → (after : Knows) × ShowsLast n config (set views seat after) × Sees k n config after
sees n config seat k views r at = let mine = r.fits seat k at in let after : Knows = record { configs = r.configs; heard = []; extends = k.extends } in (
  after,
  record {
    configs = r.configs;
    owner = r.owner;
    counted = r.counted;
    last = r.last;
    unowned = λ z j u e. ⊎_elim
        (λ (t : (j ≡ seat) × (after ≡ u)). subst (λ (x : Knows). x.extends ≡ false) t.1 (r.unowned z seat k at))
        (λ (t : (j ≢ seat) × (get_elem? views j ≡ some u)). r.unowned z j u t.1)
        (at_set views seat j after u e);
    fits = fits_set r.configs r.owner seat after views r.fits (record { known = prefix_self r.configs; heard = prefix_nil r.configs; whole = λ owns. ((mine.whole owns).0, refl) });
  },
  record { grown = mine.known; counted = r.counted; last = r.last },
)

unowned_more : (k : Knows) (views : List Knows) → ((seat : ℕ) (u : Knows) → get_elem? views seat ≡ some u → u.extends ≡ false) → k.extends ≡ false
    → (seat : ℕ) (u : Knows) → get_elem? (views ++ k ∷ []) seat ≡ some u → u.extends ≡ false
unowned_more k views all free j u e = ⊎_elim (λ t. all j u t) (λ t. subst (λ (x : Knows). x.extends ≡ false) t free) (at_snoc views k u j e)

unowned_set : (at : ℕ) (k : Knows) (views : List Knows) → ((seat : ℕ) (u : Knows) → get_elem? views seat ≡ some u → u.extends ≡ false) → k.extends ≡ false
    → (seat : ℕ) (u : Knows) → get_elem? (set views at k) seat ≡ some u → u.extends ≡ false
unowned_set at k views all free j u e = ⊎_elim
    (λ (t : (j ≡ at) × (k ≡ u)). subst (λ (x : Knows). x.extends ≡ false) t.1 free)
    (λ (t : (j ≢ at) × (get_elem? views j ≡ some u)). all j u t.1)
    (at_set views at j k u e)

pub admits : (n : ℕ) (config : Entries) (views : List Knows) → ShowsLast n config views → ShowsLast n config (views ++ reader_of [] ∷ [])
admits n config views r = record {
  configs = r.configs;
  owner = r.owner;
  counted = r.counted;
  last = r.last;
  unowned = λ z. unowned_more (reader_of []) views (r.unowned z) refl;
  fits = fits_more r.configs r.owner (reader_of []) views r.fits (prefix_nil r.configs) (prefix_nil r.configs) refl;
}

pub forks : (n : ℕ) (config : Entries) (seat : ℕ) (k : Knows) (views : List Knows) → ShowsLast n config views → get_elem? views seat ≡ some k
    → ShowsLast n config (set views seat k ++ reader_of k.configs ∷ [])
forks n config seat k views r at = record {
  configs = r.configs;
  owner = r.owner;
  counted = r.counted;
  last = r.last;
  unowned = λ z. unowned_more (reader_of k.configs) (set views seat k) (unowned_set seat k views (r.unowned z) (r.unowned z seat k at)) refl;
  fits = fits_more r.configs r.owner (reader_of k.configs) (set views seat k) (fits_again r.configs r.owner seat k views r.fits at) (r.fits seat k at).known (prefix_nil r.configs) refl;
}

-- what another seat knows, after a third one was changed
theirs : (seat other : ℕ) (k w : Knows) (views : List Knows) → ¬ (other ≡ seat) → get_elem? (set views seat k) other ≡ some w → get_elem? views other ≡ some w
theirs seat other k w views apart e = ⊎_elim (λ t. absurd (apart t.0)) (λ t. t.1) (at_set views seat other k w e)

pub merges : (n : ℕ) (config : Entries) (seat other : ℕ) (k w : Knows) (views : List Knows) → ShowsLast n config views → get_elem? views seat ≡ some k → ¬ (other ≡ seat)
    → get_elem? (set views seat (reader_of w.configs)) other ≡ some w → ShowsLast n config (set (set views seat (reader_of w.configs)) other (reader_of []))
merges n config seat other k w views r at apart there = let told = r.fits other w (theirs seat other (reader_of w.configs) w views apart there) in record {
  configs = r.configs;
  owner = r.owner;
  counted = r.counted;
  last = r.last;
  unowned = λ z. unowned_set other (reader_of []) (set views seat (reader_of w.configs)) (unowned_set seat (reader_of w.configs) views (r.unowned z) refl) refl;
  fits = fits_set r.configs r.owner other (reader_of []) (set views seat (reader_of w.configs))
      (fits_set r.configs r.owner seat (reader_of w.configs) views r.fits (plain r.configs r.owner seat (reader_of w.configs) told.known (prefix_nil r.configs) refl))
      (plain r.configs r.owner other (reader_of []) (prefix_nil r.configs) (prefix_nil r.configs) refl);
}

-- ---- the table

pub opens : HasOneList (owner_of [] ∷ [])
opens = record { configs = []; owner = 0; fits = fits_one (owner_of []) refl refl }

pub adds : (slots id : ℕ) (k : Knows) (held : List (ℕ × Entries)) (config : Entries) → k.extends ≡ true
    → Allows (λ (s : State Entries Knows). HasOneList s.views) slots id (k, held) 0 (λ n. either (eqb n 0) 0 n) (AddsSaid (step slots 0 0 0 (some config)) (k, held))
adds slots id k held config owns s r wide at small = (
  owner_of (k.configs ++ config ∷ []),
  keeps,
  tt,
  record { configs = r.configs ++ config ∷ []; owner = r.owner; fits = fits_added r.configs r.owner id k config s.views r.fits at owns },
  (refl, λ c is. ap (λ (x : Entries). owner_of (k.configs ++ x ∷ [])) (some-injective config c is)),
)

pub catches : (slots id : ℕ) (k : Knows) (held : List (ℕ × Entries))
    → Allows (λ (s : State Entries Knows). HasOneList s.views) slots id (k, held) 0 (λ n. n) (CatchesUp (step slots 0 0 0 none) (k, held))
catches slots id k held s r wide at small = let mine = r.fits id k at in let after : Knows = record { configs = r.configs; heard = []; extends = k.extends } in (
  after,
  keeps,
  tt,
  record {
    configs = r.configs;
    owner = r.owner;
    fits = fits_set r.configs r.owner id after s.views r.fits (record { known = prefix_self r.configs; heard = prefix_nil r.configs; whole = λ owns. ((mine.whole owns).0, refl) });
  },
  (refl, refl, refl, mine.known, mine.heard),
)

pub tells : (id : ℕ) (k : Knows) → Splits (λ (s : State Entries Knows). HasOneList s.views) id k k (reader_of k.configs)
tells id k s r at = record {
  configs = r.configs;
  owner = r.owner;
  fits = fits_more r.configs r.owner (reader_of k.configs) (set s.views id k) (fits_again r.configs r.owner id k s.views r.fits at) (r.fits id k at).known (prefix_nil r.configs) refl;
}

pub hears : (id other : ℕ) (k w : Knows) → Joins (λ (s : State Entries Knows). HasOneList s.views) id k other w (hearing k w) (reader_of [])
hears id other k w s r at apart there = let mine = r.fits id k at in let told = r.fits other w (theirs id other (hearing k w) w s.views apart there) in record {
  configs = r.configs;
  owner = r.owner;
  fits = fits_set r.configs r.owner other (reader_of []) (set s.views id (hearing k w))
      (fits_set r.configs r.owner id (hearing k w) s.views r.fits (record { known = mine.known; heard = told.known; whole = mine.whole }))
      (plain r.configs r.owner other (reader_of []) (prefix_nil r.configs) (prefix_nil r.configs) refl);
}

-- ---- what an answer comes with

pub on_ok : {E A C X : Type 0} (B D : Type 0) (r : Result (Unit {0}) E) → MatchResult r (λ _. A) (λ _. B) → MatchResult r (λ _. C) (λ _. D) → (A → C → X) → OnOk r X
on_ok B D (Ok u) a c f = f a c
on_ok B D (Err e) b d f = tt

-- ---- one that is published takes the place of what was there

abbrev pub replaced : ℕ × Entries → Shown → ℕ × Entries
replaced state operation = (operation.snap.number, arc_value operation.snap.config)

pub latest : (state : ℕ × Entries) (old pending : List Shown) (operation : Shown) → pending ≡ old ++ operation ∷ []
    → fold replaced state pending ≡ (operation.snap.number, arc_value operation.snap.config)
latest state old pending operation is = ap (fold replaced state) is ∙ fold-append replaced state old (operation ∷ [])
