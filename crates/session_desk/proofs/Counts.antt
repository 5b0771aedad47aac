-- The counts of the history are the counts of the entries.
use Rattle.std.proofs.Common.{ℕ, ◌≡◌, ◌+◌, Bool, true, false, ◌==◌, ◌&&◌, ◌||◌, cond, List, [], ◌∷◌, Some, None, length, refl, sym, ◌∙◌, ap, arith, zero-add}
use Rattle.std.specs.Prelude.{if◌then◌else◌, fold, filter_map, count_by}
use Rattle.std.specs.List.{list_any, cons_option}
use Rattle.std.proofs.Math.Path.{fun_ext}
use Rattle.std.proofs.lemmas.List.Sums.{sum_by-cons}
use Rattle.std.proofs.lemmas.Bool.Decides.{nat_tests}
use Rattle.socks_machine.specs.declared.cause.ListKind.{ListKind}
use Rattle.socks_machine.specs.declared.lines.Line.{Line}
use Rattle.socks_machine.specs.History.{Stand, is_live, is_under, stand_after, stand_opened, stand_of, opened_number, opened_numbers, distinct, live_count, held}
use Rattle.session_desk.specs.declared.entry.LiveAssociation.{LiveAssociation}
use Rattle.session_desk.specs.Entries.{stand_of_live, standing_in, IsApart, held_in}
use Rattle.session_desk.proofs.Changes.{by_cases, cond-same, stand_of_live-is_live}

-- ---- lists of numbers

-- the number is in the list
abbrev is_in : ℕ → List ℕ → Bool
is_in n ns = list_any (λ m. m == n) ns

-- each number is in the list once
abbrev IsDistinct : List ℕ → Type 0
IsDistinct [] = Unit {0}
IsDistinct (n ∷ ns) = (is_in n ns ≡ false) × IsDistinct ns

or-false : (a b : Bool) → (a || b) ≡ false → (a ≡ false) × (b ≡ false)
or-false true b h = cc
or-false false b h = (refl, h)

is_in-same : (m n : ℕ) (ns : List ℕ) → (m == n) ≡ true → is_in m ns ≡ is_in n ns
is_in-same m n ns h = let same : m ≡ n = grind (arith, nat_tests) in ap (λ k. is_in k ns) same

is_in-distinct : (n : ℕ) (ns : List ℕ) → is_in n (distinct ns) ≡ is_in n ns
is_in-distinct n [] = refl
is_in-distinct n (m ∷ ns) =
    by_cases (is_in n (distinct (m ∷ ns)) ≡ is_in n (m ∷ ns)) (is_in m ns)
    (λ again. rw again (by_cases (is_in n (distinct ns) ≡ ((m == n) || is_in n ns)) (m == n)
    (λ this. rw this (is_in-distinct n ns ∙ (sym (is_in-same m n ns this) ∙ again)))
    (λ that. rw that (is_in-distinct n ns))))
    (λ once. rw once (ap (λ t. (m == n) || t) (is_in-distinct n ns)))

IsDistinct-distinct : (ns : List ℕ) → IsDistinct (distinct ns)
IsDistinct-distinct [] = tt
IsDistinct-distinct (n ∷ ns) =
    by_cases (IsDistinct (distinct (n ∷ ns))) (is_in n ns) (λ again. rw again (IsDistinct-distinct ns))
    (λ once. rw once (is_in-distinct n ns ∙ once, IsDistinct-distinct ns))

-- ---- a number that was never opened isn't live

opened_line : (n number : ℕ) (pass : Bool) (rest : List ℕ) → is_in n (cons_option (if pass then Some number else None) rest) ≡ false
    → (cond (number == n) (stand_opened pass Stand.Gone) Stand.Gone ≡ Stand.Gone) × (is_in n rest ≡ false)
opened_line n number true rest h = let parts = or-false (number == n) (is_in n rest) h in ((rw parts.0 refl), parts.1)
opened_line n number false rest h = (cond-same (number == n) Stand.Gone, h)

stays_gone : (n : ℕ) (line : Line) (rest : List ℕ) → is_in n (cons_option (opened_number line) rest) ≡ false
    → (stand_after n Stand.Gone line ≡ Stand.Gone) × (is_in n rest ≡ false)
stays_gone n (Line.Open l) rest h = opened_line n l.number l.pass rest h
stays_gone n (Line.Grant l said) rest h = (cond-same (l.number == n) Stand.Gone, h)
stays_gone n (Line.Peer l) rest h = (refl, h)
stays_gone n (Line.Close l) rest h = (cond-same (l.number == n) Stand.Gone, h)

never_opened : (n : ℕ) (h : List Line) → is_in n (filter_map opened_number h) ≡ false → stand_of h n ≡ Stand.Gone
never_opened n [] e = refl
never_opened n (line ∷ h) e =
    let step = stays_gone n line (filter_map opened_number h) e in
    ap (λ stand. fold (stand_after n) stand h) step.0 ∙ never_opened n h step.1

opened_if_live : (f : Stand → Bool) → f Stand.Gone ≡ false → (h : List Line) (n : ℕ) → f (stand_of h n) ≡ true → is_in n (opened_numbers h) ≡ true
opened_if_live f gone h n live =
    is_in-distinct n (filter_map opened_number h)
    ∙ by_cases (is_in n (filter_map opened_number h) ≡ true) (is_in n (filter_map opened_number h)) (λ yes'. yes')
    (λ no'. let e : true ≡ false = sym live ∙ (ap f (never_opened n h no') ∙ gone) in cc)

-- ---- counts

none_counted : {X : Type 0} (xs : List X) → count_by (λ (x : X). false) xs ≡ 0
none_counted [] = refl
none_counted {X} (x ∷ xs) = sum_by-cons (λ (x : X). 0) x xs ∙ (zero-add (count_by (λ (x : X). false) xs) ∙ none_counted xs)

count_cons : {X : Type 0} (p : X → Bool) (x : X) (xs : List X) (counted : Bool) → p x ≡ counted → count_by p (x ∷ xs) ≡ cond counted 1 0 + count_by p xs
count_cons p x xs counted h = sum_by-cons (λ y. cond (p y) 1 0) x xs ∙ ap (λ b. cond b 1 0 + count_by p xs) h

add_here : (now now' was was' x : ℕ) → now' ≡ x + now → was' ≡ 0 + was → now ≡ was + 0 → now' ≡ was' + x
add_here now now' was was' x a b c = omega arith

add_elsewhere : (now now' was was' x y : ℕ) → now' ≡ x + now → was' ≡ x + was → now ≡ was + y → now' ≡ was' + y
add_elsewhere now now' was was' x y a b c = omega arith

add_entry : (all rest entries entries' x y : ℕ) → all ≡ rest + y → rest ≡ entries → y ≡ x → entries' ≡ x + entries → all ≡ entries'
add_entry all rest entries entries' x y a b c d = omega arith

-- a number that stood as none that counts, and now stands otherwise, counts where it is in the list
one_more : (f : Stand → Bool) (before : ℕ → Stand) (k : ℕ) (stand : Stand) → f (before k) ≡ false → (ns : List ℕ) → IsDistinct ns
    → count_by (λ n. f (cond (k == n) stand (before n))) ns ≡ count_by (λ n. f (before n)) ns + cond (is_in k ns && f stand) 1 0
one_more f before k stand none [] once = refl
one_more f before k stand none (m ∷ ns) once =
    let rest = one_more f before k stand none ns once.1 in
    let Goal : Type 0 = count_by (λ n. f (cond (k == n) stand (before n))) (m ∷ ns) ≡ count_by (λ n. f (before n)) (m ∷ ns) + cond (is_in k (m ∷ ns) && f stand) 1 0 in
    by_cases Goal (m == k)
    (λ here.
    let this : (k == m) ≡ true = grind (arith, nat_tests, here) in
    let same : k ≡ m = grind (arith, nat_tests, here) in
    let out : is_in k ns ≡ false = sym (is_in-same m k ns here) ∙ once.0 in
    let now = count_cons (λ n. f (cond (k == n) stand (before n))) m ns (f stand) (rw this refl) in
    let was = count_cons (λ n. f (before n)) m ns false (rw same at none) in
    rw here (add_here _ _ _ _ _ now was (rw out at rest)))
    (λ elsewhere.
    let that : (k == m) ≡ false = grind (arith, nat_tests, elsewhere) in
    let now = count_cons (λ n. f (cond (k == n) stand (before n))) m ns (f (before m)) (rw that refl) in
    let was = count_cons (λ n. f (before n)) m ns (f (before m)) refl in
    rw elsewhere (add_elsewhere _ _ _ _ _ _ now was rest))

and-false : (b : Bool) → (b && false) ≡ false
and-false true = refl
and-false false = refl

counts_in : (f : Stand → Bool) → f Stand.Gone ≡ false → (ns : List ℕ) → IsDistinct ns → (es : List LiveAssociation) → IsApart es
    → ((n : ℕ) → f (standing_in es n) ≡ true → is_in n ns ≡ true)
    → count_by (λ n. f (standing_in es n)) ns ≡ count_by (λ (e : LiveAssociation). f (stand_of_live e.live)) es
counts_in f gone ns once [] apart within = ap (λ t. count_by (λ (n : ℕ). t) ns) gone ∙ none_counted ns
counts_in f gone ns once (e ∷ es) apart within =
    let stand = stand_of_live e.live in
    let more = one_more f (standing_in es) e.number stand (rw apart.0 gone) ns once in
    let rest = counts_in f gone ns once es apart.1 (λ n live.
    by_cases (is_in n ns ≡ true) (e.number == n)
    (λ this. let same : e.number ≡ n = grind (arith, nat_tests, this) in
    let none : standing_in es n ≡ Stand.Gone = rw same at apart.0 in
    let e : true ≡ false = sym live ∙ (ap f none ∙ gone) in cc)
    (λ that. within n (rw that live))) in
    let this : (e.number == e.number) ≡ true = grind (arith, nat_tests) in
    let counted : cond (is_in e.number ns && f stand) 1 0 ≡ cond (f stand) 1 0 =
    by_cases (cond (is_in e.number ns && f stand) 1 0 ≡ cond (f stand) 1 0) (f stand)
    (λ live. let listed : is_in e.number ns ≡ true = within e.number (rw this live) in rw listed refl)
    (λ dead. rw dead (rw (and-false (is_in e.number ns)) refl)) in
    let under : LiveAssociation → Bool = λ (x : LiveAssociation). f (stand_of_live x.live) in
    add_entry (count_by (λ n. f (standing_in (e ∷ es) n)) ns) (count_by (λ n. f (standing_in es n)) ns) (count_by under es) (count_by under (e ∷ es)) (cond (f stand) 1 0)
    (cond (is_in e.number ns && f stand) 1 0) more rest counted (count_cons under e es (f stand) refl)

-- the live numbers of the history that pass a test are as many as the entries that pass it
counts : (f : Stand → Bool) → f Stand.Gone ≡ false → (h : List Line) (es : List LiveAssociation) → IsApart es → ((n : ℕ) → standing_in es n ≡ stand_of h n)
    → count_by (λ n. f (stand_of h n)) (opened_numbers h) ≡ count_by (λ (e : LiveAssociation). f (stand_of_live e.live)) es
counts f gone h es apart same =
    let stands : stand_of h ≡ standing_in es = fun_ext (λ n. sym (same n)) in
    ap (λ (s : ℕ → Stand). count_by (λ n. f (s n)) (opened_numbers h)) stands
    ∙ counts_in f gone (opened_numbers h) (IsDistinct-distinct (filter_map opened_number h)) es apart
    (λ n live. opened_if_live f gone h n (ap f (sym (same n)) ∙ live))

all_live : (es : List LiveAssociation) → count_by (λ (e : LiveAssociation). is_live (stand_of_live e.live)) es ≡ length es
all_live [] = refl
all_live (e ∷ es) =
    let first = count_cons (λ (x : LiveAssociation). is_live (stand_of_live x.live)) e es true (stand_of_live-is_live e.live) in
    first ∙ (ap (λ n. 1 + n) (all_live es) ∙ omega arith)

pub live_count-length : (h : List Line) (es : List LiveAssociation) → IsApart es → ((n : ℕ) → standing_in es n ≡ stand_of h n) → live_count h ≡ length es
live_count-length h es apart same = counts is_live refl h es apart same ∙ all_live es

gone_not_under : (generation : ℕ) (kind : ListKind) (rule : ℕ) → is_under generation kind rule Stand.Gone ≡ false
gone_not_under generation ListKind.Client rule = refl
gone_not_under generation ListKind.Socks rule = refl

pub held-held_in : (h : List Line) (es : List LiveAssociation) → IsApart es → ((n : ℕ) → standing_in es n ≡ stand_of h n)
    → (generation : ℕ) (kind : ListKind) (rule : ℕ) → held h generation kind rule ≡ held_in es generation kind rule
held-held_in h es apart same generation kind rule = counts (is_under generation kind rule) (gone_not_under generation kind rule) h es apart same
