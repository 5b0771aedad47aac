-- Words are read in one way.
use Rattle.std.proofs.Common.{◌≡◌, ℕ, Bool, true, false, true≢false, List, [], ◌∷◌, Option, Some, None, refl, sym, ap, ◌∙◌, subst}
use Rattle.std.specs.List.{join_with_byte}
use Rattle.conf_text.specs.declared.statement.Entry.{Entry}
use Rattle.conf_text.specs.Words.{Word, Open, Close, Key, Value}
use Rattle.conf_text.specs.Statements.{is_in_reach, has_value, Values, Entered, Entries, Headed, Opens, Closed, Said}

-- what reads a text of words also reads an equal one
has_some : (reach : Option ℕ) (words behind : List Word) (n : ℕ) (text : List ℕ) → words ≡ Value n text ∷ behind → is_in_reach reach n ≡ true → has_value reach words ≡ true
has_some reach words behind n text e h = ap (has_value reach) e ∙ h

one_values : (reach : Option ℕ) (words : List Word) (ts us : List (List ℕ)) (rest other : List Word) →
    Values reach words ts rest → Values reach words us other → (ts ≡ us) × (rest ≡ other)
one_values reach words [] [] rest other h k = (refl, h.0 ∙ sym k.0)
one_values reach words [] (u ∷ us) rest other h k = absurd (true≢false (sym (has_some reach words k.1 k.0 u k.2 k.3) ∙ h.1))
one_values reach words (t ∷ ts) [] rest other h k = absurd (true≢false (sym (has_some reach words h.1 h.0 t h.2 h.3) ∙ k.1))
one_values reach words (t ∷ ts) (u ∷ us) rest other h k =
    let same : Value h.0 t ∷ h.1 ≡ Value k.0 u ∷ k.1 = sym h.2 ∙ k.2 in
    let texts : t ≡ u = cc in
    let behind : k.1 ≡ h.1 = cc in
    let r = one_values reach h.1 ts us rest other h.4 (subst (λ (z : List Word). Values reach z us other) behind k.4) in
    let more : ts ≡ us = r.0 in
    (cc, r.1)

one_entered : (reach : Option ℕ) (words : List Word) (m n : ℕ) (key name : List ℕ) (ts us : List (List ℕ)) (rest other : List Word) →
    Entered reach words m key ts rest → Entered reach words n name us other → (m ≡ n) × (key ≡ name) × (ts ≡ us) × (rest ≡ other)
one_entered reach words m n key name ts us rest other h k =
    let same : Key m key ∷ h.0 ≡ Key n name ∷ k.0 = sym h.1 ∙ k.1 in
    let behind : k.0 ≡ h.0 = cc in
    let lines : m ≡ n = cc in
    let keys : key ≡ name = cc in
    let r = one_values reach h.0 ts us rest other h.2 (subst (λ (z : List Word). Values reach z us other) behind k.2) in
    (lines, keys, r.0, r.1)

-- a key stands first
abbrev pub has_key : List Word → Bool
has_key (Key n name ∷ rest) = true
has_key _ = false

entry_is : (e f : Entry) → e.line ≡ f.line → e.key ≡ f.key → e.values ≡ f.values → e ≡ f
entry_is e f l k v =
    ap (λ (z : ℕ). let r : Entry = record { line = z; key = e.key; values = e.values } in r) l
    ∙ (ap (λ (z : List ℕ). let r : Entry = record { line = f.line; key = z; values = e.values } in r) k
    ∙ ap (λ (z : List (List ℕ)). let r : Entry = record { line = f.line; key = f.key; values = z } in r) v)

pub one_entries : (words : List Word) (es fs : List Entry) (rest other : List Word) →
    Entries words es rest → has_key rest ≡ false → Entries words fs other → has_key other ≡ false → (es ≡ fs) × (rest ≡ other)
one_entries words [] [] rest other h a k b = (refl, h ∙ sym k)
one_entries words [] (f ∷ fs) rest other h a k b = absurd (true≢false (sym (ap has_key k.1.1) ∙ subst (λ (z : List Word). has_key z ≡ false) h a))
one_entries words (e ∷ es) [] rest other h a k b = absurd (true≢false (sym (ap has_key h.1.1) ∙ subst (λ (z : List Word). has_key z ≡ false) k b))
one_entries words (e ∷ es) (f ∷ fs) rest other h a k b =
    let q = one_entered None words e.line f.line e.key f.key e.values f.values h.0 k.0 h.1 k.1 in
    let r = one_entries h.0 es fs rest other h.2 a (subst (λ (z : List Word). Entries z fs other) (sym q.3) k.2) b in
    let one : e ≡ f = entry_is e f q.0 q.1 q.2 in
    let more : es ≡ fs = r.0 in
    (cc, r.1)

pub one_headed : (words : List Word) (m n : ℕ) (key name : List ℕ) (rest other : List Word) →
    Headed words m key rest → Headed words n name other → (m ≡ n) × (key ≡ name) × (rest ≡ other)
one_headed words m n key name rest other h k =
    let same : Value m h.first ∷ h.behind ≡ Value n k.first ∷ k.behind = sym h.begins ∙ k.begins in
    let lines : m ≡ n = cc in
    let firsts : h.first ≡ k.first = cc in
    let behind : k.behind ≡ h.behind = cc in
    let r = one_values None h.behind h.others k.others rest other h.goes_on (subst (λ (z : List Word). Values None z k.others other) behind k.goes_on) in
    let others : h.others ≡ k.others = r.0 in
    let pieces : h.first ∷ h.others ≡ k.first ∷ k.others = cc in
    (lines, h.joined ∙ (ap (join_with_byte 32) pieces ∙ sym k.joined), r.1)

-- a block has one inside
pub one_inside : (words : List Word) (m n : ℕ) (key name : List ℕ) (at from : ℕ) (inside other : List Word) →
    Opens words m key at inside → Opens words n name from other → (m ≡ n) × (key ≡ name) × (at ≡ from) × (inside ≡ other)
one_inside words m n key name at from inside other h k =
    let r = one_headed words m n key name (Open at ∷ inside) (Open from ∷ other) h k in
    let same : Open at ∷ inside ≡ Open from ∷ other = r.2 in
    let places : at ≡ from = cc in
    let insides : inside ≡ other = cc in
    (r.0, r.1, places, insides)

one_closed : (words : List Word) (m n : ℕ) (key name : List ℕ) (es fs : List Entry) (rest other : List Word) →
    Closed words m key es rest → Closed words n name fs other → (m ≡ n) × (key ≡ name) × (es ≡ fs) × (rest ≡ other)
one_closed words m n key name es fs rest other h k =
    let q = one_inside words m n key name h.at k.at h.inside k.inside h.opens k.opens in
    let r = one_entries h.inside es fs (Close h.end ∷ rest) (Close k.end ∷ other) h.entered refl
    (subst (λ (z : List Word). Entries z fs (Close k.end ∷ other)) (sym q.3) k.entered) refl in
    let same : Close h.end ∷ rest ≡ Close k.end ∷ other = r.1 in
    let behind : rest ≡ other = cc in
    (q.0, q.1, r.0, behind)

-- a statement's first word says whether it is a block
pub key_no_value : (words : List Word) (m n : ℕ) (key text : List ℕ) (behind rest : List Word) → words ≡ Key m key ∷ behind → words ≡ Value n text ∷ rest → ⊥
key_no_value words m n key text behind rest h k = cc

pub one_said : (words : List Word) (m n : ℕ) (key name : List ℕ) (ts us : List (List ℕ)) (b d : Option (List Entry)) (rest other : List Word) →
    Said words m key ts b rest → Said words n name us d other → (m ≡ n) × (key ≡ name) × (ts ≡ us) × (b ≡ d) × (rest ≡ other)
one_said words m n key name ts us None None rest other h k =
    let same : Key m key ∷ h.0 ≡ Key n name ∷ k.0 = sym h.1 ∙ k.1 in
    let lines : n ≡ m = cc in
    let r = one_entered (Some m) words m n key name ts us rest other h (subst (λ (z : ℕ). Entered (Some z) words n name us other) lines k) in
    (r.0, r.1, r.2, refl, r.3)
one_said words m n key name ts us None (Some es) rest other h k = absurd (key_no_value words m n key k.1.opens.first h.0 k.1.opens.behind h.1 k.1.opens.begins)
one_said words m n key name ts us (Some es) None rest other h k = absurd (key_no_value words n m name h.1.opens.first k.0 h.1.opens.behind k.1 h.1.opens.begins)
one_said words m n key name ts us (Some es) (Some fs) rest other h k =
    let r = one_closed words m n key name es fs rest other h.1 k.1 in
    (r.0, r.1, h.0 ∙ sym k.0, ap Some r.2, r.3)
