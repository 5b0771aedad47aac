-- A text has one reading, or one fault.
use Rattle.std.proofs.Common.{◌≡◌, ◌≢◌, ◌<◌, ◌≤◌, ℕ, false, true≢false, List, [], ◌∷◌, length, Option, Some, None, ◌⊎◌, inl, inr, refl, sym, ap, ◌∙◌, subst, arith}
use Rattle.conf_text.specs.declared.statement.Entry.{Entry}
use Rattle.conf_text.specs.declared.statement.Statement.{Statement}
use Rattle.conf_text.specs.declared.fault.TextFault.{TextFault}
use Rattle.conf_text.specs.Words.{Word, Open, Close, Key, Value, words_from, unreadable_from}
use Rattle.conf_text.specs.Statements.{has_open, Entries, Headed, Opens, Said, Statements, FaultAtTop, FaultInBlock, Wrong, longest, AreStatements, GoesWrong, Faulty}
use Rattle.conf_text.proofs.Unique.{one_entries, one_headed, one_inside, key_no_value, one_said}

-- a brace and another word are two words
open_no_close : (words : List Word) (m n : ℕ) (behind rest : List Word) → words ≡ Open m ∷ behind → words ≡ Close n ∷ rest → ⊥
open_no_close words m n behind rest h k = cc

brace_no_value : (words : List Word) (n : ℕ) (text : List ℕ) (rest : List Word) → words ≡ Value n text ∷ rest → (m : ℕ) → FaultAtTop words (TextFault.StrayBrace m) → ⊥
brace_no_value words n text rest k m (behind, inl h) = cc
brace_no_value words n text rest k m (behind, inr h) = cc

brace_no_key : (words : List Word) (n : ℕ) (name : List ℕ) (rest : List Word) → words ≡ Key n name ∷ rest → (m : ℕ) → FaultAtTop words (TextFault.StrayBrace m) → ⊥
brace_no_key words n name rest k m (behind, inl h) = cc
brace_no_key words n name rest k m (behind, inr h) = cc

-- words without a brace behind them open no block
opens_or_not : (words : List Word) (m n : ℕ) (key name : List ℕ) (at : ℕ) (inside rest : List Word) →
    Opens words m key at inside → Headed words n name rest → has_open rest ≡ false → ⊥
opens_or_not words m n key name at inside rest h k none =
    let q = one_headed words m n key name (Open at ∷ inside) rest h k in
    true≢false (ap has_open q.2 ∙ none)

-- no value stands before the first entry or the end of a block
value_no_entries : (inside : List Word) (entries : List Entry) (n : ℕ) (text : List ℕ) (rest behind : List Word) (last : Word) →
    inside ≡ Value n text ∷ rest → Entries inside entries (last ∷ behind) → ((x : List ℕ) (m : ℕ) → last ≡ Value m x → ⊥) → ⊥
value_no_entries inside [] n text rest behind last e h other = let q : last ≡ Value n text = cc in other text n q
value_no_entries inside (entry ∷ entries) n text rest behind last e h other = key_no_value inside entry.line n entry.key text h.1.0 rest h.1.1 e

close_no_value : (end : ℕ) (x : List ℕ) (m : ℕ) → Close end ≡ Value m x → ⊥
close_no_value end x m e = cc

open_no_value : (end : ℕ) (x : List ℕ) (m : ℕ) → Open end ≡ Value m x → ⊥
open_no_value end x m e = cc

value_no_end : (inside : List Word) (entries : List Entry) (n : ℕ) (text : List ℕ) (rest : List Word) → inside ≡ Value n text ∷ rest → Entries inside entries [] → ⊥
value_no_end inside [] n text rest e h = cc
value_no_end inside (entry ∷ entries) n text rest e h = key_no_value inside entry.line n entry.key text h.1.0 rest h.1.1 e

-- a block that ends has no fault
closed_right : (at : ℕ) (inside : List Word) (entries : List Entry) (end : ℕ) (rest : List Word) (fault : TextFault) →
    Entries inside entries (Close end ∷ rest) → FaultInBlock at inside fault → ⊥
closed_right at inside entries end rest (TextFault.NoColon n) h k = value_no_entries inside entries n k.0 k.1 rest (Close end) k.2 h (close_no_value end)
closed_right at inside entries end rest (TextFault.StrayBrace n) h k =
    let q = one_entries inside entries k.0 (Close end ∷ rest) (Open n ∷ k.1) h refl k.2 refl in
    open_no_close (Open n ∷ k.1) n end k.1 rest refl (sym q.1)
closed_right at inside entries end rest (TextFault.UnclosedBlock n) h k =
    let q = one_entries inside entries k.0 (Close end ∷ rest) [] h refl k.1 refl in
    let e : Close end ∷ rest ≡ [] = q.1 in
    cc
closed_right at inside entries end rest _ h k = k

top_right : (words : List Word) (line : ℕ) (key : List ℕ) (values : List (List ℕ)) (block : Option (List Entry)) (rest : List Word) (fault : TextFault) →
    Said words line key values block rest → FaultAtTop words fault → ⊥
top_right words line key values None rest (TextFault.StrayBrace n) h k = brace_no_key words line key h.0 h.1 n k
top_right words line key values None rest (TextFault.NoColon n) h k = key_no_value words line n key k.2.first h.0 k.2.behind h.1 k.2.begins
top_right words line key values (Some entries) rest (TextFault.StrayBrace n) h k = brace_no_value words line h.1.opens.first h.1.opens.behind h.1.opens.begins n k
top_right words line key values (Some entries) rest (TextFault.NoColon n) h k = opens_or_not words line n key k.0 h.1.at h.1.inside k.1 h.1.opens k.2 k.3
top_right words line key values block rest _ h k = k

block_right : (words : List Word) (line : ℕ) (key : List ℕ) (values : List (List ℕ)) (block : Option (List Entry)) (rest : List Word) (fault : TextFault) (n : ℕ) (name : List ℕ) (at : ℕ) (inside : List Word) →
    Said words line key values block rest → Opens words n name at inside → FaultInBlock at inside fault → ⊥
block_right words line key values None rest fault n name at inside h o k = key_no_value words line n key o.first h.0 o.behind h.1 o.begins
block_right words line key values (Some entries) rest fault n name at inside h o k =
    let q = one_inside words line n key name h.1.at at h.1.inside inside h.1.opens o in
    closed_right at inside entries h.1.end rest fault (subst (λ (z : List Word). Entries z entries (Close h.1.end ∷ rest)) q.3 h.1.entered) k

-- where a statement stands, nothing is wrong
said_right : (words : List Word) (s : Statement) (rest : List Word) (fault : TextFault) → Said words s.line s.key s.values s.block rest → Wrong words fault → ⊥
said_right words s rest fault h (inl k) = top_right words s.line s.key s.values s.block rest fault h k
said_right words s rest fault h (inr k) = block_right words s.line s.key s.values s.block rest fault k.0 k.1 k.2 k.3 h k.4 k.5

one_top : (words : List Word) (f g : TextFault) → FaultAtTop words f → FaultAtTop words g → f ≡ g
one_top words (TextFault.StrayBrace n) (TextFault.StrayBrace m) (behind, inl h) (rest, inl k) = let e : n ≡ m = cc in ap TextFault.StrayBrace e
one_top words (TextFault.StrayBrace n) (TextFault.StrayBrace m) (behind, inl h) (rest, inr k) = absurd (open_no_close words n m behind rest h k)
one_top words (TextFault.StrayBrace n) (TextFault.StrayBrace m) (behind, inr h) (rest, inl k) = absurd (open_no_close words m n rest behind k h)
one_top words (TextFault.StrayBrace n) (TextFault.StrayBrace m) (behind, inr h) (rest, inr k) = let e : n ≡ m = cc in ap TextFault.StrayBrace e
one_top words (TextFault.StrayBrace n) (TextFault.NoColon m) h k = absurd (brace_no_value words m k.2.first k.2.behind k.2.begins n h)
one_top words (TextFault.NoColon n) (TextFault.StrayBrace m) h k = absurd (brace_no_value words n h.2.first h.2.behind h.2.begins m k)
one_top words (TextFault.NoColon n) (TextFault.NoColon m) h k = ap TextFault.NoColon (one_headed words n m h.0 k.0 h.1 k.1 h.2 k.2).0
one_top words (TextFault.StrayBrace n) _ h k = absurd k
one_top words (TextFault.NoColon n) _ h k = absurd k
one_top words _ g h k = absurd h

top_no_block : (words : List Word) (f : TextFault) (n : ℕ) (name : List ℕ) (at : ℕ) (inside : List Word) → FaultAtTop words f → Opens words n name at inside → ⊥
top_no_block words (TextFault.StrayBrace m) n name at inside h k = brace_no_value words n k.first k.behind k.begins m h
top_no_block words (TextFault.NoColon m) n name at inside h k = opens_or_not words n m name h.0 at inside h.1 k h.2 h.3
top_no_block words _ n name at inside h k = h

one_in_block : (at : ℕ) (inside : List Word) (f g : TextFault) → FaultInBlock at inside f → FaultInBlock at inside g → f ≡ g
one_in_block at inside (TextFault.NoColon n) (TextFault.NoColon m) h k =
    let same : Value n h.0 ∷ h.1 ≡ Value m k.0 ∷ k.1 = sym h.2 ∙ k.2 in
    let e : n ≡ m = cc in
    ap TextFault.NoColon e
one_in_block at inside (TextFault.NoColon n) (TextFault.StrayBrace m) h k = absurd (value_no_entries inside k.0 n h.0 h.1 k.1 (Open m) h.2 k.2 (open_no_value m))
one_in_block at inside (TextFault.NoColon n) (TextFault.UnclosedBlock m) h k = absurd (value_no_end inside k.0 n h.0 h.1 h.2 k.1)
one_in_block at inside (TextFault.StrayBrace n) (TextFault.NoColon m) h k = absurd (value_no_entries inside h.0 m k.0 k.1 h.1 (Open n) k.2 h.2 (open_no_value n))
one_in_block at inside (TextFault.StrayBrace n) (TextFault.StrayBrace m) h k =
    let q = one_entries inside h.0 k.0 (Open n ∷ h.1) (Open m ∷ k.1) h.2 refl k.2 refl in
    let same : Open n ∷ h.1 ≡ Open m ∷ k.1 = q.1 in
    let e : n ≡ m = cc in
    ap TextFault.StrayBrace e
one_in_block at inside (TextFault.StrayBrace n) (TextFault.UnclosedBlock m) h k =
    let q = one_entries inside h.0 k.0 (Open n ∷ h.1) [] h.2 refl k.1 refl in
    let same : Open n ∷ h.1 ≡ [] = q.1 in
    cc
one_in_block at inside (TextFault.UnclosedBlock n) (TextFault.NoColon m) h k = absurd (value_no_end inside h.0 m k.0 k.1 k.2 h.1)
one_in_block at inside (TextFault.UnclosedBlock n) (TextFault.StrayBrace m) h k =
    let q = one_entries inside h.0 k.0 [] (Open m ∷ k.1) h.1 refl k.2 refl in
    let same : [] ≡ Open m ∷ k.1 = q.1 in
    cc
one_in_block at inside (TextFault.UnclosedBlock n) (TextFault.UnclosedBlock m) h k = ap TextFault.UnclosedBlock (h.2 ∙ sym k.2)
one_in_block at inside (TextFault.NoColon n) _ h k = absurd k
one_in_block at inside (TextFault.StrayBrace n) _ h k = absurd k
one_in_block at inside (TextFault.UnclosedBlock n) _ h k = absurd k
one_in_block at inside _ g h k = absurd h

one_wrong : (words : List Word) (f g : TextFault) → Wrong words f → Wrong words g → f ≡ g
one_wrong words f g (inl h) (inl k) = one_top words f g h k
one_wrong words f g (inl h) (inr k) = absurd (top_no_block words f k.0 k.1 k.2 k.3 h k.4)
one_wrong words f g (inr h) (inl k) = absurd (top_no_block words g h.0 h.1 h.2 h.3 k h.4)
one_wrong words f g (inr h) (inr k) =
    let q = one_inside words h.0 k.0 h.1 k.1 h.2 k.2 h.3 k.3 h.4 k.4 in
    one_in_block h.2 h.3 f g h.5 (subst (λ (z : ℕ). FaultInBlock z h.3 g) (sym q.2) (subst (λ (z : List Word). FaultInBlock k.2 z g) (sym q.3) k.5))

-- no statement stands here
unfoldable NoMore : List Word → Type 0
NoMore words = (s : Statement) (rest : List Word) → Said words s.line s.key s.values s.block rest → ⊥

statement_is : (s t : Statement) → s.line ≡ t.line → s.key ≡ t.key → s.values ≡ t.values → s.block ≡ t.block → s ≡ t
statement_is s t l k v b =
    ap (λ (z : ℕ). let r : Statement = record { line = z; key = s.key; values = s.values; block = s.block } in r) l
    ∙ (ap (λ (z : List ℕ). let r : Statement = record { line = t.line; key = z; values = s.values; block = s.block } in r) k
    ∙ (ap (λ (z : List (List ℕ)). let r : Statement = record { line = t.line; key = t.key; values = z; block = s.block } in r) v
    ∙ ap (λ (z : Option (List Entry)). let r : Statement = record { line = t.line; key = t.key; values = t.values; block = z } in r) b))

one_reading : (words : List Word) (ss ts : List Statement) (rest other : List Word) →
    Statements words ss rest → NoMore rest → Statements words ts other → NoMore other → (ss ≡ ts) × (rest ≡ other)
unfolding NoMore
one_reading words [] [] rest other h a k b = (refl, h ∙ sym k)
one_reading words [] (t ∷ ts) rest other h a k b = absurd (a t k.0 (subst (λ (z : List Word). Said z t.line t.key t.values t.block k.0) (sym h) k.1))
one_reading words (s ∷ ss) [] rest other h a k b = absurd (b s h.0 (subst (λ (z : List Word). Said z s.line s.key s.values s.block h.0) (sym k) h.1))
one_reading words (s ∷ ss) (t ∷ ts) rest other h a k b =
    let q = one_said words s.line t.line s.key t.key s.values t.values s.block t.block h.0 k.0 h.1 k.1 in
    let r = one_reading h.0 ss ts rest other h.2 a (subst (λ (z : List Word). Statements z ts other) (sym q.4) k.2) b in
    let one : s ≡ t = statement_is s t q.0 q.1 q.2 q.3 in
    let more : ss ≡ ts = r.0 in
    (cc, r.1)

nothing_said : (line : ℕ) (key : List ℕ) (values : List (List ℕ)) (block : Option (List Entry)) (rest : List Word) → Said [] line key values block rest → ⊥
nothing_said line key values None rest h = let e : [] ≡ Key line key ∷ h.0 = h.1 in cc
nothing_said line key values (Some entries) rest h = let e : [] ≡ Value line h.1.opens.first ∷ h.1.opens.behind = h.1.opens.begins in cc

none_at_end : NoMore []
unfolding NoMore
none_at_end = λ s rest h. nothing_said s.line s.key s.values s.block rest h

none_where_wrong : (words : List Word) (fault : TextFault) → Wrong words fault → NoMore words
unfolding NoMore
none_where_wrong words fault h = λ s rest k. said_right words s rest fault k h

nothing_wrong : (fault : TextFault) → Wrong [] fault → ⊥
nothing_wrong fault (inr h) = let e : [] ≡ Value h.0 h.4.first ∷ h.4.behind = h.4.begins in cc
nothing_wrong (TextFault.StrayBrace n) (inl (rest, inl h)) = cc
nothing_wrong (TextFault.StrayBrace n) (inl (rest, inr h)) = cc
nothing_wrong (TextFault.NoColon n) (inl h) = let e : [] ≡ Value n h.2.first ∷ h.2.behind = h.2.begins in cc
nothing_wrong _ (inl h) = h

pub readings_agree : (text : List ℕ) (ss ts : List Statement) → AreStatements text ss → AreStatements text ts → ss ≡ ts
readings_agree text ss ts h k = (one_reading (words_from 1 text) ss ts [] [] h.said none_at_end k.said none_at_end).0

read_or_wrong : (text : List ℕ) (ss : List Statement) (fault : TextFault) → AreStatements text ss → GoesWrong text fault → ⊥
read_or_wrong text ss fault h k =
    let q = one_reading (words_from 1 text) ss k.statements [] k.rest h.said none_at_end k.said (none_where_wrong k.rest fault k.wrong) in
    nothing_wrong fault (subst (λ (z : List Word). Wrong z fault) (sym q.1) k.wrong)

pub text_faultless : (text : List ℕ) (ss : List Statement) (fault : TextFault) → AreStatements text ss → Faulty text fault → fault ≡ TextFault.Memory
text_faultless text ss TextFault.TooLong h k = let a = h.plain.small in absurd (omega (arith, a, k))
text_faultless text ss (TextFault.NotAscii n) h k = let e : None ≡ Some n = sym h.plain.readable ∙ k.1 in cc
text_faultless text ss TextFault.Memory h k = refl
text_faultless text ss (TextFault.NoColon n) h k = absurd (read_or_wrong text ss (TextFault.NoColon n) h k)
text_faultless text ss (TextFault.UnclosedBlock n) h k = absurd (read_or_wrong text ss (TextFault.UnclosedBlock n) h k)
text_faultless text ss (TextFault.StrayBrace n) h k = absurd (read_or_wrong text ss (TextFault.StrayBrace n) h k)

-- which of the three kinds a fault is
Place : List ℕ → TextFault → Type 0
Place text fault =
    ((fault ≡ TextFault.TooLong) × (longest < length text))
    ⊎ ((n : ℕ) × (fault ≡ TextFault.NotAscii n) × (length text ≤ longest) × (unreadable_from 1 text ≡ Some n))
    ⊎ GoesWrong text fault

place : (text : List ℕ) (fault : TextFault) → Faulty text fault → fault ≢ TextFault.Memory → Place text fault
unfolding Place
place text TextFault.TooLong h other = inl (refl, h)
place text (TextFault.NotAscii n) h other = inr (inl (n, refl, h.0, h.1))
place text TextFault.Memory h other = absurd (other refl)
place text (TextFault.NoColon n) h other = inr (inr h)
place text (TextFault.UnclosedBlock n) h other = inr (inr h)
place text (TextFault.StrayBrace n) h other = inr (inr h)

one_place : (text : List ℕ) (f g : TextFault) → Place text f → Place text g → f ≡ g
unfolding Place
one_place text f g (inl h) (inl k) = h.0 ∙ sym k.0
one_place text f g (inl h) (inr (inl k)) = let a = h.1 in let b = k.2 in absurd (omega (arith, a, b))
one_place text f g (inl h) (inr (inr k)) = let a = h.1 in let b = k.plain.small in absurd (omega (arith, a, b))
one_place text f g (inr (inl h)) (inl k) = let a = k.1 in let b = h.2 in absurd (omega (arith, a, b))
one_place text f g (inr (inl h)) (inr (inl k)) =
    let e : Some h.0 ≡ Some k.0 = sym h.3 ∙ k.3 in
    let q : h.0 ≡ k.0 = cc in
    h.1 ∙ (ap TextFault.NotAscii q ∙ sym k.1)
one_place text f g (inr (inl h)) (inr (inr k)) = let e : Some h.0 ≡ None = sym h.3 ∙ k.plain.readable in cc
one_place text f g (inr (inr h)) (inl k) = let a = k.1 in let b = h.plain.small in absurd (omega (arith, a, b))
one_place text f g (inr (inr h)) (inr (inl k)) = let e : Some k.0 ≡ None = sym k.3 ∙ h.plain.readable in cc
one_place text f g (inr (inr h)) (inr (inr k)) =
    let q = one_reading (words_from 1 text) h.statements k.statements h.rest k.rest h.said (none_where_wrong h.rest f h.wrong) k.said (none_where_wrong k.rest g k.wrong) in
    one_wrong h.rest f g h.wrong (subst (λ (z : List Word). Wrong z g) (sym q.1) k.wrong)

pub one_fault : (text : List ℕ) (f g : TextFault) → Faulty text f → Faulty text g → f ≢ TextFault.Memory → g ≢ TextFault.Memory → f ≡ g
one_fault text f g h k a b = one_place text f g (place text f h a) (place text g k b)
