-- What stands behind what was read.
use Rattle.std.proofs.Common.{◌≡◌, ℕ, List, [], ◌∷◌, ◌++◌, false, true≢false, Option, None, Result, Ok, Err, IsErrAnd, inl, inr, refl, sym, ap, ◌∙◌, subst, append_assoc}
use Rattle.std.specs.List.{join_with_byte}
use Rattle.std.proofs.lemmas.List.{append-nil}
use Rattle.conf_text.specs.declared.statement.Entry.{Entry}
use Rattle.conf_text.specs.declared.fault.TextFault.{TextFault}
use Rattle.conf_text.specs.declared.statement.Statement.{Statement}
use Rattle.conf_text.specs.Words.{Word, Value, words_from}
use Rattle.conf_text.specs.Statements.{has_value, Values, Entries, Statements, Wrong, IsReadable, Faulty, OnStatements}
use Rattle.conf_text.specs.Reading.{OnStatement}

-- one more piece
pub join_more : (first : List ℕ) (others : List (List ℕ)) (last : List ℕ) →
    join_with_byte 32 (first ∷ (others ++ last ∷ [])) ≡ (join_with_byte 32 (first ∷ others) ++ 32 ∷ []) ++ last
join_more first [] last = sym (append_assoc first (32 ∷ []) last)
join_more first (other ∷ others) last =
    ap (λ (z : List ℕ). first ++ (32 ∷ z)) (join_more other others last)
    ∙ (sym (append_assoc first (32 ∷ (join_with_byte 32 (other ∷ others) ++ 32 ∷ [])) last)
    ∙ ap (λ (z : List ℕ). z ++ last) (sym (append_assoc first (32 ∷ join_with_byte 32 (other ∷ others)) (32 ∷ []))))

pub entries_end : (words now : List Word) (entries : List Entry) →
    ((more : List Entry) (rest : List Word) → Entries now more rest → Entries words (entries ++ more) rest) → Entries words entries now
entries_end words now entries h = subst (λ (z : List Entry). Entries words z now) (append-nil entries) (h [] now refl)

pub values_end : (reach : Option ℕ) (words now : List Word) (texts : List (List ℕ)) →
    ((more : List (List ℕ)) (rest : List Word) → Values reach now more rest → Values reach words (texts ++ more) rest) → has_value reach now ≡ false →
    Values reach words texts now
values_end reach words now texts h k = subst (λ (z : List (List ℕ)). Values reach words z now) (append-nil texts) (h [] now (refl, k))

pub statements_end : (words now : List Word) (statements : List Statement) →
    ((more : List Statement) (rest : List Word) → Statements now more rest → Statements words (statements ++ more) rest) → Statements words statements now
statements_end words now statements h = subst (λ (z : List Statement). Statements words z now) (append-nil statements) (h [] now refl)

-- the values of an entry are followed by none
values_stop : (reach : Option ℕ) (words : List Word) (texts : List (List ℕ)) (rest : List Word) → Values reach words texts rest → has_value reach rest ≡ false
values_stop reach words [] rest h = subst (λ z. has_value reach z ≡ false) (sym h.0) h.1
values_stop reach words (text ∷ texts) rest h = values_stop reach h.1 texts rest h.4

-- a value stands only before the first entry of a block
pub value_first : (words : List Word) (entries : List Entry) (n : ℕ) (text : List ℕ) (rest : List Word) → Entries words entries (Value n text ∷ rest) → words ≡ Value n text ∷ rest
value_first words [] n text rest h = sym h
value_first words (entry ∷ entries) n text rest h =
    let behind = value_first h.0 entries n text rest h.2 in
    let stop = values_stop None h.1.0 entry.values h.0 h.1.2 in
    absurd (true≢false (subst (λ z. has_value None z ≡ false) behind stop))

-- a fault behind statements is the text's
pub fault_behind : (text : List ℕ) (statements : List Statement) (now rest : List Word) (fault : TextFault) →
    IsReadable text → Statements (words_from 1 text) statements now → OnStatement now rest (Err fault) → Faulty text fault
fault_behind text statements now rest (TextFault.NotAscii n) plain said h = absurd (no_not_ascii now n h)
  where
    no_not_ascii : (now : List Word) (n : ℕ) → Wrong now (TextFault.NotAscii n) → ⊥
    no_not_ascii now n (inl k) = k
    no_not_ascii now n (inr k) = k.5
fault_behind text statements now rest TextFault.TooLong plain said h = absurd (no_too_long now h)
  where
    no_too_long : (now : List Word) → Wrong now TextFault.TooLong → ⊥
    no_too_long now (inl k) = k
    no_too_long now (inr k) = k.5
fault_behind text statements now rest TextFault.Memory plain said h = tt
fault_behind text statements now rest (TextFault.NoColon n) plain said h = record { plain = plain; statements = statements; rest = now; said = said; wrong = h }
fault_behind text statements now rest (TextFault.UnclosedBlock n) plain said h = record { plain = plain; statements = statements; rest = now; said = said; wrong = h }
fault_behind text statements now rest (TextFault.StrayBrace n) plain said h = record { plain = plain; statements = statements; rest = now; said = said; wrong = h }

pub answer_fault : (text : List ℕ) (fault : TextFault) (answer : Result (List Statement) TextFault) → IsErrAnd answer (λ e. e ≡ fault) → Faulty text fault → OnStatements text answer
answer_fault text fault (Ok statements) h k = absurd h
answer_fault text fault (Err e) h k = subst (Faulty text) (sym h) k
