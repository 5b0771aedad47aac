-- What entries and statements say one after the other.
use Rattle.std.proofs.Common.{◌≡◌, ℕ, ◌+◌, List, [], ◌∷◌, ◌++◌, Result, Ok, Err, sym, ap, subst, ◌∙◌}
use Rattle.conf_types.specs.declared.entries.Entries.{Entries}
use Rattle.conf_model.specs.declared.fault.ConfFault.{ConfFault}
use Rattle.conf_model.specs.declared.fault.ConfKind.{ConfKind}
use Rattle.conf_model.specs.declared.given.Given.{Given}
use Rattle.conf_model.specs.declared.keys.BlockKind.{BlockKind}
use Rattle.conf_model.specs.Blocks.{at_line, entries_onto, entry_of_key}
use Rattle.conf_model.specs.Keys.{entry_key}
use Rattle.conf_model.specs.Settings.{statement_onto, statements_onto}
use Rattle.conf_text.proofs.Parts.{Item, Part, entries_at, line_behind, statement_at, statements_at}

-- with these entries in a block, more is given
abbrev pub EntriesOnto : BlockKind → Given → List Item → Given → Type 0
EntriesOnto kind g [] h = g ≡ h
EntriesOnto kind g (i ∷ items) h = (f : Given) × (entry_of_key kind g i.values (entry_key i.key) ≡ Ok f) × EntriesOnto kind f items h

pub entries-onto : (kind : BlockKind) (g : Given) (items : List Item) (h : Given) (n : ℕ) → EntriesOnto kind g items h → entries_onto kind g (entries_at n items) ≡ Ok h
entries-onto kind g [] h n e = ap Ok e
entries-onto kind g (i ∷ items) h n e =
    ap (λ (z : Result Given ConfKind). elim (at_line n z) [ Ok f ↦ entries_onto kind f (entries_at (n + 1) items) | Err fault ↦ Err fault ]) e.1
    ∙ entries-onto kind e.0 items h (n + 1) e.2

pub entries-then : (kind : BlockKind) (g f h : Given) (xs ys : List Item) → EntriesOnto kind g xs f → EntriesOnto kind f ys h → EntriesOnto kind g (xs ++ ys) h
entries-then kind g f h [] ys e k = subst (λ (z : Given). EntriesOnto kind z ys h) (sym e) k
entries-then kind g f h (i ∷ xs) ys e k = (e.0, e.1, entries-then kind e.0 f h xs ys e.2 k)

-- with these statements a configuration says more, whatever their lines are
abbrev pub PartOnto : Entries → Part → Entries → Type 0
PartOnto c p d = (n : ℕ) → statement_onto c (statement_at n p) ≡ Ok d

abbrev pub PartsOnto : Entries → List Part → Entries → Type 0
PartsOnto c [] d = c ≡ d
PartsOnto c (p ∷ parts) d = (e : Entries) × PartOnto c p e × PartsOnto e parts d

pub statements-onto : (c : Entries) (parts : List Part) (d : Entries) (n : ℕ) → PartsOnto c parts d → statements_onto c (statements_at n parts) ≡ Ok d
statements-onto c [] d n e = ap Ok e
statements-onto c (p ∷ parts) d n e =
    ap (λ (z : Result Entries ConfFault). elim z [ Ok f ↦ statements_onto f (statements_at (line_behind n p) parts) | Err fault ↦ Err fault ]) (e.1 n)
    ∙ statements-onto e.0 parts d (line_behind n p) e.2

pub parts-then : (c d e : Entries) (xs ys : List Part) → PartsOnto c xs d → PartsOnto d ys e → PartsOnto c (xs ++ ys) e
parts-then c d e [] ys h k = subst (λ (z : Entries). PartsOnto z ys e) (sym h) k
parts-then c d e (p ∷ xs) ys h k = (h.0, h.1, parts-then h.0 d e xs ys h.2 k)
