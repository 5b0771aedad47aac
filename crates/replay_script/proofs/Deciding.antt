-- A text has one reading.
use Rattle.std.proofs.Common.{◌≡◌, ◌≢◌, ◌≤◌, ◌+◌, ℕ, List, [], ◌∷◌, length, sym, subst, ap, ◌∙◌, refl, arith}
use Rattle.socks_machine.specs.declared.script.ScriptLine.{ScriptLine}
use Rattle.replay_script.specs.declared.entry.TextLine.{TextLine}
use Rattle.replay_script.specs.declared.state.State.{State}
use Rattle.replay_script.specs.declared.fault.ScriptKind.{ScriptKind}
use Rattle.replay_script.specs.Conditions.{start}
use Rattle.replay_script.specs.Cuts.{IsLine}
use Rattle.replay_script.specs.Script.{behind_entry, lines_of, Serves, Reads, Refuses, RefusesText, Stuck, AreLines, IsStuckAt, IsRefusedAt, IsScript, IsNotBuilt, IsRefused, Faulty, header, longest}
use Rattle.replay_script.proofs.Steps.{one_begins, one_refusal, begins_shorter, refused_apart, refused_some}
use Rattle.replay_script.proofs.Reading.{one_first}

-- nothing more is served
unfoldable NoMore : State → List ℕ → Type 0
NoMore s text = (l : TextLine) (lines : ℕ) (behind : List ℕ) → Serves s text l lines behind → ⊥

same_reads : (s : State) (text : List ℕ) (at : ℕ) (ls ms : List TextLine) (rest other : List ℕ) (now last : State) (n k : ℕ) →
    Reads s text at ls rest now n → NoMore now rest → Reads s text at ms other last k → NoMore last other →
    (ls ≡ ms) × (rest ≡ other) × (n ≡ k) × (now ≡ last)
unfolding NoMore
same_reads s text at [] [] rest other now last n k h a j b = (refl, h.0 ∙ sym j.0, h.2 ∙ sym j.2, h.1 ∙ sym j.1)
same_reads s text at [] (m ∷ ms) rest other now last n k h a j b =
    absurd (a m j.0 j.1 (subst (λ (z : State). Serves z rest m j.0 j.1) (sym h.1) (subst (λ (z : List ℕ). Serves s z m j.0 j.1) (sym h.0) j.2)))
same_reads s text at (l ∷ ls) [] rest other now last n k h a j b =
    absurd (b l h.0 h.1 (subst (λ (z : State). Serves z other l h.0 h.1) (sym j.1) (subst (λ (z : List ℕ). Serves s z l h.0 h.1) (sym j.0) h.2)))
same_reads s text at (l ∷ ls) (m ∷ ms) rest other now last n k h a j b =
    let q = one_begins text l m h.0 j.0 h.1 j.1 h.2.begins j.2.begins in
    let moved : Reads (behind_entry s l) h.1 (at + h.0) ms other last k =
    subst (λ (z : TextLine). Reads (behind_entry s z) h.1 (at + h.0) ms other last k) (sym q.0)
    (subst (λ (z : ℕ). Reads (behind_entry s m) h.1 (at + z) ms other last k) (sym q.1)
    (subst (λ (z : List ℕ). Reads (behind_entry s m) z (at + j.0) ms other last k) (sym q.2) j.3)) in
    let r = same_reads (behind_entry s l) h.1 (at + h.0) ls ms rest other now last n k h.3 a moved b in
    (cc (q.0, r.0), r.1, r.2, r.3)

none_behind : (s : State) → NoMore s []
unfolding NoMore
none_behind s = λ l lines behind h. let k = begins_shorter [] l lines behind h.begins in let a = k.0 in let b = k.1 in absurd (omega (arith, a, b))

stuck_none : (s : State) (text : List ℕ) → Stuck s text → NoMore s text
unfolding NoMore
stuck_none s text h = h.1.serves

refused_none : (s : State) (text : List ℕ) (kind : ScriptKind) → Refuses s text kind → NoMore s text
unfolding NoMore
refused_none s text kind h = λ l lines behind k. refused_apart text kind l lines behind h.faulty k.begins

pub scripts_agree : (text : List ℕ) (ls ms : List ScriptLine) → IsScript text ls → IsScript text ms → ls ≡ ms
scripts_agree text ls ms h k =
    let q = (one_first text header header h.behind k.behind h.head k.head).1 in
    let a = h.lines in
    let b : AreLines h.behind ms = subst (λ (z : List ℕ). AreLines z ms) (sym q) k.lines in
    let r = (same_reads start h.behind 2 a.entries b.entries [] [] a.last b.last a.number b.number a.reading (none_behind a.last) b.reading (none_behind b.last)).0 in
    a.shown ∙ (ap lines_of r ∙ sym b.shown)

pub script_apart : (text : List ℕ) (ls : List ScriptLine) (n : ℕ) → IsScript text ls → IsNotBuilt text n → ⊥
script_apart text ls n h k =
    let q = (one_first text header header h.behind k.behind h.head k.head).1 in
    let a = h.lines in
    let b : IsStuckAt h.behind n = subst (λ (z : List ℕ). IsStuckAt z n) (sym q) k.stuck in
    let r = (same_reads start h.behind 2 a.entries b.entries [] b.rest a.last b.last a.number n a.reading (none_behind a.last) b.reading (stuck_none b.last b.rest b.stuck)).1 in
    let e : 0 ≡ length b.rest = ap length r in
    let some = b.stuck.0 in
    absurd (omega (arith, e, some))

-- nor is a script refused
script_unrefused : (text : List ℕ) (ls : List ScriptLine) (n : ℕ) (kind : ScriptKind) → IsScript text ls → IsRefused text n kind → ⊥
script_unrefused text ls n kind h k =
    let q = (one_first text header header h.behind k.behind h.head k.head).1 in
    let a = h.lines in
    let b : IsRefusedAt h.behind n kind = subst (λ (z : List ℕ). IsRefusedAt z n kind) (sym q) k.refused in
    let r = (same_reads start h.behind 2 a.entries b.entries [] b.rest a.last b.last a.number n a.reading (none_behind a.last) b.reading (refused_none b.last b.rest kind b.refuses)).1 in
    let e : 0 ≡ length b.rest = ap length r in
    let some = refused_some b.rest kind b.refuses.faulty in
    absurd (omega (arith, e, some))

refusals_agree : (text : List ℕ) (n m : ℕ) (f g : ScriptKind) → IsRefused text n f → IsRefused text m g → (n ≡ m) × (f ≡ g)
refusals_agree text n m f g h k =
    let q = (one_first text header header h.behind k.behind h.head k.head).1 in
    let a = h.refused in
    let b : IsRefusedAt h.behind m g = subst (λ (z : List ℕ). IsRefusedAt z m g) (sym q) k.refused in
    let r = same_reads start h.behind 2 a.entries b.entries a.rest b.rest a.last b.last n m a.reading (refused_none a.last a.rest f a.refuses) b.reading (refused_none b.last b.rest g b.refuses) in
    (r.2, one_refusal a.rest f g a.refuses.faulty (subst (λ (z : List ℕ). RefusesText z g) (sym r.1) b.refuses.faulty))

refused_built : (text : List ℕ) (n m : ℕ) (f : ScriptKind) → IsRefused text n f → IsNotBuilt text m → ⊥
refused_built text n m f h k =
    let q = (one_first text header header h.behind k.behind h.head k.head).1 in
    let a = h.refused in
    let b : IsStuckAt h.behind m = subst (λ (z : List ℕ). IsStuckAt z m) (sym q) k.stuck in
    let r = same_reads start h.behind 2 a.entries b.entries a.rest b.rest a.last b.last n m a.reading (refused_none a.last a.rest f a.refuses) b.reading (stuck_none b.last b.rest b.stuck) in
    b.stuck.1.refuses f (subst (λ (z : State). Refuses z b.rest f) r.3 (subst (λ (z : List ℕ). Refuses a.last z f) r.1 a.refuses))

faults_agree : (text : List ℕ) (n m : ℕ) → IsNotBuilt text n → IsNotBuilt text m → n ≡ m
faults_agree text n m h k =
    let q = (one_first text header header h.behind k.behind h.head k.head).1 in
    let a = h.stuck in
    let b : IsStuckAt h.behind m = subst (λ (z : List ℕ). IsStuckAt z m) (sym q) k.stuck in
    (same_reads start h.behind 2 a.entries b.entries a.rest b.rest a.last b.last n m a.reading (stuck_none a.last a.rest a.stuck) b.reading (stuck_none b.last b.rest b.stuck)).2

-- a script has no fault but want of memory
pub script_faultless : (text : List ℕ) (ls : List ScriptLine) (n : ℕ) (kind : ScriptKind) → IsScript text ls → Faulty text n kind → kind ≡ ScriptKind.Memory
script_faultless text ls n ScriptKind.Length h k = let a = h.small in let b = k.0 in absurd (omega (arith, a, b))
script_faultless text ls n ScriptKind.Header h k = absurd (k.missing h.behind h.head)
script_faultless text ls n ScriptKind.NotBuilt h k = absurd (script_apart text ls n h k)
script_faultless text ls n ScriptKind.Memory h k = refl
script_faultless text ls n kind h k = absurd (script_unrefused text ls n kind h k)

-- a text with another fault is not too long
small : (text : List ℕ) (n : ℕ) (kind : ScriptKind) → kind ≢ ScriptKind.Length → kind ≢ ScriptKind.Memory → Faulty text n kind → length text ≤ longest
small text n ScriptKind.Length a b h = absurd (a refl)
small text n ScriptKind.Memory a b h = absurd (b refl)
small text n ScriptKind.Header a b h = h.small
small text n ScriptKind.NotBuilt a b h = h.small
small text n kind a b h = h.small

-- with another fault yet it begins with the header
pub record Headed (text : List ℕ) : Type 0 where
  pub behind : List ℕ
  pub head : IsLine text header behind

headed : (text : List ℕ) (n : ℕ) (kind : ScriptKind) → kind ≢ ScriptKind.Length → kind ≢ ScriptKind.Header → kind ≢ ScriptKind.Memory → Faulty text n kind → Headed text
headed text n ScriptKind.Length a b d h = absurd (a refl)
headed text n ScriptKind.Header a b d h = absurd (b refl)
headed text n ScriptKind.Memory a b d h = absurd (d refl)
headed text n ScriptKind.NotBuilt a b d h = record { behind = h.behind; head = h.head }
headed text n kind a b d h = record { behind = h.behind; head = h.head }

-- the fault that a text has is one, but for want of memory
pub one_fault : (text : List ℕ) (n m : ℕ) (kind other : ScriptKind) → Faulty text n kind → Faulty text m other → kind ≢ ScriptKind.Memory → other ≢ ScriptKind.Memory → (n ≡ m) × (kind ≡ other)
one_fault text n m ScriptKind.Memory other h k a b = absurd (a refl)
one_fault text n m kind ScriptKind.Memory h k a b = absurd (b refl)
one_fault text n m ScriptKind.Length ScriptKind.Length h k a b = (h.1 ∙ sym k.1, refl)
one_fault text n m ScriptKind.Header ScriptKind.Header h k a b = (h.number_is ∙ sym k.number_is, refl)
one_fault text n m ScriptKind.NotBuilt ScriptKind.NotBuilt h k a b = (faults_agree text n m h k, refl)
one_fault text n m ScriptKind.Length other h k a b = let x = h.0 in let y = small text m other (λ e. cc e) b k in absurd (omega (arith, x, y))
one_fault text n m kind ScriptKind.Length h k a b = let x = k.0 in let y = small text n kind (λ e. cc e) a h in absurd (omega (arith, x, y))
one_fault text n m ScriptKind.Header other h k a b = let x = headed text m other (λ e. cc e) (λ e. cc e) b k in absurd (h.missing x.behind x.head)
one_fault text n m kind ScriptKind.Header h k a b = let x = headed text n kind (λ e. cc e) (λ e. cc e) a h in absurd (k.missing x.behind x.head)
one_fault text n m kind ScriptKind.NotBuilt h k a b = absurd (refused_built text n m kind h k)
one_fault text n m ScriptKind.NotBuilt other h k a b = absurd (refused_built text m n other k h)
one_fault text n m kind other h k a b = refusals_agree text n m kind other h k
