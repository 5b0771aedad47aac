-- A turn stage by stage, and the turn itself.
use Rattle.std.proofs.Common.{sym, ℕ, suc, ◌+◌, ◌≡◌, refl, Bool, true, false, ◌&&◌, ◌||◌, Option, Some, None, List, [], ◌∷◌, ◌++◌, length, ap, subst, ◌∙◌, take, drop, le-leb, inl, inr, arith, append_assoc, length-append}
use Rattle.std.proofs.lemmas.List.{append-nil}
use Rattle.std.proofs.Math.Seq.{take-append_seam, drop-append_seam}
use Rattle.std.specs.List.{list_all}
use Rattle.socks_grammar.specs.declared.protocol.Method.{Method}
use Rattle.socks_machine.specs.declared.record.Record.{Record}
use Rattle.socks_machine.specs.declared.world.Outer.{Outer}
use Rattle.socks_machine.specs.declared.world.NextMark.{NextMark}
use Rattle.socks_machine.specs.declared.world.TurnEvent.{TurnEvent}
use Rattle.socks_machine.specs.Basis.{Basis}
use Rattle.socks_machine.specs.Calls.{Context, TurnResult, keep, call, is_calling}
use Rattle.socks_machine.specs.Datagrams.{owed_datagrams}
use Rattle.socks_machine.specs.Equal.{mark_eq}
use Rattle.socks_machine.specs.InTurn.{Took, Takes, takings, Sends, Sendings, Calls, InTurn, is_call, with_sendings, CallsFirst}
use Rattle.socks_machine.specs.Owed.{owed_to_client, owed_to_target}
use Rattle.socks_machine.specs.Phase.{Phase, phase}
use Rattle.socks_machine.specs.Settle.{settled}
use Rattle.socks_machine.specs.Taking.{◌>>=◌, some_in, taking, taken, reads_target, reads_port, reads_client, of_generation, with_client_bytes}
use Rattle.socks_machine.specs.Turn.{grown, turn, turn_with, proceed, aged, marked, ended, answer_after, is_answer, Calling, after_call, without_call, after_none, uncalled, makes_call, output, output_of, fault_fits, with_fault, with_memory, with_shut}

-- ---- tools

pub bind : {A B : Type 0} (o : Option A) (f : A → Option B) (a : A) (b : Option B) → o ≡ Some a → f a ≡ b → (o >>= f) ≡ b
bind o f a b h k = ap (λ x. x >>= f) h ∙ k

-- ---- the takings

pub took-is : (basis : Basis) (any : Bool) (reads : Record → Phase → Bool) (change : Record → Record) (r x : Record)
    → Took basis any reads change r x → taking basis any reads change r ≡ Some x
took-is basis any reads change r x (inl h) =
    ap (λ b. elim b [ true ↦ elim (reads r (phase basis r)) [ true ↦ Some (settled basis (change r)) | false ↦ None ] | false ↦ Some r ]) h.0 ∙ ap Some (sym h.1)
took-is basis any reads change r x (inr h) =
    ap (λ b. elim b [ true ↦ elim (reads r (phase basis r)) [ true ↦ Some (settled basis (change r)) | false ↦ None ] | false ↦ Some r ]) h.0
    ∙ (ap (λ b. elim b [ true ↦ Some (settled basis (change r)) | false ↦ None ]) h.1 ∙ ap Some (sym h.2))

pub takes-is : (basis : Basis) (g : ℕ) (methods : List Method) (e : TurnEvent) (old a : Record)
    → Takes basis g methods (takings e) old a → taken basis g methods e old ≡ Some a
takes-is basis g methods e old a h =
    bind _ _ h.r1 _ (took-is basis (some_in e.t) reads_target (λ r. record r { t = r.t ++ e.t }) old h.r1 h.bytes_t)
    (bind _ _ h.r2 _ (took-is basis e.end_t reads_target (λ r. record r { end_t = true }) h.r1 h.r2 h.ends_t)
    (bind _ _ h.r3 _ (took-is basis (some_in e.grams) (λ r p. reads_port basis e.grams e.sent_u r p && list_all (of_generation g) e.grams) (λ r. record r { grams = r.grams ++ e.grams }) h.r2 h.r3 h.grams)
    (bind _ _ h.r4 _ h.came
    (bind _ _ h.r5 _ (took-is basis (some_in e.c) (reads_client basis e.idle e.full) (with_client_bytes g methods e.c) h.r4 h.r5 h.bytes_c)
    (took-is basis e.end_c (reads_client basis e.idle e.full) (λ r. record r { end_c = true }) h.r5 a h.ends_c)))))

-- ---- what is sent

behind-before : {A : Type 0} (before bytes rest : List A) → take (length bytes) (drop (length before) ((before ++ bytes) ++ rest)) ≡ bytes
behind-before before bytes rest =
    ap (λ z. take (length bytes) (drop (length before) z)) (append_assoc before bytes rest)
    ∙ (ap (take (length bytes)) (drop-append_seam before (bytes ++ rest)) ∙ take-append_seam bytes rest)

grown-more : {A : Type 0} (before bytes rest : List A) → grown (length bytes) before ((before ++ bytes) ++ rest) ≡ Some (before ++ bytes)
grown-more before [] rest = ap Some (sym (append-nil before))
grown-more before (b ∷ bs) rest =
    ap (λ t. elim t [ true ↦ Some (before ++ take (suc (length bs)) (drop (length before) ((before ++ b ∷ bs) ++ rest))) | false ↦ None ])
    (le-leb (length before + suc (length bs)) (length ((before ++ b ∷ bs) ++ rest))
    (omega (arith, length-append (before ++ b ∷ bs) rest, length-append before (b ∷ bs))))
    ∙ ap (λ z. Some (before ++ z)) (behind-before before (b ∷ bs) rest)

pub sends-is : {A : Type 0} (before : List A) (n : ℕ) (now owed : List A) → Sends before n now owed → grown n before owed ≡ Some now
sends-is before n now owed h =
    ap (λ k. grown k before owed) (sym h.count)
    ∙ (ap (grown (length h.bytes) before) (sym (sym (ap (λ z. z ++ h.rest) h.now') ∙ h.owed'))
    ∙ (grown-more before h.bytes h.rest ∙ ap Some (sym h.now')))

-- ---- the end of a turn that goes on

pub ended-going : (s : Context) (e : TurnEvent) (calling : Calling) (m : TurnResult) → e.next ≡ NextMark.Going → ended s e calling m ≡ Some (marked NextMark.Going m)
ended-going s e calling m going =
    ap (λ n. elim (mark_eq n NextMark.Going || is_answer (answer_after s e m.left calling) n) [ true ↦ Some (marked n m) | false ↦ None ]) going

-- ---- faults, sendings, shuts and the moment

pub output-is : (s : Context) (old : Record) (e : TurnEvent) (x d r : Record)
    → fault_fits s.basis e.fault e.unwritten x ≡ true → with_fault e.fault e.unwritten x ≡ Some d
    → Sendings s.basis e.sent_c e.sent_t e.sent_u d r.sent_c r.sent_t r.sent_u
    → with_shut s.basis e (with_sendings d r) ≡ Some r
    → output s e old x ≡ Some (aged s.basis e old r)
output-is s old e x d r fits faults k shuts =
    ap (λ b. elim b [ true ↦ output_of s e old x | false ↦ None ]) fits
    ∙ bind _ _ d _ faults
    (bind _ _ (with_sendings d r) _
    (bind _ _ r.sent_c _ (sends-is d.sent_c e.sent_c r.sent_c (owed_to_client s.basis d) k.c)
    (bind _ _ r.sent_t _ (sends-is d.sent_t e.sent_t r.sent_t (owed_to_target s.basis d) k.t)
    (bind _ _ r.sent_u _ (sends-is d.sent_u e.sent_u r.sent_u (owed_datagrams s.basis d) k.u) refl)))
    (bind _ _ r _ shuts refl))

pub makes-none : (basis : Basis) (e : TurnEvent) (x : Record) (o : Outer) → o ≡ Outer.Nothing → makes_call basis e x o ≡ false
makes-none basis e x o h = ap (makes_call basis e x) h

pub makes-some : (basis : Basis) (e : TurnEvent) (x : Record) (o : Outer) → is_call o ≡ true → makes_call basis e x o ≡ is_calling (phase basis x) e.came
makes-some basis e x Outer.Nothing h = cc
makes-some basis e x (Outer.Desk logged) h = refl
makes-some basis e x (Outer.Looked found) h = refl
makes-some basis e x (Outer.Up at) h = refl
makes-some basis e x Outer.Refused h = refl
makes-some basis e x Outer.HostUnreachable h = refl
makes-some basis e x Outer.NetUnreachable h = refl
makes-some basis e x Outer.Failed h = refl

-- what a turn leaves: the record in hand with its moment, and the desk behind its call
abbrev pub left : Context → Record → TurnEvent → TurnResult → Record → TurnResult
left s old e m r = record { left = aged s.basis e old r; h = m.h; marks = m.marks }

proceeds : (s : Context) (old : Record) (e : TurnEvent) (x : Record) (m : TurnResult) (d r : Record)
    → e.next ≡ NextMark.Going → Calls s e.outer e.came x m → CallsFirst s.basis e x → output s e old m.left ≡ Some (aged s.basis e old r)
    → proceed s e old x ≡ Some (marked NextMark.Going (left s old e m r))
proceeds s old e x m d r going (inl h) first out =
    ap (λ b. elim b [ true ↦ (call s x (phase s.basis x) e.came e.outer >>= after_call s e old) | false ↦ without_call s e old x ]) (makes-none s.basis e x e.outer h.0)
    ∙ (ap (λ b. elim b [ true ↦ after_none s e old x | false ↦ None ]) (first h.0)
    ∙ (bind _ _ (aged s.basis e old r) _ (subst (λ (z : TurnResult). output s e old z.left ≡ Some (aged s.basis e old r)) h.1 out)
    (ap (uncalled s e (keep s (aged s.basis e old r))) h.0
    ∙ (ended-going s e Calling.NoCall (keep s (aged s.basis e old r)) going
    ∙ ap (λ (z : TurnResult). Some (marked NextMark.Going (left s old e z r))) (sym h.1)))))
proceeds s old e x m d r going (inr h) first out =
    ap (λ b. elim b [ true ↦ (call s x (phase s.basis x) e.came e.outer >>= after_call s e old) | false ↦ without_call s e old x ])
    (makes-some s.basis e x e.outer h.some ∙ h.due)
    ∙ bind _ _ m _ h.made (bind _ _ (aged s.basis e old r) _ out (ended-going s e Calling.Called (left s old e m r) going))

-- What is said stage by stage is a turn.
pub sound : (s : Context) (old : Record) (e : TurnEvent) (a : Record) (m : TurnResult) (d r : Record) → InTurn s old e a m d r → CallsFirst s.basis e (with_memory e.memory a)
    → fault_fits s.basis e.fault e.unwritten m.left ≡ true
    → turn s e old ≡ Some (marked NextMark.Going (left s old e m r))
sound s old e a m d r h first fits =
    ap (λ b. elim b [ true ↦ None | false ↦ turn_with s e old e.stop ]) h.going.undone
    ∙ (ap (turn_with s e old) h.going.unstopped
    ∙ bind _ _ a _ (takes-is s.basis s.generation (s.config).methods e old a h.takes)
    (proceeds s old e (with_memory e.memory a) m d r h.going.going h.calls first (output-is s old e m.left d r fits h.faults h.sendings h.shuts)))
