-- A turn that has called nothing is what is said of it stage by stage.
use Rattle.std.proofs.Common.{sym, ℕ, zero, suc, ◌+◌, ◌≡◌, refl, Bool, true, false, ◌&&◌, ◌||◌, not, Option, Some, None, List, [], ◌∷◌, ◌++◌, length, ap, subst, ◌∙◌, ◌≤◌, take, drop, inl, inr, arith, append_assoc, length-append, length-take, nat_le}
use Rattle.std.proofs.lemmas.List.{append-nil, take-append-drop}
use Rattle.std.proofs.lemmas.Bool.Decides.{nat_tests}
use Rattle.std.proofs.Math.Seq.{drop-append_seam}
use Rattle.std.specs.List.{list_all}
use Rattle.socks_grammar.specs.declared.protocol.Method.{Method}
use Rattle.socks_machine.specs.declared.record.Gram.{Gram}
use Rattle.socks_machine.specs.declared.record.Record.{Record}
use Rattle.socks_machine.specs.declared.world.Outer.{Outer}
use Rattle.socks_machine.specs.declared.world.NextMark.{NextMark}
use Rattle.socks_machine.specs.declared.world.TurnEvent.{TurnEvent}
use Rattle.socks_machine.specs.Basis.{Basis}
use Rattle.socks_machine.specs.Calls.{Context, TurnResult, keep, call}
use Rattle.socks_machine.specs.Datagrams.{owed_datagrams}
use Rattle.socks_machine.specs.InTurn.{Took, Takes, takings, Sends, Sendings, Calm, Reading, InTurn, with_sendings, CallsFirst}
use Rattle.socks_machine.specs.Owed.{owed_to_client, owed_to_target}
use Rattle.socks_machine.specs.Phase.{Phase, phase}
use Rattle.socks_machine.specs.Settle.{settled}
use Rattle.socks_machine.specs.Taking.{◌>>=◌, some_in, taking, taken, meet, reads_target, reads_port, reads_client, of_generation, with_client_bytes}
use Rattle.socks_machine.specs.Turn.{grown, guard, turn, turn_with, proceed, aged, marked, Calling, ended, after_call, without_call, may_output, uncalled as uncalled-end, output, output_of, fault_fits, with_fault, with_memory, with_sent, with_shut, shut_sides, client_may_be_shut, target_may_be_shut}
use Rattle.socks_machine.proofs.TurnStages.{ended-going, makes-none, sound, left}
use Rattle.socks_machine.proofs.ActLaws.{unshut, still-open, taken_c}
use Rattle.socks_machine.proofs.TakeLaws.{met-none}
use Rattle.socks_machine.proofs.CallLaws.{Early, reading-turn, calm-fits}
use Rattle.socks_machine.proofs.TalkLaws.{talk-c}
use Rattle.socks_machine.specs.Decisions.{granted}
use Rattle.socks_machine.specs.Socks.{socks_front}

-- ---- tools

some-same : {A : Type 0} (x y : A) → Some x ≡ Some y → x ≡ y
some-same x y h = ap (λ o. elim o [ Some z ↦ z | None ↦ x ]) h

pub unbind : {A B : Type 0} (o : Option A) (f : A → Option B) (b : B) → (o >>= f) ≡ Some b → (a : A) × (o ≡ Some a) × (f a ≡ Some b)
unbind None f b h = cc
unbind (Some a) f b h = (a, refl, h)

took-from : (basis : Basis) (any : Bool) (reads : Record → Phase → Bool) (change : Record → Record) (r x : Record) (may : Bool) → reads r (phase basis r) ≡ may
    → elim any [ true ↦ elim may [ true ↦ Some (settled basis (change r)) | false ↦ None ] | false ↦ Some r ] ≡ Some x → Took basis any reads change r x
took-from basis true reads change r x true is h = inr (refl, is, sym (some-same (settled basis (change r)) x h))
took-from basis true reads change r x false is h = cc
took-from basis false reads change r x may is h = inl (refl, sym (some-same r x h))

pub takes-from : (basis : Basis) (g : ℕ) (methods : List Method) (e : TurnEvent) (old a : Record)
    → taken basis g methods e old ≡ Some a → Takes basis g methods (takings e) old a
takes-from basis g methods e old a h =
    let h1 = unbind (taking basis (some_in e.t) reads_target (λ r. record r { t = r.t ++ e.t }) old) _ a h in
    let h2 = unbind (taking basis e.end_t reads_target (λ r. record r { end_t = true }) h1.0) _ a h1.2 in
    let h3 = unbind (taking basis (some_in e.grams) (λ r p. reads_port basis e.grams e.sent_u r p && list_all (of_generation g) e.grams) (λ r. record r { grams = r.grams ++ e.grams }) h2.0) _ a h2.2 in
    let h4 = unbind (meet basis e.came h3.0) _ a h3.2 in
    let h5 = unbind (taking basis (some_in e.c) (reads_client basis e.idle e.full) (with_client_bytes g methods e.c) h4.0) _ a h4.2 in
    record {
      r1 = h1.0;
      r2 = h2.0;
      r3 = h3.0;
      r4 = h4.0;
      r5 = h5.0;
      bytes_t = took-from basis (some_in e.t) reads_target (λ r. record r { t = r.t ++ e.t }) old h1.0 _ refl h1.1;
      ends_t = took-from basis e.end_t reads_target (λ r. record r { end_t = true }) h1.0 h2.0 _ refl h2.1;
      grams = took-from basis (some_in e.grams) (λ r p. reads_port basis e.grams e.sent_u r p && list_all (of_generation g) e.grams) (λ r. record r { grams = r.grams ++ e.grams }) h2.0 h3.0 _ refl h3.1;
      came = h4.1;
      bytes_c = took-from basis (some_in e.c) (reads_client basis e.idle e.full) (with_client_bytes g methods e.c) h4.0 h5.0 _ refl h5.1;
      ends_c = took-from basis e.end_c (reads_client basis e.idle e.full) (λ r. record r { end_c = true }) h5.0 a _ refl h5.2;
    }

-- ---- what is sent

-- the beginning of what is owed was sent
pub record Begins {A : Type 0} (sent owed : List A) : Type 0 where
  pub rest : List A
  pub is : sent ++ rest ≡ owed

gate : {A : Type 0} (b : Bool) (x : Option A) (y : A) → elim b [ true ↦ x | false ↦ None ] ≡ Some y → (b ≡ true) × (x ≡ Some y)
gate true x y h = (refl, h)
gate false x y h = cc

sends-from : {A : Type 0} (n : ℕ) (before owed now : List A) → Begins before owed → grown n before owed ≡ Some now → Sends before n now owed
sends-from zero before owed now b h = record {
  bytes = [];
  now' = sym (some-same before now h) ∙ sym (append-nil before);
  count = refl;
  rest = b.rest;
  owed' = ap (λ z. z ++ b.rest) (sym (some-same before now h)) ∙ b.is;
}
sends-from (suc n) before owed now b h =
    let k = gate (nat_le (length before + suc n) (length owed)) (Some (before ++ take (suc n) (drop (length before) owed))) now h in
    let now-is : now ≡ before ++ take (suc n) b.rest = sym (some-same (before ++ take (suc n) (drop (length before) owed)) now k.1) ∙ ap (λ z. before ++ take (suc n) z) rest-is in
    record {
      bytes = take (suc n) b.rest;
      now' = now-is;
      count = length-take' (enough k.0);
      rest = drop (suc n) b.rest;
      owed' = ap (λ z. z ++ drop (suc n) b.rest) now-is ∙ (append_assoc before (take (suc n) b.rest) (drop (suc n) b.rest) ∙ (ap (λ z. before ++ z) (take-append-drop (suc n) b.rest) ∙ b.is));
    }
  where
    rest-is : drop (length before) owed ≡ b.rest
    rest-is = ap (drop (length before)) (sym b.is) ∙ drop-append_seam before b.rest

    enough : nat_le (length before + suc n) (length owed) ≡ true → suc n ≤ length b.rest
    enough test = let e : length before + length b.rest ≡ length owed = sym (length-append before b.rest) ∙ ap length b.is in grind (arith, nat_tests)

    length-take' : suc n ≤ length b.rest → length (take (suc n) b.rest) ≡ suc n
    length-take' fits = omega (arith, fits, length-take (suc n) b.rest)

-- ---- sides, faults and the rest

guard-from : (b : Bool) (x y : Record) → guard b (Some x) ≡ Some y → (b ≡ true) × (x ≡ y)
guard-from true x y h = (refl, some-same x y h)
guard-from false x y h = cc

shut-keeps-by : (basis : Basis) (e : TurnEvent) (f r : Record) (b : Bool) → elim b [ true ↦ shut_sides basis e f | false ↦ Some f ] ≡ Some r → with_sendings f r ≡ f
shut-keeps-by basis e f r true h =
    let k = guard-from ((not e.shut_c || client_may_be_shut basis f) && (not e.shut_t || target_may_be_shut basis f))
    (settled basis (record f { shut_c = e.shut_c || f.shut_c; shut_t = e.shut_t || f.shut_t })) r h in
    ap (with_sendings f) (sym k.1)
shut-keeps-by basis e f r false h = ap (with_sendings f) (sym (some-same f r h))

-- a turn that goes on, on a record whose sendings are the beginning of what is owed to the one behind its faults
pub record Completed (s : Context) (old : Record) (e : TurnEvent) (n : TurnResult) : Type 0 where
  pub a : Record
  pub d : Record
  pub r : Record
  pub turn' : InTurn s old e a (keep s (with_memory e.memory a)) d r
  pub first : CallsFirst s.basis e (with_memory e.memory a)
  pub fits : fault_fits s.basis e.fault e.unwritten (with_memory e.memory a) ≡ true
  pub left' : n ≡ marked NextMark.Going (keep s (aged s.basis e old r))

-- what was sent before is the beginning of what is owed, for each record that a turn may come to
pub record Owes (basis : Basis) (d : Record) : Type 0 where
  pub c : Begins d.sent_c (owed_to_client basis d)
  pub t : Begins d.sent_t (owed_to_target basis d)
  pub u : Begins d.sent_u (owed_datagrams basis d)

gate-made : (b : Bool) (x : Option TurnResult) (n : TurnResult) → elim b [ true ↦ x | false ↦ None ] ≡ Some n → (b ≡ true) × (x ≡ Some n)
gate-made true x n h = (refl, h)
gate-made false x n h = cc

undone-from : (b : Bool) (x : Option TurnResult) (n : TurnResult) → elim b [ true ↦ None | false ↦ x ] ≡ Some n → (b ≡ false) × (x ≡ Some n)
undone-from true x n h = cc
undone-from false x n h = (refl, h)

abbrev with_lists : Record → List ℕ → List ℕ → List Gram → Record
with_lists d c t u = record d { sent_c = c; sent_t = t; sent_u = u }

pub completes : (s : Context) (old : Record) (e : TurnEvent) (n : TurnResult) → turn s e old ≡ Some n → e.next ≡ NextMark.Going → e.stop ≡ None → e.outer ≡ Outer.Nothing
    → ((a d : Record) → taken s.basis s.generation (s.config).methods e old ≡ Some a → with_fault e.fault e.unwritten (with_memory e.memory a) ≡ Some d → Owes s.basis d)
    → Completed s old e n
completes s old e n h going unstopped uncalled owes =
    let h0 = undone-from old.done (turn_with s e old e.stop) n h in
    let h1 = unbind (taken s.basis s.generation (s.config).methods e old) (λ r. proceed s e old (with_memory e.memory r)) n (sym (ap (turn_with s e old) unstopped) ∙ h0.1) in
    let x : Record = with_memory e.memory h1.0 in
    let h1' = gate-made (may_output s.basis e x) (output s e old x >>= uncalled_end) n (sym (no-call x) ∙ h1.2) in
    let h2 = unbind (output s e old x) (λ r. uncalled_end r) n h1'.1 in
    let h2' = gate (fault_fits s.basis e.fault e.unwritten x) (output_of s e old x) h2.0 h2.1 in
    let h3 = unbind (with_fault e.fault e.unwritten x) (λ r1. with_sent s.basis e r1 >>= λ r2. with_shut s.basis e r2 >>= λ r3. Some (aged s.basis e old r3)) h2.0 h2'.1 in
    let d : Record = h3.0 in
    let h4 = unbind (with_sent s.basis e d) (λ r2. with_shut s.basis e r2 >>= λ r3. Some (aged s.basis e old r3)) h2.0 h3.2 in
    let f : Record = h4.0 in
    let h5 = unbind (with_shut s.basis e f) (λ r3. Some (aged s.basis e old r3)) h2.0 h4.2 in
    let r : Record = h5.0 in
    let k1 = unbind (grown e.sent_c d.sent_c (owed_to_client s.basis d)) (λ c. grown e.sent_t d.sent_t (owed_to_target s.basis d) >>= λ t. grown e.sent_u d.sent_u (owed_datagrams s.basis d) >>= λ u. Some (with_lists d c t u)) f h4.1 in
    let k2 = unbind (grown e.sent_t d.sent_t (owed_to_target s.basis d)) (λ t. grown e.sent_u d.sent_u (owed_datagrams s.basis d) >>= λ u. Some (with_lists d k1.0 t u)) f k1.2 in
    let k3 = unbind (grown e.sent_u d.sent_u (owed_datagrams s.basis d)) (λ u. Some (with_lists d k1.0 k2.0 u)) f k2.2 in
    let f-is : with_lists d k1.0 k2.0 k3.0 ≡ f = some-same (with_lists d k1.0 k2.0 k3.0) f k3.2 in
    let keeps : with_sendings f r ≡ f = shut-keeps-by s.basis e f r (e.shut_c || e.shut_t) h5.1 in
    let sent : with_sendings d r ≡ f = ap (λ z. with_sendings z r) f-is ∙ keeps in
    record {
      a = h1.0;
      d = d;
      r = r;
      turn' = record {
        going = record { undone = h0.0; unstopped = unstopped; going = going };
        takes = takes-from s.basis s.generation (s.config).methods e old h1.0 h1.1;
        calls = inl (uncalled, refl);
        faults = h3.1;
        sendings = record {
          c = subst (λ (z : List ℕ). Sends d.sent_c e.sent_c z (owed_to_client s.basis d)) (ap (λ z. z.sent_c) (f-is ∙ sym keeps)) (sends-from e.sent_c d.sent_c (owed_to_client s.basis d) k1.0 (owes h1.0 d h1.1 h3.1).c k1.1);
          t = subst (λ (z : List ℕ). Sends d.sent_t e.sent_t z (owed_to_target s.basis d)) (ap (λ z. z.sent_t) (f-is ∙ sym keeps)) (sends-from e.sent_t d.sent_t (owed_to_target s.basis d) k2.0 (owes h1.0 d h1.1 h3.1).t k2.1);
          u = subst (λ (z : List Gram). Sends d.sent_u e.sent_u z (owed_datagrams s.basis d)) (ap (λ z. z.sent_u) (f-is ∙ sym keeps)) (sends-from e.sent_u d.sent_u (owed_datagrams s.basis d) k3.0 (owes h1.0 d h1.1 h3.1).u k3.1);
        };
        shuts = ap (with_shut s.basis e) sent ∙ h5.1;
      };
      first = λ h. h1'.0;
      fits = h2'.0;
      left' = sym (some-same (marked NextMark.Going (keep s (aged s.basis e old r))) n
          (sym (ended-going s e Calling.NoCall (keep s (aged s.basis e old r)) going) ∙ (ap (λ z. ended s e Calling.NoCall (keep s z)) (some-same (aged s.basis e old r) h2.0 h5.2) ∙ h2.2)));
    }
  where
    uncalled_end : Record → Option TurnResult
    uncalled_end r = ended s e Calling.NoCall (keep s r)

    uncalled_by : Outer → Record → Option TurnResult
    uncalled_by o r = uncalled-end s e (keep s r) o

    no-call : (x : Record) → proceed s e old x ≡ elim (may_output s.basis e x) [ true ↦ (output s e old x >>= uncalled_end) | false ↦ None ]
    no-call x = ap (λ b. elim b [ true ↦ (call s x (phase s.basis x) e.came e.outer >>= after_call s e old) | false ↦ without_call s e old x ]) (makes-none s.basis e x e.outer uncalled)
        ∙ ap (λ o. elim (may_output s.basis e x) [ true ↦ (output s e old x >>= λ r. uncalled_by o r) | false ↦ None ]) uncalled

-- a lawful turn that has only read and sent, in the form that the acts extend
pub record Opened (s : Context) (old : Record) (e : TurnEvent) (n : TurnResult) : Type 0 where
  pub a : Record
  pub r : Record
  pub reading : Reading s old e a r
  pub left' : n ≡ marked NextMark.Going (keep s (aged s.basis e old r))

-- no taking shuts a side
took-keeps : (basis : Basis) (any : Bool) (reads : Record → Phase → Bool) (change : Record → Record) (r x : Record)
    → ((r : Record) → (change r).shut_c && (change r).shut_t ≡ r.shut_c && r.shut_t) → Took basis any reads change r x → x.shut_c && x.shut_t ≡ r.shut_c && r.shut_t
took-keeps basis any reads change r x same (inl h) = ap (λ z. z.shut_c && z.shut_t) h.1
took-keeps basis any reads change r x same (inr h) = ap (λ z. z.shut_c && z.shut_t) h.2 ∙ same r

pub open-reading : (s : Context) (old : Record) (e : TurnEvent) (n : TurnResult) → turn s e old ≡ Some n → e.next ≡ NextMark.Going → e.stop ≡ None
    → e.came ≡ None → Calm e.outer e.fault e.unwritten e.memory → e.shut_c ≡ false → e.shut_t ≡ false → old.shut_c && old.shut_t ≡ false
    → ((a d : Record) → taken s.basis s.generation (s.config).methods e old ≡ Some a → with_fault e.fault e.unwritten (with_memory e.memory a) ≡ Some d → Owes s.basis d)
    → Opened s old e n
open-reading s old e n h going unstopped unmet calm unshut_c unshut_t apart owes =
    let k = completes s old e n h going unstopped calm.uncalled owes in
    let d-is : k.d ≡ k.a = sym (some-same k.a k.d (sym (ap (λ o. with_fault o e.unwritten k.a) calm.unfailed ∙ ap (λ u. guard (not u) (Some k.a)) calm.written)
    ∙ (ap (λ b. with_fault e.fault e.unwritten (with_memory b k.a)) (sym calm.remembers) ∙ k.turn'.faults))) in
    let r-is : k.r ≡ with_sendings k.a k.r = some-same k.r (with_sendings k.a k.r) (sym k.turn'.shuts ∙ (ap (λ z. with_shut s.basis e (with_sendings z k.r)) d-is ∙ unshut s.basis e (with_sendings k.a k.r) unshut_c unshut_t)) in
    record {
      a = k.a;
      r = k.r;
      left' = k.left';
      reading = record {
        going = k.turn'.going;
        calm = calm;
        takes = k.turn'.takes;
        sendings = subst (λ (z : Record). Sendings s.basis e.sent_c e.sent_t e.sent_u z k.r.sent_c k.r.sent_t k.r.sent_u) d-is k.turn'.sendings;
        shuts = record {
          still = still-open s.basis e.shut_c e.shut_t (with_sendings k.a k.r) unshut_c unshut_t;
          is = r-is ∙ (λ i. record (with_sendings k.a k.r) { shut_c = ap (λ z. z || k.a.shut_c) (sym unshut_c) i; shut_t = ap (λ z. z || k.a.shut_t) (sym unshut_t) i });
          apart = ap (λ z. z.shut_c && z.shut_t) r-is ∙ (kept k.a k.turn'.takes);
        };
      };
    }
  where
    kept : (a : Record) → Takes s.basis s.generation (s.config).methods (takings e) old a → a.shut_c && a.shut_t ≡ false
    kept a h =
        took-keeps s.basis e.end_c (reads_client s.basis e.idle e.full) (λ r. record r { end_c = true }) h.r5 a (λ r. refl) h.ends_c
        ∙ (took-keeps s.basis (some_in e.c) (reads_client s.basis e.idle e.full) (with_client_bytes s.generation (s.config).methods e.c) h.r4 h.r5 (λ r. refl) h.bytes_c
        ∙ (ap (λ z. z.shut_c && z.shut_t) (met-none s.basis e.came h.r3 h.r4 unmet h.came)
        ∙ (took-keeps s.basis (some_in e.grams) (λ r p. reads_port s.basis e.grams e.sent_u r p && list_all (of_generation s.generation) e.grams) (λ r. record r { grams = r.grams ++ e.grams }) h.r2 h.r3 (λ r. refl) h.grams
        ∙ (took-keeps s.basis e.end_t reads_target (λ r. record r { end_t = true }) h.r1 h.r2 (λ r. refl) h.ends_t
        ∙ (took-keeps s.basis (some_in e.t) reads_target (λ r. record r { t = r.t ++ e.t }) old h.r1 (λ r. refl) h.bytes_t ∙ apart)))))

-- In Talk a lawful turn that goes on may take more bytes of the client.
pub talk-step : (s : Context) (old : Record) (e : TurnEvent) (n : TurnResult) (b : ℕ) (bs : List ℕ) (k : Opened s old e n)
    → (s.basis).front ≡ socks_front → granted k.a.decisions ≡ None → Early k.a → e.end_c ≡ false → e.shut_c ≡ false → e.shut_t ≡ false → phase s.basis k.r ≡ Phase.Talk
    → CallsFirst s.basis (record e { c = e.c ++ b ∷ bs }) (with_memory e.memory (taken_c s (b ∷ bs) k.a))
    → turn s (record e { c = e.c ++ b ∷ bs }) old
    ≡ Some (marked NextMark.Going (left s old (record e { c = e.c ++ b ∷ bs }) (keep s (taken_c s (b ∷ bs) k.a)) (taken_c s (b ∷ bs) k.r)))
talk-step s old e n b bs k fronted none early open_c unshut_c unshut_t talks first =
    sound s old (record e { c = e.c ++ b ∷ bs }) (taken_c s (b ∷ bs) k.a) (keep s (taken_c s (b ∷ bs) k.a)) (taken_c s (b ∷ bs) k.a) (taken_c s (b ∷ bs) k.r)
    (reading-turn s old (record e { c = e.c ++ b ∷ bs }) (taken_c s (b ∷ bs) k.a) (taken_c s (b ∷ bs) k.r) (talk-c s old e k.a k.r b bs k.reading fronted none early open_c unshut_c unshut_t talks)) first
    (calm-fits s.basis e.outer e.fault e.unwritten e.memory (taken_c s (b ∷ bs) k.a) k.reading.calm)
