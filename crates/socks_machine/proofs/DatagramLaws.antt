-- Datagrams: one more is taken, and one more is sent.
use Rattle.std.proofs.Common.{sym, ℕ, ◌+◌, ◌≡◌, ◌≤◌, refl, Bool, true, false, ◌&&◌, None, List, [], ◌∷◌, ◌++◌, length, ap, subst, ◌∙◌, inl, inr, arith, append_assoc, length-append, nat_le, take}
use Rattle.std.proofs.lemmas.List.{append-nil}
use Rattle.std.proofs.lemmas.Bool.Decides.{nat_tests}
use Rattle.std.proofs.Math.Seq.{take-append_seam}
use Rattle.std.specs.List.{list_all}
use Rattle.socks_grammar.specs.declared.protocol.Method.{Method}
use Rattle.socks_machine.specs.declared.record.Gram.{Gram}
use Rattle.socks_machine.specs.declared.record.Record.{Record}
use Rattle.socks_machine.specs.Basis.{Basis}
use Rattle.socks_machine.specs.Datagrams.{owed_for, owed_datagrams}
use Rattle.socks_machine.specs.InTurn.{Took, Takes, Takings}
use Rattle.socks_machine.specs.Phase.{Phase, phase}
use Rattle.socks_machine.specs.Settle.{settled}
use Rattle.socks_machine.specs.Taking.{some_in, reads_port, reads_client, of_generation, with_client_bytes, all_but_last, meet}
use Rattle.socks_machine.proofs.TakeLaws.{some-in-append, nothing-in, settled-none, untook, met-none, took-too}

last-off : {A : Type 0} (xs : List A) (x : A) → all_but_last (xs ++ x ∷ []) ≡ xs
last-off xs x = ap (λ n. take n (xs ++ x ∷ [])) (omega (arith, length-append xs (x ∷ []))) ∙ take-append_seam xs (x ∷ [])

and-more : (a b c : Bool) → a && b ≡ true → (b ≡ true → c ≡ true) → a && c ≡ true
and-more true b c h k = k h
and-more false b c h k = cc

all-more : {A : Type 0} (test : A → Bool) (xs : List A) (x : A) → list_all test xs ≡ true → test x ≡ true → list_all test (xs ++ x ∷ []) ≡ true
all-more test [] x h k = rw k refl
all-more test (y ∷ xs) x h k = and-more (test y) (list_all test xs) (list_all test (xs ++ x ∷ [])) h (λ e. all-more test xs x e k)

-- the port may give another where all that is owed so far was sent
port-more : (basis : Basis) (g n : ℕ) (gs : List Gram) (d : Gram) (r : Record) → phase basis r ≡ Phase.Datagrams → list_all (of_generation g) gs ≡ true → of_generation g d ≡ true
    → nat_le (length (owed_for basis r (r.grams ++ gs))) (length r.sent_u + n) ≡ true
    → reads_port basis (gs ++ d ∷ []) n r (phase basis r) && list_all (of_generation g) (gs ++ d ∷ []) ≡ true
port-more basis g n gs d r at all one sent =
    ap (λ p. reads_port basis (gs ++ d ∷ []) n r p && list_all (of_generation g) (gs ++ d ∷ [])) at
    ∙ (ap (λ (z : List Gram). nat_le (length (owed_for basis r z)) (length r.sent_u + n) && list_all (of_generation g) (gs ++ d ∷ [])) off
    ∙ (ap (λ b. b && list_all (of_generation g) (gs ++ d ∷ [])) sent ∙ all-more (of_generation g) gs d all one))
  where
    off : all_but_last (r.grams ++ (gs ++ d ∷ [])) ≡ r.grams ++ gs
    off = ap all_but_last (sym (append_assoc r.grams gs (d ∷ []))) ∙ last-off (r.grams ++ gs) d

-- ---- one more is sent

port-sent : (basis : Basis) (grams : List Gram) (n m : ℕ) (r : Record) (p : Phase) → n ≤ m → reads_port basis grams n r p ≡ true → reads_port basis grams m r p ≡ true
port-sent basis grams n m r Phase.Ended more h = h
port-sent basis grams n m r Phase.Closing more h = h
port-sent basis grams n m r Phase.Accept more h = h
port-sent basis grams n m r Phase.Talk more h = h
port-sent basis grams n m r (Phase.Seek name) more h = h
port-sent basis grams n m r (Phase.Judging q) more h = h
port-sent basis grams n m r (Phase.Reach g) more h = h
port-sent basis grams n m r Phase.Asking more h = h
port-sent basis grams n m r (Phase.Door g) more h = h
port-sent basis grams n m r Phase.Relay more h = h
port-sent basis grams n m r Phase.Datagrams more h = grind (arith, nat_tests)

pub takes-sent-u : (basis : Basis) (g n : ℕ) (methods : List Method) (e : Takings) (old a : Record) → Takes basis g methods e old a
    → Takes basis g methods (record e { sent_u = e.sent_u + n }) old a
takes-sent-u basis g n methods e old a h = record {
  r1 = h.r1;
  r2 = h.r2;
  r3 = h.r3;
  r4 = h.r4;
  r5 = h.r5;
  bytes_t = h.bytes_t;
  ends_t = h.ends_t;
  grams = took-too basis (some_in e.grams) (λ r p. reads_port basis e.grams e.sent_u r p && list_all (of_generation g) e.grams) (λ r p. reads_port basis e.grams (e.sent_u + n) r p && list_all (of_generation g) e.grams)
      (λ r. record r { grams = r.grams ++ e.grams }) h.r2 h.r3 (λ r p may. and-left (reads_port basis e.grams e.sent_u r p) (reads_port basis e.grams (e.sent_u + n) r p) (list_all (of_generation g) e.grams) may
      (port-sent basis e.grams e.sent_u (e.sent_u + n) r p (omega arith))) h.grams;
  came = h.came;
  bytes_c = h.bytes_c;
  ends_c = h.ends_c;
}
  where
    and-left : (x y z : Bool) → x && z ≡ true → (x ≡ true → y ≡ true) → y && z ≡ true
    and-left true y z h k = rw (k refl) h
    and-left false y z h k = cc

-- ---- one more is taken

in-datagrams : (basis : Basis) (grams : List Gram) (n : ℕ) (r : Record) (p : Phase) (b : Bool) → reads_port basis grams n r p && b ≡ true → b ≡ true
in-datagrams basis grams n r p b h = right (reads_port basis grams n r p) b h
  where
    right : (x b : Bool) → x && b ≡ true → b ≡ true
    right true b h = h
    right false b h = cc

more-grams : (basis : Basis) (g n : ℕ) (gs : List Gram) (d : Gram) (r2 a : Record)
    → Took basis (some_in gs) (λ r p. reads_port basis gs n r p && list_all (of_generation g) gs) (λ r. record r { grams = r.grams ++ gs }) r2 a
    → a.cause ≡ None → phase basis a ≡ Phase.Datagrams → of_generation g d ≡ true → nat_le (length (owed_datagrams basis a)) (length a.sent_u + n) ≡ true
    → Took basis (some_in (gs ++ d ∷ [])) (λ r p. reads_port basis (gs ++ d ∷ []) n r p && list_all (of_generation g) (gs ++ d ∷ [])) (λ r. record r { grams = r.grams ++ (gs ++ d ∷ []) }) r2
    (settled basis (record a { grams = a.grams ++ d ∷ [] }))
more-grams basis g n gs d r2 a (inl h) none at one sent =
    inr (
      some-in-append gs d [],
      port-more basis g n gs d r2 (sym (ap (phase basis) h.1) ∙ at) (ap (list_all (of_generation g)) (nothing-in gs h.0)) one
          (ap (λ (z : List Gram). nat_le (length (owed_for basis r2 z)) (length r2.sent_u + n)) (ap (λ z. r2.grams ++ z) (nothing-in gs h.0) ∙ append-nil r2.grams)
          ∙ (sym (ap (λ z. nat_le (length (owed_datagrams basis z)) (length z.sent_u + n)) h.1) ∙ sent)),
      ap (λ (z : Record). let y : Record = record z { grams = z.grams ++ d ∷ [] } in settled basis y) h.1
          ∙ ap (λ (x : List Gram). let y : Record = record r2 { grams = r2.grams ++ (x ++ d ∷ []) } in settled basis y) (sym (nothing-in gs h.0)),
    )
more-grams basis g n gs d r2 a (inr h) none at one sent =
    inr (
      some-in-append gs d [],
      port-more basis g n gs d r2 (sym (ap (phase basis) a-is) ∙ at) (in-datagrams basis gs n r2 (phase basis r2) (list_all (of_generation g) gs) h.1) one
          (sym (ap (λ z. nat_le (length (owed_datagrams basis z)) (length z.sent_u + n)) a-is) ∙ sent),
      ap (λ (z : Record). let y : Record = record z { grams = z.grams ++ d ∷ [] } in settled basis y) a-is
          ∙ ap (λ (x : List Gram). let y : Record = record r2 { grams = x } in settled basis y) (append_assoc r2.grams gs (d ∷ [])),
    )
  where
    a-is : a ≡ record r2 { grams = r2.grams ++ gs }
    a-is = h.2 ∙ settled-none basis (record r2 { grams = r2.grams ++ gs }) (sym (ap (λ z. z.cause) h.2) ∙ none)

-- a datagram from the port, where all that is owed so far was sent, and the client is not read
pub takes-gram : (basis : Basis) (g : ℕ) (methods : List Method) (e : Takings) (old a : Record) (d : Gram) → Takes basis g methods e old a
    → e.came ≡ None → some_in e.c ≡ false → e.end_c ≡ false → a.cause ≡ None → phase basis a ≡ Phase.Datagrams → of_generation g d ≡ true
    → nat_le (length (owed_datagrams basis a)) (length a.sent_u + e.sent_u) ≡ true
    → Takes basis g methods (record e { grams = e.grams ++ d ∷ [] }) old (settled basis (record a { grams = a.grams ++ d ∷ [] }))
takes-gram basis g methods e old a d h no_came no_c open_c none at one sent = record {
  r1 = h.r1;
  r2 = h.r2;
  r3 = x;
  r4 = x;
  r5 = x;
  bytes_t = h.bytes_t;
  ends_t = h.ends_t;
  grams = more-grams basis g e.sent_u e.grams d h.r2 a
      (subst (λ (z : Record). Took basis (some_in e.grams) (λ r p. reads_port basis e.grams e.sent_u r p && list_all (of_generation g) e.grams) (λ r. record r { grams = r.grams ++ e.grams }) h.r2 z) (sym a-is) h.grams)
      none at one sent;
  came = ap (λ o. meet basis o x) no_came;
  bytes_c = inl (no_c, refl);
  ends_c = inl (open_c, refl);
}
  where
    x : Record
    x = settled basis (record a { grams = a.grams ++ d ∷ [] })

    a-is : a ≡ h.r3
    a-is = untook basis e.end_c (reads_client basis e.idle e.full) (λ r. record r { end_c = true }) h.r5 a open_c h.ends_c
        ∙ (untook basis (some_in e.c) (reads_client basis e.idle e.full) (with_client_bytes g methods e.c) h.r4 h.r5 no_c h.bytes_c
        ∙ met-none basis e.came h.r3 h.r4 no_came h.came)
